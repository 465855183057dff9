use mathlib.Core.Path.{◌≡◌}
use native.Mathlib.Omega.{arith}
use lib.ListN.{length, replicate}
use Rattle.lerc_words.proofs.Marking.{exits}
use Rattle.lerc_header.specs.Limits.{depth_limit}
use Rattle.lerc_ranges.specs.Ranges.{constant_words}
use Rattle.lerc_ranges.proofs.Judged.{length-constants}
use Rattle.lerc.proofs.Checking.{converted, unconverted, constant-no, constant-found}
use Rattle.lerc.proofs.body.check_constant.Goals as goal

pub returns-in_err-words : goal.returns-in_err-words
returns-in_err-words c =
    let a = c.args in
    λ s m. rw (exits _ c.from_residual.ensures.1) (constant-no a.h a.r s m (unconverted (constant_words a.h.depth a.h.kind a.r.min) c.in_err-words.ensures))

pub returns : goal.returns
returns c =
    let a = c.args in
    let (words, p, q) = converted (constant_words a.h.depth a.h.kind a.r.min) c.in_ok-words.ensures in
    let long : length words ≡ a.h.depth = omega (arith, length-constants a.h.depth a.h.kind a.r.min p, c.requires.0, c.requires.1) in
    λ s m. constant-found a.h a.r s m (replicate depth_limit 0) p long q
