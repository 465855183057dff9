use Prim.Native.Nat.{◌-◌, ◌+◌}
use mathlib.Core.Path.{◌≡◌}
use native.Mathlib.Omega.{arith}
use lib.ListN.{length}
use Rattle.lerc_words.proofs.Marking.{exits}
use Rattle.lerc_validity.proofs.Comparing.{unroll-compared}
use Rattle.lerc_validity.proofs.compared.meet_runs.Goals as goal

pub returns-in_err-runs : goal.returns-in_err-runs
returns-in_err-runs c =
    let a = c.args in
    let d : 70 + a.h.mask - 70 ≡ a.h.mask = omega arith in
    rw (exits _ c.from_residual.ensures.1) (unroll-compared a.s.now a.h (length a.spare.now) c.compare-found.result c.requires.2 (rw (c.requires.0, d) at c.compare-found.ensures) c.in_err-runs.ensures)

pub returns : goal.returns
returns c =
    let a = c.args in
    let d : 70 + a.h.mask - 70 ≡ a.h.mask = omega arith in
    unroll-compared a.s.now a.h (length a.spare.now) c.compare-found.result c.requires.2 (rw (c.requires.0, d) at c.compare-found.ensures) c.in_ok-runs.ensures
