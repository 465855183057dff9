use Prim.Native.Nat.{◌-◌, ◌+◌}
use mathlib.Core.Path.{◌≡◌}
use native.Mathlib.Omega.{arith}
use lib.ListN.{length}
use Rattle.lerc_validity.specs.Validity.{unrolled, Prepared, from_runs}
use Rattle.lerc_validity.proofs.Preparing.{unroll-told}
use Rattle.lerc_validity.proofs.unroll.Goals as goal
use Rattle.lerc_validity.proofs.unroll.Goals.{After-decode-answer}

-- what the runs say
told : (c : After-decode-answer) → Prepared (unrolled c.args.s.now c.args.h) (from_runs c.decode-answer.result) c.args.spare.now c.decode-answer.new.out
told c =
    let a = c.args in
    let d : 70 + a.h.mask - 70 ≡ a.h.mask = omega arith in
    unroll-told a.s.now a.h (length a.spare.now) c.decode-answer.result c.requires.2 (rw (c.requires.0, d) at c.decode-answer.ensures)

pub returns : goal.returns
returns c = rw c.from_runs.ensures (told (goal.at.returns c).After-decode-answer)
