use native.Mathlib.Omega.{arith}
use lib.ListN.{length}
use Rattle.lerc.proofs.Bodies.{valid-cells, valid-bytes}
use Rattle.lerc.proofs.Checking.{raw-no, raw-found}
use Rattle.lerc.proofs.body.check_raw.Goals as goal

pub overflow_mul-bytes : goal.overflow_mul-bytes
overflow_mul-bytes c =
    omega (arith, valid-cells c.args.h (length c.args.s.now) c.requires)

pub overflow_mul-bytes-2 : goal.overflow_mul-bytes-2
overflow_mul-bytes-2 c =
    rw c.size.ensures (omega (arith, valid-bytes c.args.h (length c.args.s.now) c.requires))

pub returns-then-s-bytes : goal.returns-then-s-bytes
returns-then-s-bytes c =
    let a = c.args in
    λ m words. rw c.missing_word.ensures (raw-no a.s.now a.h a.at m words (rw (← c.size.ensures) (omega arith)))

pub returns-then-s-bytes-2 : goal.returns-then-s-bytes-2
returns-then-s-bytes-2 c =
    let a = c.args in
    λ m words. rw c.missing_word-then-s-bytes-2.ensures (raw-no a.s.now a.h a.at m words (rw (← c.size.ensures) (omega arith)))

pub returns : goal.returns
returns c =
    let a = c.args in
    λ m words. rw c.size.ensures (raw-found a.s.now a.h a.at m words (rw (← c.size.ensures) (omega (arith, c.if-s-bytes.false, c.if-s-bytes-2.false))))
