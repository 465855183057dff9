use Prim.Native.Nat.{◌+◌, ◌*◌, ◌/◌, ◌≤◌}
use mathlib.Core.Path.{◌∙◌, sym}
use mathlib.Core.Bool.{and-eq-true_iff}
use native.Mathlib.Omega.{arith}
use lib.ListN.{length}
use lib.Dec.{leb}
use borrow.Author.Tests.{leb-true}
use Rattle.lerc_words.proofs.Little.{Bytes}
use Rattle.lerc_image.proofs.Squares.{Square, square-is, square-in, square-valid, end_fits, start_fits}
use Rattle.lerc_image.proofs.count_valid.Goals as goal
use Rattle.lerc_image.proofs.count_valid.Goals.{Then-is_square-end}

pub overflow_mul-end : goal.overflow_mul-end
overflow_mul-end c = omega (arith, end_fits c.args.h c.args.t c.requires)

pub overflow_mul-t : goal.overflow_mul-t
overflow_mul-t c = omega (arith, start_fits c.args.h c.args.t c.requires)

pub overflow_add-t : goal.overflow_add-t
overflow_add-t c = omega (arith, start_fits c.args.h c.args.t c.requires)

-- the test that was passed
passed : (c : Then-is_square-end) →
    let a = c.args in
    Square a.h a.t × ((a.t.y + 8) * (a.h.columns / 8) ≤ length a.mask.now)
passed c =
    let a = c.args in
    let (square, long) = (and-eq-true_iff c.is_square.result (leb ((a.t.y + 8) * (a.h.columns / 8)) (length a.mask.now))).0 c.if-is_square-end.true in
    (square-is a.h a.t (sym c.is_square.ensures ∙ square), leb-true _ _ long)

pub side_by_side-requires : goal.side_by_side-requires
side_by_side-requires c =
    let t = (goal.at.side_by_side-requires c).Then-is_square-end in
    square-in c.args.h c.args.t c.requires (passed t).0 _ (passed t).1

pub returns-then-is_square-end : goal.returns-then-is_square-end
returns-then-is_square-end c =
    let t = (goal.at.returns-then-is_square-end c).Then-is_square-end in
    let m = c.args.mask.now in
    let bytes : Bytes m = λ i. omega (arith, c.type_inv.mask i) in
    let q = (passed t).0 in
    c.ones_word.ensures ∙ c.side_by_side.ensures ∙ square-valid c.args.h c.args.t m bytes q.wide q.left q.even q.high
