-- `fill`: each test's refusal by its law; behind the tests all is known by `passed`.
-- Assumes nothing.
mod Tests
use mathlib.Core.Path.{◌≡◌, ◌∙◌, sym}
use native.Mathlib.Omega.{arith}
use borrow.Author.Tests.{not-true, not-false}
use lib.ListN.{length}
use Rattle.lerc_words.specs.Res.{ok}
use Rattle.lerc_header.specs.Header.{held}
use Rattle.lerc_words.proofs.Marking.{exits}
use Rattle.lerc_image.proofs.Held.{pairs-no, pairs-ok}
use Rattle.lerc_image.proofs.fill.Answers.Tests.{unheld, no_block, no_room, no_pairs, Passed, passed-asked, filled-block}
use borrow.Author.Rules.{rules}
use Rattle.lerc_image.proofs.fill.Goals as goal
use Rattle.lerc_image.proofs.fill.Goals.{After-has_room, Else-not-has_room, In_ok-e}

kept : (c : In_ok-e) →
    let a = c.args in
    held a.h (length a.blob.now) ≡ ok c.in_ok-e.e
kept c = sym c.in_ok-e.ensures

passed : (c : Else-not-has_room) →
    let a = c.args in
    Passed a.blob.now a.h a.mask.now a.list.now a.number a.image.now c.in_ok-e.e
passed c =
    record {
      ready = record { kept = kept (goal.at.Else-not-has_room c).In_ok-e; room = sym c.has_room.ensures ∙ c.if-not-has_room.false };
      below = c.if-e-number.false;
    }

pub returns-in_err-e : goal.returns-in_err-e
returns-in_err-e c = rw (exits c.from_residual.result c.from_residual.ensures.1) (unheld (sym c.in_err-e.ensures))

pub returns-then-e-number : goal.returns-then-e-number
returns-then-e-number c = no_block (kept (goal.at.returns-then-e-number c).In_ok-e) (omega (arith, c.if-e-number.true))

pub returns-then-not-has_room : goal.returns-then-not-has_room
returns-then-not-has_room c = no_room (kept (goal.at.returns-then-not-has_room c).In_ok-e) c.if-e-number.false (sym c.has_room.ensures ∙ c.if-not-has_room.true)

pub returns-in_err-pairs : goal.returns-in_err-pairs
returns-in_err-pairs c =
    rw (exits c.from_residual-in_err-pairs.result c.from_residual-in_err-pairs.ensures.1)
    (no_pairs (passed (goal.at.returns-in_err-pairs c).Else-not-has_room) _ (pairs-no _ c.in_err-pairs.ensures))

pub fill_number-requires : goal.fill_number-requires
fill_number-requires c = passed-asked (passed (goal.at.fill_number-requires c).Else-not-has_room)

pub returns : goal.returns
returns c =
    filled-block (passed (goal.at.returns c).Else-not-has_room) _ (pairs-ok _ c.in_ok-pairs.ensures).1 c.fill_number.ensures
