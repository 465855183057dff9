-- `walk`: each test's refusal by its law; behind the first two all is known by `ready`.
-- Assumes nothing.
mod Tests
use mathlib.Core.Path.{◌≡◌, sym}
use native.Mathlib.Omega.{arith}
use borrow.Author.Tests.{not-true, not-false}
use lib.ListN.{length, length-take}
use Rattle.lerc_words.specs.Res.{ok}
use Rattle.lerc_header.specs.Header.{held}
use Rattle.lerc_words.proofs.Marking.{exits}
use Rattle.lerc_image.proofs.Held.{pairs-no, pairs-ok, Listable, listable-asked, listable-size, listable-room}
use Rattle.lerc_image.proofs.walk.Answers.Tests.{unheld, no_room, no_pairs, no_body, walked-body}
use borrow.Author.Rules.{rules}
use Rattle.lerc_image.proofs.walk.Goals as goal
use Rattle.lerc_image.proofs.walk.Goals.{After-struct_known-2-1, Else-not-room, In_ok-e}

kept : (c : In_ok-e) →
    let a = c.args in
    held a.h (length a.blob.now) ≡ ok c.in_ok-e.e
kept c = sym c.in_ok-e.ensures

ready : (c : Else-not-room) →
    let a = c.args in
    Listable a.blob.now a.h a.mask.now a.list.now c.in_ok-e.e
ready c = record { kept = kept (goal.at.Else-not-room c).In_ok-e; room = c.if-not-room.false }

pub returns-in_err-e : goal.returns-in_err-e
returns-in_err-e c = rw (exits c.from_residual.result c.from_residual.ensures.1) (unheld (sym c.in_err-e.ensures))

pub returns-then-not-room : goal.returns-then-not-room
returns-then-not-room c = no_room (kept (goal.at.returns-then-not-room c).In_ok-e) c.if-not-room.true

pub returns-in_err-pairs : goal.returns-in_err-pairs
returns-in_err-pairs c =
    rw (exits c.from_residual-in_err-pairs.result c.from_residual-in_err-pairs.ensures.1)
    (no_pairs (ready (goal.at.returns-in_err-pairs c).Else-not-room) _ (pairs-no _ c.in_err-pairs.ensures))

pub returns-then-not-coded : goal.returns-then-not-coded
returns-then-not-coded c = no_body (ready (goal.at.returns-then-not-coded c).Else-not-room) _ (pairs-ok _ c.in_ok-pairs.ensures).1 c.if-not-coded.true

pub slice_bounds-walk_body-end : goal.slice_bounds-walk_body-end
slice_bounds-walk_body-end c = let l = listable-size (ready (goal.at.slice_bounds-walk_body-end c).Else-not-room) in simp length-take (omega (arith, l))

pub walk_body-requires : goal.walk_body-requires
walk_body-requires c =
    let p = ready (goal.at.walk_body-requires c).Else-not-room in
    (listable-asked p, listable-room p)

pub returns : goal.returns
returns c =
    walked-body (ready (goal.at.returns c).Else-not-room) _ (pairs-ok _ c.in_ok-pairs.ensures).1 c.if-not-coded.false c.walk_body.ensures
