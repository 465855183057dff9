use Rattle.lerc_pack.specs.Parts.{least_key}
use Rattle.lerc_pack_writer.specs.Parts.{given_key, given_tile, is_whole}
use lib.Dec.{leb}
use Rattle.lerc_pack_writer.specs.Writing.{Given, body_start}
use borrow.Author.Tests.{leb-true}
use Rattle.lerc_words.proofs.Binding.{and_is}
use mathlib.Core.Path.{◌≡◌, ◌∙◌, sym, ap, refl}
use mathlib.Core.Bool.{true, ◌&&◌}
use Prim.Native.Nat.{suc, ◌≤◌}
use native.Mathlib.Omega.{arith}
use lib.ListN.{length}
use Rattle.lerc_pack_writer.proofs.Passes.{start-more, blob-is, judging-none, judging-test, judging-wrong, judging-more, judging-all}
use Rattle.lerc_pack_writer.proofs.parts.tiles_right.Goals as goal
use Rattle.lerc_pack_writer.proofs.parts.tiles_right.Goals.{Else-not-right}

pub loop-i-init : goal.loop-i-init
loop-i-init c = judging-none _

abbrev lent : (c : Else-not-right) → Given
lent c = let a = c.args in record { rows = a.rows.now; columns = a.columns.now; lengths = a.lengths.now; bodies = a.bodies.now }

-- the tests of a tile, behind them
right : (c : Else-not-right) → (leb (least_key (given_key (lent c)) c.loop-i.i) (given_key (lent c) c.loop-i.i) && leb (body_start (lent c) (suc c.loop-i.i)) (length (lent c).bodies)) ≡ true
right c = sym (judging-test _ c.loop-i.invariant _ _ c.key-here.ensures refl) ∙ c.if-not-right.false

inside : (c : Else-not-right) → body_start (lent c) (suc c.loop-i.i) ≤ length (lent c).bodies
inside c = leb-true _ _ (and_is (leb (least_key (given_key (lent c)) c.loop-i.i) (given_key (lent c) c.loop-i.i)) _ (right c)).1

pub returns-then-not-right : goal.returns-then-not-right
unfolding given_tile
returns-then-not-right c =
    let test = judging-test _ c.loop-i.invariant _ _ c.key-here.ensures refl in
    sym (judging-wrong _ c.loop-i.invariant c.loop-i-test.true (rw (sym test ∙ c.if-not-right.true)))

pub overflow_add-end : goal.overflow_add-end
overflow_add-end c =
    omega (arith, inside c, c.loop-i.invariant.next, start-more (lent c) c.loop-i.i)

pub slice_bounds-is_whole-end : goal.slice_bounds-is_whole-end
slice_bounds-is_whole-end c =
    omega (arith, inside c, c.loop-i.invariant.next, start-more (lent c) c.loop-i.i)

pub returns-then-not-is_whole : goal.returns-then-not-is_whole
unfolding given_tile
returns-then-not-is_whole c =
    let blob = ap is_whole (blob-is (lent (goal.at.returns-then-not-is_whole c).Else-not-right) _ _ c.loop-i.invariant.next) in
    sym (judging-wrong _ c.loop-i.invariant c.loop-i-test.true (rw (right (goal.at.returns-then-not-is_whole c).Else-not-right) (sym blob ∙ sym c.is_whole.ensures ∙ c.if-not-is_whole.true)))

pub overflow_add-least : goal.overflow_add-least
overflow_add-least c =
    let i = c.loop-i.i in
    omega (arith, c.key-here.ensures, c.type_inv.rows i, c.type_inv.columns i)

pub loop-i-preserved : goal.loop-i-preserved
unfolding given_tile
loop-i-preserved c =
    let blob = ap is_whole (blob-is (lent (goal.at.loop-i-preserved c).Else-not-right) _ _ c.loop-i.invariant.next) in
    rw c.key-here.ensures (judging-more _ c.loop-i.invariant _ c.loop-i-test.true (rw (right (goal.at.loop-i-preserved c).Else-not-right) (sym blob ∙ sym c.is_whole.ensures ∙ c.if-not-is_whole.false)) refl)

pub returns : goal.returns
returns c = judging-all _ c.loop-i.invariant c.loop-i-test.false
