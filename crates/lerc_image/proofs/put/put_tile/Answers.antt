use mathlib.Core.Path.{◌∙◌, sym}
use mathlib.Core.Bool.{and-eq-true_iff}
use Prim.Native.Nat.{◌+◌, ◌*◌, ◌/◌}
use native.Mathlib.Omega.{arith}
use lib.ListN.{length}
use lib.Dec.{leb, eqb}
use borrow.Author.Tests.{leb-true, eqb-true}
use Rattle.lerc_image.proofs.Front.{scattered-none}
use Rattle.lerc_image.proofs.Squares.{end_fits}
use Rattle.lerc_image.proofs.Standing.{asked_in}
use Rattle.lerc_image.proofs.put.put_tile.Goals as goal

pub overflow_mul-t : goal.overflow_mul-t
overflow_mul-t c = omega (arith, (asked_in c.requires.0).small)

pub copy_eights-requires : goal.copy_eights-requires
copy_eights-requires c =
    let (w, d) = (and-eq-true_iff (eqb c.args.t.w 8) (eqb c.args.h.depth 1)).0 c.if-t-h.true in
    (c.requires.0, eqb-true _ _ w, eqb-true _ _ d)

pub returns-then-t-h : goal.returns-then-t-h
returns-then-t-h c =
    c.copy_eights.ensures _ (sym c.requires.1 ∙ c.if-valid-t.true)

pub returns-then-valid-t : goal.returns-then-valid-t
returns-then-valid-t c =
    c.copy_rows.ensures _ (sym c.requires.1 ∙ c.if-valid-t.true)

pub returns-then-valid-eq0 : goal.returns-then-valid-eq0
returns-then-valid-eq0 c =
    let a = c.requires.0 in
    scattered-none c.args.h a.shaped c.args.mask.now c.args.number a.below c.args.words.now c.args.image.now (rw a.tile at (sym c.requires.1 ∙ c.if-valid-eq0.true))

pub overflow_add-end : goal.overflow_add-end
overflow_add-end c =
    let i = asked_in c.requires.0 in
    omega (arith, i.row, i.shaped.rows.1)

pub overflow_mul-end : goal.overflow_mul-end
overflow_mul-end c = omega (arith, end_fits c.args.h c.args.t (asked_in c.requires.0))

pub scatter_square-requires : goal.scatter_square-requires
scatter_square-requires c =
    let (square, long) = (and-eq-true_iff c.is_square.result (leb ((c.args.t.y + 8) * (c.args.h.columns / 8)) (length c.args.mask.now))).0 c.if-is_square-end.true in
    (c.requires.0, sym c.is_square.ensures ∙ square, leb-true _ _ long)
