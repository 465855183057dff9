use mathlib.Core.Path.{◌≡◌, ◌∙◌, sym}
use mathlib.Core.Bool.{true}
use Prim.Native.Nat.{◌≤◌, ◌<◌}
use lib.ListN.{length}
use native.Mathlib.Omega.{arith}
use borrow.Author.Tests.{lt-leb, le-leb}
use Rattle.lerc_pack_writer.specs.Writing.{Given, given_right, pack_length}
use Rattle.lerc_pack_writer.specs.Parts.{given_tiles}
use Rattle.lerc_pack_writer.proofs.Judging.{Twos, alike_is, write-wrong, write-is, judged, refused-written, accepted-written}
use Rattle.lerc_pack_writer.proofs.write_pack.Goals as goal
use Rattle.lerc_pack_writer.proofs.write_pack.Goals.{Else-not-alike, Else-not-tiles_right}

abbrev lent : (c : Else-not-alike) → Given
lent c = let a = c.args in record { rows = a.rows.now; columns = a.columns.now; lengths = a.lengths.now; bodies = a.bodies.now }

right : (c : Else-not-alike) → given_right (lent c) ≡ true
unfolding given_right
right c = c.if-not-alike.false

twos : (c : Else-not-alike) → Twos (lent c)
twos c = record { rows = λ i. omega (arith, c.type_inv.rows i); columns = λ i. omega (arith, c.type_inv.columns i) }

tiles : (c : Else-not-tiles_right) → given_tiles (lent (goal.at.Else-not-tiles_right c).Else-not-alike) ≡ true
tiles c = sym c.tiles_right.ensures ∙ c.if-not-tiles_right.false

pub returns-then-not-alike : goal.returns-then-not-alike
unfolding given_right
returns-then-not-alike c = refused-written _ _ _ (write-wrong _ _ c.if-not-alike.true)

pub tiles_right-requires : goal.tiles_right-requires
tiles_right-requires c =
    let a = alike_is _ (right c) in
    (a.columns, a.lengths)

pub returns-then-not-tiles_right : goal.returns-then-not-tiles_right
returns-then-not-tiles_right c = refused-written _ _ _ (write-is _ _ (twos (goal.at.returns-then-not-tiles_right c).Else-not-alike) (right (goal.at.returns-then-not-tiles_right c).Else-not-alike) ∙ rw (sym c.tiles_right.ensures ∙ c.if-not-tiles_right.true))

pub overflow_mul-table : goal.overflow_mul-table
overflow_mul-table c = omega (arith, (alike_is _ (right (goal.at.overflow_mul-table c).Else-not-alike)).few)

pub overflow_add-table : goal.overflow_add-table
overflow_add-table c = omega (arith, (alike_is _ (right (goal.at.overflow_add-table c).Else-not-alike)).few)

pub returns-then-out-table : goal.returns-then-out-table
returns-then-out-table c =
    let past : length c.args.out.now < pack_length (lent (goal.at.returns-then-out-table c).Else-not-alike) = omega (arith, c.if-out-table.true) in
    refused-written _ _ _ (write-is _ _ (twos (goal.at.returns-then-out-table c).Else-not-alike) (right (goal.at.returns-then-out-table c).Else-not-alike) ∙ rw (tiles (goal.at.returns-then-out-table c).Else-not-tiles_right, lt-leb _ _ past))

pub returns-then-out-table-2 : goal.returns-then-out-table-2
returns-then-out-table-2 c =
    let past : length c.args.out.now < pack_length (lent (goal.at.returns-then-out-table-2 c).Else-not-alike) = omega (arith, c.if-out-table-2.true, c.if-out-table.false) in
    refused-written _ _ _ (write-is _ _ (twos (goal.at.returns-then-out-table-2 c).Else-not-alike) (right (goal.at.returns-then-out-table-2 c).Else-not-alike) ∙ rw (tiles (goal.at.returns-then-out-table-2 c).Else-not-tiles_right, lt-leb _ _ past))

pub put_pack-requires : goal.put_pack-requires
put_pack-requires c =
    let fits : pack_length (lent (goal.at.put_pack-requires c).Else-not-alike) ≤ length c.args.out.now = omega (arith, c.if-out-table-2.false, c.if-out-table.false) in
    record { judged = judged _ (right (goal.at.put_pack-requires c).Else-not-alike) (tiles (goal.at.put_pack-requires c).Else-not-tiles_right); fits = fits }

pub overflow_add-result : goal.overflow_add-result
overflow_add-result c = omega (arith, c.if-out-table-2.false, c.if-out-table.false)

pub returns : goal.returns
returns c =
    let fits : pack_length (lent (goal.at.returns c).Else-not-alike) ≤ length c.args.out.now = omega (arith, c.if-out-table-2.false, c.if-out-table.false) in
    accepted-written _ _ _ _ (write-is _ _ (twos (goal.at.returns c).Else-not-alike) (right (goal.at.returns c).Else-not-alike) ∙ rw (tiles (goal.at.returns c).Else-not-tiles_right, le-leb _ _ fits)) c.put_pack.ensures
