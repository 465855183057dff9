-- `are_listed`: without room it does not begin so, else by its entries.
-- Assumes nothing.
use mathlib.Core.Path.{◌≡◌, ◌∙◌, sym}
use mathlib.Core.Bool.{Bool, false, ◌&&◌}
use mathlib.Core.List.{List}
use Prim.Native.Nat.{ℕ}
use native.Mathlib.Omega.{arith}
use lib.ListN.{length, take, length-take}
use lib.Dec.{leb}
use Rattle.lerc_words.specs.Res.{ok}
use Rattle.lerc_slices.specs.Slices.{begins_with}
use Rattle.lerc_header.specs.declared.Header.{Header}
use Rattle.lerc_header.specs.declared.Extent.{Extent}
use Rattle.lerc_header.specs.Header.{held}
use Rattle.lerc_header.proofs.Kept.{held-is}
use Rattle.lerc_image.specs.Tiles.{head_starts, room_to_list, tiles_listed}
use Rattle.lerc_image.proofs.Held.{Listable, listable-asked, listable-size, listable-room}
use Rattle.lerc_image.proofs.decode.are_listed.Goals as goal
use Rattle.lerc_image.proofs.decode.are_listed.Goals.{After-struct_known-2-1, Else-not-fits, In-Ok}

no_room : (b : List ℕ) (h : Header) (m : List ℕ) (at : ℕ) (list : List ℕ) {e : Extent} → held h (length b) ≡ ok e
    → (leb e.mask (length m) && leb e.blocks (length list)) ≡ false → false ≡ tiles_listed b h m at list
unfolding tiles_listed room_to_list
no_room b h m at list p r = rw (p, r)

-- over the extent that the code has
compared : {b : List ℕ} {h : Header} {m : List ℕ} (at : ℕ) {list : List ℕ} {r : Bool} {e : Extent} → Listable b h m list e
    → r ≡ begins_with (head_starts (take e.size b) h m e.blocks 0 at) list → r ≡ tiles_listed b h m at list
unfolding tiles_listed room_to_list
compared {b} {h} at p l = rw (p.kept, p.room) (rw (held-is h (length b) p.kept) at l)

kept : (c : In-Ok) →
    let a = c.args in
    held a.h (length a.blob.now) ≡ ok c.in-Ok.e
kept c = sym c.in-Ok.ensures

ready : (c : Else-not-fits) →
    let a = c.args in
    Listable a.blob.now a.h a.mask.now a.list.now c.in-Ok.e
ready c = record { kept = kept (goal.at.Else-not-fits c).In-Ok; room = c.if-not-fits.false }

pub returns-in_default : goal.returns-in_default
unfolding tiles_listed room_to_list
returns-in_default c = rw (sym c.held.ensures ∙ c.in_default.is)

pub returns-then-not-fits : goal.returns-then-not-fits
returns-then-not-fits c = no_room _ _ _ _ _ (kept (goal.at.returns-then-not-fits c).In-Ok) c.if-not-fits.true

pub slice_bounds-starts_listed-end : goal.slice_bounds-starts_listed-end
slice_bounds-starts_listed-end c = let l = listable-size (ready (goal.at.slice_bounds-starts_listed-end c).Else-not-fits) in simp length-take (omega (arith, l))

pub starts_listed-requires : goal.starts_listed-requires
starts_listed-requires c = let p = ready (goal.at.starts_listed-requires c).Else-not-fits in (listable-asked p, listable-room p)

pub returns : goal.returns
returns c = compared _ (ready (goal.at.returns c).Else-not-fits) c.starts_listed.ensures
