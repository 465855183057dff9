-- `fill_tiles`: without room the image as it was, else every listed block that is accepted.
-- Assumes nothing.
use mathlib.Core.Path.{◌≡◌, ◌∙◌, sym}
use mathlib.Core.Bool.{false}
use mathlib.Core.List.{List}
use Prim.Native.Nat.{ℕ}
use native.Mathlib.Omega.{arith}
use lib.ListN.{length, take, length-take}
use Rattle.lerc_words.specs.Res.{ok}
use Rattle.lerc_header.specs.declared.Header.{Header}
use Rattle.lerc_header.specs.declared.Extent.{Extent}
use Rattle.lerc_header.specs.Header.{held}
use Rattle.lerc_header.proofs.Kept.{held-is}
use Rattle.lerc_image.specs.Tiles.{listed_image, room_to_fill, filled_tiles}
use Rattle.lerc_image.specs.Parts.{has_room}
use Rattle.lerc_image.proofs.Held.{Fillable, fillable-listable, fillable-room, listable-asked, listable-size, listable-room}
use Rattle.lerc_image.proofs.decode.fill_tiles.Goals as goal
use Rattle.lerc_image.proofs.decode.fill_tiles.Goals.{After-has_room, Else-not-has_room, In-Ok}

no_room : (b : List ℕ) (h : Header) (m maxima list image : List ℕ) {e : Extent} → held h (length b) ≡ ok e
    → has_room e (length m) (length list) (length image) ≡ false → image ≡ filled_tiles b h m maxima list image
unfolding filled_tiles room_to_fill
no_room b h m maxima list image p r = rw (p, r)

-- over the extent that the code has
filled : {b : List ℕ} {h : Header} {m : List ℕ} (maxima : List ℕ) {list image new : List ℕ} {e : Extent} → Fillable b h m list image e
    → new ≡ listed_image (take e.size b) h maxima m list image → new ≡ filled_tiles b h m maxima list image
unfolding filled_tiles room_to_fill
filled {b} {h} maxima p l = rw (p.kept, p.room) (rw (held-is h (length b) p.kept) at l)

kept : (c : In-Ok) →
    let a = c.args in
    held a.h (length a.blob.now) ≡ ok c.in-Ok.e
kept c = sym c.in-Ok.ensures

ready : (c : Else-not-has_room) →
    let a = c.args in
    Fillable a.blob.now a.h a.mask.now a.list.now a.image.now c.in-Ok.e
ready c = record { kept = kept (goal.at.Else-not-has_room c).In-Ok; room = sym c.has_room.ensures ∙ c.if-not-has_room.false }

pub returns-in_default : goal.returns-in_default
unfolding filled_tiles room_to_fill
returns-in_default c = rw (sym c.held.ensures ∙ c.in_default.is)

pub returns-then-not-has_room : goal.returns-then-not-has_room
returns-then-not-has_room c = no_room _ _ _ _ _ _ (kept (goal.at.returns-then-not-has_room c).In-Ok) (sym c.has_room.ensures ∙ c.if-not-has_room.true)

pub slice_bounds-fill_listed-end : goal.slice_bounds-fill_listed-end
slice_bounds-fill_listed-end c = let l = listable-size (fillable-listable (ready (goal.at.slice_bounds-fill_listed-end c).Else-not-has_room)) in simp length-take (omega (arith, l))

pub fill_listed-requires : goal.fill_listed-requires
fill_listed-requires c =
    let p = ready (goal.at.fill_listed-requires c).Else-not-has_room in
    let l = fillable-listable p in
    (listable-asked l, listable-room l, fillable-room p)

pub returns : goal.returns
returns c = filled _ (ready (goal.at.returns c).Else-not-has_room) c.fill_listed.ensures
