-- `write_tiles`: without room list and image as they were, else the starts and words of the blocks up to the first that is refused.
-- Assumes nothing.
use mathlib.Core.Path.{◌≡◌, ◌∙◌, sym, refl}
use mathlib.Core.Bool.{false}
use mathlib.Core.List.{List}
use Prim.Native.Nat.{ℕ}
use native.Mathlib.Omega.{arith}
use lib.ListN.{length, take, length-take}
use Rattle.lerc_words.specs.Res.{ok}
use Rattle.lerc_words.specs.Lists.{over}
use Rattle.lerc_header.specs.declared.Header.{Header}
use Rattle.lerc_header.specs.declared.Extent.{Extent}
use Rattle.lerc_header.specs.Header.{held}
use Rattle.lerc_header.proofs.Kept.{held-is}
use Rattle.lerc_image.specs.Tiles.{starts_from, image_from, room_to_fill, written_list, written_image}
use Rattle.lerc_image.specs.Parts.{has_room}
use Rattle.lerc_image.proofs.Held.{Fillable, fillable-listable, fillable-room, listable-asked, listable-size, listable-room}
use Rattle.lerc_image.proofs.decode.write_tiles.Goals as goal
use Rattle.lerc_image.proofs.decode.write_tiles.Goals.{After-has_room, Else-not-has_room, In-Ok}

-- what is promised
abbrev Promised : List ℕ → Header → List ℕ → List ℕ → ℕ → List ℕ → List ℕ → List ℕ → List ℕ → Type 0
Promised b h m maxima at list new-list image new-image =
    (new-list ≡ written_list b h m maxima at list (length image)) × (new-image ≡ written_image b h m maxima at (length list) image)

no_room : (b : List ℕ) (h : Header) (m maxima : List ℕ) (at : ℕ) (list image : List ℕ) {e : Extent} → held h (length b) ≡ ok e
    → has_room e (length m) (length list) (length image) ≡ false → Promised b h m maxima at list list image image
unfolding written_list written_image room_to_fill
no_room b h m maxima at list image p r = rw (p, r) (refl, refl)

-- over the extent that the code has
written : {b : List ℕ} {h : Header} {m : List ℕ} (maxima : List ℕ) (at : ℕ) {list new-list image new-image : List ℕ} {e : Extent} → Fillable b h m list image e
    → (new-list ≡ over (starts_from (take e.size b) h maxima m e.blocks 0 at) list) × (new-image ≡ image_from (take e.size b) h maxima m e.blocks 0 at image)
    → Promised b h m maxima at list new-list image new-image
unfolding written_list written_image room_to_fill
written {b} {h} maxima at p l = rw (p.kept, p.room) (rw (held-is h (length b) p.kept) at l)

kept : (c : In-Ok) →
    let a = c.args in
    held a.h (length a.blob.now) ≡ ok c.in-Ok.e
kept c = sym c.in-Ok.ensures

ready : (c : Else-not-has_room) →
    let a = c.args in
    Fillable a.blob.now a.h a.mask.now a.list.now a.image.now c.in-Ok.e
ready c = record { kept = kept (goal.at.Else-not-has_room c).In-Ok; room = sym c.has_room.ensures ∙ c.if-not-has_room.false }

pub returns-in_default : goal.returns-in_default
unfolding written_list written_image room_to_fill
returns-in_default c =
    let e = sym c.held.ensures ∙ c.in_default.is in
    record { list_after = rw (e); image_after = rw (e) }

pub returns-then-not-has_room : goal.returns-then-not-has_room
returns-then-not-has_room c =
    let a = c.args in
    let k = kept (goal.at.returns-then-not-has_room c).In-Ok in
    let p = no_room a.blob.now a.h a.mask.now a.maxima.now a.at a.list.now a.image.now k (sym c.has_room.ensures ∙ c.if-not-has_room.true) in
    record { list_after = p.0; image_after = p.1 }

pub slice_bounds-bytes-end : goal.slice_bounds-bytes-end
slice_bounds-bytes-end c = let l = listable-size (fillable-listable (ready (goal.at.slice_bounds-bytes-end c).Else-not-has_room)) in simp length-take (omega (arith, l))

pub write_blocks-requires : goal.write_blocks-requires
write_blocks-requires c =
    let p = ready (goal.at.write_blocks-requires c).Else-not-has_room in
    let l = fillable-listable p in
    (listable-asked l, listable-room l, fillable-room p)

pub returns : goal.returns
returns c =
    let a = c.args in
    let w = c.write_blocks.ensures in
    let p = written a.maxima.now a.at (ready (goal.at.returns c).Else-not-has_room) (w.list_after, w.image_after) in
    record { list_after = p.0; image_after = p.1 }
