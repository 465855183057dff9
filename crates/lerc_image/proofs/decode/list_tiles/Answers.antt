-- `list_tiles`: without room the list as it was, else the starts.
-- Assumes nothing.
use mathlib.Core.Path.{◌≡◌, ◌∙◌, sym}
use mathlib.Core.Bool.{false, ◌&&◌}
use mathlib.Core.List.{List}
use Prim.Native.Nat.{ℕ}
use native.Mathlib.Omega.{arith}
use lib.ListN.{length, take, length-take}
use lib.Dec.{leb}
use Rattle.lerc_words.specs.Res.{ok}
use Rattle.lerc_words.specs.Lists.{over}
use Rattle.lerc_header.specs.declared.Header.{Header}
use Rattle.lerc_header.specs.declared.Extent.{Extent}
use Rattle.lerc_header.specs.Header.{held}
use Rattle.lerc_header.proofs.Kept.{held-is}
use Rattle.lerc_image.specs.Tiles.{head_starts, room_to_list, listed_tiles}
use Rattle.lerc_image.proofs.Held.{Listable, listable-asked, listable-size, listable-room}
use Rattle.lerc_image.proofs.decode.list_tiles.Goals as goal
use Rattle.lerc_image.proofs.decode.list_tiles.Goals.{After-struct_known-2-1, Else-not-room, In-Ok}

no_room : (b : List ℕ) (h : Header) (m : List ℕ) (at : ℕ) (list : List ℕ) {e : Extent} → held h (length b) ≡ ok e
    → (leb e.mask (length m) && leb e.blocks (length list)) ≡ false → list ≡ listed_tiles b h m at list
unfolding listed_tiles room_to_list
no_room b h m at list p r = rw (p, r)

-- over the extent that the code has
listed : {b : List ℕ} {h : Header} {m : List ℕ} (at : ℕ) {list new : List ℕ} {e : Extent} → Listable b h m list e
    → new ≡ over (head_starts (take e.size b) h m e.blocks 0 at) list → new ≡ listed_tiles b h m at list
unfolding listed_tiles room_to_list
listed {b} {h} at p l = rw (p.kept, p.room) (rw (held-is h (length b) p.kept) at l)

kept : (c : In-Ok) →
    let a = c.args in
    held a.h (length a.blob.now) ≡ ok c.in-Ok.e
kept c = sym c.in-Ok.ensures

ready : (c : Else-not-room) →
    let a = c.args in
    Listable a.blob.now a.h a.mask.now a.list.now c.in-Ok.e
ready c = record { kept = kept (goal.at.Else-not-room c).In-Ok; room = c.if-not-room.false }

pub returns-in_default : goal.returns-in_default
unfolding listed_tiles room_to_list
returns-in_default c = rw (sym c.held.ensures ∙ c.in_default.is)

pub returns-then-not-room : goal.returns-then-not-room
returns-then-not-room c = no_room _ _ _ _ _ (kept (goal.at.returns-then-not-room c).In-Ok) c.if-not-room.true

pub slice_bounds-list_starts-end : goal.slice_bounds-list_starts-end
slice_bounds-list_starts-end c = let l = listable-size (ready (goal.at.slice_bounds-list_starts-end c).Else-not-room) in simp length-take (omega (arith, l))

pub list_starts-requires : goal.list_starts-requires
list_starts-requires c = let p = ready (goal.at.list_starts-requires c).Else-not-room in (listable-asked p, listable-room p)

pub returns : goal.returns
returns c = listed _ (ready (goal.at.returns c).Else-not-room) c.list_starts.ensures
