-- `decode_tiles`: each test's refusal, then the blocks.
-- Assumes nothing.
use mathlib.Core.Path.{◌≡◌, ◌∙◌, sym}
use mathlib.Core.Bool.{false}
use mathlib.Core.List.{List}
use Prim.Native.Nat.{ℕ}
use native.Mathlib.Omega.{arith}
use lib.ListN.{length, take, length-take}
use Rattle.lerc_words.specs.Res.{Res, ok, fail, refuse}
use Rattle.lerc_header.specs.declared.Header.{Header}
use Rattle.lerc_header.specs.declared.Extent.{Extent}
use Rattle.lerc_header.specs.Header.{held}
use Rattle.lerc_words.proofs.Marking.{exits}
use Rattle.lerc_header.proofs.Kept.{held-is}
use Rattle.lerc_image.specs.Blocks.{all_blocks}
use Rattle.lerc_image.specs.Walk.{Walk}
use Rattle.lerc_image.specs.Tiles.{Tiled, tiles_says}
use Rattle.lerc_image.specs.Parts.{has_room}
use Rattle.lerc_image.proofs.Held.{Fillable, fillable-listable, fillable-room, listable-asked, listable-size, listable-room}
use Rattle.lerc_image.proofs.Stages.{tiled-refused}
use Rattle.lerc_image.proofs.decode.decode_tiles.Goals as goal
use Rattle.lerc_image.proofs.decode.decode_tiles.Goals.{After-has_room, Else-not-has_room, In_ok-e}

no_room : (b : List ℕ) (h : Header) (m maxima : List ℕ) (at : ℕ) (list image : List ℕ) {e : Extent} → held h (length b) ≡ ok e
    → has_room e (length m) (length list) (length image) ≡ false
    → Tiled (tiles_says b h m maxima at (length list) (length image)) h m (fail (refuse 5)) list list image image
unfolding tiles_says
no_room b h m maxima at list image p r = tiled-refused (rw (p, r))

-- over the extent that the code has
decoded : {b : List ℕ} {h : Header} {m : List ℕ} (maxima : List ℕ) (at : ℕ) {list image : List ℕ} {e : Extent} {r : Res Walk} {list' image' : List ℕ}
    → Fillable b h m list image e → Tiled (all_blocks (take e.size b) h maxima m at) h m r list list' image image'
    → Tiled (tiles_says b h m maxima at (length list) (length image)) h m r list list' image image'
unfolding tiles_says
decoded {b} {h} maxima at p t = rw (p.kept, p.room) (rw (held-is h (length b) p.kept) at t)

kept : (c : In_ok-e) →
    let a = c.args in
    held a.h (length a.blob.now) ≡ ok c.in_ok-e.e
kept c = sym c.in_ok-e.ensures

ready : (c : Else-not-has_room) →
    let a = c.args in
    Fillable a.blob.now a.h a.mask.now a.list.now a.image.now c.in_ok-e.e
ready c = record { kept = kept (goal.at.Else-not-has_room c).In_ok-e; room = sym c.has_room.ensures ∙ c.if-not-has_room.false }

pub returns-in_err-e : goal.returns-in_err-e
unfolding tiles_says
returns-in_err-e c =
    rw (exits c.from_residual.result c.from_residual.ensures.1) (tiled-refused (rw (sym c.in_err-e.ensures)))

pub returns-then-not-has_room : goal.returns-then-not-has_room
returns-then-not-has_room c = no_room _ _ _ _ _ _ _ (kept (goal.at.returns-then-not-has_room c).In_ok-e) (sym c.has_room.ensures ∙ c.if-not-has_room.true)

pub slice_bounds-decode_blocks-end : goal.slice_bounds-decode_blocks-end
slice_bounds-decode_blocks-end c = let l = listable-size (fillable-listable (ready (goal.at.slice_bounds-decode_blocks-end c).Else-not-has_room)) in simp length-take (omega (arith, l))

pub decode_blocks-requires : goal.decode_blocks-requires
decode_blocks-requires c =
    let p = ready (goal.at.decode_blocks-requires c).Else-not-has_room in
    let l = fillable-listable p in
    (listable-asked l, listable-room l, fillable-room p)

pub returns : goal.returns
returns c = decoded _ _ (ready (goal.at.returns c).Else-not-has_room) c.decode_blocks.ensures
