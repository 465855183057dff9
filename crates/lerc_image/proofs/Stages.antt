-- The stages of all blocks, and all at once: of an accepted chain the list holds the starts, and the image the words.
-- Assumes nothing.
use mathlib.Core.Path.{◌≡◌, ◌∙◌, sym, refl}
use mathlib.Core.Bool.{Bool, true, false, ◌&&◌, and-true}
use mathlib.Core.List.{List, [], ◌∷◌}
use Prim.Native.Nat.{ℕ, zero, suc, ◌≤◌, ◌<◌}
use native.Mathlib.Nat.{not-suc-le-zero, le_of_suc-le-suc, zero-add}
use native.Mathlib.Omega.{arith}
use lib.ListN.{length, get_or, take, drop, get_or-append}
use lib.Dec.{leb}
use borrow.Author.Tests.{le-leb}
use Rattle.lerc_words.specs.declared.Refusal.{Refusal}
use Rattle.lerc_words.specs.Res.{Res, ok, fail, ◌>>=◌, require, accepts}
use Rattle.lerc_words.specs.Lists.{over}
use Rattle.lerc_words.proofs.Binding.{bind_is, bind-fail, require-is}
use Rattle.lerc_slices.specs.Slices.{begins_with}
use Rattle.lerc_slices.proofs.Begins.{begins-is}
use Rattle.lerc_header.specs.declared.Extent.{Extent}
use Rattle.lerc_header.specs.declared.Header.{Header}
use Rattle.lerc_header.specs.Header.{shape_of, held}
use Rattle.lerc_header.proofs.Kept.{held-is, held-shaped}
use Rattle.lerc_header.specs.Shape.{block_count, cells, Shaped}
use Rattle.lerc_image.specs.Geometry.{block_of, is_valid_cell}
use Rattle.lerc_image.specs.Blocks.{Chain, all_blocks}
use Rattle.lerc_image.specs.Walk.{Walk, walk_of}
use Rattle.lerc_image.specs.Tiles.{checked_tiles, head_starts, room_to_list, listed_tiles, tiles_listed, listed_block, listed_image, room_to_fill, filled_tiles, starts_from, image_from, written_list, written_image, tiles_says, tiles_image, Tiled}
use Rattle.lerc_image.specs.Parts.{BodyAsked, BodyListed}
use Rattle.lerc_image.proofs.Partition.{block-lt}
use Rattle.lerc_image.proofs.Painting.{painted_same, painted-words}
use Rattle.lerc_image.proofs.Upto.{valid-below}
use Rattle.lerc_image.proofs.Chain.{chain-block, chain-lengths}
use Rattle.lerc_image.proofs.Heads.{heads-are}
use Rattle.lerc_image.proofs.Written.{written-starts, written-words}
use Rattle.lerc_image.proofs.Standing.{shape_is, count-is}

-- an entry that is there does not depend on the default
pub get_d_any : (l : List ℕ) (i d e : ℕ) → i < length l → get_or l i d ≡ get_or l i e
get_d_any [] i d e h = absurd (not-suc-le-zero h)
get_d_any (x ∷ xs) zero d e h = refl
get_d_any (x ∷ xs) (suc i) d e h = get_d_any xs i d e (le_of_suc-le-suc h)

-- the list holds the starts of a chain
abbrev pub Starts : List ℕ → Chain → ℕ → Type 0
Starts list c k = (i : ℕ) → i < k → get_or list i 0 ≡ get_or c.starts i c.end

-- ---- of an accepted chain

module _ (s : List ℕ) (h : Header) (maxima m : List ℕ) (at : ℕ) {c : Chain} (q : all_blocks s h maxima m at ≡ ok c) where
  -- the list
  pub starts-are : head_starts s h m (block_count (shape_of h)) 0 at ≡ c.starts
  starts-are = heads-are s h m maxima (block_count (shape_of h)) 0 at c q

  inside : (i : ℕ) → i < block_count (shape_of h) → i < length c.starts
  inside i l = omega (arith, (chain-lengths s h maxima m (block_count (shape_of h)) 0 at c q).0)

  pub starts-over : (old : List ℕ) → Starts (over c.starts old) c (block_count (shape_of h))
  starts-over old i l =
      let j = inside i l in
      get_or-append c.starts (drop (length c.starts) old) 0 i j ∙ get_d_any c.starts i 0 c.end j

  -- a list that begins with them
  pub starts-begin : (list : List ℕ) → begins_with c.starts list ≡ true → Starts list c (block_count (shape_of h))
  starts-begin list e i l =
      let j = inside i l in
      (begins-is c.starts list e).at i j ∙ get_d_any c.starts i 0 c.end j

  -- the image
  module _ (list : List ℕ) (t : Starts list c (block_count (shape_of h))) where
    listed : (n : ℕ) → n < block_count (shape_of h) → listed_block s h maxima m list n ≡ ok (record { words = get_or c.words n []; next = get_or c.starts (suc n) c.end })
    listed n l = rw (t n l) (rw (zero-add n) at (chain-block s h maxima m (block_count (shape_of h)) 0 at c n q l))

    pub image-is : Shaped (shape_of h) → (image : List ℕ) → listed_image s h maxima m list image ≡ tiles_image h m image c
    unfolding listed_image
    image-is p image =
        painted_same image _ _ (is_valid_cell (shape_of h) m) (λ i r. same i (is_valid_cell (shape_of h) m i) refl)
        ∙ painted-words image _ _ (is_valid_cell (shape_of h) m) (λ i e. rw (listed (block_of (shape_of h) i) (block-lt (shape_of h) p i (valid-below (shape_of h) m i e))))
      where
        same : (i : ℕ) (v : Bool) → is_valid_cell (shape_of h) m i ≡ v → (v && accepts (listed_block s h maxima m list (block_of (shape_of h) i))) ≡ v
        same i true e = rw (listed (block_of (shape_of h) i) (block-lt (shape_of h) p i (valid-below (shape_of h) m i e)))
        same i false e = refl

-- ---- of accepted tiles

module _ (b : List ℕ) (h : Header) (m maxima : List ℕ) (at : ℕ) where
  -- with room for the list and the image all at once is the check
  pub tiles-checked : (entries room : ℕ) → block_count (shape_of h) ≤ entries → cells (shape_of h) ≤ room → tiles_says b h m maxima at entries room ≡ checked_tiles b h m maxima at
  unfolding tiles_says checked_tiles
  tiles-checked entries room l r = go (held h (length b)) refl
    where
      go : (x : Res Extent) → held h (length b) ≡ x
          → (x >>= λ e. require (leb e.mask (length m) && leb e.blocks entries && leb e.cells room) 5 >>= λ _. all_blocks (take h.size b) h maxima m at)
          ≡ (x >>= λ e. require (leb e.mask (length m)) 5 >>= λ _. all_blocks (take h.size b) h maxima m at)
      go (fail w) p = refl
      go (ok e) p =
          let is = held-is h (length b) p in
          let u : e.blocks ≤ entries = rw (is) l in
          let v : e.cells ≤ room = rw (is) r in
          rw (le-leb _ _ u, le-leb _ _ v, and-true (leb e.mask (length m) && true), and-true (leb e.mask (length m)))

  module _ {c : Chain} (q : checked_tiles b h m maxima at ≡ ok c) where
    -- what the check found
    record Accepted : Type 0 where
      extent : Extent
      kept : held h (length b) ≡ ok extent
      mask : leb extent.mask (length m) ≡ true
      chained : all_blocks (take h.size b) h maxima m at ≡ ok c

    found : Accepted
    unfolding checked_tiles
    found =
        let (e, p, q) = bind_is (held h (length b)) _ q in
        let (t, r, q) = bind_is (require (leb e.mask (length m)) 5) _ q in
        record { extent = e; kept = p; mask = require-is (leb e.mask (length m)) 5 r; chained = q }

    module _ (list : List ℕ) (l : block_count (shape_of h) ≤ length list) where
      list-room : room_to_list b h m (length list) ≡ ok true
      unfolding room_to_list
      list-room =
          let f = found in
          let is = held-is h (length b) f.kept in
          let u : f.extent.blocks ≤ length list = rw (is) l in
          rw (f.kept, f.mask, le-leb _ _ u)

      pub checked-listed : listed_tiles b h m at list ≡ over c.starts list
      unfolding listed_tiles
      checked-listed = rw (list-room, starts-are (take h.size b) h maxima m at found.chained)

      -- compared with a list
      pub checked-begins : tiles_listed b h m at list ≡ begins_with c.starts list
      unfolding tiles_listed
      checked-begins = rw (list-room, starts-are (take h.size b) h maxima m at found.chained)

    pub checked-starts : (old : List ℕ) → Starts (over c.starts old) c (block_count (shape_of h))
    checked-starts = starts-over (take h.size b) h maxima m at found.chained

    module _ (list image : List ℕ) (l : block_count (shape_of h) ≤ length list) (r : cells (shape_of h) ≤ length image) where
      room-is : room_to_fill b h m (length list) (length image) ≡ ok true
      unfolding room_to_fill
      room-is =
          let f = found in
          let is = held-is h (length b) f.kept in
          let u : f.extent.blocks ≤ length list = rw (is) l in
          let v : f.extent.cells ≤ length image = rw (is) r in
          rw (f.kept, f.mask, le-leb _ _ u, le-leb _ _ v)

      pub checked-filled : Starts list c (block_count (shape_of h)) → filled_tiles b h m maxima list image ≡ tiles_image h m image c
      unfolding filled_tiles
      checked-filled t =
          let f = found in
          rw (room-is) (image-is (take h.size b) h maxima m at f.chained list t (held-shaped h (length b) f.kept) image)

      -- list and image in one pass
      pub checked-written : (written_list b h m maxima at list (length image) ≡ over c.starts list) × (written_image b h m maxima at (length list) image ≡ tiles_image h m image c)
      unfolding written_list written_image
      checked-written =
          let f = found in
          rw (room-is) (
            rw (written-starts (take h.size b) h maxima m at f.chained),
            written-words (take h.size b) h maxima m at f.chained (held-shaped h (length b) f.kept) image,
          )

-- a list that begins with the starts is filled to the image of the chain
module _ (b : List ℕ) (h : Header) (m maxima : List ℕ) (at : ℕ) {c : Chain} (q : all_blocks (take h.size b) h maxima m at ≡ ok c)
    (list image : List ℕ) (r : room_to_fill b h m (length list) (length image) ≡ ok true) where
  kept-shaped : Shaped (shape_of h)
  unfolding room_to_fill
  kept-shaped = let (e, p, _) = bind_is (held h (length b)) _ r in held-shaped h (length b) p

  pub begun-filled : begins_with c.starts list ≡ true → filled_tiles b h m maxima list image ≡ tiles_image h m image c
  unfolding filled_tiles
  begun-filled e =
      let s = take h.size b in
      rw (r) (image-is s h maxima m at q list (starts-begin s h maxima m at q list e) kept-shaped image)

-- ---- what the stages together leave

-- a check that refuses leaves list and image
refused-is : (h : Header) (x : Res Chain) {why : Refusal} → fail why ≡ walk_of h x → x ≡ fail why
refused-is h x e = bind-fail x _ (sym e)

pub listed-refused : {h : Header} {x : Res Chain} {why : Refusal} {list : List ℕ} → x ≡ fail why → BodyListed h x (fail why) list list
listed-refused e = rw (e) (record { says = refl; list = refl })

pub listed-no : (h : Header) (x : Res Chain) {why : Refusal} {list : List ℕ} → fail why ≡ walk_of h x → BodyListed h x (fail why) list list
listed-no h x e = listed-refused (refused-is h x e)

pub tiled-refused : {h : Header} {x : Res Chain} {m : List ℕ} {why : Refusal} {list image : List ℕ} → x ≡ fail why → Tiled x h m (fail why) list list image image
tiled-refused e = rw (e) (record { says = refl; list = refl; image = refl })

pub tiled-no : (h : Header) (x : Res Chain) {m : List ℕ} {why : Refusal} {list image : List ℕ} → fail why ≡ walk_of h x
    → Tiled x h m (fail why) list list image image
tiled-no h x e = tiled-refused (refused-is h x e)

-- one that accepts, then the list
module _ (s : List ℕ) {h : Header} {e : Extent} (a : BodyAsked h e) (maxima m : List ℕ) (at : ℕ) {w : Walk}
    (p : ok w ≡ walk_of h (all_blocks s h maxima m at)) {list list' : List ℕ} where
  pub listed_ok : list' ≡ over (head_starts s h m e.blocks 0 at) list → BodyListed h (all_blocks s h maxima m at) (ok w) list list'
  listed_ok l =
      let (c, q, _) = bind_is (all_blocks s h maxima m at) _ (sym p) in
      record { says = p; list = rw (q) (l ∙ rw (count-is a, starts-are s h maxima m at q)) }

  -- and the image
  pub tiled-ok : list' ≡ over (starts_from s h maxima m e.blocks 0 at) list → {image image' : List ℕ} → image' ≡ image_from s h maxima m e.blocks 0 at image
      → Tiled (all_blocks s h maxima m at) h m (ok w) list list' image image'
  tiled-ok l {image} f =
      let (c, q, _) = bind_is (all_blocks s h maxima m at) _ (sym p) in
      record {
        says = p;
        list = rw (q) (l ∙ rw (count-is a, written-starts s h maxima m at q));
        image = rw (q) (f ∙ rw (count-is a) (written-words s h maxima m at q (rw (shape_is a) at a.shaped) image));
      }
