-- What listing and writing a checked body leave in list and image: one law for each kind of body.
-- Assumes nothing.
use mathlib.Core.Path.{◌≡◌, ◌∙◌, sym, refl}
use mathlib.Core.Bool.{Bool, true, false, cond}
use mathlib.Core.List.{List}
use Prim.Native.Nat.{ℕ, ◌+◌, ◌*◌, ◌%◌, ◌≤◌}
use native.Mathlib.Omega.{arith}
use native.Mathlib.Nat.{mod-lt}
use lib.ListN.{length, take}
use lib.Dec.{leb, eqb}
use lib.Seq.{get_or-take}
use borrow.Author.Tests.{eq-eqb, eqb-true, leb-true, le-leb}
use Rattle.lerc_words.specs.Res.{Res, ok, fail, ◌>>=◌, marked, require, refuse, after}
use Rattle.lerc_words.proofs.Marking.{marked-is}
use Rattle.lerc_words.specs.Lists.{over}
use Rattle.lerc_words.proofs.Binding.{bind_is, require-is}
use Rattle.lerc_numeric.specs.Kinds.{type_size}
use Rattle.lerc_numeric.proofs.Integers.{size-le}
use Rattle.lerc_header.specs.declared.Header.{Header}
use Rattle.lerc_header.specs.Header.{shape_of}
use Rattle.lerc_header.specs.Shape.{block_count, cells, Shaped}
use Rattle.lerc_header.proofs.Kept.{held-shaped}
use Rattle.lerc_block.specs.Block.{raw_words}
use Rattle.lerc_image.specs.Geometry.{is_valid_cell}
use Rattle.lerc_image.specs.Paint.{painted}
use Rattle.lerc_image.specs.Blocks.{Chain, all_blocks}
use Rattle.lerc_image.specs.Tiles.{checked_tiles, listed_tiles, filled_tiles, tiles_listed}
use Rattle.lerc_slices.specs.Slices.{begins_with}
use Rattle.lerc_image.proofs.Painting.{painted-words}
use Rattle.lerc_image.proofs.Beginning.{begins-none}
use Rattle.lerc_byte_image.specs.Image.{image_at, written_image}
use Rattle.lerc_byte_image.proofs.Written.{written-are}
use Rattle.lerc_image.proofs.Stages.{starts-begin, checked-listed, checked-begins, checked-filled}
use Rattle.lerc.specs.declared.body.BodyFound.{BodyFound}
use Rattle.lerc.specs.declared.body.BodyFound.TheVariants as found
use Rattle.lerc.specs.Meaning.{Body, empty, constant, blocks, huffman, missing_word_at, raw_body, block_body, huffman_body, starts_of, cell_word}
use Rattle.lerc.specs.Linear.{depth_word, raw_word, RawAsked}
use Rattle.lerc.specs.Parts.{ToWrite, Writable, body_in, body_image, list_after, list_holds, image_after}
use Rattle.lerc.proofs.Bodies.{image-empty, image-raw}
use Rattle.lerc.proofs.Endings.{raw-starts, huffman-starts}
use Rattle.lerc.proofs.Checking.{tiles-are}

-- an accepted raw body lies in the bytes
raw-inside : (s : List ℕ) (h : Header) (at : ℕ) (b : Body) → raw_body s h at ≡ ok b → at + h.valid * h.depth * type_size h.kind ≤ length s
unfolding raw_body raw_words
raw-inside s h at b q =
    let fits = require (leb (at + h.valid * h.depth * type_size h.kind) (length s)) 1 in
    let (_, p, _) = bind_is (marked (missing_word_at (length s) at h.kind) (fits >>= _)) _ q in
    let (_, t, _) = bind_is fits _ (marked-is (missing_word_at (length s) at h.kind) (fits >>= _) p) in
    leb-true _ _ (require-is _ 1 t)

module _ {s : List ℕ} {h : Header} {m words : List ℕ} {f : BodyFound} (w : ToWrite s h m words f) where
  abbrev listed : List ℕ → List ℕ
  listed list = list_after (body_in s h m words f) list

  abbrev holds : List ℕ → Bool
  holds list = list_holds (body_in s h m words f) list

  abbrev filled : List ℕ → List ℕ
  filled image = image_after (body_in s h m words f) h m image

  pub shaped : Shaped (shape_of h)
  shaped = held-shaped h (length s) w.ready.header

  -- ---- empty

  none-valid : f ≡ found.Empty → h.valid ≡ 0
  none-valid e = go (eqb h.valid 0) refl (rw (e) at w.is)
    where
      go : (t : Bool) → eqb h.valid 0 ≡ t → cond t (ok empty) (fail (refuse 0)) ≡ ok w.body → h.valid ≡ 0
      go true t q = eqb-true _ _ t
      go false t q = absurd (let z : ◌≡◌ {A = ℕ} 0 1 = cc in omega arith)

  pub list-empty : (list : List ℕ) → f ≡ found.Empty → list ≡ listed list
  list-empty list e = rw (e) (go (eqb h.valid 0))
    where
      go : (t : Bool) → list ≡ after (cond t (ok empty) (fail (refuse 0))) list (λ y. over (starts_of y) list)
      go true = refl
      go false = refl

  pub holds-empty : (list : List ℕ) → f ≡ found.Empty → true ≡ holds list
  holds-empty list e = sym (rw (e) (rw (eq-eqb h.valid 0 (none-valid e)) (begins-none list)))

  pub image-none : (image : List ℕ) → f ≡ found.Empty → image ≡ filled image
  image-none image e = rw (e) (go (eqb h.valid 0))
    where
      go : (t : Bool) → image ≡ after (cond t (ok empty) (fail (refuse 0))) image (body_image h m image)
      go true = image-empty (shape_of h) m image (cell_word h m empty) shaped.depth.0 (w.ready.counts ∙ none-valid e)
      go false = refl

  -- ---- constant

  pub list-constant : {end : ℕ} (list : List ℕ) → f ≡ found.Constant end → list ≡ listed list
  list-constant list e = rw (e)

  pub holds-constant : {end : ℕ} (list : List ℕ) → f ≡ found.Constant end → true ≡ holds list
  holds-constant list e = sym (rw (e) (begins-none list))

  pub image-constant : {end : ℕ} (image : List ℕ) {new : List ℕ} → f ≡ found.Constant end → new ≡ painted image (is_valid_cell (shape_of h) m) (depth_word (shape_of h) words) → new ≡ filled image
  unfolding cell_word
  image-constant {end} image e q =
      rw (e) (q ∙ painted-words image (depth_word (shape_of h) words) (cell_word h m (constant (take h.depth words) end)) (is_valid_cell (shape_of h) m)
      (λ c _. sym (get_or-take h.depth words (c % h.depth) 0 (mod-lt c shaped.depth.0))))

  -- ---- raw

  raw-fits : {at end : ℕ} → f ≡ found.Raw at end → at + h.valid * h.depth * type_size h.kind ≤ length s
  raw-fits {at} e = raw-inside s h at w.body (rw (e) at w.is)

  pub raw-asked : {at end : ℕ} {image : List ℕ} → f ≡ found.Raw at end → cells (shape_of h) ≤ length image → RawAsked (shape_of h) s at (type_size h.kind) m image
  raw-asked e r = record { shaped = shaped; small = size-le h.kind; words = rw w.ready.counts (raw-fits e); room = r }

  pub list-raw : {at end : ℕ} (list : List ℕ) → f ≡ found.Raw at end → list ≡ listed list
  list-raw {at} list e = rw (e) (go (raw_body s h at) refl)
    where
      go : (y : Res Body) → raw_body s h at ≡ y → list ≡ after y list (λ b. over (starts_of b) list)
      go (ok b) q = rw (raw-starts s h at b q)
      go (fail r) q = refl

  pub holds-raw : {at end : ℕ} (list : List ℕ) → f ≡ found.Raw at end → true ≡ holds list
  holds-raw {at} list e =
      let q : raw_body s h at ≡ ok w.body = rw (e) at w.is in
      sym (rw (e, q, raw-starts s h at w.body q) (begins-none list))

  pub image-written : {at end : ℕ} (image : List ℕ) {new : List ℕ} → f ≡ found.Raw at end → new ≡ painted image (is_valid_cell (shape_of h) m) (raw_word s at (type_size h.kind) (shape_of h) m) → new ≡ filled image
  unfolding raw_body raw_words
  image-written {at} {end} image e q =
      rw (e, le-leb _ _ (raw-fits e)) (q ∙ image-raw h s m image at (type_size h.kind) (at + h.valid * h.depth * type_size h.kind) shaped.depth.0 w.ready.counts)

  -- ---- blocks

  module _ {at n end : ℕ} (e : f ≡ found.Blocks at n end) where
    chained : (c : Chain) × (all_blocks s h words m at ≡ ok c)
    unfolding block_body
    chained =
        let q : (all_blocks s h words m at >>= λ c. ok (blocks c)) ≡ ok w.body = rw (e) at w.is in
        let (c, p, _) = bind_is (all_blocks s h words m at) _ q in
        (c, p)

    checked : checked_tiles s h m words at ≡ ok chained.0
    checked = tiles-are s h words m at w.ready ∙ chained.1

    -- the list is that of the heads
    pub blocks-listed : (list : List ℕ) {new : List ℕ} → block_count (shape_of h) ≤ length list → new ≡ listed_tiles s h m at list → new ≡ listed list
    unfolding block_body
    blocks-listed list l p = rw (e, chained.1) (p ∙ checked-listed s h m words at checked list l)

    -- and so is what is compared
    pub blocks-hold : (list : List ℕ) {r : Bool} → block_count (shape_of h) ≤ length list → r ≡ tiles_listed s h m at list → r ≡ holds list
    unfolding block_body
    blocks-hold list l p = rw (e, chained.1) (p ∙ checked-begins s h m words at checked list l)

  pub blocks-filled : {list image new : List ℕ} {at n end : ℕ} → (e : f ≡ found.Blocks at n end) → Writable s h m words f list image → new ≡ filled_tiles s h m words list image → new ≡ filled image
  unfolding block_body cell_word
  blocks-filled {list} {image} {new} {at} e v p =
      let (c, q) = chained e in
      let b : begins_with c.starts list ≡ true = rw (e, q) at v.starts in
      rw (e, q) (p ∙ checked-filled s h m words at (checked e) list image v.long v.room (starts-begin s h words m at q list b))

  -- ---- a Huffman image

  pub list-huffman : {delta : Bool} {mode end : ℕ} (list : List ℕ) → f ≡ found.Huffman delta mode end → list ≡ listed list
  list-huffman {delta} {mode} list e = rw (e) (go (huffman_body s h delta mode) refl)
    where
      go : (y : Res Body) → huffman_body s h delta mode ≡ y → list ≡ after y list (λ b. over (starts_of b) list)
      go (ok b) q = rw (huffman-starts s h delta mode b q)
      go (fail r) q = refl

  pub holds-huffman : {delta : Bool} {mode end : ℕ} (list : List ℕ) → f ≡ found.Huffman delta mode end → true ≡ holds list
  holds-huffman {delta} {mode} list e =
      let q : huffman_body s h delta mode ≡ ok w.body = rw (e) at w.is in
      sym (rw (e, q, huffman-starts s h delta mode w.body q) (begins-none list))

  pub image-huffman : {delta : Bool} {mode end : ℕ} (image : List ℕ) {new : List ℕ} → f ≡ found.Huffman delta mode end → cells (shape_of h) ≤ length image
      → new ≡ written_image s h mode delta m image → new ≡ filled image
  unfolding huffman_body cell_word
  image-huffman {delta} {mode} image e r p =
      let q : (image_at s h mode >>= λ c. ok (huffman delta c.symbols c.end)) ≡ ok w.body = rw (e) at w.is in
      let (c, k, _) = bind_is (image_at s h mode) _ q in
      rw (e, k) (p ∙ written-are s h mode delta m image w.ready.header w.ready.whole w.ready.mask r w.ready.counts k)
