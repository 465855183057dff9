-- The words of mode 2, without prediction.
-- Assumes nothing.
use Rattle.std.proofs.Common.{◌≡◌, ℕ, ◌+◌, ◌-◌, ◌*◌, ◌/◌, ◌%◌, ◌<◌, ◌≤◌, true, false, ◌&&◌, ltb, leb, List, length, set, sym, ap, ◌∙◌, suc-mul, div-lt_iff_lt-mul, div-add-mod', add-one, arith, ltb-true, le-ltb, lt-ltb}
use native.Mathlib.Decide.{dec_lt}
use lib.Arith.{digits_div}
use Rattle.lerc_words.proofs.Counts.{count-all, count-full}
use Rattle.lerc_words.proofs.Binding.{and_is}
use Rattle.lerc_header.specs.declared.Shape.{Shape}
use Rattle.lerc_header.specs.Shape.{pixels, cells, Shaped}
use Rattle.lerc_mask.specs.Mask.{pixel_valid, valid_below}
use Rattle.lerc_image.specs.Geometry.{is_valid_cell}
use Rattle.lerc_image.specs.Paint.{painted}
use Rattle.lerc_image.specs.Cells.{within}
use Rattle.lerc_image.proofs.Painting.{painted_same, painted-words}
use Rattle.lerc_image.proofs.Pixels.{within_in, within-out, cell-more, pixel-depth, valid-more}
use Rattle.lerc_byte_image.specs.Table.{Table}
use Rattle.lerc_byte_image.specs.Prediction.{less_of, byte_of, byte_word}
use Rattle.lerc_byte_image.specs.Image.{spot, symbol_no}
use Rattle.lerc_byte_image.specs.Parts.{Kept, entry_of}
use Rattle.lerc_byte_image.specs.ImageParts.{plain_run}
use Rattle.lerc_byte_image.proofs.Spots.{spot-value, spot_on, symbol-after}

-- the byte of a symbol that an entry holds
pub byte-is : (kind less symbol e prediction b : ℕ) → less ≡ less_of kind → e % 256 ≡ symbol → b ≡ (e % 256 + prediction + (256 - less)) % 256 → b ≡ byte_of kind symbol prediction
unfolding byte_of
byte-is kind less symbol e prediction b l v q = q ∙ rw (v, l)

-- one symbol more
pub run_more : (s : List ℕ) (t : Table) (kept : Kept t) (kind less p base k e b : ℕ) (im : List ℕ) → base + k < length im
    → less ≡ less_of kind → e ≡ entry_of s t (spot s t p k) → b ≡ (e % 256 + 0 + (256 - less)) % 256
    → set (painted im (within base k) (plain_run s t kind p base)) (base + k) b ≡ painted im (within base (k + 1)) (plain_run s t kind p base)
unfolding plain_run
run_more s t kept kind less p base k e b im l q f g =
    let z : base + k - base ≡ k = omega arith in
    let w : b ≡ byte_of kind (symbol_no s t p (base + k - base)) 0 = rw (z) (byte-is kind less (symbol_no s t p k) e 0 b q (spot-value s t kept p k e f) g) in
    rw (w) (cell-more im (plain_run s t kind p base) base k l)

module _ (h : Shape) (m : List ℕ) (s : List ℕ) (t : Table) (kind : ℕ) where
  -- the words of a valid pixel are a run
  pub pixel-word : (q c : ℕ) → q * h.depth ≤ c → c < q * h.depth + h.depth
      → plain_run s t kind (spot s t 0 (valid_below q m * h.depth)) (q * h.depth) c ≡ byte_word h kind false m (symbol_no s t 0) c
  unfolding plain_run byte_word
  pixel-word q c a b =
      let r : c - q * h.depth < h.depth = omega arith in
      let e : q * h.depth + (c - q * h.depth) ≡ c = omega arith in
      let d : c / h.depth ≡ q = rw (e) at (digits_div q r) in
      rw (symbol-after s t 0 (valid_below q m * h.depth) (c - q * h.depth), d, pixel-depth q h.depth c a b)

  -- where the next valid pixel's begin
  pub pixel-next : (q : ℕ) → pixel_valid m q ≡ true → spot s t (spot s t 0 (valid_below q m * h.depth)) h.depth ≡ spot s t 0 (valid_below (q + 1) m * h.depth)
  pixel-next q e =
      let n : valid_below (q + 1) m * h.depth ≡ valid_below q m * h.depth + h.depth = rw (valid-more m q e, add-one) (suc-mul (valid_below q m) h.depth) in
      spot_on s t 0 (valid_below q m * h.depth) h.depth ∙ ap (spot s t 0) (sym n)

-- without an invalid pixel all words are one run
module _ (h : Shape) (m : List ℕ) (shaped : Shaped h) (full : valid_below (pixels h) m ≡ pixels h) where
  pub every : (p : ℕ) → p < pixels h → pixel_valid m p ≡ true
  every = count-full (pixels h) (pixel_valid m) full

  pub all-below : (p : ℕ) → p ≤ pixels h → valid_below p m ≡ p
  all-below p l = count-all p (pixel_valid m) (λ i k. every i (omega arith))

  pixel-of : (c : ℕ) → c < cells h → c / h.depth < pixels h
  pixel-of c l = (div-lt_iff_lt-mul shaped.depth.0).1 l

  all-cells : (c : ℕ) → within 0 (cells h) c ≡ is_valid_cell h m c
  unfolding is_valid_cell
  all-cells c = go (dec_lt c (cells h))
    where
      go : Dec (c < cells h) → within 0 (cells h) c ≡ (ltb c (cells h) && pixel_valid m (c / h.depth))
      go (yes l) = rw (within_in 0 (cells h) c (omega arith) (omega arith), lt-ltb c (cells h) l, every (c / h.depth) (pixel-of c l))
      go (no l) = rw (within-out 0 (cells h) c (λ u w. absurd (omega arith)), le-ltb c (cells h) (omega arith))

  run-word : (s : List ℕ) (t : Table) (kind c : ℕ) → within 0 (cells h) c ≡ true → plain_run s t kind 0 0 c ≡ byte_word h kind false m (symbol_no s t 0) c
  unfolding plain_run byte_word within
  run-word s t kind c e =
      let l : c < 0 + cells h = ltb-true c (0 + cells h) (and_is (leb 0 c) (ltb c (0 + cells h)) e).1 in
      let k : c < cells h = omega arith in
      let p : c / h.depth < pixels h = pixel-of c k in
      let z : c - 0 ≡ c = omega arith in
      rw (z, all-below (c / h.depth) (omega arith), div-add-mod' c h.depth)

  pub all-run : (s : List ℕ) (t : Table) (kind : ℕ) (im : List ℕ)
      → painted im (within 0 (cells h)) (plain_run s t kind 0 0) ≡ painted im (is_valid_cell h m) (byte_word h kind false m (symbol_no s t 0))
  all-run s t kind im =
      painted-words im (plain_run s t kind 0 0) (byte_word h kind false m (symbol_no s t 0)) (within 0 (cells h)) (run-word s t kind)
      ∙ painted_same im (byte_word h kind false m (symbol_no s t 0)) (within 0 (cells h)) (is_valid_cell h m) (λ c l. all-cells c)
