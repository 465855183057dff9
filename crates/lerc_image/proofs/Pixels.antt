-- Cells pixel by pixel: what one cell, and what one pixel, adds to a painted image.
-- Assumes nothing.
use mathlib.Core.Path.{◌≡◌, ◌∙◌, sym, ap, refl}
use mathlib.Core.Bool.{Bool, true, false, ◌&&◌, ◌||◌, and-false, and-eq-true_iff}
use mathlib.Core.Logic.{◌≢◌}
use mathlib.Core.List.{List}
use Prim.Native.Nat.{ℕ, zero, suc, ◌+◌, ◌-◌, ◌*◌, ◌/◌, ◌%◌, ◌≤◌, ◌<◌}
use native.Mathlib.Decide.{dec_lt, dec_le}
use native.Mathlib.Omega.{arith}
use lib.Arith.{digits_div, digits_mod, digits_lt}
use lib.Dec.{ltb, leb}
use lib.ListN.{length, get_or, set}
use lib.Seq.{paste, paste-zero, paste-suc}
use borrow.Author.Tests.{lt-ltb, le-ltb, le-leb, lt-leb, ltb-true, leb-true}
use Rattle.lerc_header.specs.declared.Shape.{Shape}
use native.Mathlib.Nat.{mul-le-mul, mul-le-mul_right, suc-mul, add-zero, div-lt_iff_lt-mul}
use native.Mathlib.Numerals.{add-one}
use Rattle.lerc_words.proofs.Counts.{count-more, count-mono}
use Rattle.lerc_header.specs.Shape.{pixels, cells, Shaped}
use Rattle.lerc_mask.specs.Mask.{pixel_valid, valid_below}
use Rattle.lerc_image.specs.Geometry.{is_valid_cell}
use Rattle.lerc_image.specs.Paint.{painted}
use Rattle.lerc_image.proofs.Painting.{painted-none, painted_same, painted-set, painted-twice, painted-words}
use Rattle.lerc_image.specs.Cells.{within, valid_upto}

-- ---- the cells of one pixel

pub within_none : (base c : ℕ) → within base 0 c ≡ false
unfolding within
within_none base c = go (dec_le base c)
  where
    go : Dec (base ≤ c) → (leb base c && ltb c (base + 0)) ≡ false
    go (yes p) = rw (le-leb base c p, le-ltb c (base + 0) (omega arith))
    go (no p) = rw (lt-leb base c (omega arith))

pub within_in : (base n c : ℕ) → base ≤ c → c < base + n → within base n c ≡ true
unfolding within
within_in base n c p q = rw (le-leb base c p, lt-ltb c (base + n) q)

pub within-out : (base n c : ℕ) → (base ≤ c → c < base + n → ⊥) → within base n c ≡ false
unfolding within
within-out base n c f = go (dec_le base c) (dec_lt c (base + n))
  where
    go : Dec (base ≤ c) → Dec (c < base + n) → (leb base c && ltb c (base + n)) ≡ false
    go (yes p) (yes q) = absurd (f p q)
    go (yes p) (no q) = rw (le-leb base c p, le-ltb c (base + n) (omega arith))
    go (no p) q = rw (lt-leb base c (omega arith))

within-other : (base d c : ℕ) → c ≢ base + d → within base (d + 1) c ≡ within base d c
within-other base d c f = go (dec_le base c) (dec_lt c (base + d))
  where
    go : Dec (base ≤ c) → Dec (c < base + d) → within base (d + 1) c ≡ within base d c
    go (yes p) (yes q) = rw (within_in base (d + 1) c p (omega arith), within_in base d c p q)
    go (yes p) (no q) =
        let g : c ≢ base + d = f in
        rw (within-out base (d + 1) c (λ u w. f (omega arith)), within-out base d c (λ u w. q w))
    go (no p) q = rw (within-out base (d + 1) c (λ u w. p u), within-out base d c (λ u w. p u))

-- one cell more
pub cell-more : (im : List ℕ) (word : ℕ → ℕ) (base d : ℕ) → base + d < length im
    → set (painted im (within base d) word) (base + d) (word (base + d)) ≡ painted im (within base (d + 1)) word
cell-more im word base d l =
    painted-set im word (within base d) (within base (d + 1)) (base + d) l (within_in base (d + 1) (base + d) (omega arith) (omega arith)) (within-other base d)

pub cells-none : (im : List ℕ) (word : ℕ → ℕ) (base : ℕ) → im ≡ painted im (within base 0) word
cells-none im word base = painted-none im word (within base 0) (λ c l. within_none base c)

-- one cell alone
pub cell-put : (im : List ℕ) (word : ℕ → ℕ) (base : ℕ) → base < length im → set im base (word base) ≡ painted im (within base 1) word
cell-put im word base l =
    ap (λ (x : List ℕ). set x base (word base)) (cells-none im word base)
    ∙ painted-set im word (within base 0) (within base 1) base l (within_in base 1 base (omega arith) (omega arith)) (λ c f. within-other base 0 c (λ e. f (e ∙ add-zero base)))

-- n words of a list, put in the place of the cells from base on
pub cells-pasted : (im from : List ℕ) (base n : ℕ) → base + n ≤ length im → n ≤ length from → paste im base from n ≡ painted im (within base n) (λ c. get_or from (c - base) 0)
cells-pasted im from base zero h k = sym (paste-zero im base from) ∙ cells-none im (λ c. get_or from (c - base) 0) base
cells-pasted im from base (suc n) h k =
    let w : ℕ → ℕ = λ c. get_or from (c - base) 0 in
    let e : base + n - base ≡ n = omega arith in
    let l : base + n < length im = omega arith in
    let rest : paste im base from n ≡ painted im (within base n) w = cells-pasted im from base n (omega arith) (omega arith) in
    let more : set (painted im (within base n) w) (base + n) (get_or from n 0) ≡ painted im (within base (n + 1)) w = rw (e) at (cell-more im w base n l) in
    sym (paste-suc im base from n 0 l (omega arith)) ∙ rw (rest, ← add-one n) more

-- ---- the valid cells below a pixel

module _ (h : Shape) (m : List ℕ) where
  pub upto-none : (im : List ℕ) (word : ℕ → ℕ) → im ≡ painted im (valid_upto h m 0) word
  unfolding valid_upto
  upto-none im word = painted-none im word (valid_upto h m 0) (λ c l. rw (le-ltb c 0 (omega arith)) (and-false (is_valid_cell h m c)))

  pub upto_all : (im : List ℕ) (word : ℕ → ℕ) → painted im (valid_upto h m (cells h)) word ≡ painted im (is_valid_cell h m) word
  unfolding valid_upto is_valid_cell
  upto_all im word = painted_same im word (valid_upto h m (cells h)) (is_valid_cell h m) (λ c l. go c (dec_lt c (cells h)))
    where
      go : (c : ℕ) → Dec (c < cells h) → ((ltb c (cells h) && pixel_valid m (c / h.depth)) && ltb c (cells h)) ≡ (ltb c (cells h) && pixel_valid m (c / h.depth))
      go c (yes p) = rw (lt-ltb c (cells h) p) (and_yes (pixel_valid m (c / h.depth)))
        where
          and_yes : (b : Bool) → (b && true) ≡ b
          and_yes true = refl
          and_yes false = refl
      go c (no p) = rw (le-ltb c (cells h) (omega arith))

module _ (h : Shape) (m : List ℕ) (p : ℕ) (here : p < h.rows * h.columns) where
  -- a cell of pixel p
  at-pixel : (c : ℕ) → p * h.depth ≤ c → c < p * h.depth + h.depth → is_valid_cell h m c ≡ pixel_valid m p
  unfolding is_valid_cell
  at-pixel c a b =
      let r : c - p * h.depth < h.depth = omega arith in
      let e : p * h.depth + (c - p * h.depth) ≡ c = omega arith in
      let d : c / h.depth ≡ p = rw (e) at (digits_div p r) in
      let l : c < cells h = rw (e) at (digits_lt here r) in
      rw (lt-ltb c (cells h) l, d)

  -- where a cell lies: before the pixel, in it, or behind
  place : {P : Type 0} (c : ℕ) → (c < p * h.depth → P) → (p * h.depth ≤ c → c < p * h.depth + h.depth → P) → (p * h.depth + h.depth ≤ c → P) → P
  place {P} c f g k = go (dec_lt c (p * h.depth)) (dec_lt c (p * h.depth + h.depth))
    where
      go : Dec (c < p * h.depth) → Dec (c < p * h.depth + h.depth) → P
      go (yes a) b = f a
      go (no a) (yes b) = g (omega arith) b
      go (no a) (no b) = k (omega arith)

  skips : pixel_valid m p ≡ false → (c : ℕ) → valid_upto h m (p * h.depth) c ≡ valid_upto h m (p * h.depth + h.depth) c
  unfolding valid_upto
  skips e c = place c
      (λ a. rw (lt-ltb c (p * h.depth) a, lt-ltb c (p * h.depth + h.depth) (omega arith)))
      (λ a b. rw (at-pixel c a b, e))
      (λ a. rw (le-ltb c (p * h.depth) (omega arith), le-ltb c (p * h.depth + h.depth) a))

  adds : pixel_valid m p ≡ true → (c : ℕ) → (within (p * h.depth) h.depth c || valid_upto h m (p * h.depth) c) ≡ valid_upto h m (p * h.depth + h.depth) c
  unfolding valid_upto
  adds e c = place c
      (λ a. rw (within-out (p * h.depth) h.depth c (λ u w. omega arith), lt-ltb c (p * h.depth) a, lt-ltb c (p * h.depth + h.depth) (omega arith)))
      (λ a b. rw (within_in (p * h.depth) h.depth c a b, at-pixel c a b, e, lt-ltb c (p * h.depth + h.depth) b))
      (λ a. rw (within-out (p * h.depth) h.depth c (λ u w. omega arith), le-ltb c (p * h.depth) (omega arith), le-ltb c (p * h.depth + h.depth) a))

  -- a pixel that is not valid adds nothing
  pub pixel-skips : (im : List ℕ) (word : ℕ → ℕ) → pixel_valid m p ≡ false
      → painted im (valid_upto h m (p * h.depth)) word ≡ painted im (valid_upto h m (p * h.depth + h.depth)) word
  pixel-skips im word e = painted_same im word _ _ (λ c l. skips e c)

  -- a valid one adds its cells
  pub pixel-adds : (im : List ℕ) (word other : ℕ → ℕ) → pixel_valid m p ≡ true
      → ((c : ℕ) → p * h.depth ≤ c → c < p * h.depth + h.depth → other c ≡ word c)
      → painted (painted im (valid_upto h m (p * h.depth)) word) (within (p * h.depth) h.depth) other ≡ painted im (valid_upto h m (p * h.depth + h.depth)) word
  unfolding within
  pixel-adds im word other e f =
      let now : List ℕ = painted im (valid_upto h m (p * h.depth)) word in
      let w : painted now (within (p * h.depth) h.depth) other ≡ painted now (within (p * h.depth) h.depth) word =
      painted-words now other word (within (p * h.depth) h.depth)
      (λ c t. let u = (and-eq-true_iff _ _).0 t in f c (leb-true _ _ u.0) (ltb-true _ _ u.1)) in
      w ∙ painted-twice im word (valid_upto h m (p * h.depth)) (within (p * h.depth) h.depth) ∙ painted_same im word _ _ (λ c l. adds e c)

  -- the pixel's cells lie in the image
  pub pixel-fits : (room : ℕ) → cells h ≤ room → p * h.depth + h.depth ≤ room
  pixel-fits room l = omega (arith, mul-le-mul_right h.depth here, suc-mul p h.depth)

-- the pixels of an image are few
pub pixels-few : (h : Shape) → Shaped h → h.rows * h.columns ≤ 16777216
pixels-few h s = mul-le-mul s.rows.1 s.columns.1

-- the depth of a pixel's cell
pub pixel-depth : (p depth c : ℕ) → p * depth ≤ c → c < p * depth + depth → c % depth ≡ c - p * depth
pixel-depth p depth c a b =
    let r : c - p * depth < depth = omega arith in
    let e : p * depth + (c - p * depth) ≡ c = omega arith in
    rw (e) at (digits_mod p r)

-- ---- valid pixels

-- a valid pixel is one more
pub valid-more : (m : List ℕ) (p : ℕ) → pixel_valid m p ≡ true → valid_below (p + 1) m ≡ valid_below p m + 1
valid-more m p e = rw (count-more p (pixel_valid m), e)

pub valid-less : (m : List ℕ) (p : ℕ) → pixel_valid m p ≡ false → valid_below (p + 1) m ≡ valid_below p m
valid-less m p e = rw (count-more p (pixel_valid m), e) (add-zero _)

-- ---- a valid cell

pub record ValidAt (h : Shape) (m : List ℕ) (c : ℕ) : Type 0 where
  pub below : c < cells h
  pub valid : pixel_valid m (c / h.depth) ≡ true

pub valid-at : (h : Shape) (m : List ℕ) (c : ℕ) → is_valid_cell h m c ≡ true → ValidAt h m c
unfolding is_valid_cell
valid-at h m c e =
    let u = (and-eq-true_iff _ _).0 e in
    record { below = ltb-true _ _ u.0; valid = u.1 }

-- its pixel is one of the image's
pub valid-pixel : (h : Shape) (m : List ℕ) (c : ℕ) → 0 < h.depth → ValidAt h m c → c / h.depth < pixels h
valid-pixel h m c d v = (div-lt_iff_lt-mul d).1 v.below

-- a valid pixel has fewer valid pixels before it than there are
pub valid-before : (m : List ℕ) (p n : ℕ) → p < n → pixel_valid m p ≡ true → valid_below p m < valid_below n m
valid-before m p n l e =
    let k : p + 1 ≤ n = omega arith in
    omega (arith, valid-more m p e, count-mono (p + 1) n (pixel_valid m) k)
