-- The words of a raw body.
-- Assumes nothing.
use mathlib.Core.Path.{◌≡◌}
use mathlib.Core.Bool.{true, cond}
use mathlib.Core.List.{List, ◌++◌}
use Prim.Native.Nat.{ℕ, ◌+◌, ◌-◌, ◌*◌, ◌/◌, ◌≤◌, ◌<◌}
use native.Mathlib.Decide.{dec_lt}
use native.Mathlib.Omega.{arith}
use lib.Arith.{digits_div}
use lib.ListN.{length, get_or, drop}
use borrow.Author.Tests.{lt-ltb, le-ltb}
use Rattle.lerc_header.specs.declared.Shape.{Shape}
use native.Mathlib.Nat.{mul-le-mul_right, suc-mul, add-mul, add_assoc, div-add-mod', div-lt_iff_lt-mul}
use native.Mathlib.Numerals.{add-one}
use Rattle.lerc_words.specs.Res.{little}
use Rattle.lerc_words.specs.Lists.{tabulate}
use Rattle.lerc_words.proofs.Tables.{length-table, table-front, table-behind}
use Rattle.lerc_words.proofs.Counts.{count-mono, count-all, count-full}
use Rattle.lerc_header.specs.Shape.{cells, Shaped}
use Rattle.lerc_mask.specs.Mask.{pixel_valid, valid_below}
use Rattle.lerc_image.specs.Geometry.{is_valid_cell}
use Rattle.lerc_image.specs.Paint.{painted}
use Rattle.lerc_image.proofs.Painting.{is-painted}
use Rattle.lerc_image.proofs.Pixels.{valid-more, pixel-depth}
use Rattle.lerc.specs.Linear.{raw_word}

-- ---- depth by depth, valid pixel by valid pixel

-- where the words behind a valid pixel's begin
pub raw-next : (m : List ℕ) (p depth size : ℕ) → pixel_valid m p ≡ true → valid_below (p + 1) m * depth * size ≡ valid_below p m * depth * size + depth * size
raw-next m p depth size e = rw (valid-more m p e, add-one, suc-mul (valid_below p m) depth) (add-mul (valid_below p m * depth) depth size)

-- a valid pixel's words lie among those of all
pub raw-fits : (m : List ℕ) (pixels p depth size : ℕ) → pixel_valid m p ≡ true → p < pixels → valid_below p m * depth * size + depth * size ≤ valid_below pixels m * depth * size
raw-fits m pixels p depth size e l =
    let k : p + 1 ≤ pixels = omega arith in
    rw (← raw-next m p depth size e) (mul-le-mul_right size (mul-le-mul_right depth (count-mono (p + 1) pixels (pixel_valid m) k)))

-- the word of a valid pixel's cell
pub raw_word_lem : (s : List ℕ) (at size : ℕ) (h : Shape) (m : List ℕ) (p c : ℕ) → p * h.depth ≤ c → c < p * h.depth + h.depth
    → little size s (at + valid_below p m * h.depth * size + (c - p * h.depth) * size) ≡ raw_word s at size h m c
raw_word_lem s at size h m p c a b =
    let r : c - p * h.depth < h.depth = omega arith in
    let e : p * h.depth + (c - p * h.depth) ≡ c = omega arith in
    let d : c / h.depth ≡ p = rw (e) at (digits_div p r) in
    let g : (valid_below p m * h.depth + (c - p * h.depth)) * size ≡ valid_below p m * h.depth * size + (c - p * h.depth) * size = add-mul (valid_below p m * h.depth) (c - p * h.depth) size in
    rw (d, pixel-depth p h.depth c a b, g, add_assoc)

-- ---- a raw body without an invalid pixel

module _ (h : Shape) (m : List ℕ) (shaped : Shaped h) (full : valid_below (h.rows * h.columns) m ≡ h.rows * h.columns) where
  pixel-of : (c : ℕ) → c < cells h → c / h.depth < h.rows * h.columns
  pixel-of c l = (div-lt_iff_lt-mul shaped.depth.0).1 l

  every : (p : ℕ) → p < h.rows * h.columns → pixel_valid m p ≡ true
  every = count-full (h.rows * h.columns) (pixel_valid m) full

  -- its words stand in the order of the cells
  full-word : (s : List ℕ) (at size c : ℕ) → c < cells h → raw_word s at size h m c ≡ little size s (at + c * size)
  full-word s at size c l =
      let p = pixel-of c l in
      let v : valid_below (c / h.depth) m ≡ c / h.depth = count-all (c / h.depth) (pixel_valid m) (λ i k. every i (omega arith)) in
      rw (v, div-add-mod' c h.depth)

  pub full-painted : (s : List ℕ) (at size : ℕ) (im : List ℕ) → cells h ≤ length im
      → tabulate (cells h) (λ k. little size s (at + k * size)) ++ drop (cells h) im ≡ painted im (is_valid_cell h m) (raw_word s at size h m)
  unfolding is_valid_cell
  full-painted s at size im room =
      is-painted im (raw_word s at size h m) (is_valid_cell h m) all (length-table (cells h) word im room) (λ c l. go c (dec_lt c (cells h)))
    where
      word : ℕ → ℕ
      word k = little size s (at + k * size)

      all : List ℕ
      all = tabulate (cells h) word ++ drop (cells h) im

      go : (c : ℕ) → Dec (c < cells h) → get_or all c 0 ≡ cond (is_valid_cell h m c) (raw_word s at size h m c) (get_or im c 0)
      go c (yes p) = rw (lt-ltb c (cells h) p, every (c / h.depth) (pixel-of c p), full-word s at size c p) (table-front (cells h) word im c p)
      go c (no p) = rw (le-ltb c (cells h) (omega arith)) (table-behind (cells h) word im c (omega arith))
