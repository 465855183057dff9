-- Cells one after the other: their number, and how many valid ones come before one.
-- Assumes nothing.
use mathlib.Core.Path.{◌≡◌, ap, ◌∙◌}
use mathlib.Core.List.{List}
use mathlib.Core.Bool.{true}
use mathlib.Core.Logic.{◌≢◌}
use Prim.Native.Nat.{ℕ, ◌+◌, ◌*◌, ◌/◌, ◌%◌, ◌<◌}
use native.Mathlib.Omega.{arith}
use native.Mathlib.Nat.{mul_comm, div-add-mod', mod-lt}
use native.Mathlib.Decide.{dec_lt}
use borrow.Author.Tests.{lt-ltb, le-ltb}
use lib.Arith.{digits_div}
use lib.Dec.{ltb}
use Rattle.lerc_words.specs.Lists.{count}
use Rattle.lerc_words.proofs.Counts.{count-plus, count-rows, count-all}
use Rattle.lerc_header.specs.declared.Header.{Header}
use Rattle.lerc_header.specs.Header.{shape_of}
use Rattle.lerc_header.specs.Shape.{pixels, cells}
use Rattle.lerc_mask.specs.Mask.{pixel_valid, valid_below}

-- upstream's count of cells
pub cells_are : (h : Header) → h.columns * h.rows * h.depth ≡ cells (shape_of h)
cells_are h = rw (mul_comm h.columns h.rows)

-- of all numbers but k one more is below k + 1 where it is below k
pub near : (c k : ℕ) → c ≢ k → ltb c (k + 1) ≡ ltb c k
near c k d = go (dec_lt c k)
  where
    go : Dec (c < k) → ltb c (k + 1) ≡ ltb c k
    go (yes p) = rw (lt-ltb c k p, lt-ltb c (k + 1) (omega arith))
    go (no p) = rw (le-ltb c k (omega arith), le-ltb c (k + 1) (omega arith))

module _ (h : Header) (deep : 0 < h.depth) (mask : List ℕ) where
  -- the valid cells before a valid cell
  pub before-is : (c : ℕ) → pixel_valid mask (c / h.depth) ≡ true → count c (λ i. pixel_valid mask (i / h.depth)) ≡ valid_below (c / h.depth) mask * h.depth + c % h.depth
  before-is c v =
      let p = c / h.depth in
      let b = c % h.depth in
      let e : c ≡ b + p * h.depth = omega (arith, div-add-mod' c h.depth) in
      let l : b < h.depth = mod-lt c deep in
      let f : count b (λ i. pixel_valid mask ((i + p * h.depth) / h.depth)) ≡ b =
      count-all b (λ i. pixel_valid mask ((i + p * h.depth) / h.depth)) (λ i k. let z : i + p * h.depth ≡ p * h.depth + i = omega arith in let o : i < h.depth = omega arith in rw (z, digits_div p o) v) in
      ap (λ (x : ℕ). count x (λ i. pixel_valid mask (i / h.depth))) e ∙ count-plus (p * h.depth) b (λ i. pixel_valid mask (i / h.depth)) ∙ rw (f, count-rows h.depth p (pixel_valid mask))

  pub all_are : count (cells (shape_of h)) (λ i. pixel_valid mask (i / h.depth)) ≡ valid_below (pixels (shape_of h)) mask * h.depth
  all_are = count-rows h.depth (pixels (shape_of h)) (pixel_valid mask)
