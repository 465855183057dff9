-- lerc_byte_image.rs, first half: the order of the cells, how many symbols come before one, and an image painted so far.
-- Assumes nothing.
use mathlib.Core.Path.{◌≡◌, refl, sym, ap, ◌∙◌}
use mathlib.Core.Bool.{Bool, true, false, cond, ◌&&◌}
use mathlib.Core.List.{List}
use mathlib.Core.Logic.{◌≢◌}
use Prim.Native.Nat.{ℕ, zero, suc, ◌+◌, ◌*◌, ◌/◌, ◌%◌, ◌≤◌, ◌<◌}
use native.Mathlib.Omega.{arith}
use native.Mathlib.Nat.{mul_comm, suc-mul, zero-mul, div-add-mod', mod-lt, mod-eq_of_lt, div-lt_iff_lt-mul, add-mul-mod_self_right}
use borrow.Author.Tests.{lt-ltb, le-ltb, ltb-true}
use lib.Arith.{digits_div, digits_mod, digits_lt}
use lib.Dec.{ltb}
use lib.ListN.{length, set}
use Rattle.lerc_words.specs.Lists.{count}
use Rattle.lerc_words.proofs.Counts.{count-zero, count-plus, count_same}
use Rattle.lerc_words.proofs.Binding.{and_is}
use Rattle.lerc_header.specs.declared.Header.{Header}
use Rattle.lerc_header.specs.Header.{shape_of}
use Rattle.lerc_header.specs.Shape.{Shaped, pixels, cells}
use Rattle.lerc_header.proofs.Sizes.{pixels-some}
use Rattle.lerc_mask.specs.Mask.{pixel_valid, valid_below}
use Rattle.lerc_image.specs.Geometry.{is_valid_cell}
use Rattle.lerc_image.specs.Paint.{painted}
use Rattle.lerc_image.proofs.Painting.{painted-none, painted_same, painted-set}
use Rattle.lerc_contracts.specs.ByteImage.{pixel, target}
use Rattle.lerc_contracts.specs.Between.{order_of, place_of}
use Rattle.lerc_contracts.specs.ByteClauses.{PlaceClauses}
use Rattle.lerc_contracts.proofs.CellOrder.{near, before-is, all_are}

-- upstream's count of pixels
pub pixels-are : (h : Header) → h.columns * h.rows ≡ pixels (shape_of h)
pixels-are h = mul_comm h.columns h.rows

-- ---- the order

module _ (h : Header) (g : Shaped (shape_of h)) where
  -- the depth of the k-th cell, with prediction
  pub depth_low : (k : ℕ) → k < cells (shape_of h) → k / pixels (shape_of h) < h.depth
  depth_low k l =
      let z : pixels (shape_of h) * h.depth ≡ h.depth * pixels (shape_of h) = mul_comm (pixels (shape_of h)) h.depth in
      (div-lt_iff_lt-mul (pixels-some (shape_of h) g)).1 (rw (z) at l)

  -- its pixel
  pub pixel-low : (delta : Bool) (k : ℕ) → k < cells (shape_of h) → pixel h delta k < pixels (shape_of h)
  unfolding pixel
  pixel-low true k l = rw (pixels-are h) (mod-lt k (pixels-some (shape_of h) g))
  pixel-low false k l = (div-lt_iff_lt-mul g.depth.0).1 l

  -- 6.1
  pub target-pixel : (delta : Bool) (k : ℕ) → k < cells (shape_of h) → target h delta k / h.depth ≡ pixel h delta k
  unfolding target pixel
  target-pixel true k l = rw (pixels-are h) (digits_div (k % pixels (shape_of h)) (depth_low k l))
  target-pixel false k l = refl

  -- 6.2
  pub target-low : (delta : Bool) (k : ℕ) → k < cells (shape_of h) → target h delta k < cells (shape_of h)
  unfolding target
  target-low true k l = rw (pixels-are h) (digits_lt (pixel-low true k l) (depth_low k l))
  target-low false k l = l

  pub target-order : (delta : Bool) (k : ℕ) → k < cells (shape_of h) → order_of h delta (target h delta k) ≡ k
  unfolding target pixel order_of
  target-order true k l =
      rw (pixels-are h, digits_div (k % pixels (shape_of h)) (depth_low k l), digits_mod (k % pixels (shape_of h)) (depth_low k l)) (div-add-mod' k (pixels (shape_of h)))
  target-order false k l = refl

  pub order-target : (delta : Bool) (c : ℕ) → c < cells (shape_of h) → target h delta (order_of h delta c) ≡ c
  unfolding target pixel order_of
  order-target true c l =
      let p : c / h.depth < pixels (shape_of h) = (div-lt_iff_lt-mul g.depth.0).1 l in
      rw (pixels-are h, digits_div (c % h.depth) p, digits_mod (c % h.depth) p) (div-add-mod' c h.depth)
  order-target false c l = refl

  -- all come in it
  pub order-low : (delta : Bool) (c : ℕ) → c < cells (shape_of h) → order_of h delta c < cells (shape_of h)
  unfolding order_of
  order-low true c l =
      let p : c / h.depth < pixels (shape_of h) = (div-lt_iff_lt-mul g.depth.0).1 l in
      let z : pixels (shape_of h) * h.depth ≡ h.depth * pixels (shape_of h) = mul_comm (pixels (shape_of h)) h.depth in
      rw (z) (digits_lt (mod-lt c g.depth.0) p)
  order-low false c l = l

-- ---- which symbol is a cell's

-- a count that begins anew after each n
turn : (n d q : ℕ) (f : ℕ → Bool) → q ≤ n → count q (λ i. f ((i + d * n) % n)) ≡ count q f
turn n d q f l = count_same q (λ i. f ((i + d * n) % n)) f (λ i k. let o : i < n = omega arith in rw (add-mul-mod_self_right i d n, mod-eq_of_lt o))

turns : (n d : ℕ) (f : ℕ → Bool) → count (d * n) (λ j. f (j % n)) ≡ d * count n f
turns n zero f = rw (zero-mul n, zero-mul (count n f)) (count-zero (λ j. f (j % n)))
turns n (suc d) f =
    let e : suc d * n ≡ n + d * n = omega (arith, suc-mul d n) in
    rw (e, count-plus (d * n) n (λ j. f (j % n)), turns n d f, turn n d n f (omega arith)) (omega (arith, suc-mul d (count n f)))

module _ (h : Header) (g : Shaped (shape_of h)) (mask : List ℕ) where
  -- as many as there are valid cells before it
  pub place_is : (delta : Bool) (k : ℕ) → k < cells (shape_of h) → pixel_valid mask (pixel h delta k) ≡ true → count k (λ j. pixel_valid mask (pixel h delta j)) ≡ place_of h delta mask (target h delta k)
  unfolding pixel target place_of
  place_is true k l v =
      let n = pixels (shape_of h) in
      let low : k % n < n = mod-lt k (pixels-some (shape_of h) g) in
      let e : k ≡ k % n + k / n * n = omega (arith, div-add-mod' k n) in
      rw (pixels-are h, digits_div (k % n) (depth_low h g k l), digits_mod (k % n) (depth_low h g k l))
      (ap (λ (x : ℕ). count x (λ j. pixel_valid mask (j % n))) e ∙ count-plus (k / n * n) (k % n) (λ j. pixel_valid mask (j % n))
      ∙ rw (turns n (k / n) (pixel_valid mask), turn n (k / n) (k % n) (pixel_valid mask) (omega arith)))
  place_is false k l v = before-is h g.depth.0 mask k v

  pub places-are : (delta : Bool) → count (cells (shape_of h)) (λ j. pixel_valid mask (pixel h delta j)) ≡ valid_below (pixels (shape_of h)) mask * h.depth
  unfolding pixel
  places-are true =
      let n = pixels (shape_of h) in
      let e : n * h.depth ≡ h.depth * n = mul_comm n h.depth in
      rw (pixels-are h) (ap (λ (x : ℕ). count x (λ j. pixel_valid mask (j % n))) e ∙ turns n h.depth (pixel_valid mask) ∙ mul_comm h.depth (valid_below n mask))
  places-are false = all_are h g.depth.0 mask

  pub place-clauses : (delta : Bool) (k : ℕ) → k < cells (shape_of h) → PlaceClauses h mask delta k
  place-clauses delta k l = record {
    pixel-is = sym (target-pixel h g delta k l);
    target-low = target-low h g delta k l;
    target-order = target-order h g delta k l;
    place_is = place_is delta k l;
  }

-- ---- an image whose first k cells are done

module _ (h : Header) (g : Shaped (shape_of h)) (mask : List ℕ) (delta : Bool) (image : List ℕ) (word : ℕ → ℕ) where
  abbrev pub is_done : ℕ → ℕ → Bool
  is_done k c = is_valid_cell (shape_of h) mask c && ltb (order_of h delta c) k

  abbrev pub up_to : ℕ → List ℕ
  up_to k = painted image (is_done k) word

  valid-is : (c : ℕ) → is_valid_cell (shape_of h) mask c ≡ true → (c < cells (shape_of h)) × (pixel_valid mask (c / h.depth) ≡ true)
  unfolding is_valid_cell
  valid-is c e = let (a, b) = and_is _ _ e in (ltb-true _ _ a, b)

  -- all cells but one stay
  others : (k c : ℕ) → (is_valid_cell (shape_of h) mask c ≡ true → c ≢ target h delta k) → is_done (k + 1) c ≡ is_done k c
  others k c d = go (is_valid_cell (shape_of h) mask c) refl
    where
      go : (b : Bool) → is_valid_cell (shape_of h) mask c ≡ b → (b && ltb (order_of h delta c) (k + 1)) ≡ (b && ltb (order_of h delta c) k)
      go false e = refl
      go true e = near (order_of h delta c) k (λ o. d e (sym (order-target h g delta c (valid-is c e).0) ∙ ap (target h delta) o))

  pub paint-none : image ≡ up_to 0
  paint-none = painted-none image word (is_done 0) (λ c l. go c (is_valid_cell (shape_of h) mask c))
    where
      go : (c : ℕ) (b : Bool) → (b && ltb (order_of h delta c) 0) ≡ false
      go c true = le-ltb (order_of h delta c) 0 (omega arith)
      go c false = refl

  pub paint-all : up_to (cells (shape_of h)) ≡ painted image (is_valid_cell (shape_of h) mask) word
  paint-all = painted_same image word (is_done (cells (shape_of h))) (is_valid_cell (shape_of h) mask) (λ c l. go c (is_valid_cell (shape_of h) mask c) refl)
    where
      go : (c : ℕ) (b : Bool) → is_valid_cell (shape_of h) mask c ≡ b → (b && ltb (order_of h delta c) (cells (shape_of h))) ≡ b
      go c true e = lt-ltb (order_of h delta c) (cells (shape_of h)) (order-low h g delta c (valid-is c e).0)
      go c false e = refl

  module _ (k : ℕ) (l : k < cells (shape_of h)) where
    valid-there : pixel_valid mask (pixel h delta k) ≡ true → is_valid_cell (shape_of h) mask (target h delta k) ≡ true
    unfolding is_valid_cell
    valid-there v = rw (lt-ltb (target h delta k) (cells (shape_of h)) (target-low h g delta k l), target-pixel h g delta k l, v)

    pub paint-valid : cells (shape_of h) ≤ length image → pixel_valid mask (pixel h delta k) ≡ true → set (up_to k) (target h delta k) (word (target h delta k)) ≡ up_to (k + 1)
    paint-valid room v =
        let low = target-low h g delta k l in
        painted-set image word (is_done k) (is_done (k + 1)) (target h delta k) (omega arith)
        (rw (valid-there v, target-order h g delta k l, lt-ltb k (k + 1) (omega arith)))
        (λ c d. others k c (λ e. d))

    pub paint-skip : pixel_valid mask (pixel h delta k) ≡ false → up_to k ≡ up_to (k + 1)
    paint-skip v =
        painted_same image word (is_done k) (is_done (k + 1))
        (λ c _. sym (others k c (λ e o.
        let z : true ≡ false = sym (valid-is c e).1 ∙ ap (λ (x : ℕ). pixel_valid mask (x / h.depth)) o ∙ rw (target-pixel h g delta k l) v in
        let n : ◌≡◌ {A = ℕ} 1 0 = ap (λ (b : Bool). cond b 1 0) z in omega arith)))
