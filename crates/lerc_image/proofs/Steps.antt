-- Positions by steps are positions by division.
-- Assumes nothing.
use mathlib.Core.Path.{◌≡◌, sym}
use Prim.Native.Nat.{ℕ, suc, ◌+◌, ◌-◌, ◌*◌, ◌/◌, ◌%◌, ◌≤◌, ◌<◌, min}
use native.Mathlib.Nat.{suc-mul, mod-lt}
use native.Mathlib.Decide.{dec_lt}
use native.Mathlib.Omega.{arith}
use borrow.Author.Tests.{lt-ltb, le-ltb}
use Rattle.lerc_header.specs.declared.Shape.{Shape}
use Rattle.lerc_image.specs.declared.Position.{Position}
use Rattle.lerc_header.specs.Shape.{strips, tiles_across, tiles_down, block_count, Shaped}
use Rattle.lerc_image.specs.Geometry.{HasTile, tile_of, tile_here, position_of, next_of}
use Rattle.lerc_image.proofs.Strips.{strip-start, strip-lt, low_digit, mid-digit, top_digit, digits_of, top_lt}
use Rattle.lerc_image.proofs.Partition.{across-pos}

abbrev at : Shape → ℕ → ℕ → ℕ → Position
at h a b d = record { x = a * h.side; y = min h.rows (b * h.side); d = d }

beyond : (s n t : ℕ) → 0 < s → strips s n ≤ t → n ≤ t * s
beyond s n t p l = go (dec_lt (t * s) n)
  where
    go : Dec (t * s < n) → n ≤ t * s
    go (yes q) = omega (arith, strip-lt s n t p q)
    go (no q) = omega arith

carry : (q D d : ℕ) → D ≤ d + 1 → d < D → suc q * D + 0 ≡ q * D + d + 1
carry q D d l r = omega (arith, suc-mul q D)

module _ (h : Shape) (s : Shaped h) where
  at-digits : (a b d : ℕ) → a < tiles_across h → d < h.depth → position_of h ((b * tiles_across h + a) * h.depth + d) ≡ at h a b d
  unfolding position_of
  at-digits a b d u w =
      rw (mid-digit (tiles_across h) h.depth a b d u w, top_digit (tiles_across h) h.depth a b d u w, low_digit (tiles_across h) h.depth a b d u w)

  pub position_first : position_of h 0 ≡ record { x = 0; y = 0; d = 0 }
  position_first =
      let e : (0 * tiles_across h + 0) * h.depth + 0 ≡ 0 = omega arith in
      let f : min h.rows (0 * h.side) ≡ 0 = omega arith in
      let g : 0 * h.side ≡ 0 = omega arith in
      rw (f, g) at (rw (e) at (at-digits 0 0 0 (across-pos h s) s.depth.0))

  -- after the last block
  pub position-last : position_of h (block_count h) ≡ record { x = 0; y = h.rows; d = 0 }
  position-last =
      let e : (tiles_down h * tiles_across h + 0) * h.depth + 0 ≡ block_count h = omega arith in
      let r : tiles_down h ≤ tiles_down h = omega arith in
      let f : min h.rows (tiles_down h * h.side) ≡ h.rows = omega (arith, beyond h.side h.rows (tiles_down h) s.side.0 r) in
      let g : 0 * h.side ≡ 0 = omega arith in
      rw (f, g) at (rw (e) at (at-digits 0 (tiles_down h) 0 (across-pos h s) s.depth.0))

  -- of a block: its corner lies in the image
  module _ (n : ℕ) (l : n < block_count h) where
    pub corner-x : n / h.depth % tiles_across h * h.side < h.columns
    corner-x = strip-start h.side h.columns _ s.side.0 (mod-lt (n / h.depth) (across-pos h s))

    pub corner-y : n / h.depth / tiles_across h * h.side < h.rows
    corner-y =
        strip-start h.side h.rows _ s.side.0
        (top_lt (tiles_across h) (tiles_down h) h.depth n (across-pos h s) s.depth.0 l)

    pub corner-is : min h.rows (n / h.depth / tiles_across h * h.side) ≡ n / h.depth / tiles_across h * h.side
    corner-is = omega (arith, corner-y)

    pub tile-here : tile_here h (position_of h n) ≡ tile_of h n
    unfolding position_of tile_of
    tile-here = rw (corner-is)

    pub position-within : HasTile h (position_of h n)
    unfolding position_of
    position-within = record { x = corner-x; y = omega (arith, corner-y); d = mod-lt n s.depth.0 }

  -- one step, by the digits of the number
  module _ (a b d : ℕ) (u : a < tiles_across h) (v : b < tiles_down h) (w : d < h.depth) where
    step-depth : d + 1 < h.depth → next_of h (at h a b d) ≡ position_of h ((b * tiles_across h + a) * h.depth + d + 1)
    step-depth p =
        let e : (b * tiles_across h + a) * h.depth + (d + 1) ≡ (b * tiles_across h + a) * h.depth + d + 1 = omega arith in
        rw (lt-ltb _ _ p) (sym (rw (e) at (at-digits a b (d + 1) u p)))

    step-across : h.depth ≤ d + 1 → suc a < tiles_across h → next_of h (at h a b d) ≡ position_of h ((b * tiles_across h + a) * h.depth + d + 1)
    step-across q p =
        let e : b * tiles_across h + suc a ≡ suc (b * tiles_across h + a) = omega arith in
        let f : suc (b * tiles_across h + a) * h.depth + 0 ≡ (b * tiles_across h + a) * h.depth + d + 1 = carry _ h.depth d q w in
        let x : suc a * h.side < h.columns = strip-start h.side h.columns (suc a) s.side.0 p in
        let g : suc a * h.side ≡ a * h.side + min h.side (h.columns - a * h.side) = omega (arith, suc-mul a h.side) in
        let t : a * h.side + min h.side (h.columns - a * h.side) < h.columns = rw (g) at x in
        rw (le-ltb _ _ q, lt-ltb _ _ t) (sym (rw (f, g) at (rw (e) at (at-digits (suc a) b 0 p s.depth.0))))

    step_down : h.depth ≤ d + 1 → tiles_across h ≤ suc a → next_of h (at h a b d) ≡ position_of h ((b * tiles_across h + a) * h.depth + d + 1)
    step_down q p =
        let e : suc b * tiles_across h + 0 ≡ suc (b * tiles_across h + a) = omega (arith, suc-mul b (tiles_across h)) in
        let f : suc (b * tiles_across h + a) * h.depth + 0 ≡ (b * tiles_across h + a) * h.depth + d + 1 = carry _ h.depth d q w in
        let x : h.columns ≤ suc a * h.side = beyond h.side h.columns (suc a) s.side.0 p in
        let t : h.columns ≤ a * h.side + min h.side (h.columns - a * h.side) = omega (arith, suc-mul a h.side) in
        let y : min h.rows (suc b * h.side) ≡ min h.rows (b * h.side) + min h.side (h.rows - min h.rows (b * h.side)) =
        omega (arith, suc-mul b h.side, strip-start h.side h.rows b s.side.0 v) in
        let z : 0 * h.side ≡ 0 = omega arith in
        rw (le-ltb _ _ q, le-ltb _ _ t) (sym (rw (f, y, z) at (rw (e) at (at-digits 0 (suc b) 0 (across-pos h s) s.depth.0))))

    next-digits : next_of h (at h a b d) ≡ position_of h ((b * tiles_across h + a) * h.depth + d + 1)
    next-digits = deep (dec_lt (d + 1) h.depth)
      where
        wide : h.depth ≤ d + 1 → Dec (suc a < tiles_across h) → next_of h (at h a b d) ≡ position_of h ((b * tiles_across h + a) * h.depth + d + 1)
        wide q (yes p) = step-across q p
        wide q (no p) = step_down q (omega arith)

        deep : Dec (d + 1 < h.depth) → next_of h (at h a b d) ≡ position_of h ((b * tiles_across h + a) * h.depth + d + 1)
        deep (yes p) = step-depth p
        deep (no p) = wide (omega arith) (dec_lt (suc a) (tiles_across h))

  pub position-next : (n : ℕ) → n < block_count h → next_of h (position_of h n) ≡ position_of h (n + 1)
  position-next n l =
      let a : n / h.depth % tiles_across h < tiles_across h = mod-lt (n / h.depth) (across-pos h s) in
      let b : n / h.depth / tiles_across h < tiles_down h = top_lt (tiles_across h) (tiles_down h) h.depth n (across-pos h s) s.depth.0 l in
      let d : n % h.depth < h.depth = mod-lt n s.depth.0 in
      let e : position_of h n ≡ at h (n / h.depth % tiles_across h) (n / h.depth / tiles_across h) (n % h.depth) =
      rw (digits_of (tiles_across h) h.depth n) at (at-digits _ (n / h.depth / tiles_across h) _ a d) in
      rw (e) (rw (digits_of (tiles_across h) h.depth n) at (next-digits _ _ _ a b d))
