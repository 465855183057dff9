-- How large the sizes of an image are that keeps the ceilings.
-- Assumes nothing.
use Prim.Native.Nat.{ℕ, zero, suc, ◌+◌, ◌-◌, ◌*◌, ◌^◌, ◌≤◌, ◌<◌}
use native.Mathlib.Omega.{arith}
use native.Mathlib.Nat.{mul-le-mul, mul-le-mul_right, mul-suc, le_trans, div-le_of_le-mul, div-eq_of_lt}
use Rattle.lerc_header.specs.declared.Shape.{Shape}
use Rattle.lerc_header.specs.Limits.{cell_limit}
use Rattle.lerc_header.specs.Shape.{pixels, cells, mask_length, strips, tiles_across, tiles_down, block_count, Shaped}

-- a strip covers one at least
pub strips-le : (s n : ℕ) → 0 < s → strips s n ≤ n
unfolding strips
strips-le s zero p =
    let h : zero + s - 1 < s = omega arith in
    omega (arith, div-eq_of_lt h)
strips-le s (suc n) p =
    let m : 1 * n ≤ s * n = mul-le-mul_right n p in
    let h : suc n + s - 1 ≤ s * suc n = omega (arith, mul-suc s n) in
    div-le_of_le-mul s h

module _ (h : Shape) (k : Shaped h) where
  pub pixels-some : 0 < pixels h
  pixels-some =
      let m : 1 * 1 ≤ h.rows * h.columns = mul-le-mul k.rows.0 k.columns.0 in
      omega arith

  pub pixels-le : pixels h ≤ cells h
  pixels-le =
      let m : pixels h * 1 ≤ pixels h * h.depth = mul-le-mul (omega arith) k.depth.0 in
      omega arith

  pub pixels-few : pixels h ≤ cell_limit
  pixels-few = le_trans pixels-le k.few

  pub tiles-le : tiles_down h * tiles_across h ≤ pixels h
  tiles-le = mul-le-mul (strips-le h.side h.rows k.side.0) (strips-le h.side h.columns k.side.0)

  pub blocks-le : block_count h ≤ cells h
  blocks-le = mul-le-mul_right h.depth tiles-le

  pub mask-le : mask_length h ≤ pixels h
  mask-le = omega (arith, pixels-some)

-- the product of two fields
pub product-fits : (a b : ℕ) → a < 2 ^ 32 → b < 2 ^ 32 → a * b < 2 ^ 64
product-fits a b p q =
    let x : a ≤ 2 ^ 32 - 1 = omega arith in
    let y : b ≤ 2 ^ 32 - 1 = omega arith in
    let m : a * b ≤ (2 ^ 32 - 1) * (2 ^ 32 - 1) = mul-le-mul x y in
    omega arith

-- and a little more
pub pixels-fit : (a b : ℕ) → a < 2 ^ 32 → b < 2 ^ 32 → a * b + 7 < 2 ^ 64
pixels-fit a b p q =
    let x : a ≤ 2 ^ 32 - 1 = omega arith in
    let y : b ≤ 2 ^ 32 - 1 = omega arith in
    let m : a * b ≤ (2 ^ 32 - 1) * (2 ^ 32 - 1) = mul-le-mul x y in
    omega arith
