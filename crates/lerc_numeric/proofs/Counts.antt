-- The bits of a count that count, and lists of the steps of counts.
-- Assumes nothing.
use mathlib.Core.Path.{◌≡◌, sym, ap, ◌∙◌}
use mathlib.Core.Bool.{true}
use mathlib.Core.List.{List}
use Prim.Native.Nat.{ℕ, ◌-◌, ◌%◌, ◌^◌, ◌≤◌, ◌<◌, min}
use native.Mathlib.Decide.{dec_lt}
use native.Mathlib.Nat.{mod-lt, mod-eq_of_lt, lt_of_lt_of_le}
use native.Mathlib.Omega.{arith}
use lib.Bits.{bit_and, and_mask, and_le_r}
use lib.ListN.{get_or}
use lib.Pow.{pow_pos, pow_mono}
use Rattle.lerc_numeric.specs.Numeric.{sum, scaled, less}
use Rattle.lerc_numeric.specs.Steps.{step_of, mapped}
use Rattle.lerc_numeric.proofs.Mapping.{mapped-same}
use Rattle.lerc_numeric.proofs.StepOrder.{step-free}

lowest : (x bits : ℕ) → x < 2 ^ 32 → x % 2 ^ min bits 32 ≡ x % 2 ^ bits
lowest x bits h = go (dec_lt bits 32)
  where
    go : Dec (bits < 32) → x % 2 ^ min bits 32 ≡ x % 2 ^ bits
    go (yes l) = let e : min bits 32 ≡ bits = omega arith in rw (e)
    go (no l) =
        let e : min bits 32 ≡ 32 = omega arith in
        rw (e) (mod-eq_of_lt h ∙ sym (mod-eq_of_lt (lt_of_lt_of_le h (pow_mono {i = 32} (omega arith)))))

pub lowest-le : (x bits low : ℕ) → low ≡ 2 ^ min bits 32 - 1 → x < 2 ^ 32 → x % 2 ^ bits ≤ low
lowest-le x bits low e h = omega (arith, lowest x bits h, mod-lt x (pow_pos (min bits 32)))

-- a list that the code has made, as the rules say it
module _ {ys : List ℕ} where
  pub mapped-lowest : (f : ℕ → ℕ) (bits low : ℕ) (xs old : List ℕ) → low ≡ 2 ^ min bits 32 - 1 → ((k : ℕ) → get_or xs k 0 < 2 ^ 32)
      → ys ≡ mapped (λ c. f (bit_and c low)) xs old → ys ≡ mapped (λ c. f (c % 2 ^ bits)) xs old
  mapped-lowest f bits low xs old e h made =
      made ∙ mapped-same (λ c. f (bit_and c low)) (λ c. f (c % 2 ^ bits)) xs old
      (λ k l. let x = get_or xs k 0 in ap f (rw (e) (and_mask x (min bits 32) ∙ lowest x bits (h k))))

  pub mapped-free : (offset error top low : ℕ) (xs old : List ℕ) → error < 2 ^ 63 → less (sum offset (scaled error low)) top ≡ true
      → ys ≡ mapped (λ c. sum offset (scaled error (bit_and c low))) xs old → ys ≡ mapped (λ c. step_of offset error top (bit_and c low)) xs old
  mapped-free offset error top low xs old h e made =
      made ∙ mapped-same (λ c. sum offset (scaled error (bit_and c low))) (λ c. step_of offset error top (bit_and c low)) xs old
      (λ k l. let x = get_or xs k 0 in step-free offset error h (bit_and x low) low (and_le_r x low) top e)
