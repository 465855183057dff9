-- lerc_numeric.rs: a law for each clause and each name of the float model, by the rows of docs/CONTRACTS.md (sections 0 and 1).
-- Assumes nothing.
use Rattle.std.specs.Prelude.{◌≡◌, Bool, false, cond, ◌⊎◌, ℕ, ◌+◌, ◌-◌, ◌*◌, ◌/◌, ◌%◌, ◌^◌, ◌≤◌, ◌<◌}
use Rattle.std.proofs.Math.Option.{some}
use Rattle.std.specs.Float.Ieee.{size}
use Rattle.std.specs.Float.Ieee.Nearest.{closest}
use Rattle.lerc_words.specs.Res.{Res, ok, fail, refuse, accepts}
use Rattle.lerc_numeric.specs.Numeric.{finite, infinite, sig, exp, less, lesser, bits64, signed, scaled, sum, counted_sum}
use Rattle.lerc_numeric.specs.Kinds as kinds
use Rattle.lerc_numeric.specs.Kinds.{type_size, value_of, cut, narrowed}
use Rattle.lerc_numeric.specs.Inside.{jam}
use Rattle.lerc_contracts.specs.Outside.{said, is_some}
use Rattle.lerc_contracts.specs.Numeric.{finite_of, mantissa, exponent, rounded, sticky, less_than, size_of, modulus_of, integer, round, jammed, highest64, highest, pack_normal, pack, power, scale_software, number_software, plus_software, narrow_software}
use Rattle.lerc_contracts.specs.Between.{rounds}

-- `parts`
pub record PartsClauses (v : ℕ) : Type 0 where
  -- 1.1
  pub mantissa-is : mantissa v ≡ sig v
  -- 1.1
  pub exponent-is : exponent v ≡ exp v
  -- 1.2, 1.3
  pub parts-small : (sig v < 2 ^ 53) × (exp v ≤ 972 + 1074)

-- `to_integer`, whose model is `integer`; from the promise of `lerc_numeric::to_integer`
pub record ToIntegerClauses (v kind : ℕ) : Type 0 where
  -- 1.40, 1.41
  pub integer-is : integer v kind ≡ said (λ w. w) (cut kind v)
  -- 1.40
  pub integer-ok : (r : Res ℕ) → r ≡ cut kind v → accepts r ≡ is_some (integer v kind)
  -- 1.41
  pub integer-word : (r : Res ℕ) → r ≡ cut kind v → (w : ℕ) → r ≡ ok w → integer v kind ≡ some w

pub record NumericClauses : Type 0 where
  -- section 0
  pub finite-is : (v : ℕ) → v < 2 ^ 64 → finite_of v ≡ finite v
  pub parts-clauses : (v : ℕ) → v < 2 ^ 64 → PartsClauses v
  -- 1.4
  pub rounded-is : (v n : ℕ) → 0 < n → rounded v n ≡ closest v (2 ^ n)
  -- 1.4, 1.18
  pub round_is : (v n : ℕ) → v < 2 ^ 128 → round v n ≡ closest v (2 ^ n)
  -- 1.5
  pub round-most : (v n : ℕ) → v < 2 ^ 128 → 0 < n → closest v (2 ^ n) ≤ 2 ^ 127
  -- 1.29
  pub sticky-is : (v n : ℕ) → sticky v n ≡ jam v n
  -- 1.6, 1.29
  pub jammed-is : (width v n : ℕ) → v < 2 ^ width → jammed width v n ≡ jam v n
  -- 1.7, 1.30
  pub jam-small : (v n : ℕ) → jam v n ≤ v
  -- 1.9
  pub top_small : (v : ℕ) → v < 2 ^ 64 → size v - 1 < 64
  -- 1.10, 1.11, 1.15
  pub top-is : (v : ℕ) → 0 < v → (2 ^ (size v - 1) ≤ v) × (v < 2 * 2 ^ (size v - 1))
  -- 1.11
  pub highest64-is : (v : ℕ) → v < 2 ^ 64 → highest64 v ≡ size v - 1
  -- 1.12
  pub highest-is : (v : ℕ) → v < 2 ^ 128 → highest v ≡ size v - 1
  -- 1.13
  pub highest-most : (v : ℕ) → v < 2 ^ 128 → size v - 1 ≤ 127
  -- 1.14
  pub highest-zero : highest 0 ≡ 0
  -- 1.19
  pub significand-wide : (v n : ℕ) → 0 < n → 2 ^ 52 ≤ v / 2 ^ n → v / 2 ^ n < 2 ^ 53 → (2 ^ 52 ≤ closest v (2 ^ n)) × (closest v (2 ^ n) ≤ 2 ^ 53)
  -- 1.25
  pub normal-is : (s : Bool) (v e : ℕ) → v < 2 ^ 128 → 52 ≤ size v - 1 → 3074 ≤ e + (size v - 1) → e + (size v - 1) ≤ 5119 → pack_normal s v e (size v - 1) ≡ rounds s v e
  -- 1.27
  pub pack-is : (s : Bool) (v e : ℕ) → v < 2 ^ 128 → pack s v e ≡ rounds s v e
  -- 1.27
  pub pack-units : (s : Bool) (v e : ℕ) → v < 2 ^ 128 → pack s v (power e) ≡ signed s (bits64 (v * 2 ^ e))
  -- 1.28, 1.42
  pub scale-is : (a q : ℕ) → a < 2 ^ 64 → q < 2 ^ 32 → scale_software a q ≡ scaled a q
  -- section 0: every operand is counted as finite
  pub plus-counted : (a b : ℕ) → a < 2 ^ 64 → b < 2 ^ 64 → plus_software a b ≡ counted_sum a b
  -- 1.31, 1.43: no operand is infinite
  pub plus-is : (a b : ℕ) → a < 2 ^ 64 → b < 2 ^ 64 → infinite a ≡ false → infinite b ≡ false → plus_software a b ≡ sum a b
  -- what the premise is for: -2^1023 and infinity
  pub plus-differs : (plus_software 0xFFE0000000000000 0x7FF0000000000000 ≡ 0x7FE0000000000000) × (sum 0xFFE0000000000000 0x7FF0000000000000 ≡ 0x7FF0000000000000)
  -- 1.32
  pub minimum-is : (a b r : ℕ) → r ≡ lesser a b → r ≡ cond (less a b) a b
  -- 1.32
  pub less-is : (a b : ℕ) → a < 2 ^ 64 → b < 2 ^ 64 → less_than a b ≡ less a b
  -- 1.33
  pub size_is : (kind : ℕ) → size_of kind ≡ type_size kind
  -- 1.34
  pub size-one-of : (kind : ℕ) → (type_size kind ≡ 1) ⊎ ((type_size kind ≡ 2) ⊎ ((type_size kind ≡ 4) ⊎ (type_size kind ≡ 8)))
  -- 1.35, 1.45
  pub number-kind : (kind v : ℕ) → 7 ≤ kind → value_of kind v ≡ value_of 7 v
  -- 1.36, 1.46
  pub number-wide : (kind v : ℕ) → value_of kind v ≡ value_of kind (v % kinds.modulus kind)
  -- 1.37, 1.47
  pub number_is : (v kind : ℕ) → kind < 8 → (kind < 7 → v < modulus_of kind) → v < 2 ^ 64 → number_software v kind ≡ value_of kind v
  -- 1.38, 1.44
  pub narrow-is : (v : ℕ) → v < 2 ^ 64 → narrow_software v ≡ narrowed v
  -- 1.39
  pub integer-kind : (v kind : ℕ) (r : Res ℕ) → r ≡ cut kind v → 6 ≤ kind → r ≡ fail (refuse 9)
  pub to-integer-clauses : (v kind : ℕ) → v < 2 ^ 64 → kind < 6 → ToIntegerClauses v kind
