-- The arithmetic is right: the laws of `lerc_numeric`.
-- Assumes nothing.
use Prim.Native.Nat.{ℕ, ◌+◌, ◌-◌, ◌*◌, ◌/◌, ◌%◌, ◌^◌, ◌≤◌, ◌<◌}
use mathlib.Core.Path.{◌≡◌, ◌∙◌, sym, refl}
use mathlib.Core.Bool.{true, false, cond}
use native.Mathlib.Omega.{arith}
use native.Mathlib.Nat.{le_refl, le-div_iff_mul-le, div-lt_iff_lt-mul}
use borrow.Author.Tests.{ne_eqb}
use lib.Dec.{lit<}
use lib.Ieee.{size}
use Rattle.lerc_words.specs.Res.{ok}
use Rattle.lerc_words.proofs.Binding.{ok-is}
use Rattle.lerc_numeric.specs.Numeric.{negative, field, finite, infinite, mag, code, bits64, bits32, signed, sum, counted_sum, scaled, less, lesser}
use Rattle.lerc_numeric.specs.Kinds.{modulus, narrowed, whole, cut}
use Rattle.lerc_numeric.proofs.Infinity.{sum_left, sum-right, absorbs-both}
use Rattle.lerc_numeric.proofs.Sums.{sum_comm, sum_alike, sum-apart, sum-cancels, sum_zeros}
use Rattle.lerc_numeric.proofs.Right.{nearest64, even64, infinite64, finite64, nearest32, even32, infinite32, finite32, own64, own32}
use Rattle.lerc_numeric.proofs.Monotone.{less-sides, scaled_sign, sum-mono-right, less-asym, less-trans}
use Rattle.lerc_numeric.proofs.NearestSum.{sum-nearest, sum-even, sum-own}
use Rattle.lerc_numeric.proofs.ByMachine.{machine-sum, machine-scaled, machine-less}
use Rattle.lerc_numeric.proofs.Fits.{cut-integer, held_cut, cut-held}
use Rattle.lerc_numeric.proofs.RoundTrip.{narrow_wide}
use Rattle.lerc_overflow.proofs.Steps.{is_finite}
use Rattle.lerc_claims.specs.Arithmetic.{Rounding, Sums, NearestSums, InfiniteSums, Order, ByMachine, Conversions, Computes, Arithmetic}

sum-infinite : (a b : ℕ) → infinite a ≡ true → finite b ≡ true → (sum a b ≡ a) × (sum b a ≡ a)
sum-infinite a b i f = let x = absorbs-both a b i (is_finite b f) in (sum_left a b x, sum-right b a x)

sum-falls : (less 0x7FF0000000000001 0x7FF0000000000000 ≡ false) × (less (sum 0xFFEFFFFFFFFFFFFF 0x7FF0000000000001) (sum 0xFFEFFFFFFFFFFFFF 0x7FF0000000000000) ≡ true)
unfolding less sum counted_sum mag code size
sum-falls = (refl, refl)

scaled-is : (a q : ℕ) → scaled a q ≡ signed (negative a) (bits64 (2 * q * mag a))
unfolding scaled
scaled-is a q = refl

narrowed-is : (w : ℕ) → field w < 2047 → narrowed w ≡ cond (negative w) (2 ^ 31) 0 + bits32 (mag w)
unfolding narrowed
narrowed-is w l = rw (ne_eqb (field w) 2047 (λ e. let y : field w ≡ 2047 = e in absurd (omega arith)))

next : (n : ℕ) → n < n + 1
next n = omega arith

toward_zero : (kind w v : ℕ) → cut kind w ≡ ok v
    → (whole w * 2 ^ 1074 ≤ mag w) × (mag w < (whole w + 1) * 2 ^ 1074) × (v ≡ cond (negative w) ((modulus kind - whole w) % modulus kind) (whole w))
unfolding whole
toward_zero kind w v e = (
  (le-div_iff_mul-le (lit< tt)).0 (le_refl (mag w / 2 ^ 1074)),
  (div-lt_iff_lt-mul (lit< tt)).0 (next (mag w / 2 ^ 1074)),
  ok-is (sym e ∙ held_cut kind w (cut-held kind w v e)),
)

lesser-first : (a b : ℕ) → less a b ≡ true → lesser a b ≡ a
unfolding lesser
lesser-first a b e = rw (e)

lesser-second : (a b : ℕ) → less a b ≡ false → lesser a b ≡ b
unfolding lesser
lesser-second a b e = rw (e)

rounding : Rounding
rounding = record {
  nearest64 = nearest64;
  even64 = even64;
  infinite64 = infinite64;
  finite64 = finite64;
  nearest32 = nearest32;
  even32 = even32;
  infinite32 = infinite32;
  finite32 = finite32;
  own64 = own64;
  own32 = own32;
}

sums : Sums
sums = record {
  sum_alike = sum_alike;
  sum-apart = sum-apart;
  scaled-is = scaled-is;
  sum-cancels = sum-cancels;
  sum_zeros = sum_zeros;
  scaled_sign = scaled_sign;
  sum_comm = sum_comm;
  sum-grows = sum-mono-right;
}

nearest-sums : NearestSums
nearest-sums = record {
  sum-nearest = λ a b w fa fb fs. sum-nearest a b (is_finite a fa) (is_finite b fb) (is_finite (sum a b) fs) w;
  sum-even = λ a b w fa fb fs. sum-even a b (is_finite a fa) (is_finite b fb) (is_finite (sum a b) fs) w;
  sum-own = sum-own;
}

infinite-sums : InfiniteSums
infinite-sums = record { sum-infinite = sum-infinite; sum-falls = sum-falls }

order : Order
order = record {
  less-is = less-sides;
  lesser-first = lesser-first;
  lesser-second = lesser-second;
  less-asym = less-asym;
  less-trans = less-trans;
}

by-machine : ByMachine
by-machine = record {
  machine-sum = machine-sum;
  machine-scaled = λ a q h l. machine-scaled a q h (omega arith);
  machine-less = machine-less;
}

conversions : Conversions
conversions = record {
  narrowed-is = narrowed-is;
  cut-toward-zero = toward_zero;
  back-integer = cut-integer;
  back32 = narrow_wide;
}

computes : Computes
computes = record {
  plus = λ k a r x p. p;
  scale = λ k a r x p. p;
  narrow = λ k a r x p. p;
  number = λ k a r x p. p;
  to-integer = λ k a r x p. p;
  less = λ k a r x p. p;
  same = λ k a r x p. p;
  minimum = λ k a r x p. p;
  step = λ k a r x p. p;
  float-ready = λ k a r x p. p;
}

pub arithmetic : Arithmetic
arithmetic = record { rounding = rounding; sums = sums; nearest-sums = nearest-sums; infinite-sums = infinite-sums; order = order; by-machine = by-machine; conversions = conversions; computes = computes }
