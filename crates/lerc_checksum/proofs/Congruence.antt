-- The sums modulo 65,535: a fold keeps what they are, so they are the sum of the words and the sum of the running sums.
-- Assumes nothing.
use mathlib.Core.Path.{◌≡◌, refl}
use mathlib.Core.Logic.{◌≢◌}
use mathlib.Core.List.{List}
use Prim.Native.Nat.{ℕ, zero, suc, ◌+◌, ◌/◌, ◌%◌, ◌<◌}
use native.Mathlib.Omega.{arith}
use borrow.Author.Tests.{eqb-true, eqb-false}
use lib.ListN.{length}
use lib.Dec.{eqb}
use Rattle.lerc_words.specs.Lists.{total}
use Rattle.lerc_words.proofs.Binding.{cond-elim}
use Rattle.lerc_checksum.specs.declared.Sums.{Sums}
use Rattle.lerc_checksum.specs.Checksum.{word, word_count, word_sum, running_sum, counted, fold, folded, group_words, sums_to, closed_to, with_last, last_sums}

-- a fold keeps the remainder
pub fold-keeps : (x : ℕ) → fold x % 65535 ≡ x % 65535
unfolding fold
fold-keeps x = omega arith

-- and makes no number zero but zero
pub fold-some : (x : ℕ) → 0 < x → 0 < fold x
unfolding fold
fold-some x h = omega arith

-- sums that are two numbers modulo 65,535, and never zero
pub record Modulo (t : Sums) (a b : ℕ) : Type 0 where
  pub first : t.first % 65535 ≡ a % 65535
  pub second : t.second % 65535 ≡ b % 65535
  pub some_first : 0 < t.first
  pub some-second : 0 < t.second

-- one word more
modulo-more : (t : Sums) (a b w : ℕ) → Modulo t a b → Modulo (counted t w) (a + w) (b + (a + w))
modulo-more t a b w h = record { first = omega arith; second = omega arith; some_first = omega arith; some-second = omega arith }

-- a fold
modulo-fold : (t : Sums) (a b : ℕ) → Modulo t a b → Modulo (folded t) a b
modulo-fold t a b h =
    record {
      first = omega (arith, fold-keeps t.first);
      second = omega (arith, fold-keeps t.second);
      some_first = fold-some t.first h.some_first;
      some-second = fold-some t.second h.some-second;
    }

-- after n words
sums-modulo : (s : List ℕ) (n : ℕ) → Modulo (sums_to s n) (word_sum s n) (running_sum s n)
unfolding sums_to total
sums-modulo s zero = record { first = refl; second = refl; some_first = omega arith; some-second = omega arith }
sums-modulo s (suc n) =
    let t : Sums = counted (sums_to s n) (word s n) in
    let h : Modulo t (word_sum s (suc n)) (running_sum s (suc n)) = modulo-more (sums_to s n) (word_sum s n) (running_sum s n) (word s n) (sums-modulo s n) in
    cond-elim (λ u. Modulo u (word_sum s (suc n)) (running_sum s (suc n))) (eqb (suc n % group_words) 0) (λ e. modulo-fold t _ _ h) (λ e. h)

-- after n words and a fold
closed-modulo : (s : List ℕ) (n : ℕ) → Modulo (closed_to s n) (word_sum s n) (running_sum s n)
unfolding closed_to
closed-modulo s n =
    let t : Sums = sums_to s n in
    let h : Modulo t (word_sum s n) (running_sum s n) = sums-modulo s n in
    cond-elim (λ u. Modulo u (word_sum s n) (running_sum s n)) (eqb (n % group_words) 0) (λ e. h) (λ e. modulo-fold t _ _ h)

-- before the last fold, an odd last byte counted
pub last-modulo : (s : List ℕ) → Modulo (last_sums s) (word_sum s (word_count s)) (running_sum s (word_count s))
unfolding with_last total
last-modulo s =
    let n : ℕ = length s / 2 in
    let t : Sums = closed_to s n in
    let h : Modulo t (word_sum s n) (running_sum s n) = closed-modulo s n in
    cond-elim (λ u. Modulo u (word_sum s (word_count s)) (running_sum s (word_count s))) (eqb (length s % 2) 0)
    (λ e.
    let z : length s % 2 ≡ 0 = eqb-true _ _ e in
    let c : word_count s ≡ n = omega arith in
    rw (c) h)
    (λ e.
    let z : length s % 2 ≢ 0 = eqb-false _ _ e in
    let c : word_count s ≡ suc n = omega arith in
    rw (c) (modulo-more t (word_sum s n) (running_sum s n) (word s n) h))
