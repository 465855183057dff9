-- How large the sums get: within a group, and after its fold.
-- Assumes nothing.
use mathlib.Core.Path.{◌≡◌}
use mathlib.Core.Logic.{◌≢◌}
use mathlib.Core.List.{List}
use Prim.Native.Nat.{ℕ, zero, suc, ◌+◌, ◌-◌, ◌*◌, ◌/◌, ◌%◌, ◌≤◌, ◌<◌}
use native.Mathlib.Omega.{arith}
use native.Mathlib.Nat.{add-zero, add-suc, suc-mul}
use borrow.Author.Tests.{eqb-true, eqb-false, eq-eqb}
use lib.ListN.{length, get_or, get_or-eq_default}
use lib.Dec.{eqb}
use Rattle.lerc_words.proofs.Binding.{cond-elim}
use Rattle.lerc_checksum.specs.declared.Sums.{Sums}
use Rattle.lerc_checksum.specs.Checksum.{word, counted, fold, folded, group_words, sums_to, closed_to, with_last, last_sums}
use Rattle.lerc_checksum.specs.Parts.{up_to, Small}
use Rattle.lerc_checksum.specs.Laws.{Bytes}

-- a word of two bytes is below 65,536
pub word_lt : (s : List ℕ) → Bytes s → (k : ℕ) → word s k < 65536
unfolding word
word_lt s b k = omega (arith, b (2 * k), b (2 * k + 1))

-- the word of an odd last byte is at most 65,280
pub last-word-le : (s : List ℕ) → Bytes s → length s % 2 ≢ 0 → word s (length s / 2) ≤ 65280
unfolding word
last-word-le s b h =
    let n : ℕ = length s / 2 in
    let z : get_or s (2 * n + 1) 0 ≡ 0 = get_or-eq_default s 0 (omega arith) in
    omega (arith, b (2 * n))

-- ---- within a group

pub up_to-add : (n m : ℕ) → up_to (n + m) ≡ up_to n + m * n + up_to m
up_to-add n zero = rw (add-zero n) (omega arith)
up_to-add n (suc m) = rw (add-suc n m) (omega (arith, up_to-add n m, suc-mul m n))

pub up_to-mono : (n m : ℕ) → n ≤ m → up_to n ≤ up_to m
up_to-mono n m h =
    let e : n + (m - n) ≡ m = omega arith in
    rw (e) at (let x : up_to n ≤ up_to (n + (m - n)) = omega (arith, up_to-add n (m - n)) in x)

-- of a group at most 64,620
up_to-le : (n : ℕ) → n ≤ group_words → up_to n ≤ 64620
up_to-le n h = up_to-mono n 359 h

-- sums within a group, n words after a fold
pub record Within (n : ℕ) (t : Sums) : Type 0 where
  pub first : t.first ≤ 65895 + n * 65535
  pub second : t.second ≤ 130517 + n * 65895 + up_to n * 65535

-- right after a fold no word is counted yet
pub within_none : (t : Sums) → Small t → Within 0 t
within_none t h = record { first = omega arith; second = omega arith }

-- and what is within none is small
pub within-small : (t : Sums) → Within 0 t → Small t
within-small t h = record { first = omega arith; second = omega arith }

-- one word more
pub within_more : (n w : ℕ) (t : Sums) → w < 65536 → Within n t → Within (suc n) (counted t w)
within_more n w t l h = record { first = omega arith; second = omega arith }

-- a group's sums are below 2^32
pub within-second : (n : ℕ) (t : Sums) → n ≤ group_words → Within n t → t.second ≤ 4258658522
within-second n t l h = omega (arith, up_to-le n l)

-- so its fold leaves small sums
pub within-fold : (n : ℕ) (t : Sums) → n ≤ group_words → Within n t → Small (folded t)
unfolding fold
within-fold n t l h = record { first = omega arith; second = omega (arith, within-second n t l h) }

-- after n words the sums are those of n modulo 359 words after a fold
pub sums-within : (s : List ℕ) → Bytes s → (n : ℕ) → Within (n % group_words) (sums_to s n)
unfolding sums_to
sums-within s b zero = record { first = omega arith; second = omega arith }
sums-within s b (suc n) =
    let t : Sums = counted (sums_to s n) (word s n) in
    let w : Within (suc (n % group_words)) t = within_more (n % group_words) (word s n) (sums_to s n) (word_lt s b n) (sums-within s b n) in
    cond-elim (Within (suc n % group_words)) (eqb (suc n % group_words) 0)
    (λ e.
    let z : suc n % group_words ≡ 0 = eqb-true _ _ e in
    rw (z) (within_none (folded t) (within-fold (suc (n % group_words)) t (omega arith) w)))
    (λ e.
    let q : suc n % group_words ≢ 0 = eqb-false _ _ e in
    let z : suc (n % group_words) ≡ suc n % group_words = omega arith in
    rw (z) at w)

-- the sums of n whole words, folded, are small
pub closed-small : (s : List ℕ) → Bytes s → (n : ℕ) → Small (closed_to s n)
unfolding closed_to
closed-small s b n =
    let t : Sums = sums_to s n in
    let w : Within (n % group_words) t = sums-within s b n in
    cond-elim Small (eqb (n % group_words) 0)
    (λ e. let z : n % group_words ≡ 0 = eqb-true _ _ e in within-small t (rw (z) at w))
    (λ e. within-fold (n % group_words) t (omega arith) w)

-- sums before the last fold
pub record Last (t : Sums) : Type 0 where
  pub first : t.first ≤ 131175
  pub second : t.second ≤ 261692

-- an odd last byte adds at most 65,280 to the first, and that first to the second
pub last-le : (s : List ℕ) → Bytes s → Last (last_sums s)
unfolding with_last
last-le s b =
    let n : ℕ = length s / 2 in
    let t : Sums = closed_to s n in
    let h : Small t = closed-small s b n in
    cond-elim Last (eqb (length s % 2) 0)
    (λ e. record { first = omega arith; second = omega arith })
    (λ e. let w : word s n ≤ 65280 = last-word-le s b (eqb-false _ _ e) in record { first = omega arith; second = omega arith })

-- of an even number of bytes they are small
pub last-small : (s : List ℕ) → Bytes s → length s % 2 ≡ 0 → Small (last_sums s)
unfolding with_last
last-small s b e = rw (eq-eqb _ _ e) (closed-small s b (length s / 2))
