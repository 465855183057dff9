-- The first number below a bound that has a property.
-- Assumes nothing.
use Rattle.std.proofs.Common.{◌≡◌, ℕ, zero, suc, ◌<◌, ◌≤◌, Bool, true, false, cond, sym, refl, ◌∙◌, not-suc-le-zero, arith, le-ltb, lt-ltb}
use native.Mathlib.Decide.{dec_lt}
use Rattle.lerc_byte_image.specs.Symbols.{first_of}

-- one number more to look at
first_below : (n : ℕ) (p : ℕ → Bool) → first_of n p < n → first_of (suc n) p ≡ first_of n p
unfolding first_of
first_below n p l = rw (lt-ltb (first_of n p) n l)

first-last : (n : ℕ) (p : ℕ → Bool) → n ≤ first_of n p → first_of (suc n) p ≡ cond (p n) n (suc n)
unfolding first_of
first-last n p l = rw (le-ltb (first_of n p) n l)

-- where none has it
pub first-none : (n : ℕ) (p : ℕ → Bool) → ((k : ℕ) → k < n → p k ≡ false) → first_of n p ≡ n
unfolding first_of
first-none zero p f = refl
first-none (suc n) p f =
    let e = first-none n p (λ k l. f k (omega arith)) in
    rw (e, le-ltb n n (omega arith), f n (omega arith))

-- where one has it that is the first
pub first-is : (n k : ℕ) (p : ℕ → Bool) → k < n → p k ≡ true → ((i : ℕ) → i < k → p i ≡ false) → first_of n p ≡ k
first-is zero k p h e f = absurd (not-suc-le-zero h)
first-is (suc n) k p h e f = go (dec_lt k n) (λ l. first-is n k p l e f)
  where
    go : Dec (k < n) → (k < n → first_of n p ≡ k) → first_of (suc n) p ≡ k
    go (yes l) g = let d = g l in first_below n p (omega arith) ∙ d
    go (no l) g =
        let z : k ≡ n = omega arith in
        let d = first-none n p (λ i w. f i (omega arith)) in
        first-last n p (omega arith) ∙ rw (sym z, e)

-- what it is in any case
pub first-has : (n : ℕ) (p : ℕ → Bool) → first_of n p < n → p (first_of n p) ≡ true
first-has zero p h = absurd (not-suc-le-zero h)
first-has (suc n) p h = go (dec_lt (first_of n p) n) (first-has n p)
  where
    last : (t : Bool) → p n ≡ t → first_of (suc n) p ≡ cond t n (suc n) → p (first_of (suc n) p) ≡ true
    last true e d = rw (d) e
    last false e d = absurd (omega arith)

    go : Dec (first_of n p < n) → (first_of n p < n → p (first_of n p) ≡ true) → p (first_of (suc n) p) ≡ true
    go (yes l) g = rw (first_below n p l) (g l)
    go (no l) g = last (p n) refl (first-last n p (omega arith))

pub first-le : (n : ℕ) (p : ℕ → Bool) → first_of n p ≤ n
unfolding first_of
first-le zero p = omega arith
first-le (suc n) p = go (dec_lt (first_of n p) n) (p n) refl
  where
    go : Dec (first_of n p < n) → (t : Bool) → p n ≡ t → first_of (suc n) p ≤ suc n
    go (yes l) t e = let d = first_below n p l in omega arith
    go (no l) true e = let d = first-last n p (omega arith) in let z : first_of (suc n) p ≡ n = d ∙ rw (e) in omega arith
    go (no l) false e = let d = first-last n p (omega arith) in let z : first_of (suc n) p ≡ suc n = d ∙ rw (e) in omega arith

-- none before it has it
pub first-before : (n : ℕ) (p : ℕ → Bool) (k : ℕ) → k < first_of n p → p k ≡ false
first-before zero p k h = absurd (omega (arith, first-le zero p))
first-before (suc n) p k h = go (dec_lt (first_of n p) n) (p n) refl (first-before n p)
  where
    go : Dec (first_of n p < n) → (t : Bool) → p n ≡ t → ((k : ℕ) → k < first_of n p → p k ≡ false) → p k ≡ false
    go (yes l) t e g = let d = first_below n p l in g k (omega arith)
    go (no l) true e g =
        let z : first_of (suc n) p ≡ n = first-last n p (omega arith) ∙ rw (e) in
        g k (omega arith)
    go (no l) false e g = last (dec_lt k n)
      where
        last : Dec (k < n) → p k ≡ false
        last (yes w) = g k (omega arith)
        last (no w) =
            let z : first_of (suc n) p ≡ suc n = first-last n p (omega arith) ∙ rw (e) in
            let q : k ≡ n = omega arith in rw (q) e

-- where one has it, the first is below the bound
pub first-lt : (n k : ℕ) (p : ℕ → Bool) → k < n → p k ≡ true → first_of n p < n
first-lt n k p h e = go (dec_lt k (first_of n p))
  where
    go : Dec (k < first_of n p) → first_of n p < n
    go (yes l) = absurd (let f = first-before n p k l in let z : ◌≡◌ {A = ℕ} 0 1 = cc in omega arith)
    go (no l) = omega arith
