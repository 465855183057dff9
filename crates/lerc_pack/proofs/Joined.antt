-- Laws of lists end to end, and of sums of their lengths.
-- Assumes nothing.
use mathlib.Core.Path.{◌≡◌, refl}
use mathlib.Core.List.{List, ◌++◌, append_assoc}
use Prim.Native.Nat.{ℕ, zero, suc, ◌+◌, ◌-◌, ◌*◌, ◌≤◌, ◌<◌}
use native.Mathlib.Omega.{arith}
use native.Mathlib.Nat.{not-suc-le-zero, suc-mul, mul-suc}
use native.Mathlib.Decide.{dec_lt}
use lib.ListN.{length, take, drop, length-append}
use lib.Seq.{take-append_seam, drop_at, drop-drop, take-add}
use Rattle.lerc_words.specs.Lists.{total}
use Rattle.lerc_pack.specs.Contents.{joined}

-- ---- sums

pub total-same : (n : ℕ) (f g : ℕ → ℕ) → ((i : ℕ) → i < n → f i ≡ g i) → total n f ≡ total n g
unfolding total
total-same zero f g h = refl
total-same (suc n) f g h = rw (h n (omega arith), total-same n f g (λ i l. h i (omega arith)))

-- at most so much each
pub total-most : (n c : ℕ) (f : ℕ → ℕ) → ((i : ℕ) → i < n → f i ≤ c) → total n f ≤ n * c
unfolding total
total-most zero c f h = omega arith
total-most (suc n) c f h = omega (arith, h n (omega arith), total-most n c f (λ i l. h i (omega arith)), suc-mul n c)

-- so many of one length
pub total-even : (n c : ℕ) (f : ℕ → ℕ) → ((i : ℕ) → f i ≡ c) → total n f ≡ c * n
unfolding total
total-even zero c f h = omega arith
total-even (suc n) c f h = omega (arith, h n, total-even n c f h, mul-suc c n)

-- ---- lists end to end

pub joined_same : (n : ℕ) (f g : ℕ → List ℕ) → ((i : ℕ) → i < n → f i ≡ g i) → joined n f ≡ joined n g
unfolding joined
joined_same zero f g h = refl
joined_same (suc n) f g h = rw (h n (omega arith), joined_same n f g (λ i l. h i (omega arith)))

pub length-joined : (n : ℕ) (part : ℕ → List ℕ) → length (joined n part) ≡ total n (λ i. length (part i))
unfolding joined total
length-joined zero part = refl
length-joined (suc n) part = rw (length-append, length-joined n part)

-- each part stands behind those before it
pub joined-part : (n : ℕ) (part : ℕ → List ℕ) (rest : List ℕ) (i : ℕ) → i < n → take (length (part i)) (drop (total i (λ k. length (part k))) (joined n part ++ rest)) ≡ part i
unfolding joined
joined-part zero part rest i h = absurd (not-suc-le-zero h)
joined-part (suc n) part rest i h = rw (append_assoc) (go (dec_lt i n) (joined-part n part (part n ++ rest) i))
  where
    here : ℕ → ℕ → List ℕ
    here i n = take (length (part i)) (drop (total i (λ k. length (part k))) (joined n part ++ (part n ++ rest)))

    go : Dec (i < n) → (i < n → here i n ≡ part i) → here i n ≡ part i
    go (yes l) f = f l
    go (no l) f =
        let e : i ≡ n = omega arith in
        rw (e, drop_at (joined n part) (part n ++ rest) _ (length-joined n part)) (take-append_seam (part n) rest)

-- ---- parts of one list, each beginning where the one before it ends

module _ (s l : ℕ → ℕ) where
  -- the last of them ends behind all their lengths
  pub starts-total : (n : ℕ) → ((i : ℕ) → i < n → s (suc i) ≡ s i + l i) → s n ≡ s 0 + total n l
  unfolding total
  starts-total zero h = omega arith
  starts-total (suc n) h = omega (arith, h n (omega arith), starts-total n (λ i k. h i (omega arith)))

  pub parts-joined : (n : ℕ) (b : List ℕ) → ((i : ℕ) → i < n → s (suc i) ≡ s i + l i) → joined n (λ i. take (l i) (drop (s i) b)) ≡ take (s n - s 0) (drop (s 0) b)
  unfolding joined
  parts-joined zero b h = let e : s 0 - s 0 ≡ 0 = omega arith in rw (e)
  parts-joined (suc n) b h =
      let g : (i : ℕ) → i < n → s (suc i) ≡ s i + l i = λ i k. h i (omega arith) in
      let t : s n ≡ s 0 + total n l = starts-total n g in
      let d : s (suc n) - s 0 ≡ s n - s 0 + l n = omega (arith, h n (omega arith)) in
      let at : s 0 + (s n - s 0) ≡ s n = omega arith in
      rw (parts-joined n b g, d, take-add (s n - s 0) (l n) (drop (s 0) b), drop-drop, at)
