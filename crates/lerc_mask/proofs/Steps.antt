-- What a run says, what follows from it, and the bytes that it gives.
-- Assumes nothing.
use mathlib.Core.Path.{◌≡◌, refl, ap}
use mathlib.Core.Bool.{◌&&◌}
use mathlib.Core.List.{List, ◌∷◌, ◌++◌}
use Prim.{tt}
use Prim.Native.Nat.{ℕ, zero, suc, ◌+◌, ◌-◌, ◌*◌, ◌≤◌, ◌<◌}
use native.Mathlib.Decide.{dec_lt}
use native.Mathlib.Omega.{arith}
use borrow.Author.Tests.{lt-ltb, le-ltb, le-leb, lt-leb, eq-eqb, ne_eqb, ltb-true, leb-true, eqb-true}
use lib.Dec.{leb, ltb, eqb}
use lib.ListN.{length, get_or, take, drop, replicate, length-take, length-drop, length-replicate, get_or-replicate, get_or-append, get_or-eq_default}
use lib.Seq.{take-take, get_or-take, get_or-drop, get_or-append-add}
use lib.Count.{ones}
use Rattle.lerc_words.specs.Res.{little}
use Rattle.lerc_words.proofs.Binding.{cond-elim, and_is}
use Rattle.lerc_words.proofs.Little.{Bytes, Stands, little-lt}
use Rattle.lerc_mask.specs.declared.Step.{Step}
use Rattle.lerc_mask.specs.declared.Step.TheVariants.{Copy, Repeat, End, Wrong}
use Rattle.lerc_mask.specs.Mask.{copy_at, repeat_at, end_at, signed_at, step_at}
use Rattle.lerc_mask.specs.Passes.{ones_all, StepFits}
use Rattle.lerc_mask.proofs.Tally.{all-repeat}

-- ---- what a run says

pub step-short : (s : List ℕ) (at left : ℕ) → length s < at + 2 → step_at s at left ≡ Wrong
unfolding step_at
step-short s at left h = rw (lt-leb (at + 2) (length s) h)

module _ (s : List ℕ) (at left n : ℕ) (h : Stands 2 s at n) where
  pub step_end : n ≡ 32768 → step_at s at left ≡ end_at (length s) (at + 2) left
  unfolding step_at signed_at
  step_end e = rw (le-leb (at + 2) (length s) h.inside, ← h.value, eq-eqb n 32768 e)

  pub step-copy : n < 32768 → step_at s at left ≡ copy_at (length s) (at + 2) left n
  unfolding step_at signed_at
  step-copy e =
      let d : n ≡ 32768 → ⊥ = λ z. omega arith in
      rw (le-leb (at + 2) (length s) h.inside, ← h.value, ne_eqb n 32768 d, lt-ltb n 32768 e)

  pub step-repeat : (n ≡ 32768 → ⊥) → 32768 ≤ n → step_at s at left ≡ repeat_at (length s) (at + 2) left (65536 - n)
  unfolding step_at signed_at
  step-repeat d f = rw (le-leb (at + 2) (length s) h.inside, ← h.value, ne_eqb n 32768 d, le-ltb n 32768 f)

-- ---- what follows of the section and of what is left

-- as StepFits; that a repeated byte comes at least once is due to bytes being bytes
abbrev pub Holds : Type 0 → ℕ → ℕ → ℕ → Step → Type 0
Holds B len at left (Copy n) = (1 ≤ n) × (at + 2 + n ≤ len) × (n ≤ left)
Holds B len at left (Repeat n) = (B → 1 ≤ n) × (at + 3 ≤ len) × (n ≤ left)
Holds B len at left End = (at + 2 ≡ len) × (left ≡ 0)
Holds B len at left Wrong = Unit

module _ (B : Type 0) (len at left : ℕ) where
  holds-copy : (n : ℕ) → Holds B len at left (copy_at len (at + 2) left n)
  unfolding copy_at
  holds-copy n = cond-elim (Holds B len at left) (ltb 0 n && leb (at + 2 + n) len && leb n left) (λ e.
      let (e, f) = and_is (ltb 0 n && leb (at + 2 + n) len) (leb n left) e in
      let (e, g) = and_is (ltb 0 n) (leb (at + 2 + n) len) e in
      (ltb-true _ _ e, leb-true _ _ g, leb-true _ _ f)) (λ _. tt)

  holds-repeat : (n : ℕ) → (B → 1 ≤ n) → Holds B len at left (repeat_at len (at + 2) left n)
  unfolding repeat_at
  holds-repeat n h = cond-elim (Holds B len at left) (ltb (at + 2) len && leb n left) (λ e.
      let (e, f) = and_is (ltb (at + 2) len) (leb n left) e in
      let g = ltb-true (at + 2) len e in
      (h, omega arith, leb-true _ _ f)) (λ _. tt)

  holds-end : Holds B len at left (end_at len (at + 2) left)
  unfolding end_at
  holds-end = cond-elim (Holds B len at left) (eqb (at + 2) len && eqb left 0) (λ e.
      let (e, f) = and_is (eqb (at + 2) len) (eqb left 0) e in
      (eqb-true _ _ e, eqb-true _ _ f)) (λ _. tt)

  holds_fits : (t : Step) → B → Holds B len at left t → StepFits len at left t
  holds_fits (Copy n) b h = h
  holds_fits (Repeat n) b h = (h.0 b, h.1, h.2)
  holds_fits End b h = h
  holds_fits Wrong b h = h

pub step-holds : (s : List ℕ) (at left : ℕ) → Holds (Bytes s) (length s) at left (step_at s at left)
unfolding step_at signed_at
step-holds s at left =
    let len = length s in
    let n = little 2 s at in
    let P = Holds (Bytes s) len at left in
    let some : Bytes s → 1 ≤ 65536 - n = λ b. omega (arith, little-lt 2 s at b) in
    cond-elim P (leb (at + 2) len) (λ _. cond-elim P (eqb n 32768) (λ _. holds-end (Bytes s) len at left)
    (λ _. cond-elim P (ltb n 32768) (λ _. holds-copy (Bytes s) len at left n) (λ _. holds-repeat (Bytes s) len at left (65536 - n) some))) (λ _. tt)

pub step_fits : (s : List ℕ) (at left : ℕ) → Bytes s → StepFits (length s) at left (step_at s at left)
step_fits s at left b = holds_fits (Bytes s) (length s) at left (step_at s at left) b (step-holds s at left)

pub step-told : (s : List ℕ) (at left : ℕ) {r : Step} → Bytes s → r ≡ step_at s at left → (r ≡ step_at s at left) × StepFits (length s) at left r
step-told s at left b e = (e, rw (e) (step_fits s at left b))

-- ---- the bytes of a run

pub length-copied : (s : List ℕ) (from n : ℕ) → from + n ≤ length s → length (take n (drop from s)) ≡ n
length-copied s from n h = simp (length-take, length-drop) (omega arith)

pub all-copied : (s : List ℕ) (from n : ℕ) → ones_all (take (n - 1) (take n (drop from s))) ≡ ones_all (take (n - 1) (drop from s))
all-copied s from n = let h : n - 1 ≤ n = omega arith in rw (take-take (n - 1) n (drop from s) h)

pub last-copied : (s : List ℕ) (from n : ℕ) → 1 ≤ n → get_or (take n (drop from s)) (n - 1) 0 ≡ get_or s (from + (n - 1)) 0
last-copied s from n h = let k : n - 1 < n = omega arith in rw (get_or-take n (drop from s) (n - 1) 0 k, get_or-drop)

take-repeat : (k n b : ℕ) → k ≤ n → take k (replicate n b) ≡ replicate k b
take-repeat zero n b h = refl
take-repeat (suc k) zero b h = absurd (omega arith)
take-repeat (suc k) (suc n) b h = ap (λ (l : List ℕ). b ∷ l) (take-repeat k n b (omega arith))

pub all-repeated : (n b : ℕ) → ones_all (take (n - 1) (replicate n b)) ≡ (n - 1) * ones b
all-repeated n b = rw (take-repeat (n - 1) n b (omega arith)) (all-repeat (n - 1) b)

pub last-repeated : (n b : ℕ) → 1 ≤ n → get_or (replicate n b) (n - 1) 0 ≡ b
last-repeated n b h = get_or-replicate n (n - 1) b 0 (omega arith)

-- ---- they are bytes

inside : (xs : List ℕ) → ((i : ℕ) → i < length xs → get_or xs i 0 < 256) → Bytes xs
inside xs h i = go (dec_lt i (length xs))
  where
    go : Dec (i < length xs) → get_or xs i 0 < 256
    go (yes l) = h i l
    go (no l) =
        let k : length xs ≤ i = omega arith in
        rw (get_or-eq_default xs 0 k) (omega arith)

pub bytes-part : (s : List ℕ) (from n : ℕ) → Bytes s → Bytes (take n (drop from s))
bytes-part s from n b = inside (take n (drop from s)) (λ i l.
    let k : i < n = omega (arith, length-take n (drop from s)) in
    rw (get_or-take n (drop from s) i 0 k, get_or-drop) (b (from + i)))

pub bytes-repeat : (n b : ℕ) → b < 256 → Bytes (replicate n b)
bytes-repeat n b h = inside (replicate n b) (λ i l. rw (get_or-replicate n i b 0 (rw (length-replicate) at l)) h)

pub bytes-append : (xs ys : List ℕ) → Bytes xs → Bytes ys → Bytes (xs ++ ys)
bytes-append xs ys p q i = go (dec_lt i (length xs))
  where
    go : Dec (i < length xs) → get_or (xs ++ ys) i 0 < 256
    go (yes l) = rw (get_or-append xs ys 0 i l) (p i)
    go (no l) =
        let e : i ≡ length xs + (i - length xs) = omega arith in
        rw (e, get_or-append-add) (q (i - length xs))
