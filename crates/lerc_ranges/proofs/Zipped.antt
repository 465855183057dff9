-- All pairs of two lists, as the library's `zip` and `all` go through them.
-- Assumes nothing.
use mathlib.Core.Path.{◌≡◌, sym}
use mathlib.Core.Bool.{Bool, true, false}
use mathlib.Core.List.{List}
use Prim.Native.Nat.{ℕ, ◌≤◌, ◌<◌}
use native.Mathlib.Omega.{arith}
use lib.ListN.{length, get_or, take, length-take}
use lib.Seq.{get_or-take}
use Rattle.std.specs.Bool.{MatchBool}
use Rattle.std.specs.List.{AllWithin, HoldsAt, zip}
use Rattle.std.proofs.lemmas.Slice.Zip.{length-zip, get_or-zip}
use Rattle.lerc_words.specs.Lists.{all_to}
use Rattle.lerc_words.proofs.Tables.{all_true, all-fails}

module _ (f : ℕ → ℕ → Bool) (n : ℕ) (xs ys : List ℕ) (h : n ≤ length xs) (k : n ≤ length ys) where
  abbrev pairs : List (ℕ × ℕ)
  pairs = zip (take n xs) (take n ys)

  many : length pairs ≡ n
  many = rw (length-zip) (simp (length-take) (omega arith))

  pair : (i : ℕ) → i < n → get_or pairs i (0, 0) ≡ (get_or xs i 0, get_or ys i 0)
  pair i l =
      let a : i < length (take n xs) = simp (length-take) (omega arith) in
      let b : i < length (take n ys) = simp (length-take) (omega arith) in
      rw (get_or-zip (take n xs) (take n ys) i (0, 0) a b, get_or-take, get_or-take)

  pub all-pairs : (r : Bool) → MatchBool r (AllWithin (λ p. f p.0 p.1 ≡ true) pairs 0 (length pairs)) ((i : ℕ) × (i < length pairs) × HoldsAt (λ p. f p.0 p.1 ≡ false) pairs i)
      → r ≡ all_to n (λ i. f (get_or xs i 0) (get_or ys i 0))
  all-pairs true m = sym (all_true n (λ i. f (get_or xs i 0) (get_or ys i 0)) (λ i l. rw (pair i l) at (m i (0, 0) (omega arith) (omega (arith, many)))))
  all-pairs false m = sym (all-fails n m.0 (λ i. f (get_or xs i 0) (get_or ys i 0)) (omega (arith, m.1, many)) (rw (pair m.0 (omega (arith, m.1, many))) at (m.2 (0, 0))))
