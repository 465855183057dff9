-- Whether a list begins with some entries: entry by entry, as a loop compares them, and each entry where it does.
-- Assumes nothing.
use mathlib.Core.Path.{◌≡◌, ◌∙◌, sym}
use mathlib.Core.Bool.{Bool, true, false, ◌&&◌, and-true, and-false, and_assoc}
use mathlib.Core.Logic.{◌≢◌}
use mathlib.Core.List.{List, [], ◌∷◌}
use Prim.Native.Nat.{ℕ, zero, suc}
use native.Mathlib.Omega.{arith}
use lib.ListN.{length, get_or}
use lib.Dec.{leb, eqb, leb-suc-suc, leb-zero}
use borrow.Author.Tests.{eq-eqb, ne_eqb}
use Rattle.lerc_words.specs.Lists.{all_to}
use Rattle.lerc_words.proofs.Tables.{all_none, all-suc, all-fails}
use Rattle.lerc_slices.specs.Slices.{begins_with}

-- a test of every place, the first one apart
all_first : (n : ℕ) (p : ℕ → Bool) → all_to (suc n) p ≡ (p 0 && all_to n (λ i. p (suc i)))
all_first zero p = all-suc zero p ∙ rw (all_none p, all_none (λ i. p (suc i))) (sym (and-true (p 0)))
all_first (suc n) p = all-suc (suc n) p ∙ rw (all_first n p, all-suc n (λ i. p (suc i))) (and_assoc (p 0) (all_to n (λ i. p (suc i))) (p (suc n)))

pub begins-none : (s : List ℕ) → begins_with [] s ≡ true
unfolding begins_with
begins-none s = rw (leb-zero (length s)) (all_none _)

-- the first entry differs
pub begins-not : (x y : ℕ) (xs ys : List ℕ) → y ≢ x → begins_with (x ∷ xs) (y ∷ ys) ≡ false
unfolding begins_with
begins-not x y xs ys d =
    rw (all-fails (suc (length xs)) 0 (λ i. eqb (get_or (y ∷ ys) i 0) (get_or (x ∷ xs) i 0)) (omega arith) (ne_eqb y x d))
    (and-false (leb (suc (length xs)) (suc (length ys))))

-- it is the same: the others decide
pub begins-more : (x y : ℕ) (xs ys : List ℕ) → y ≡ x → begins_with (x ∷ xs) (y ∷ ys) ≡ begins_with xs ys
unfolding begins_with
begins-more x y xs ys e = rw (all_first (length xs) (λ i. eqb (get_or (y ∷ ys) i 0) (get_or (x ∷ xs) i 0)), eq-eqb y x e, leb-suc-suc (length xs) (length ys))
