-- What a list is that a loop has filled with one value.
-- Assumes nothing.
use mathlib.Core.Path.{◌≡◌, ◌∙◌, ap, refl}
use mathlib.Core.List.{List, ◌∷◌, append-nil}
use Prim.Native.Nat.{ℕ, zero, suc, ◌≤◌}
use lib.ListN.{length, replicate}
use lib.Seq.{drop-length}
use Rattle.lerc_words.specs.Lists.{from, tabulate}
use Rattle.lerc_words.proofs.Filling.{Filling, filling-done}

-- ---- what the table is: one word everywhere

from-constant : (n i v : ℕ) → from n i (λ j. v) ≡ replicate n v
unfolding from
from-constant zero i v = refl
from-constant (suc n) i v = ap (λ (l : List ℕ). v ∷ l) (from-constant n (suc i) v)

pub tabulate-constant : (n v : ℕ) → tabulate n (λ j. v) ≡ replicate n v
tabulate-constant n v = from-constant n 0 v

-- ---- a loop that has ended

pub filling-filled : {v n k : ℕ} {old now : List ℕ} → Filling (λ j. v) n k old now → n ≤ k → n ≡ length old → now ≡ replicate (length old) v
filling-filled {v} {n} {k} {old} t h e =
    filling-done t h ∙ rw (e, drop-length, append-nil) (tabulate-constant (length old) v)
