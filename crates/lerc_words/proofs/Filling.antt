-- A list that a loop fills from the front, with f k in turn k.
-- Assumes nothing.
use mathlib.Core.Path.{◌≡◌, ◌∙◌, refl}
use mathlib.Core.List.{List, ◌++◌, append-nil}
use Prim.Native.Nat.{ℕ, ◌+◌, ◌≤◌, ◌<◌}
use native.Mathlib.Omega.{arith}
use lib.ListN.{length, set, drop}
use lib.Seq.{drop-length}
use Rattle.lerc_words.specs.Lists.{from, tabulate}
use Rattle.lerc_words.proofs.Tables.{table_more, length-table}

pub record Filling (f : ℕ → ℕ) (n k : ℕ) (old now : List ℕ) : Type 0 where
  pub few : k ≤ n
  pub room : n ≤ length old
  pub is : now ≡ tabulate k f ++ drop k old

pub filling-none : (f : ℕ → ℕ) (n : ℕ) (old : List ℕ) → n ≤ length old → Filling f n 0 old old
unfolding from
filling-none f n old h = record { few = omega arith; room = h; is = refl }

module _ {f : ℕ → ℕ} {n k : ℕ} {old now : List ℕ} (t : Filling f n k old now) where
  pub filling-length : length now ≡ length old
  filling-length = rw t.is (length-table k f old (omega (arith, t.few, t.room)))

  pub filling-more : (v : ℕ) → k < n → v ≡ f k → Filling f n (k + 1) old (set now k v)
  filling-more v h e =
      let l : k < length old = omega (arith, t.room) in
      record { few = omega arith; room = t.room; is = rw (e, t.is) (table_more k f old l) }

  pub filling-done : n ≤ k → now ≡ tabulate n f ++ drop n old
  filling-done h = let e : k ≡ n = omega (arith, t.few) in rw (← e) t.is

-- all of it
pub filling-whole : {f : ℕ → ℕ} {k : ℕ} {old now : List ℕ} → Filling f (length old) k old now → length old ≤ k → now ≡ tabulate (length old) f
filling-whole {f} {k} {old} t h = filling-done t h ∙ rw (drop-length, append-nil)
