-- What `read` and `stored` answer, by what they were answered.
-- Assumes nothing.
use mathlib.Core.Path.{◌≡◌}
use mathlib.Core.List.{List}
use Prim.Native.Nat.{ℕ, ◌≤◌, ◌<◌}
use borrow.Author.Tests.{lt-ltb, le-ltb, ne_eqb}
use Rattle.lerc_words.specs.Res.{Res, ok, fail, marked, word_says}
use Rattle.lerc_words.specs.declared.Refusal.{Refusal}
use Rattle.lerc_words.proofs.Little.{read_ok, read-cut, read-why}
use Rattle.lerc_numeric.specs.Kinds.{type_size, value_of, narrowed, cut}
use Rattle.lerc_numeric.proofs.Integers.{size-le}
use Rattle.lerc_samples.specs.Samples.{sample_at, stored}

-- ---- a word that was read, or refused; n is the kind's size
module _ (kind n : ℕ) (s : List ℕ) (at : ℕ) (en : n ≡ type_size kind) {r : Res ℕ} (e : r ≡ marked at (word_says s at n)) where
  said : r ≡ marked at (word_says s at (type_size kind))
  said = rw (en) at e

  pub sample-ok : (w x : ℕ) → r ≡ ok w → x ≡ value_of kind w → ok x ≡ marked at (sample_at kind s at)
  unfolding sample_at
  sample-ok w x d ex = rw (read_ok s at (type_size kind) (size-le kind) said d, ex)

  pub sample-no : (q : Refusal) → r ≡ fail q → fail q ≡ marked at (sample_at kind s at)
  unfolding sample_at
  sample-no q d = rw (read-why s at (type_size kind) (size-le kind) said d, read-cut s at (type_size kind) (size-le kind) said d)

-- ---- a value cut to a kind of integers, or refused
pub stored_cut : (kind v : ℕ) {r : Res ℕ} → kind < 6 → r ≡ cut kind v → r ≡ stored kind v
unfolding stored
stored_cut kind v h e = rw (lt-ltb kind 6 h) e

-- ---- the other kinds
pub stored-six : (kind v x : ℕ) → kind ≡ 6 → x ≡ narrowed v → ok x ≡ stored kind v
unfolding stored
stored-six kind v x h e = rw (h, e)

pub stored_last : (kind v : ℕ) → 6 ≤ kind → (kind ≡ 6 → ⊥) → ok v ≡ stored kind v
unfolding stored
stored_last kind v h k = rw (le-ltb kind 6 h, ne_eqb kind 6 k)
