-- The words of a block of binary32 or binary64 numbers, all counts at once: storing one cannot fail.
-- Assumes nothing.
use mathlib.Core.Path.{◌≡◌, ◌∙◌, ap}
use mathlib.Core.List.{List}
use Prim.Native.Nat.{ℕ, ◌%◌, ◌^◌, ◌≤◌, min}
use native.Mathlib.Nat.{mod-eq_of_lt}
use native.Mathlib.Omega.{arith}
use borrow.Author.Tests.{le-ltb, ne_eqb}
use lib.ListN.{length, get_or}
use Rattle.lerc_words.specs.Res.{ok, each}
use Rattle.lerc_words.specs.Lists.{tabulate, over}
use Rattle.lerc_numeric.specs.Kinds.{narrowed}
use Rattle.lerc_numeric.specs.Steps.{step_of, mapped}
use Rattle.lerc_samples.specs.Samples.{stored}
use Rattle.lerc_block.specs.Steps.{step_word, StepsPut, CountsOf}
use Rattle.lerc_block.proofs.StepWords.{each-table}

pub stored-single : (kind w : ℕ) → kind ≡ 6 → stored kind w ≡ ok (narrowed w)
unfolding stored
stored-single kind w e = rw (e)

pub stored-double : (kind w : ℕ) → 6 ≤ kind → (kind ≡ 6 → ⊥) → stored kind w ≡ ok w
unfolding stored
stored-double kind w h d = rw (le-ltb kind 6 h, ne_eqb kind 6 d)

-- where a kind stores each number as `f` says
pub mapped-put : (kind error top offset bits : ℕ) (f : ℕ → ℕ) → ((w : ℕ) → stored kind w ≡ ok (f w))
    → (counts : List ℕ) → CountsOf bits counts → {value : ℕ} {old new : List ℕ} → length counts ≤ length old → value ≡ offset
    → new ≡ mapped (λ c. f (step_of value error top (c % 2 ^ bits))) counts old
    → StepsPut (each (step_word kind error top offset) counts) old new
mapped-put kind error top offset bits f stores counts few {value} {old} room ev e =
    record {
      words = tabulate (length counts) word;
      is = each-table (step_word kind error top offset) word counts (λ k l. step k);
      front = e ∙ ap (λ (n : ℕ). over (tabulate n word) old) (let z : min (length counts) (length old) ≡ length counts = omega (arith, room) in z);
    }
  where
    word : ℕ → ℕ
    word k = f (step_of value error top (get_or counts k 0 % 2 ^ bits))

    step : (k : ℕ) → step_word kind error top offset (get_or counts k 0) ≡ ok (word k)
    step k = rw (mod-eq_of_lt (few.below k), ev) (stores _)
