-- The witnesses, computed.
-- Assumes nothing.
use Prim.Native.Nat.{ℕ, ◌+◌, ◌*◌, ◌<◌}
use mathlib.Core.Path.{◌≡◌, ◌∙◌, sym, refl}
use mathlib.Core.Logic.{◌≢◌}
use mathlib.Core.Bool.{true, ◌||◌}
use mathlib.Core.List.{List}
use native.Mathlib.Omega.{arith}
use native.Mathlib.Decide.{dec_lt}
use borrow.Author.Tests.{ltb-true, eqb-true, ne_eqb}
use lib.ListN.{length, get_or, get_or-eq_default}
use lib.Dec.{eqb, ltb}
use Rattle.lerc_words.specs.Lists.{all_to}
use Rattle.lerc_words.proofs.Tables.{all-each}
use Rattle.lerc_checksum.specs.Checksum.{word, word_count, word_sum, running_sum, half, by_the_words, fold, folded, sums_to, closed_to, with_last, joined, last_sums, checksum, exceptional}
use Rattle.lerc_checksum.specs.Laws.{Bytes, Swapped}
use Rattle.lerc_checksum.specs.Witness.{Differs, Missed, Witnesses, encoded, decoded, before, changed}
use Rattle.lerc_checksum.proofs.Congruence.{last-modulo}
use Rattle.lerc_checksum.proofs.Sentence.{half-same}
use Rattle.lerc_checksum.proofs.Changes.{word_none}

-- numbers that are tested to be below 256 are bytes
bytes : (s : List ℕ) → all_to (length s) (λ i. ltb (get_or s i 0) 256) ≡ true → Bytes s
bytes s h i = go (dec_lt i (length s))
  where
    go : Dec (i < length s) → get_or s i 0 < 256
    go (yes l) = ltb-true _ _ (all-each (length s) i (λ i. ltb (get_or s i 0) 256) h l)
    go (no l) = let e : get_or s i 0 ≡ 0 = get_or-eq_default s 0 (omega arith) in omega arith

-- the sentence's checksum, by the sums before the last fold
words_last : (s : List ℕ) → by_the_words s ≡ half (last_sums s).second * 65536 + half (last_sums s).first
unfolding by_the_words
words_last s =
    let h = last-modulo s in
    rw (half-same (last_sums s).first (word_sum s (word_count s)) h.first, half-same (last_sums s).second (running_sum s (word_count s)) h.second)

-- so these sums settle all the rest
differs : (s : List ℕ) (a b : ℕ) → all_to (length s) (λ i. ltb (get_or s i 0) 256) ≡ true → last_sums s ≡ record { first = a; second = b }
    → (eqb a 131071 || eqb b 131071 || eqb b 196606 || eqb b 196607) ≡ true → Differs s a b (joined (folded (record { first = a; second = b }))) (half b * 65536 + half a)
unfolding checksum exceptional
differs s a b h e f = record { bytes = bytes s h; sums = e; is-exceptional = rw (e) f; rule = rw (e); sentence = words_last s ∙ rw (e) }

-- lists whose words are tested
swapped : (i j : ℕ) (s t : List ℕ) → i < j → length s ≡ length t → word t i ≡ word s j → word t j ≡ word s i
    → all_to (word_count s) (λ k. eqb k i || (eqb k j || eqb (word s k) (word t k))) ≡ true → Swapped i j s t
swapped i j s t o l a b h = record { long = l; order = o; first = a; second = b; same = λ k p q. go k p q (dec_lt k (word_count s)) }
  where
    go : (k : ℕ) → k ≢ i → k ≢ j → Dec (k < word_count s) → word s k ≡ word t k
    go k p q (yes d) = eqb-true _ _ (rw (ne_eqb k i p, ne_eqb k j q) at (all-each (word_count s) k (λ k. eqb k i || (eqb k j || eqb (word s k) (word t k))) h d))
    go k p q (no d) = word_none s k (omega arith) ∙ sym (word_none t k (omega arith))

-- the sums of `before`
last-before : last_sums before ≡ record { first = 130835; second = 196607 }
unfolding word fold sums_to closed_to with_last
last-before = refl

-- the sums of `changed`
last-changed : last_sums changed ≡ record { first = 65300; second = 65536 }
unfolding word fold sums_to closed_to with_last
last-changed = refl

-- 65,534 changed places with a zero
missed : Missed 358 359 before changed
unfolding word fold joined all_to exceptional checksum
missed =
    record {
      bytes-before = bytes before refl;
      bytes_after = bytes changed refl;
      swapped = swapped 358 359 before changed (omega arith) refl refl refl refl;
      is-exceptional = rw (last-before);
      is-usual = rw (last-changed);
      apart = refl;
      same = rw (last-before, last-changed);
    }

-- one for each of the four, the blob, and the change that is missed
pub witnesses : Witnesses
unfolding word half fold sums_to closed_to with_last joined all_to encoded decoded
witnesses =
    record {
      first-131071 = differs _ 131071 196862 refl refl refl;
      second-131071 = differs _ 98175 131071 refl refl refl;
      second-196606 = differs _ 130835 196606 refl refl refl;
      second-196607 = differs _ 130835 196607 refl refl refl;
      written = differs _ 86354 131071 refl refl refl;
      taken = differs _ 91616 131071 refl refl refl;
      missed = missed;
    }
