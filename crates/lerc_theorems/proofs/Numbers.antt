-- The numbers and places of refusals: the tables are the promises'.
-- Assumes nothing.
use mathlib.Core.Path.{◌≡◌, ◌∙◌, sym, ap, refl}
use mathlib.Core.Logic.{◌↔◌}
use mathlib.Core.Bool.{Bool, true, false}
use mathlib.Core.List.{List, [], ◌∷◌}
use Prim.Native.Nat.{ℕ, min}
use native.Mathlib.Omega.{arith}
use lib.Dec.{leb}
use borrow.Author.Tests.{leb-true, leb-false, le-leb, lt-leb}
use Rattle.lerc_words.specs.declared.Refusal.{Refusal}
use Rattle.lerc_words.specs.Res.{Res, ok, fail, ◌>>=◌, refuse, require}
use Rattle.lerc_words.proofs.Binding.{bind-no, bind-fail}
use Rattle.lerc_words.proofs.Marking.{marked-fails}
use Rattle.lerc_header.specs.Limits.{depth_limit}
use Rattle.lerc_header.specs.Header.{header_says, open_says}
use Rattle.lerc_mask.specs.Mask.{mask_bytes, mask_field, coded, decoded}
use Rattle.lerc_mask.proofs.Runs.{coded-six}
use Rattle.lerc_ranges.specs.declared.Ranges.{Ranges}
use Rattle.lerc_validity.specs.Validity.{MaskInForce, reused, new, which}
use Rattle.lerc_ranges.specs.Ranges.{pairs_right, pairs_says, pairs_said, constants_said}
use Rattle.lerc_image.specs.Paint.{among}
use Rattle.lerc_theorems.specs.Table.{HeaderRefused, RunsRefused, runs-room, runs-breach, PairsRefused, pair-wrong}
use Rattle.lerc_theorems.specs.Numbers.{Exactly, ExactlyNumbered, PlacesExactly, NumbersExactly, NumbersOnly}
use Rattle.lerc_theorems.proofs.Given.{at_in, word_in, integer-in, kind-in, sample_in, stored-in, plan-in, counts-in, held_in, header-in, runs-in, prepare-in, find-in, pairs-in, ranges-in-in, read-ranges-in, constants-in, planned-in, block-plan-in, read-block-in, sweep-in, walk-in, fill-in, check-in, own_in, tiles-in, check-image-in, whole_in, publish-in}
use Rattle.lerc_theorems.proofs.Masks.{coded-wrong, wrong-coded}
use Rattle.lerc_theorems.proofs.Wrong.{pairs-not, not-pairs}
use Rattle.lerc_theorems.proofs.Demands.{demand, not-refused, marked-exactly}
use Rattle.lerc_theorems.proofs.Headers.{held-exactly, header-exactly, prepare-exactly, find-exactly, ranges-in-exactly, read-ranges-exactly}
use Rattle.lerc_theorems.proofs.Blocks.{word-exactly, sample-exactly, integer-exactly, stored-exactly, kind-exactly, constants-exactly, plan-exactly, counts-exactly, read-block-exactly, planned-exactly, block-plan-exactly}
use Rattle.lerc_theorems.proofs.Images.{check-image-exactly}
use Rattle.lerc_theorems.proofs.Entries.{sweep-exactly, walk-exactly, fill-exactly, check-exactly, own-exactly, tiles-exactly, whole-exactly, publish-exactly}

-- ---- from a promise to its definition

by_way : {A B C : Type 0} → (A ↔ B) → (B ↔ C) → A ↔ C
by_way p q = (λ a. q.0 (p.0 a), λ c. p.1 (q.1 c))

-- an answer is a refusal exactly where what it says is one
told : {A : Type 0} {n : Refusal} {r m : Res A} → r ≡ m → (r ≡ fail n) ↔ (m ≡ fail n)
told p = (λ e. sym p ∙ e, λ e. p ∙ e)

-- what is told of an accepted value refuses nothing
behind : {A B : Type 0} (m : Res A) (f : A → B) (n : Refusal) → ((m >>= λ a. ok (f a)) ≡ fail n) ↔ (m ≡ fail n)
behind m f n = (bind-fail m f, λ e. bind-no _ e)

behind-which : (m : Res MaskInForce) (n : Refusal) → ((m >>= which) ≡ fail n) ↔ (m ≡ fail n)
behind-which m n = (there m, λ e. bind-no which e)
  where
    there : (m : Res MaskInForce) → (m >>= which) ≡ fail n → m ≡ fail n
    there (ok (reused m)) e = not-refused e
    there (ok (new m)) e = not-refused e
    there (fail r) e = cc

open-exactly : (b : List ℕ) (n : Refusal) → (open_says b ≡ fail n) ↔ HeaderRefused b n
unfolding open_says
open-exactly b n = by_way (behind (header_says b) _ n) (header-exactly b n)

pairs-exactly : (depth : ℕ) (r : Ranges) (n : Refusal) → (pairs_says depth r ≡ fail n) ↔ PairsRefused depth r n
unfolding pairs_says
pairs-exactly depth r n = (there (pairs_right (min depth depth_limit) r) refl, back)
  where
    there : (t : Bool) → pairs_right (min depth depth_limit) r ≡ t → require t 7 ≡ fail n → PairsRefused depth r n
    there true d e = not-refused e
    there false d e = demand (PairsRefused depth r) false 7 (λ t. require t 7) e (λ _. pair-wrong (pairs-not (min depth depth_limit) r d)) (λ t _. absurd (let z : ◌≡◌ {A = ℕ} 0 1 = cc in omega arith))

    back : {n : Refusal} → PairsRefused depth r n → pairs_says depth r ≡ fail n
    back (pair-wrong d) = rw (not-pairs (min depth depth_limit) r d)

module _ (s : List ℕ) (count valid room : ℕ) where
  runs-refused : {n : Refusal} → decoded s count valid room ≡ fail n → RunsRefused s count valid room n
  unfolding decoded
  runs-refused {n} e =
      demand (RunsRefused s count valid room) (leb (mask_bytes count) room) 5 _ e (λ t. runs-room (leb-false _ _ t)) (λ t e.
      let (q, d, p) = marked-fails mask_field (coded s count valid) e in
      let z : q ≡ refuse 6 = coded-six s count valid q d in
      rw (p, z) (runs-breach (leb-true _ _ t) (coded-wrong s count valid (rw (z) at d))))

  refused-runs : {n : Refusal} → RunsRefused s count valid room n → decoded s count valid room ≡ fail n
  unfolding decoded
  refused-runs (runs-room l) = rw (lt-leb _ _ l)
  refused-runs (runs-breach l c) = rw (le-leb _ _ l, wrong-coded s count valid c)

behind-told : (m : Res (List ℕ)) (n : Refusal) → (constants_said m ≡ fail n) ↔ (m ≡ fail n)
behind-told (ok words) n = (λ e. absurd (let z : ◌≡◌ {A = ℕ} 0 1 = cc in omega arith), λ e. absurd (let z : ◌≡◌ {A = ℕ} 0 1 = cc in omega arith))
behind-told (fail why) n = (λ e. let z : why ≡ n = cc in ap fail z, λ e. let z : why ≡ n = cc in ap fail z)

behind-pairs : (m : Res Bool) (n : Refusal) → (pairs_said m ≡ fail n) ↔ (m ≡ fail n)
behind-pairs (ok right) n = (λ e. absurd (let z : ◌≡◌ {A = ℕ} 0 1 = cc in omega arith), λ e. absurd (let z : ◌≡◌ {A = ℕ} 0 1 = cc in omega arith))
behind-pairs (fail why) n = (λ e. let z : why ≡ n = cc in ap fail z, λ e. let z : why ≡ n = cc in ap fail z)

-- ---- the tables are exact

pub places-exactly : PlacesExactly
places-exactly = record {
  word = λ k a r x p n. by_way (told p) (marked-exactly _ _ (word-exactly _ _ _) n);
  to-integer = λ k a r x p n. by_way (told p) (integer-exactly _ _ n);
  offset-kind = λ k a r x p n. by_way (told p) (kind-exactly _ _ n);
  read-sample = λ k a r x p n. by_way (told p) (marked-exactly _ _ (sample-exactly _ _ _) n);
  stored = λ k a r x p n. by_way (told p) (stored-exactly _ _ n);
  inspect = λ k a r x p n. by_way (told p) (marked-exactly _ _ (plan-exactly _ _) n);
  decode-plan = λ k a r x p n. by_way (told p.says) (by_way (behind _ _ n) (planned-exactly _ _ n));
  check-plan = λ k a r x p n. by_way (told p) (by_way (behind _ _ n) (planned-exactly _ _ n));
  decode-counts = λ k a r x p n. by_way (told p.says) (by_way (behind _ _ n) (marked-exactly _ _ (counts-exactly _ _) n));
  check-counts = λ k a r x p n. by_way (told p) (by_way (behind _ _ n) (marked-exactly _ _ (counts-exactly _ _) n));
  held = λ k a r x p n. by_way (told p) (held-exactly _ _ n);
  open-blob = λ k a r x p n. by_way (told p) (open-exactly _ n);
  read-header = λ k a r x p n. by_way (told p) (header-exactly _ n);
  decode-mask = λ k a r x p n. by_way (told p.says) (by_way (behind _ _ n) (runs-refused _ _ _ _, refused-runs _ _ _ _));
  prepare-mask = λ k a r x p n. by_way (told p.says) (by_way (behind-which _ n) (prepare-exactly _ _ _ _ _ n));
  find-mask = λ k a r x p n. by_way (told p.says) (by_way (behind-which _ n) (find-exactly _ _ _ _ _ n));
  compare-runs = λ k a r x p n. by_way (told p.says) (by_way (behind _ _ n) (runs-refused _ _ _ _, refused-runs _ _ _ _));
  compare-mask = λ k a r x p n. by_way (told p.says) (by_way (behind _ _ n) (find-exactly _ _ _ _ _ n));
  pairs = λ k a r x p n. by_way (told p) (by_way (behind-pairs _ n) (pairs-exactly _ _ n));
  ranges_in = λ k a r x p n. by_way (told p) (ranges-in-exactly _ _ n);
  read-ranges = λ k a r x p n. by_way (told p) (read-ranges-exactly _ _ n);
  convert = λ k a r x p n. by_way (told p) (by_way (behind-told _ n) (constants-exactly _ _ _ n));
  inspect-block = λ k a r x p n. by_way (told p) (marked-exactly _ _ (block-plan-exactly _ _ _ _ _) n);
  block-end = λ k a r x p n. by_way (told p) (by_way (behind _ _ n) (marked-exactly _ _ (block-plan-exactly _ _ _ _ _) n));
  read-block = λ k a r x p n. by_way (told p.says) (by_way (behind _ _ n) (marked-exactly _ _ (read-block-exactly _ _ _ _ _ _ _) n));
  check-block = λ k a r x p n. by_way (told p) (by_way (behind _ _ n) (marked-exactly _ _ (read-block-exactly _ _ _ _ _ _ _) n));
  read-sweep = λ k a r x p n. by_way (told p) (sweep-exactly _ _ _ _ n);
  walk = λ k a r x p n. by_way (told p.says) (by_way (behind _ _ n) (walk-exactly _ _ _ _ _ n));
  fill = λ k a r x p n. by_way (told p.says) (by_way (behind _ _ n) (fill-exactly _ _ _ _ _ _ _ n));
  check-tiles = λ k a r x p n. by_way (told p) (by_way (behind _ _ n) (check-exactly _ _ _ _ _ n));
  check-own-tiles = λ k a r x p n. by_way (told p) (by_way (behind _ _ n) (own-exactly _ _ _ _ n));
  decode-tiles = λ k a r x p n. by_way (told p.says) (by_way (behind _ _ n) (tiles-exactly _ _ _ _ _ _ _ n));
  check-huffman = λ k a r x p n. by_way (told p) (by_way (behind _ _ n) (check-image-exactly _ _ _ n));
  stage = λ k a r x p n. by_way (told p.says) (by_way (behind _ _ n) (whole-exactly _ _ _ n));
  publish = λ k a r x p n. by_way (told p.says) (by_way (behind _ _ n) (publish-exactly _ _ _ _ n));
  read = λ k a r x p n. by_way (told p.says) (by_way (behind _ _ n) (whole-exactly _ _ _ n));
}

-- and so the numbers are: a refusal with a number is the table's, with the same number
pub by_number : {Given When : Refusal → Type 0} → Exactly Given When → ExactlyNumbered Given When
by_number same n = (λ w. (w.0, (same w.0).0 w.1, w.2), λ w. (w.0, (same w.0).1 w.1, w.2))

pub numbers-exactly : NumbersExactly
numbers-exactly = record {
  word = λ k a r x p. by_number (places-exactly.word k a r x p);
  to-integer = λ k a r x p. by_number (places-exactly.to-integer k a r x p);
  offset-kind = λ k a r x p. by_number (places-exactly.offset-kind k a r x p);
  read-sample = λ k a r x p. by_number (places-exactly.read-sample k a r x p);
  stored = λ k a r x p. by_number (places-exactly.stored k a r x p);
  inspect = λ k a r x p. by_number (places-exactly.inspect k a r x p);
  decode-plan = λ k a r x p. by_number (places-exactly.decode-plan k a r x p);
  check-plan = λ k a r x p. by_number (places-exactly.check-plan k a r x p);
  decode-counts = λ k a r x p. by_number (places-exactly.decode-counts k a r x p);
  check-counts = λ k a r x p. by_number (places-exactly.check-counts k a r x p);
  held = λ k a r x p. by_number (places-exactly.held k a r x p);
  open-blob = λ k a r x p. by_number (places-exactly.open-blob k a r x p);
  read-header = λ k a r x p. by_number (places-exactly.read-header k a r x p);
  decode-mask = λ k a r x p. by_number (places-exactly.decode-mask k a r x p);
  prepare-mask = λ k a r x p. by_number (places-exactly.prepare-mask k a r x p);
  find-mask = λ k a r x p. by_number (places-exactly.find-mask k a r x p);
  compare-runs = λ k a r x p. by_number (places-exactly.compare-runs k a r x p);
  compare-mask = λ k a r x p. by_number (places-exactly.compare-mask k a r x p);
  pairs = λ k a r x p. by_number (places-exactly.pairs k a r x p);
  ranges_in = λ k a r x p. by_number (places-exactly.ranges_in k a r x p);
  read-ranges = λ k a r x p. by_number (places-exactly.read-ranges k a r x p);
  convert = λ k a r x p. by_number (places-exactly.convert k a r x p);
  inspect-block = λ k a r x p. by_number (places-exactly.inspect-block k a r x p);
  block-end = λ k a r x p. by_number (places-exactly.block-end k a r x p);
  read-block = λ k a r x p. by_number (places-exactly.read-block k a r x p);
  check-block = λ k a r x p. by_number (places-exactly.check-block k a r x p);
  read-sweep = λ k a r x p. by_number (places-exactly.read-sweep k a r x p);
  walk = λ k a r x p. by_number (places-exactly.walk k a r x p);
  fill = λ k a r x p. by_number (places-exactly.fill k a r x p);
  check-tiles = λ k a r x p. by_number (places-exactly.check-tiles k a r x p);
  check-own-tiles = λ k a r x p. by_number (places-exactly.check-own-tiles k a r x p);
  decode-tiles = λ k a r x p. by_number (places-exactly.decode-tiles k a r x p);
  check-huffman = λ k a r x p. by_number (places-exactly.check-huffman k a r x p);
  stage = λ k a r x p. by_number (places-exactly.stage k a r x p);
  publish = λ k a r x p. by_number (places-exactly.publish k a r x p);
  read = λ k a r x p. by_number (places-exactly.read k a r x p);
}

-- ---- no other numbers

abbrev In : List ℕ → ℕ → Type 0
In numbers n = among numbers n ≡ true

pub numbers-only : NumbersOnly
numbers-only = record {
  word = λ k a r x p n e. at_in (In (1 ∷ [])) (λ j. word_in (In (1 ∷ [])) refl) ((places-exactly.word k a r x p n).0 e);
  to-integer = λ k a r x p n e. integer-in (In (9 ∷ [])) refl ((places-exactly.to-integer k a r x p n).0 e);
  offset-kind = λ k a r x p n e. kind-in (In (8 ∷ [])) refl ((places-exactly.offset-kind k a r x p n).0 e);
  read-sample = λ k a r x p n e. at_in (In (1 ∷ [])) (λ j. sample_in (In (1 ∷ [])) refl) ((places-exactly.read-sample k a r x p n).0 e);
  stored = λ k a r x p n e. stored-in (In (9 ∷ [])) refl ((places-exactly.stored k a r x p n).0 e);
  inspect = λ k a r x p n e. at_in (In (1 ∷ 8 ∷ [])) (λ j. plan-in (In (1 ∷ 8 ∷ [])) refl refl) ((places-exactly.inspect k a r x p n).0 e);
  decode-plan = λ k a r x p n e. planned-in (In (8 ∷ [])) refl ((places-exactly.decode-plan k a r x p n).0 e);
  check-plan = λ k a r x p n e. planned-in (In (8 ∷ [])) refl ((places-exactly.check-plan k a r x p n).0 e);
  decode-counts = λ k a r x p n e. at_in (In (1 ∷ 8 ∷ [])) (λ j. counts-in (In (1 ∷ 8 ∷ [])) refl refl) ((places-exactly.decode-counts k a r x p n).0 e);
  check-counts = λ k a r x p n e. at_in (In (1 ∷ 8 ∷ [])) (λ j. counts-in (In (1 ∷ 8 ∷ [])) refl refl) ((places-exactly.check-counts k a r x p n).0 e);
  held = λ k a r x p n e. held_in (In (1 ∷ 3 ∷ 4 ∷ [])) refl refl refl ((places-exactly.held k a r x p n).0 e);
  open-blob = λ k a r x p n e. header-in (In (1 ∷ 2 ∷ 3 ∷ 4 ∷ 13 ∷ [])) refl refl refl refl refl ((places-exactly.open-blob k a r x p n).0 e);
  read-header = λ k a r x p n e. header-in (In (1 ∷ 2 ∷ 3 ∷ 4 ∷ 13 ∷ [])) refl refl refl refl refl ((places-exactly.read-header k a r x p n).0 e);
  decode-mask = λ k a r x p n e. runs-in (In (5 ∷ 6 ∷ [])) refl refl ((places-exactly.decode-mask k a r x p n).0 e);
  prepare-mask = λ k a r x p n e. prepare-in (In (1 ∷ 3 ∷ 4 ∷ 5 ∷ 6 ∷ [])) refl refl refl refl refl ((places-exactly.prepare-mask k a r x p n).0 e);
  find-mask = λ k a r x p n e. find-in (In (1 ∷ 5 ∷ 6 ∷ [])) refl refl refl ((places-exactly.find-mask k a r x p n).0 e);
  compare-runs = λ k a r x p n e. runs-in (In (5 ∷ 6 ∷ [])) refl refl ((places-exactly.compare-runs k a r x p n).0 e);
  compare-mask = λ k a r x p n e. find-in (In (1 ∷ 5 ∷ 6 ∷ [])) refl refl refl ((places-exactly.compare-mask k a r x p n).0 e);
  pairs = λ k a r x p n e. pairs-in (In (7 ∷ [])) refl ((places-exactly.pairs k a r x p n).0 e);
  ranges_in = λ k a r x p n e. ranges-in-in (In (1 ∷ 4 ∷ 7 ∷ [])) refl refl refl ((places-exactly.ranges_in k a r x p n).0 e);
  read-ranges = λ k a r x p n e. read-ranges-in (In (1 ∷ 3 ∷ 4 ∷ 7 ∷ [])) refl refl refl refl ((places-exactly.read-ranges k a r x p n).0 e);
  convert = λ k a r x p n e. constants-in (In (9 ∷ [])) refl ((places-exactly.convert k a r x p n).0 e);
  inspect-block = λ k a r x p n e. at_in (In (1 ∷ 8 ∷ [])) (λ j. block-plan-in (In (1 ∷ 8 ∷ [])) refl refl) ((places-exactly.inspect-block k a r x p n).0 e);
  block-end = λ k a r x p n e. at_in (In (1 ∷ 8 ∷ [])) (λ j. block-plan-in (In (1 ∷ 8 ∷ [])) refl refl) ((places-exactly.block-end k a r x p n).0 e);
  read-block = λ k a r x p n e. at_in (In (1 ∷ 8 ∷ 9 ∷ [])) (λ j. read-block-in (In (1 ∷ 8 ∷ 9 ∷ [])) refl refl refl) ((places-exactly.read-block k a r x p n).0 e);
  check-block = λ k a r x p n e. at_in (In (1 ∷ 8 ∷ 9 ∷ [])) (λ j. read-block-in (In (1 ∷ 8 ∷ 9 ∷ [])) refl refl refl) ((places-exactly.check-block k a r x p n).0 e);
  read-sweep = λ k a r x p n e. sweep-in (In (1 ∷ 8 ∷ [])) refl refl ((places-exactly.read-sweep k a r x p n).0 e);
  walk = λ k a r x p n e. walk-in (In (1 ∷ 3 ∷ 4 ∷ 5 ∷ 7 ∷ 8 ∷ 9 ∷ 10 ∷ [])) refl refl refl refl refl refl refl refl ((places-exactly.walk k a r x p n).0 e);
  fill = λ k a r x p n e. fill-in (In (1 ∷ 3 ∷ 4 ∷ 5 ∷ 7 ∷ 8 ∷ 9 ∷ 11 ∷ [])) refl refl refl refl refl refl refl refl ((places-exactly.fill k a r x p n).0 e);
  check-tiles = λ k a r x p n e. check-in (In (1 ∷ 3 ∷ 4 ∷ 5 ∷ 8 ∷ 9 ∷ [])) refl refl refl refl refl refl ((places-exactly.check-tiles k a r x p n).0 e);
  check-own-tiles = λ k a r x p n e. own_in (In (1 ∷ 3 ∷ 4 ∷ 8 ∷ 9 ∷ [])) refl refl refl refl refl ((places-exactly.check-own-tiles k a r x p n).0 e);
  decode-tiles = λ k a r x p n e. tiles-in (In (1 ∷ 3 ∷ 4 ∷ 5 ∷ 8 ∷ 9 ∷ [])) refl refl refl refl refl refl ((places-exactly.decode-tiles k a r x p n).0 e);
  check-huffman = λ k a r x p n e. check-image-in (In (1 ∷ 3 ∷ 4 ∷ 8 ∷ [])) refl refl refl refl ((places-exactly.check-huffman k a r x p n).0 e);
  stage = λ k a r x p n e. whole_in (In (1 ∷ 2 ∷ 3 ∷ 4 ∷ 5 ∷ 6 ∷ 7 ∷ 8 ∷ 9 ∷ 13 ∷ [])) refl refl refl refl refl refl refl refl refl refl ((places-exactly.stage k a r x p n).0 e);
  publish = λ k a r x p n e. publish-in (In (1 ∷ 2 ∷ 3 ∷ 4 ∷ 5 ∷ 6 ∷ 7 ∷ 8 ∷ 9 ∷ 13 ∷ [])) refl refl refl refl refl refl refl refl refl refl ((places-exactly.publish k a r x p n).0 e);
  read = λ k a r x p n e. whole_in (In (1 ∷ 2 ∷ 3 ∷ 4 ∷ 5 ∷ 6 ∷ 7 ∷ 8 ∷ 9 ∷ 13 ∷ [])) refl refl refl refl refl refl refl refl refl refl ((places-exactly.read k a r x p n).0 e);
}
