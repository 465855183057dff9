-- The functions of packs refuse exactly where their tables say.
-- Assumes nothing.
use mathlib.Core.Path.{◌≡◌, refl}
use mathlib.Core.Logic.{◌↔◌}
use mathlib.Core.Bool.{Bool, true, false}
use mathlib.Core.List.{List}
use Prim.Native.Nat.{ℕ, suc}
use lib.ListN.{length}
use lib.Dec.{leb, ltb, eqb}
use borrow.Author.Tests.{ltb-false, leb-false, eqb-false, lt-leb, le-ltb, ne_eqb}
use Rattle.lerc_words.specs.declared.Refusal.{Refusal}
use Rattle.lerc_words.specs.Res.{Res, fail, ◌>>=◌, refuse, require}
use Rattle.lerc_words.specs.Lists.{all_to}
use Rattle.lerc_pack.specs.Contents.{entry_place, body_end, body_place, tiles_right}
use Rattle.lerc_pack.specs.Pack.{count_of, head_right, entry_part, zeros_right, entry_at, tile_of, pack_says, entry_says}
use Rattle.lerc_pack_writer.specs.Writing.{Given, given_right, adds_up, tile_given, pack_length, write_says}
use Rattle.lerc_theorems.proofs.Demands.{demand, not-refused}
use Rattle.lerc_c_theorems.specs.PackTable.{PackRefused, head-wrong, zeros-wrong, tiles-wrong, end-wrong, EntryOutside, no_tile, entry-outside, body-outside, WriteRefused, given-wrong, sum-wrong, given-tiles-wrong, room-short}

-- a test of 12 in front of what refuses 12
first-wrong : {A : Type 0} (t : Bool) (k : Bool → Res A) → t ≡ false → (require t 12 >>= k) ≡ fail (refuse 12)
first-wrong t k e = rw (e)

rest-wrong : {A : Type 0} (t : Bool) (k : Bool → Res A) → k true ≡ fail (refuse 12) → (require t 12 >>= k) ≡ fail (refuse 12)
rest-wrong true k e = e
rest-wrong false k e = refl

-- ---- opening

module _ (b : List ℕ) where
  pack-refused : {why : Refusal} → pack_says b ≡ fail why → PackRefused b why
  unfolding pack_says
  pack-refused e =
      demand (PackRefused b) (head_right b) 12 _ e head-wrong (λ _ e.
      demand (PackRefused b) (all_to (count_of b) (λ i. zeros_right (entry_part b i))) 12 _ e zeros-wrong (λ _ e.
      demand (PackRefused b) (tiles_right (count_of b) (tile_of b)) 12 _ e tiles-wrong (λ _ e.
      demand (PackRefused b) (eqb (body_place (count_of b) (tile_of b) (count_of b)) (length b)) 12 _ e (λ t. end-wrong (eqb-false _ _ t)) (λ _ e. not-refused e))))

  refused-pack : {why : Refusal} → PackRefused b why → pack_says b ≡ fail why
  unfolding pack_says
  refused-pack (head-wrong t) = first-wrong (head_right b) _ t
  refused-pack (zeros-wrong t) = rest-wrong (head_right b) _ (first-wrong (all_to (count_of b) (λ i. zeros_right (entry_part b i))) _ t)
  refused-pack (tiles-wrong t) =
      rest-wrong (head_right b) _ (rest-wrong (all_to (count_of b) (λ i. zeros_right (entry_part b i))) _ (first-wrong (tiles_right (count_of b) (tile_of b)) _ t))
  refused-pack (end-wrong t) =
      rest-wrong (head_right b) _ (rest-wrong (all_to (count_of b) (λ i. zeros_right (entry_part b i))) _ (rest-wrong (tiles_right (count_of b) (tile_of b)) _
      (first-wrong (eqb (body_place (count_of b) (tile_of b) (count_of b)) (length b)) _ (ne_eqb _ _ t))))

  pub pack-exactly : (why : Refusal) → (pack_says b ≡ fail why) ↔ PackRefused b why
  pack-exactly why = (pack-refused, refused-pack)

-- ---- one entry

module _ (b : List ℕ) (n i : ℕ) where
  entry-refused : {why : Refusal} → entry_says b n i ≡ fail why → EntryOutside b n i why
  unfolding entry_says
  entry-refused e =
      demand (EntryOutside b n i) (ltb i n) 12 _ e (λ t. no_tile (ltb-false _ _ t)) (λ _ e.
      demand (EntryOutside b n i) (leb (entry_place (suc i)) (length b)) 12 _ e (λ t. entry-outside (leb-false _ _ t)) (λ _ e.
      demand (EntryOutside b n i) (leb (body_end (entry_at b i)) (length b)) 12 _ e (λ t. body-outside (leb-false _ _ t)) (λ _ e. not-refused e)))

  refused-entry : {why : Refusal} → EntryOutside b n i why → entry_says b n i ≡ fail why
  unfolding entry_says
  refused-entry (no_tile l) = first-wrong (ltb i n) _ (le-ltb i n l)
  refused-entry (entry-outside l) = rest-wrong (ltb i n) _ (first-wrong (leb (entry_place (suc i)) (length b)) _ (lt-leb _ _ l))
  refused-entry (body-outside l) =
      rest-wrong (ltb i n) _ (rest-wrong (leb (entry_place (suc i)) (length b)) _ (first-wrong (leb (body_end (entry_at b i)) (length b)) _ (lt-leb _ _ l)))

  pub entry-exactly : (why : Refusal) → (entry_says b n i ≡ fail why) ↔ EntryOutside b n i why
  entry-exactly why = (entry-refused, refused-entry)

-- ---- writing

module _ (g : Given) (room : ℕ) where
  write-refused : {why : Refusal} → write_says g room ≡ fail why → WriteRefused g room why
  unfolding write_says
  write-refused e =
      demand (WriteRefused g room) (given_right g) 12 _ e given-wrong (λ a e.
      demand (WriteRefused g room) (adds_up g) 12 _ e sum-wrong (λ s e.
      demand (WriteRefused g room) (tiles_right (length g.rows) (tile_given g)) 12 _ e given-tiles-wrong (λ t e.
      demand (WriteRefused g room) (leb (pack_length g) room) 5 _ e (λ l. room-short a s t (leb-false _ _ l)) (λ _ e. not-refused e))))

  refused-write : {why : Refusal} → WriteRefused g room why → write_says g room ≡ fail why
  unfolding write_says
  refused-write (given-wrong t) = first-wrong (given_right g) _ t
  refused-write (sum-wrong t) = rest-wrong (given_right g) _ (first-wrong (adds_up g) _ t)
  refused-write (given-tiles-wrong t) = rest-wrong (given_right g) _ (rest-wrong (adds_up g) _ (first-wrong (tiles_right (length g.rows) (tile_given g)) _ t))
  refused-write (room-short a s t l) = rw (a, s, t, lt-leb (pack_length g) room l)

  pub write-exactly : (why : Refusal) → (write_says g room ≡ fail why) ↔ WriteRefused g room why
  write-exactly why = (write-refused, refused-write)

-- ---- the numbers of these tables

pub pack-in : {b : List ℕ} (P : ℕ → Type 0) → P 12 → (why : Refusal) → PackRefused b why → P why.number
pack-in P twelve why (head-wrong t) = twelve
pack-in P twelve why (zeros-wrong t) = twelve
pack-in P twelve why (tiles-wrong t) = twelve
pack-in P twelve why (end-wrong t) = twelve

pub outside-in : {b : List ℕ} {n i : ℕ} (P : ℕ → Type 0) → P 12 → (why : Refusal) → EntryOutside b n i why → P why.number
outside-in P twelve why (no_tile l) = twelve
outside-in P twelve why (entry-outside l) = twelve
outside-in P twelve why (body-outside l) = twelve

pub write-in : {g : Given} {room : ℕ} (P : ℕ → Type 0) → P 12 → P 5 → (why : Refusal) → WriteRefused g room why → P why.number
write-in P twelve five why (given-wrong t) = twelve
write-in P twelve five why (sum-wrong t) = twelve
write-in P twelve five why (given-tiles-wrong t) = twelve
write-in P twelve five why (room-short a s t l) = five
