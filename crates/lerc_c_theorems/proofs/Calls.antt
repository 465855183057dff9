-- What the promise of an entry for C says of a call.
-- Assumes nothing.
use mathlib.Core.Path.{◌≡◌, ◌∙◌, sym, ap}
use mathlib.Core.Bool.{Bool}
use mathlib.Core.List.{List}
use Prim.Native.Nat.{ℕ}
use lib.ListN.{length}
use Rattle.lerc_words.specs.declared.Refusal.{Refusal}
use Rattle.lerc_words.specs.Res.{Res}
use Rattle.lerc_samples.specs.Samples.{stored}
use Rattle.lerc_header.specs.declared.Header.{Header}
use Rattle.lerc_validity.specs.Validity.{MaskInForce}
use Rattle.lerc_ranges.specs.declared.Ranges.{Ranges}
use Rattle.lerc.specs.Meaning.{Meaning}
use Rattle.lerc.specs.Read.{Lent, Masked}
use Rattle.lerc.specs.Stage.{StageRead, Publishing, PublishTold}
use Rattle.lerc_pack.specs.declared.Entry.{Entry}
use Rattle.lerc_pack.specs.Pack.{pack_says, entry_says}
use Rattle.lerc_pack_writer.specs.Writing.{Given, PackWritten}
use Rattle.lerc_c.specs.Entries.{placing, Returned, header_entry, HeaderDone, prepare_entry, PrepareDone, ranges_entry, RangesDone, Walking, walk_entry, WalkDone, Filling, fill_entry, FillDone, read_entry, masked_entry, ReadDone, stage_entry, staged_mask_entry, StageDone, publish_entry, PublishDone, stored_entry, StoredDone}
use Rattle.lerc_c.specs.Packs.{pack_entry, PackOpenDone, entry_entry, PackEntryDone, pack_write_entry, PackWriteDone}
use Rattle.lerc_theorems.proofs.Calls.{promise}
use Rattle.lerc_c_theorems.specs.Calls.{Told, HeaderInC, PrepareInC, RangesInC, WalkInC, FillInC, ReadInC, StageInC, PublishInC, StageCall, PublishCall, StoredInC, StoredCall, PackOpenInC, PackEntryInC, PackWriteInC, PackOpenCall, PackEntryCall, PackWriteCall}
use Rattle.lerc.specs.declared.Staged.{Staged}

-- what an entry does, and what is told of it
abbrev pub Entered : (Refusal → Type 0) → Told → Type 0
Entered Done t = Returned Done t.number t.place₀ t.place₁

pub header-done : {b : List ℕ} {t : Told} {header₀ header₁ : List ℕ} → HeaderInC b t header₀ header₁ → Entered (λ why. HeaderDone (placing t.place₀ (header_entry b header₀)) why header₀ header₁) t
header-done = promise (λ g n x. Returned (λ why. HeaderDone (placing g.2 (header_entry g.0 g.1)) why g.1 x.0) n g.2 x.1) (λ k a r x p. p)

pub prepare-done : {b header : List ℕ} {reuse : Bool} {kept : List ℕ} {t : Told} {spare₀ spare₁ said₀ said₁ : List ℕ} → PrepareInC b header reuse kept t spare₀ spare₁ said₀ said₁
    → Entered (λ why. PrepareDone (placing t.place₀ (prepare_entry b header reuse kept spare₀ said₀)) why spare₀ spare₁ said₀ said₁) t
prepare-done =
    promise (λ g n x. Returned (λ why. PrepareDone (placing g.6 (prepare_entry g.0 g.1 g.2 g.3 g.4 g.5)) why g.4 x.0 g.5 x.1) n g.6 x.2) (λ k a r x p. p)

pub ranges-done : {b header : List ℕ} {t : Told} {ranges₀ ranges₁ : List ℕ} → RangesInC b header t ranges₀ ranges₁
    → Entered (λ why. RangesDone (placing t.place₀ (ranges_entry b header ranges₀)) why ranges₀ ranges₁) t
ranges-done = promise (λ g n x. Returned (λ why. RangesDone (placing g.3 (ranges_entry g.0 g.1 g.2)) why g.2 x.0) n g.3 x.1) (λ k a r x p. p)

pub walk-done : {b header ranges mask : List ℕ} {t : Told} {list₀ list₁ said₀ said₁ : List ℕ} → WalkInC b header ranges mask t list₀ list₁ said₀ said₁
    → Entered (λ why. WalkDone (placing t.place₀ (walk_entry b header ranges mask list₀ said₀)) why list₀ list₁ said₀ said₁) t
walk-done = promise (λ g n x. Returned (λ why. WalkDone (placing g.6 (walk_entry g.0 g.1 g.2 g.3 g.4 g.5)) why g.4 x.0 g.5 x.1) n g.6 x.2) (λ k a r x p. p)

pub fill_done : {b header ranges mask list : List ℕ} {block : ℕ} {t : Told} {image₀ image₁ said₀ said₁ : List ℕ} → FillInC b header ranges mask list block t image₀ image₁ said₀ said₁
    → Entered (λ why. FillDone (placing t.place₀ (fill_entry b header ranges mask list block image₀ said₀)) mask block why image₀ image₁ said₀ said₁) t
fill_done =
    promise (λ g n x. Returned (λ why. FillDone (placing g.8 (fill_entry g.0 g.1 g.2 g.3 g.4 g.5 g.6 g.7)) g.3 g.5 why g.6 x.0 g.7 x.1) n g.8 x.2) (λ k a r x p. p)

pub read_done : {b : List ℕ} {reuse : Bool} {t : Told} {old new : Lent} {said₀ said₁ : List ℕ} → ReadInC b reuse t old new said₀ said₁
    → Entered (λ why. ReadDone (placing t.place₀ (read_entry b reuse old said₀)) (placing t.place₀ (masked_entry b reuse old said₀)) why old new said₀ said₁) t
read_done =
    promise (λ g n x. Returned (λ why. ReadDone (placing g.4 (read_entry g.0 g.1 g.2 g.3)) (placing g.4 (masked_entry g.0 g.1 g.2 g.3)) why g.2 x.0 g.3 x.1) n g.4 x.2) (λ k a r x p. p)

pub stage-done : {b : List ℕ} {reuse : Bool} {t : Told} {old : Lent} {spare₁ list₁ staged₀ staged₁ : List ℕ} → StageInC b reuse t old spare₁ list₁ staged₀ staged₁
    → Entered (λ why. StageDone (placing t.place₀ (stage_entry b reuse old staged₀)) (placing t.place₀ (staged_mask_entry b reuse old staged₀)) why old spare₁ list₁ staged₀ staged₁) t
stage-done =
    promise (λ g n x. Returned (λ why. StageDone (placing g.4 (stage_entry g.0 g.1 g.2 g.3)) (placing g.4 (staged_mask_entry g.0 g.1 g.2 g.3)) why g.2 x.0 x.1 g.3 x.2) n g.4 x.3) (λ k a r x p. p)

pub publish-done : {b : List ℕ} {reuse : Bool} {staged : List ℕ} {t : Told} {old : Lent} {kept₁ image₁ said₀ said₁ : List ℕ} → PublishInC b reuse staged t old kept₁ image₁ said₀ said₁
    → Entered (λ why. PublishDone (placing t.place₀ (publish_entry b reuse staged old said₀)) why old kept₁ image₁ said₀ said₁) t
publish-done = promise (λ g n x. Returned (λ why. PublishDone (placing g.5 (publish_entry g.0 g.1 g.2 g.3 g.4)) why g.3 x.0 x.1 g.4 x.2) n g.5 x.3) (λ k a r x p. p)

pub stage-call : {b : List ℕ} {reuse : Bool} {answer : Res Staged} {old : Lent} {spare list : List ℕ} → StageCall b reuse answer old spare list → StageRead b reuse answer old spare list
stage-call = promise (λ g r x. StageRead g.0 g.1 r g.2 x.0 x.1) (λ k a r x p. p)

pub publish-call : {b : List ℕ} {reuse : Bool} {given : Res Staged} {answer : Res PublishTold} {old : Lent} {kept image : List ℕ} → PublishCall b reuse given answer old kept image
    → Publishing b reuse given answer old kept image
publish-call = promise (λ g r x. Publishing g.0 g.1 g.2 r g.3 x.0 x.1) (λ k a r x p. p)

pub stored-done : {v kind : ℕ} {t : Told} {said₀ said₁ : List ℕ} → StoredInC v kind t said₀ said₁ → Entered (λ why. StoredDone (placing t.place₀ (stored_entry kind v said₀)) why said₀ said₁) t
stored-done = promise (λ g n x. Returned (λ why. StoredDone (placing g.3 (stored_entry g.1 g.0 g.2)) why g.2 x.0) n g.3 x.1) (λ k a r x p. p)

pub stored-call : {v kind : ℕ} {answer : Res ℕ} → StoredCall v kind answer → answer ≡ stored kind v
stored-call = promise (λ g r x. r ≡ stored g.1 g.0) (λ k a r x p. p)

pub pack-open-done : {b : List ℕ} {t : Told} {said₀ said₁ : List ℕ} → PackOpenInC b t said₀ said₁ → Entered (λ why. PackOpenDone (placing t.place₀ (pack_entry b said₀)) why said₀ said₁) t
pack-open-done = promise (λ g n x. Returned (λ why. PackOpenDone (placing g.2 (pack_entry g.0 g.1)) why g.1 x.0) n g.2 x.1) (λ k a r x p. p)

pub pack-entry-done : {b : List ℕ} {tiles number : ℕ} {t : Told} {entry₀ entry₁ : List ℕ} → PackEntryInC b tiles number t entry₀ entry₁
    → Entered (λ why. PackEntryDone (placing t.place₀ (entry_entry b tiles number entry₀)) why entry₀ entry₁) t
pack-entry-done = promise (λ g n x. Returned (λ why. PackEntryDone (placing g.4 (entry_entry g.0 g.1 g.2 g.3)) why g.3 x.0) n g.4 x.1) (λ k a r x p. p)

pub pack-write-done : {g : Given} {t : Told} {pack₀ pack₁ said₀ said₁ : List ℕ} → PackWriteInC g t pack₀ pack₁ said₀ said₁
    → Entered (λ why. PackWriteDone g (placing t.place₀ (pack_write_entry g (length pack₀) said₀)) why pack₀ pack₁ said₀ said₁) t
pack-write-done =
    promise (λ g n x. Returned (λ why. PackWriteDone g.0 (placing g.3 (pack_write_entry g.0 (length g.1) g.2)) why g.1 x.0 g.2 x.1) n g.3 x.2) (λ k a r x p. p)

pub pack-open-call : {b : List ℕ} {answer : Res ℕ} → PackOpenCall b answer → answer ≡ pack_says b
pack-open-call = promise (λ g r x. r ≡ pack_says g) (λ k a r x p. p)

pub pack-entry-call : {b : List ℕ} {tiles number : ℕ} {answer : Res Entry} → PackEntryCall b tiles number answer → answer ≡ entry_says b tiles number
pack-entry-call = promise (λ g r x. r ≡ entry_says g.0 g.1 g.2) (λ k a r x p. p)

pub pack-write-call : {g : Given} {answer : Res ℕ} {pack₀ pack₁ : List ℕ} → PackWriteCall g answer pack₀ pack₁ → PackWritten g answer pack₀ pack₁
pack-write-call = promise (λ g r x. PackWritten g.0 r g.1 x) (λ k a r x p. p)

-- ---- what an entry does is given by its answer: two outcomes of one answer are alike

module _ {t u : Told} {Done Left : Refusal → Type 0} where
  -- two calls whose slices of the place began alike, and that were refused alike
  pub told_same : t.place₀ ≡ u.place₀ → (p : Entered Done t) (q : Entered Left u) → p.why ≡ q.why → t ≡ u
  told_same i p q e =
      let n : t.number ≡ u.number = p.number ∙ ap (λ (w : Refusal). w.number) e ∙ sym q.number in
      let l : t.place₁ ≡ u.place₁ = p.place ∙ rw (i, e) (sym q.place) in
      rw (n, i, l)

module _ {w v : Refusal} where
  pub header-alike : {m k : Res Header} {header₀ header₁ header₂ : List ℕ} → m ≡ k → HeaderDone m w header₀ header₁ → HeaderDone k v header₀ header₂ → (w ≡ v) × (header₁ ≡ header₂)
  header-alike e p q = let p = rw (e) at p in (p.why ∙ sym q.why, p.header ∙ sym q.header)

  pub prepare-alike : {m k : Res MaskInForce} {spare₀ spare₁ spare₂ said₀ said₁ said₂ : List ℕ} → m ≡ k → PrepareDone m w spare₀ spare₁ said₀ said₁ → PrepareDone k v spare₀ spare₂ said₀ said₂
      → (w ≡ v) × (spare₁ ≡ spare₂) × (said₁ ≡ said₂)
  prepare-alike e p q = let p = rw (e) at p in (p.why ∙ sym q.why, p.spare ∙ sym q.spare, p.said ∙ sym q.said)

  pub ranges-alike : {m k : Res Ranges} {ranges₀ ranges₁ ranges₂ : List ℕ} → m ≡ k → RangesDone m w ranges₀ ranges₁ → RangesDone k v ranges₀ ranges₂ → (w ≡ v) × (ranges₁ ≡ ranges₂)
  ranges-alike e p q = let p = rw (e) at p in (p.why ∙ sym q.why, p.ranges ∙ sym q.ranges)

  pub walk-alike : {m k : Res Walking} {list₀ list₁ list₂ said₀ said₁ said₂ : List ℕ} → m ≡ k → WalkDone m w list₀ list₁ said₀ said₁ → WalkDone k v list₀ list₂ said₀ said₂
      → (w ≡ v) × (list₁ ≡ list₂) × (said₁ ≡ said₂)
  walk-alike e p q = let p = rw (e) at p in (p.why ∙ sym q.why, p.list ∙ sym q.list, p.said ∙ sym q.said)

  pub fill-alike : {m k : Res Filling} {mask : List ℕ} {block : ℕ} {image₀ image₁ image₂ said₀ said₁ said₂ : List ℕ} → m ≡ k → FillDone m mask block w image₀ image₁ said₀ said₁
      → FillDone k mask block v image₀ image₂ said₀ said₂ → (w ≡ v) × (image₁ ≡ image₂) × (said₁ ≡ said₂)
  fill-alike e p q = let p = rw (e) at p in (p.why ∙ sym q.why, p.image ∙ sym q.image, p.said ∙ sym q.said)

  pub read_alike : {m k : Res Meaning} {i j : Res Masked} {old new other : Lent} {said₀ said₁ said₂ : List ℕ} → m ≡ k → i ≡ j → ReadDone m i w old new said₀ said₁ → ReadDone k j v old other said₀ said₂
      → (w ≡ v) × (new ≡ other) × (said₁ ≡ said₂)
  read_alike e f p q = let p = rw (e, f) at p in (p.why ∙ sym q.why, p.lent ∙ sym q.lent, p.said ∙ sym q.said)

  pub stage-alike : {m k : Res Meaning} {i j : Res Masked} {old : Lent} {spare₁ spare₂ list₁ list₂ staged₀ staged₁ staged₂ : List ℕ} → m ≡ k → i ≡ j → StageDone m i w old spare₁ list₁ staged₀ staged₁
      → StageDone k j v old spare₂ list₂ staged₀ staged₂ → (w ≡ v) × (spare₁ ≡ spare₂) × (list₁ ≡ list₂) × (staged₁ ≡ staged₂)
  stage-alike e f p q = let p = rw (e, f) at p in (p.why ∙ sym q.why, p.spare ∙ sym q.spare, p.list ∙ sym q.list, p.staged ∙ sym q.staged)

  pub publish-alike : {m k : Res Meaning} {old : Lent} {kept₁ kept₂ image₁ image₂ said₀ said₁ said₂ : List ℕ} → m ≡ k → PublishDone m w old kept₁ image₁ said₀ said₁ → PublishDone k v old kept₂ image₂ said₀ said₂
      → (w ≡ v) × (kept₁ ≡ kept₂) × (image₁ ≡ image₂) × (said₁ ≡ said₂)
  publish-alike e p q = let p = rw (e) at p in (p.why ∙ sym q.why, p.kept ∙ sym q.kept, p.image ∙ sym q.image, p.said ∙ sym q.said)

  pub stored-alike : {m k : Res ℕ} {said₀ said₁ said₂ : List ℕ} → m ≡ k → StoredDone m w said₀ said₁ → StoredDone k v said₀ said₂ → (w ≡ v) × (said₁ ≡ said₂)
  stored-alike e p q = let p = rw (e) at p in (p.why ∙ sym q.why, p.said ∙ sym q.said)

  pub pack-open-alike : {m k : Res ℕ} {said₀ said₁ said₂ : List ℕ} → m ≡ k → PackOpenDone m w said₀ said₁ → PackOpenDone k v said₀ said₂ → (w ≡ v) × (said₁ ≡ said₂)
  pack-open-alike e p q = let p = rw (e) at p in (p.why ∙ sym q.why, p.said ∙ sym q.said)

  pub pack-entry-alike : {m k : Res Entry} {entry₀ entry₁ entry₂ : List ℕ} → m ≡ k → PackEntryDone m w entry₀ entry₁ → PackEntryDone k v entry₀ entry₂ → (w ≡ v) × (entry₁ ≡ entry₂)
  pack-entry-alike e p q = let p = rw (e) at p in (p.why ∙ sym q.why, p.entry ∙ sym q.entry)

  pub pack-write-alike : {g : Given} {m k : Res ℕ} {pack₀ pack₁ pack₂ said₀ said₁ said₂ : List ℕ} → m ≡ k → PackWriteDone g m w pack₀ pack₁ said₀ said₁ → PackWriteDone g k v pack₀ pack₂ said₀ said₂
      → (w ≡ v) × (pack₁ ≡ pack₂) × (said₁ ≡ said₂)
  pack-write-alike e p q = let p = rw (e) at p in (p.why ∙ sym q.why, p.pack ∙ sym q.pack, p.said ∙ sym q.said)
