-- What is not looked at, for C, proved: on blobs that agree below the size each entry is the same.
-- Assumes nothing.
use mathlib.Core.Path.{◌≡◌, refl}
use mathlib.Core.Bool.{Bool, true, false}
use mathlib.Core.List.{List}
use Prim.Native.Nat.{ℕ}
use lib.ListN.{length}
use Rattle.lerc_words.specs.Res.{Res, ok, fail, ◌>>=◌, require}
use Rattle.lerc_header.specs.declared.Header.{Header}
use Rattle.lerc_ranges.specs.declared.Ranges.{Ranges}
use Rattle.lerc_validity.specs.Validity.{prepare_says}
use Rattle.lerc_ranges.specs.Ranges.{read_ranges_says}
use Rattle.lerc_image.specs.Walk.{walk_says}
use Rattle.lerc_image.specs.Fill.{fill_says}
use Rattle.lerc.specs.Read.{Lent}
use Rattle.lerc.specs.Stage.{publish_says}
use Rattle.lerc_c.specs.Records.{header_at, fields_fit, header_from, ranges_from}
use Rattle.lerc_c.specs.Entries.{placing, header_entry, prepare_entry, ranges_entry, Walking, walk_entry, Filling, fill_entry, read_entry, masked_entry, stage_entry, staged_mask_entry, publish_entry}
use Rattle.lerc_theorems.specs.Unread.{SameDeclared, SameBelow}
use Rattle.lerc_theorems.proofs.Unread.{header-as, masked-as, read_as, prepare-as, ranges-as, walk-as, fill-as}
use Rattle.lerc_c_theorems.specs.Unread.{StageUnread, PublishUnread, UnreadInC}
use Rattle.lerc_c_theorems.proofs.Calls.{header-done, prepare-done, ranges-done, walk-done, fill_done, read_done, stage-done, publish-done, told_same, header-alike, prepare-alike, ranges-alike, walk-alike, fill-alike, read_alike, stage-alike, publish-alike}

-- ---- behind the size that the blob declares

module _ (b c : List ℕ) (same : SameDeclared b c) where
  header-entry : (header : List ℕ) → header_entry b header ≡ header_entry c header
  unfolding header_entry
  header-entry header = rw (header-as b c same)

  read-entry : (reuse : Bool) (l : Lent) (said : List ℕ) → read_entry b reuse l said ≡ read_entry c reuse l said
  unfolding read_entry
  read-entry reuse l said = rw (read_as b c same reuse l)

  masked-entry : (reuse : Bool) (l : Lent) (said : List ℕ) → masked_entry b reuse l said ≡ masked_entry c reuse l said
  unfolding masked_entry
  masked-entry reuse l said = rw (masked-as b c same reuse l)

  stage-entry : (reuse : Bool) (l : Lent) (staged : List ℕ) → stage_entry b reuse l staged ≡ stage_entry c reuse l staged
  unfolding stage_entry
  stage-entry reuse l staged = rw (read_as b c same reuse l)

  staged-mask-entry : (reuse : Bool) (l : Lent) (staged : List ℕ) → staged_mask_entry b reuse l staged ≡ staged_mask_entry c reuse l staged
  unfolding staged_mask_entry
  staged-mask-entry reuse l staged = rw (masked-as b c same reuse l)

  publish-entry : (reuse : Bool) (staged : List ℕ) (l : Lent) (said : List ℕ) → publish_entry b reuse staged l said ≡ publish_entry c reuse staged l said
  unfolding publish_entry publish_says
  publish-entry reuse staged l said = rw (read_as b c same reuse l)

-- ---- behind the size that the header's record holds

module _ (b c header : List ℕ) where
  -- what follows a record's header is the same where it is so for that header
  behind-header : {A : Type 0} (f : List ℕ → Header → Res A) → f b (header_at header) ≡ f c (header_at header) → (header_from header >>= f b) ≡ (header_from header >>= f c)
  unfolding header_from
  behind-header f e = go (fields_fit header)
    where
      go : (fit : Bool) → ((require fit 3 >>= λ _. ok (header_at header)) >>= f b) ≡ ((require fit 3 >>= λ _. ok (header_at header)) >>= f c)
      go true = e
      go false = refl

  -- and what follows its ranges, where it is so for any
  behind-ranges : {A : Type 0} (ranges : List ℕ) (f : List ℕ → Header → Ranges → Res A) → ((r : Ranges) → f b (header_at header) r ≡ f c (header_at header) r)
      → (header_from header >>= λ h. ranges_from ranges >>= f b h) ≡ (header_from header >>= λ h. ranges_from ranges >>= f c h)
  behind-ranges ranges f e = behind-header (λ d h. ranges_from ranges >>= f d h) (go (ranges_from ranges))
    where
      go : (r : Res Ranges) → (r >>= f b (header_at header)) ≡ (r >>= f c (header_at header))
      go (ok r) = e r
      go (fail why) = refl

  module _ (same : SameBelow (header_at header) b c) where
    prepare-entry : (reuse : Bool) (kept spare said : List ℕ) → prepare_entry b header reuse kept spare said ≡ prepare_entry c header reuse kept spare said
    unfolding prepare_entry
    prepare-entry reuse kept spare said = rw (behind-header (λ d h. prepare_says d h reuse kept (length spare)) (prepare-as b c (header_at header) same reuse kept (length spare)))

    ranges-entry : (ranges : List ℕ) → ranges_entry b header ranges ≡ ranges_entry c header ranges
    unfolding ranges_entry
    ranges-entry ranges = rw (behind-header read_ranges_says (ranges-as b c (header_at header) same))

    walk-entry : (ranges mask list said : List ℕ) → walk_entry b header ranges mask list said ≡ walk_entry c header ranges mask list said
    unfolding walk_entry
    walk-entry ranges mask list said =
        rw (behind-ranges {A = Walking} ranges (λ d h r. walk_says d h r mask (length list) >>= λ k. ok (record { header = h; chain = k })) (λ r. rw (walk-as b c (header_at header) same r mask (length list))))

    fill-entry : (ranges mask list : List ℕ) (block : ℕ) (image said : List ℕ) → fill_entry b header ranges mask list block image said ≡ fill_entry c header ranges mask list block image said
    unfolding fill_entry
    fill-entry ranges mask list block image said =
        rw (behind-ranges {A = Filling} ranges (λ d h r. fill_says d h r mask list block (length image) >>= λ k. ok (record { header = h; block = k })) (λ r. rw (fill-as b c (header_at header) same r mask list block (length image))))

-- ---- entry by entry

-- the same entry, with slices of the place that began alike
placed_same : {A : Type 0} {m k : Res A} {place other : List ℕ} → place ≡ other → m ≡ k → placing place m ≡ placing other k
placed_same i e = rw (i, e)

stage-unread : StageUnread
stage-unread b c reuse t u lent₀ spare₁ spare₂ list₁ list₂ staged₀ staged₁ staged₂ i s p q =
    let d = stage-done p in
    let e = stage-done q in
    let (w, v, y, z) = stage-alike (placed_same i (stage-entry b c s reuse lent₀ staged₀)) (placed_same i (staged-mask-entry b c s reuse lent₀ staged₀)) d.done e.done in
    (told_same i d e w, v, y, z)

publish-unread : PublishUnread
publish-unread b c reuse staged t u lent₀ said₀ said₁ said₂ kept₁ kept₂ image₁ image₂ i s p q =
    let d = publish-done p in
    let e = publish-done q in
    let (w, v, y, z) = publish-alike (placed_same i (publish-entry b c s reuse staged lent₀ said₀)) d.done e.done in
    (told_same i d e w, v, y, z)

pub unread-in-c : UnreadInC
unread-in-c = record {
  read-header = λ b c t u header₀ header₁ header₂ i s p q.
      let d = header-done p in
      let e = header-done q in
      let (w, v) = header-alike (placed_same i (header-entry b c s header₀)) d.done e.done in
      (told_same i d e w, v);
  read = λ b c reuse t u lent₀ lent₁ lent₂ said₀ said₁ said₂ i s p q.
      let d = read_done p in
      let e = read_done q in
      let (w, v, y) = read_alike (placed_same i (read-entry b c s reuse lent₀ said₀)) (placed_same i (masked-entry b c s reuse lent₀ said₀)) d.done e.done in
      (told_same i d e w, v, y);
  stage = stage-unread;
  publish = publish-unread;
  prepare-mask = λ b c header reuse kept t u spare₀ spare₁ spare₂ said₀ said₁ said₂ i s p q.
      let d = prepare-done p in
      let e = prepare-done q in
      let (w, v, y) = prepare-alike (placed_same i (prepare-entry b c header s reuse kept spare₀ said₀)) d.done e.done in
      (told_same i d e w, v, y);
  read-ranges = λ b c header t u ranges₀ ranges₁ ranges₂ i s p q.
      let d = ranges-done p in
      let e = ranges-done q in
      let (w, v) = ranges-alike (placed_same i (ranges-entry b c header s ranges₀)) d.done e.done in
      (told_same i d e w, v);
  walk = λ b c header ranges mask t u list₀ list₁ list₂ said₀ said₁ said₂ i s p q.
      let d = walk-done p in
      let e = walk-done q in
      let (w, v, y) = walk-alike (placed_same i (walk-entry b c header s ranges mask list₀ said₀)) d.done e.done in
      (told_same i d e w, v, y);
  fill = λ b c header ranges mask list block t u image₀ image₁ image₂ said₀ said₁ said₂ i s p q.
      let d = fill_done p in
      let e = fill_done q in
      let (w, v, y) = fill-alike (placed_same i (fill-entry b c header s ranges mask list block image₀ said₀)) d.done e.done in
      (told_same i d e w, v, y);
}
