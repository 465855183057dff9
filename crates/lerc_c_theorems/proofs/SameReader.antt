-- Each entry for C is the reader's function, on what its records hold.
-- Assumes nothing.
use mathlib.Core.Path.{◌≡◌, ◌∙◌, sym, ap, refl}
use mathlib.Core.Bool.{Bool, true, false}
use mathlib.Core.List.{List}
use Prim.Native.Nat.{ℕ, ◌≤◌}
use native.Mathlib.Omega.{arith}
use lib.ListN.{length}
use lib.Dec.{leb}
use borrow.Author.Tests.{le-leb}
use Rattle.lerc_words.specs.declared.Refusal.{Refusal}
use Rattle.lerc_words.specs.Res.{Res, ok, fail, ◌>>=◌, require, accepts, after}
use Rattle.lerc_words.specs.Lists.{over}
use Rattle.lerc_words.proofs.Binding.{ok-is}
use Rattle.lerc_samples.specs.Samples.{stored}
use Rattle.lerc_header.specs.declared.Header.{Header}
use Rattle.lerc_header.specs.Header.{shape_of, header_says}
use Rattle.lerc_header.specs.Shape.{block_count}
use Rattle.lerc_validity.specs.Validity.{MaskInForce, reused, new as made, which, spare_with, prepare_says, MaskTold}
use Rattle.lerc_ranges.specs.declared.Ranges.{Ranges}
use Rattle.lerc_ranges.specs.Ranges.{read_ranges_says}
use Rattle.lerc_block.specs.Block.{Block}
use Rattle.lerc_image.specs.Blocks.{Chain}
use Rattle.lerc_image.specs.Paint.{scattered}
use Rattle.lerc_image.specs.Geometry.{tile_of, valid_in_tile}
use Rattle.lerc_image.specs.Walk.{Walk, walk_says, walk_count, walk_list}
use Rattle.lerc_image.specs.Fill.{fill_says, fill_count, fill_image}
use Rattle.lerc.specs.Meaning.{Meaning, starts_of, end_of}
use Rattle.lerc.specs.Read.{Lent, read_says, Masked, masked, published, read_after, read_count, ReadTold}
use Rattle.lerc.specs.Stage.{staged_of, staged_spare, staged_list, body_told, publish_says}
use Rattle.lerc_c.specs.Records.{why_of, header_room, header_numbers, ranges_room, ranges_numbers, staged_room, staged_numbers}
use Rattle.lerc_c.specs.Entries.{placing, header_entry, prepare_entry, mask_numbers, ranges_entry, Walking, walk_numbers, walk_entry, Filling, fill_numbers, fill_paints, fill_entry, read_room, read_numbers, read_entry, masked_entry, stage_entry, staged_mask_entry, publish_entry, told_numbers, publish_numbers, stored_entry}
use Rattle.lerc_c.proofs.Numbers.{Numbered, header-numbered, prepare-numbered, ranges-numbered, walk-numbered, fill-numbered, read-numbered, stage-numbered, publish-numbered, stored-numbered, pack-numbered, entry-numbered, write-numbered, zero-accepts}
use Rattle.lerc_pack.specs.Pack.{pack_says, entry_says}
use Rattle.lerc_pack_writer.specs.Writing.{Given, pack_given, write_says}
use Rattle.lerc_c.specs.Packs.{pack_entry, entry_room, entry_numbers, entry_entry, pack_write_entry}
use Rattle.lerc_theorems.specs.Calls.{HeaderCall, PrepareCall, RangesCall, WalkCall, FillCall, ReadCall}
use Rattle.lerc_theorems.proofs.Calls.{header-call, prepare-call, ranges-call, walk_call, fill-call, read-call}
use Rattle.lerc_theorems.proofs.Demands.{fail-is, not-refused}
use Rattle.lerc_c_theorems.specs.Calls.{HoldsHeader, HoldsRanges, HoldsStaged, Told, HasPlace, HeaderInC, PrepareInC, RangesInC, WalkInC, FillInC, ReadInC, StoredInC, StoredCall}
use Rattle.lerc_c_theorems.specs.SameReader.{Tells, part_numbers, walked_numbers, whole_numbers, alone, SameStage, SamePublish, SamePackOpen, SamePackEntry, SamePackWrite, SameReader}
use Rattle.lerc_c_theorems.proofs.Calls.{Entered, header-done, prepare-done, ranges-done, walk-done, fill_done, read_done, stage-done, publish-done, stage-call, publish-call, stored-done, stored-call, pack-open-done, pack-entry-done, pack-write-done, pack-open-call, pack-entry-call, pack-write-call}
use Rattle.lerc_validity.specs.declared.Mask.TheVariants as mask
use Rattle.lerc.specs.declared.Staged.{Staged}

-- ---- an entry, and the answer that it numbers-tell

-- an accepted value's numbers are those of what is told of it
record NumbersOf {A B : Type 0} (numbers : A → List ℕ) (told : A → Res B) (names : B → List ℕ) (a : A) : Type 0 where
  answer : B
  is : told a ≡ ok answer
  same : numbers a ≡ names answer

module _ {A B : Type 0} (numbers : A → List ℕ) (told : A → Res B) (names : B → List ℕ) (each : (a : A) → NumbersOf numbers told names a) {said : Res B} {Done : Refusal → Type 0} {t : Told} {old new : List ℕ} where
  numbers-tell : (entry : Res A) → Numbered entry → said ≡ (entry >>= told) → (r : Entered Done t) → r.why ≡ why_of entry → new ≡ after entry old (λ a. over (numbers a) old) → Tells said names t old new
  numbers-tell (ok a) p s r k w =
      let v = s ∙ (each a).is in
      record {
        zero = (λ _. ap accepts v, λ _. r.number ∙ ap (λ (q : Refusal). q.number) k);
        refused = λ why e. not-refused (sym v ∙ e);
        place = r.place ∙ rw (k, v);
        written = λ b e. w ∙ rw ((each a).same, ok-is (sym v ∙ e));
        kept = λ why e. not-refused (sym v ∙ e);
      }
  numbers-tell (fail q) p s r k w =
      let n : t.number ≡ q.number = r.number ∙ ap (λ (q : Refusal). q.number) k in
      record {
        zero = (λ z. let (_, d) = zero-accepts p (sym n ∙ z) in not-refused (sym d), λ e. absurd (let y = ap accepts s in let z : ◌≡◌ {A = ℕ} 0 1 = cc in omega arith));
        refused = λ why e. n ∙ ap (λ (q : Refusal). q.number) (fail-is (sym s ∙ e));
        place = r.place ∙ rw (k, s);
        written = λ b e. not-refused (sym e ∙ s);
        kept = λ why e. w;
      }

-- a value that is told as it is
itself : {A : Type 0} (numbers : A → List ℕ) (a : A) → NumbersOf numbers ok numbers a
itself numbers a = record { answer = a; is = refl; same = refl }

unit : {A : Type 0} (m : Res A) → m ≡ (m >>= ok)
unit (ok a) = refl
unit (fail r) = refl

-- ---- room for the place

pub placed-entry : {A : Type 0} (place : List ℕ) (m : Res A) → 1 ≤ length place → placing place m ≡ m
placed-entry place m l = rw (le-leb 1 (length place) l)

pub placing-numbered : {A : Type 0} (place : List ℕ) {m : Res A} → Numbered m → Numbered (placing place m)
placing-numbered {A} place {m} p = go (leb 1 (length place))
  where
    go : (t : Bool) → Numbered (require t 5 >>= λ _. m)
    go true = p
    go false = record { number = λ r e. let d : r.number ≡ 5 = cc in rw (d) }

-- ---- entries whose records have room and hold what their fields can: what is left is the reader's

header-reads : (b header : List ℕ) → header_room ≤ length header → header_entry b header ≡ header_says b
unfolding header_entry
header-reads b header l = rw (le-leb header_room (length header) l)

module _ (b : List ℕ) {header : List ℕ} {h : Header} (p : HoldsHeader header h) where
  pub prepare-reads : (reuse : Bool) (kept spare said : List ℕ) → 2 ≤ length said → prepare_entry b header reuse kept spare said ≡ prepare_says b h reuse kept (length spare)
  unfolding prepare_entry
  prepare-reads reuse kept spare said l = rw (le-leb _ _ p.long, le-leb 2 (length said) l, p.is)

  ranges-reads : (ranges : List ℕ) → ranges_room ≤ length ranges → ranges_entry b header ranges ≡ read_ranges_says b h
  unfolding ranges_entry
  ranges-reads ranges l = rw (le-leb _ _ p.long, le-leb ranges_room (length ranges) l, p.is)

  module _ {ranges : List ℕ} {r : Ranges} (q : HoldsRanges ranges r) (m list : List ℕ) where
    walk-reads : (said : List ℕ) → 2 ≤ length said → walk_entry b header ranges m list said ≡ (walk_says b h r m (length list) >>= λ c. ok (record { header = h; chain = c }))
    unfolding walk_entry
    walk-reads said l = rw (le-leb _ _ p.long, le-leb _ _ q.long, le-leb 2 (length said) l, p.is, q.is)

    fill-reads : (block : ℕ) (image said : List ℕ) → 1 ≤ length said
        → fill_entry b header ranges m list block image said ≡ (fill_says b h r m list block (length image) >>= λ k. ok (record { header = h; block = k }))
    unfolding fill_entry
    fill-reads block image said l = rw (le-leb _ _ p.long, le-leb _ _ q.long, le-leb 1 (length said) l, p.is, q.is)

stored-reads : (kind v : ℕ) (said : List ℕ) → 1 ≤ length said → stored_entry kind v said ≡ stored kind v
unfolding stored_entry
stored-reads kind v said l = rw (le-leb 1 (length said) l)

module _ (b : List ℕ) (reuse : Bool) (l : Lent) (said : List ℕ) (long : read_room ≤ length said) where
  pub read-reads : read_entry b reuse l said ≡ read_says b reuse l
  unfolding read_entry
  read-reads = rw (le-leb read_room (length said) long)

  pub masked-reads : masked_entry b reuse l said ≡ masked b reuse l
  unfolding masked_entry
  masked-reads = rw (le-leb read_room (length said) long)

module _ (b : List ℕ) (reuse : Bool) (l : Lent) (staged : List ℕ) (long : staged_room ≤ length staged) where
  pub stage-reads : stage_entry b reuse l staged ≡ read_says b reuse l
  unfolding stage_entry
  stage-reads = rw (le-leb staged_room (length staged) long)

  staged-mask-reads : staged_mask_entry b reuse l staged ≡ masked b reuse l
  unfolding staged_mask_entry
  staged-mask-reads = rw (le-leb staged_room (length staged) long)

pub publish-reads : (b : List ℕ) (reuse : Bool) {staged : List ℕ} {given : Res Staged} (l : Lent) (said : List ℕ) → HoldsStaged staged given → 2 ≤ length said
    → publish_entry b reuse staged l said ≡ publish_says b reuse given l
unfolding publish_entry
publish-reads b reuse l said p n = rw (le-leb _ _ p.long, le-leb 2 (length said) n, p.is)

pack-open-reads : (b said : List ℕ) → 1 ≤ length said → pack_entry b said ≡ pack_says b
unfolding pack_entry
pack-open-reads b said l = rw (le-leb 1 (length said) l)

pack-entry-reads : (b : List ℕ) (tiles number : ℕ) (entry : List ℕ) → entry_room ≤ length entry → entry_entry b tiles number entry ≡ entry_says b tiles number
unfolding entry_entry
pack-entry-reads b tiles number entry l = rw (le-leb entry_room (length entry) l)

pack-write-reads : (g : Given) (room : ℕ) (said : List ℕ) → 1 ≤ length said → pack_write_entry g room said ≡ write_says g room
unfolding pack_write_entry
pack-write-reads g room said l = rw (le-leb 1 (length said) l)

-- ---- the reader's answers, as the entries tell them

part-told : (f : MaskInForce) → NumbersOf mask_numbers which part_numbers f
part-told (reused m) = record { answer = mask.Kept (length m); is = refl; same = refl }
part-told (made m) = record { answer = mask.Spare (length m); is = refl; same = refl }

abbrev walk_told : Walking → Res Walk
walk_told w = walk_count w.header w.chain

abbrev fill_told : List ℕ → ℕ → Filling → Res ℕ
fill_told m n f = fill_count f.header m n f.block

module _ (h : Header) where
  walk-told : (x : Res Chain) → (x >>= walk_count h) ≡ ((x >>= λ c. ok (record { header = h; chain = c })) >>= walk_told)
  walk-told (ok c) = refl
  walk-told (fail why) = refl

  walk-left : (x : Res Chain) (list : List ℕ)
      → after (x >>= λ c. ok (record { header = h; chain = c })) list (λ (w : Walking). over w.chain.starts list) ≡ after x list (λ c. over c.starts list)
  walk-left (ok c) list = refl
  walk-left (fail why) list = refl

  fill-told : (m : List ℕ) (n : ℕ) (x : Res Block) → (x >>= fill_count h m n) ≡ ((x >>= λ k. ok (record { header = h; block = k })) >>= fill_told m n)
  fill-told m n (ok k) = refl
  fill-told m n (fail why) = refl

  fill-left : (m : List ℕ) (n : ℕ) (x : Res Block) (image : List ℕ)
      → after (x >>= λ k. ok (record { header = h; block = k })) image (fill_paints m n image) ≡ after x image (λ k. scattered (shape_of h) m n k.words image)
  fill-left m n (ok k) image = refl
  fill-left m n (fail why) image = refl

-- ---- entry by entry

header-same : (b : List ℕ) (t : Told) (header₀ header₁ : List ℕ) → HeaderInC b t header₀ header₁ → HasPlace t → header_room ≤ length header₀
    → (answer : Res Header) → HeaderCall b answer → Tells answer header_numbers t header₀ header₁
header-same b t header₀ header₁ c i l answer d =
    let p = header-done c in
    let m = placing t.place₀ (header_entry b header₀) in
    numbers-tell header_numbers ok header_numbers (itself header_numbers) m (placing-numbered t.place₀ (header-numbered b header₀))
    (header-call d ∙ sym (placed-entry t.place₀ (header_entry b header₀) i ∙ header-reads b header₀ l) ∙ unit m) p p.done.why p.done.header

prepare-same : (b header : List ℕ) (reuse : Bool) (kept : List ℕ) (t : Told) (spare₀ spare₁ said₀ said₁ : List ℕ) → PrepareInC b header reuse kept t spare₀ spare₁ said₀ said₁
    → (h : Header) → HoldsHeader header h → HasPlace t → 2 ≤ length said₀
    → (answer : Res MaskTold) (spare : List ℕ) → PrepareCall b h reuse kept answer spare₀ spare → Tells answer part_numbers t said₀ said₁ × (spare₁ ≡ spare)
prepare-same b header reuse kept t spare₀ spare₁ said₀ said₁ c h q i l answer spare d =
    let p = prepare-done c in
    let m = prepare_entry b header reuse kept spare₀ said₀ in
    let e = placed-entry t.place₀ m i ∙ prepare-reads b q reuse kept spare₀ said₀ l in (
      numbers-tell mask_numbers which part_numbers part-told (placing t.place₀ m) (placing-numbered t.place₀ (prepare-numbered b header reuse kept spare₀ said₀))
          ((prepare-call d).says ∙ ap (λ (x : Res MaskInForce). x >>= which) (sym e)) p p.done.why p.done.said,
      p.done.spare ∙ ap (λ (x : Res MaskInForce). after x spare₀ (λ f. spare_with f spare₀)) e ∙ sym (prepare-call d).spare,
    )

ranges-same : (b header : List ℕ) (t : Told) (ranges₀ ranges₁ : List ℕ) → RangesInC b header t ranges₀ ranges₁ → (h : Header) → HoldsHeader header h → HasPlace t → ranges_room ≤ length ranges₀
    → (answer : Res Ranges) → RangesCall b h answer → Tells answer ranges_numbers t ranges₀ ranges₁
ranges-same b header t ranges₀ ranges₁ c h q i l answer d =
    let p = ranges-done c in
    let m = placing t.place₀ (ranges_entry b header ranges₀) in
    let e = placed-entry t.place₀ (ranges_entry b header ranges₀) i ∙ ranges-reads b q ranges₀ l in
    numbers-tell ranges_numbers ok ranges_numbers (itself ranges_numbers) m (placing-numbered t.place₀ (ranges-numbered b header ranges₀))
    (ranges-call d ∙ sym e ∙ unit m) p p.done.why p.done.ranges

walk_same : (b header ranges mask : List ℕ) (t : Told) (list₀ list₁ said₀ said₁ : List ℕ) → WalkInC b header ranges mask t list₀ list₁ said₀ said₁
    → (h : Header) (r : Ranges) → HoldsHeader header h → HoldsRanges ranges r → HasPlace t → 2 ≤ length said₀
    → (answer : Res Walk) (list : List ℕ) → WalkCall b h r mask answer list₀ list → Tells answer walked_numbers t said₀ said₁ × (list₁ ≡ list)
unfolding walk_list
walk_same b header ranges mask t list₀ list₁ said₀ said₁ c h r q g i l answer list d =
    let p = walk-done c in
    let m = walk_entry b header ranges mask list₀ said₀ in
    let e = placed-entry t.place₀ m i ∙ walk-reads b q g mask list₀ said₀ l in
    let x = walk_says b h r mask (length list₀) in (
      numbers-tell walk_numbers walk_told walked_numbers (λ w. record { answer = record { blocks = block_count (shape_of w.header); end = w.chain.end }; is = refl; same = refl })
          (placing t.place₀ m) (placing-numbered t.place₀ (walk-numbered b header ranges mask list₀ said₀))
          ((walk_call d).says ∙ walk-told h x ∙ ap (λ (y : Res Walking). y >>= walk_told) (sym e)) p p.done.why p.done.said,
      p.done.list ∙ ap (λ (y : Res Walking). after y list₀ (λ w. over w.chain.starts list₀)) e ∙ walk-left h x list₀ ∙ sym (walk_call d).list,
    )

fill-same : (b header ranges mask list : List ℕ) (block : ℕ) (t : Told) (image₀ image₁ said₀ said₁ : List ℕ) → FillInC b header ranges mask list block t image₀ image₁ said₀ said₁
    → (h : Header) (r : Ranges) → HoldsHeader header h → HoldsRanges ranges r → HasPlace t → 1 ≤ length said₀
    → (answer : Res ℕ) (image : List ℕ) → FillCall b h r mask list block answer image₀ image → Tells answer alone t said₀ said₁ × (image₁ ≡ image)
unfolding fill_image
fill-same b header ranges mask list block t image₀ image₁ said₀ said₁ c h r q g i l answer image d =
    let p = fill_done c in
    let m = fill_entry b header ranges mask list block image₀ said₀ in
    let e = placed-entry t.place₀ m i ∙ fill-reads b q g mask list block image₀ said₀ l in
    let x = fill_says b h r mask list block (length image₀) in (
      numbers-tell (fill_numbers mask block) (fill_told mask block) alone
          (λ f. record { answer = valid_in_tile (shape_of f.header) mask (tile_of (shape_of f.header) block); is = refl; same = refl })
          (placing t.place₀ m) (placing-numbered t.place₀ (fill-numbered b header ranges mask list block image₀ said₀))
          ((fill-call d).says ∙ fill-told h mask block x ∙ ap (λ (y : Res Filling). y >>= fill_told mask block) (sym e)) p p.done.why p.done.said,
      p.done.image ∙ ap (λ (y : Res Filling). after y image₀ (fill_paints mask block image₀)) e ∙ fill-left h mask block x image₀ ∙ sym (fill-call d).image,
    )

read_same : (b : List ℕ) (reuse : Bool) (t : Told) (old new : Lent) (said₀ said₁ : List ℕ) → ReadInC b reuse t old new said₀ said₁ → HasPlace t → read_room ≤ length said₀
    → (answer : Res ReadTold) (left : Lent) → ReadCall b reuse answer old left → Tells answer whole_numbers t said₀ said₁ × (new ≡ left)
read_same b reuse t old new said₀ said₁ c i l answer left d =
    let p = read_done c in
    let m = read_entry b reuse old said₀ in
    let e = placed-entry t.place₀ m i ∙ read-reads b reuse old said₀ l in
    let k = placed-entry t.place₀ (masked_entry b reuse old said₀) i ∙ masked-reads b reuse old said₀ l in (
      numbers-tell read_numbers read_count whole_numbers (λ m. record { answer = record { header = m.header; blocks = length (starts_of m.body); end = end_of m.body }; is = refl; same = refl })
          (placing t.place₀ m) (placing-numbered t.place₀ (read-numbered b reuse old said₀))
          ((read-call d).says ∙ ap (λ (y : Res Meaning). y >>= read_count) (sym e)) p p.done.why p.done.said,
      p.done.lent ∙ ap (λ (y : Res Meaning). read_after y (placing t.place₀ (masked_entry b reuse old said₀)) old) e ∙ ap (λ (y : Res Masked). read_after (read_says b reuse old) y old) k ∙ sym (read-call d).lent,
    )

stage-same : SameStage
stage-same b reuse t old spare₁ list₁ staged₀ staged₁ c i l answer spare list d =
    let p = stage-done c in
    let m = stage_entry b reuse old staged₀ in
    let e = placed-entry t.place₀ m i ∙ stage-reads b reuse old staged₀ l in
    let k = placed-entry t.place₀ (staged_mask_entry b reuse old staged₀) i ∙ staged-mask-reads b reuse old staged₀ l in (
      numbers-tell (λ m. staged_numbers (staged_of m)) (λ m. ok (staged_of m)) staged_numbers (λ m. record { answer = staged_of m; is = refl; same = refl })
          (placing t.place₀ m) (placing-numbered t.place₀ (stage-numbered b reuse old staged₀))
          ((stage-call d).says ∙ ap (λ (y : Res Meaning). y >>= λ m. ok (staged_of m)) (sym e)) p p.done.why p.done.staged,
      p.done.spare ∙ ap (λ (y : Res Masked). staged_spare y old.spare) k ∙ sym (stage-call d).spare,
      p.done.list ∙ ap (λ (y : Res Meaning). staged_list y old.list) e ∙ sym (stage-call d).list,
    )

publish-same : SamePublish
publish-same b reuse staged t old kept₁ image₁ said₀ said₁ c given g i l answer kept image d =
    let p = publish-done c in
    let m = publish_entry b reuse staged old said₀ in
    let e = placed-entry t.place₀ m i ∙ publish-reads b reuse old said₀ g l in (
      numbers-tell publish_numbers (λ m. ok (body_told m.header m.body)) told_numbers (λ m. record { answer = body_told m.header m.body; is = refl; same = refl })
          (placing t.place₀ m) (placing-numbered t.place₀ (publish-numbered b reuse staged old said₀))
          ((publish-call d).says ∙ ap (λ (y : Res Meaning). y >>= λ m. ok (body_told m.header m.body)) (sym e)) p p.done.why p.done.said,
      p.done.kept ∙ ap (λ (y : Res Meaning). after y old.kept (λ m. (published m old).kept)) e ∙ sym (publish-call d).kept,
      p.done.image ∙ ap (λ (y : Res Meaning). after y old.image (λ m. (published m old).image)) e ∙ sym (publish-call d).image,
    )

stored_same : (v kind : ℕ) (t : Told) (said₀ said₁ : List ℕ) → StoredInC v kind t said₀ said₁ → HasPlace t → 1 ≤ length said₀
    → (answer : Res ℕ) → StoredCall v kind answer → Tells answer alone t said₀ said₁
stored_same v kind t said₀ said₁ c i l answer d =
    let p = stored-done c in
    let m = placing t.place₀ (stored_entry kind v said₀) in
    numbers-tell alone ok alone (itself alone) m (placing-numbered t.place₀ (stored-numbered kind v said₀))
    (stored-call d ∙ sym (placed-entry t.place₀ (stored_entry kind v said₀) i ∙ stored-reads kind v said₀ l) ∙ unit m) p p.done.why p.done.said

pack-open-same : SamePackOpen
pack-open-same b t said₀ said₁ c i l answer d =
    let p = pack-open-done c in
    let m = placing t.place₀ (pack_entry b said₀) in
    numbers-tell alone ok alone (itself alone) m (placing-numbered t.place₀ (pack-numbered b said₀))
    (pack-open-call d ∙ sym (placed-entry t.place₀ (pack_entry b said₀) i ∙ pack-open-reads b said₀ l) ∙ unit m) p p.done.why p.done.said

pack-entry-same : SamePackEntry
pack-entry-same b tiles number t entry₀ entry₁ c i l answer d =
    let p = pack-entry-done c in
    let m = placing t.place₀ (entry_entry b tiles number entry₀) in
    numbers-tell entry_numbers ok entry_numbers (itself entry_numbers) m (placing-numbered t.place₀ (entry-numbered b tiles number entry₀))
    (pack-entry-call d ∙ sym (placed-entry t.place₀ (entry_entry b tiles number entry₀) i ∙ pack-entry-reads b tiles number entry₀ l) ∙ unit m) p p.done.why p.done.entry

pack-write-same : SamePackWrite
pack-write-same g t pack₀ pack₁ said₀ said₁ c i l answer pack d =
    let p = pack-write-done c in
    let q = pack-write-call d in
    let m = placing t.place₀ (pack_write_entry g (length pack₀) said₀) in
    let e : m ≡ write_says g (length pack₀) = placed-entry t.place₀ (pack_write_entry g (length pack₀) said₀) i ∙ pack-write-reads g (length pack₀) said₀ l in (
      numbers-tell alone ok alone (itself alone) m (placing-numbered t.place₀ (write-numbered g (length pack₀) said₀)) (q.says ∙ sym e ∙ unit m) p p.done.why p.done.said,
      p.done.pack ∙ ap (λ (x : Res ℕ). after x pack₀ (λ n. over (pack_given g) pack₀)) e ∙ sym q.out,
    )

pub same-reader : SameReader
same-reader = record {
  read-header = header-same;
  prepare-mask = prepare-same;
  read-ranges = ranges-same;
  walk = walk_same;
  fill = fill-same;
  read = read_same;
  stage = stage-same;
  publish = publish-same;
  pack-open = pack-open-same;
  pack-entry = pack-entry-same;
  pack-write = pack-write-same;
  stored = stored_same;
  float-ready = λ k j a r q x y p s. p ∙ sym s;
  sum = λ k j a r q x y p s. p ∙ sym s;
  scaled = λ k j a r q x y p s. p ∙ sym s;
  narrow = λ k j a r q x y p s. p ∙ sym s;
  checksum = λ k j a r q x y p s. p ∙ sym s;
  number = λ k j a r q x y p s. p ∙ sym s;
}
