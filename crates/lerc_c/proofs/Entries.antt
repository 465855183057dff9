-- The entries: one law for each way they end.
-- Assumes nothing.
use mathlib.Core.Path.{◌≡◌, ◌∙◌, sym, ap, refl}
use mathlib.Core.Bool.{Bool, true, false, ◌&&◌}
use mathlib.Core.List.{List, [], ◌∷◌}
use Prim.Native.Nat.{ℕ, ◌≤◌, ◌<◌}
use native.Mathlib.Omega.{arith}
use lib.ListN.{length, set}
use lib.Dec.{leb}
use lib.Seq.{paste}
use borrow.Author.Tests.{le-leb, lt-leb}
use Rattle.lerc_words.specs.declared.Refusal.{Refusal}
use Rattle.lerc_words.specs.Res.{Res, ok, fail, ◌>>=◌, refuse, after}
use Rattle.lerc_words.specs.Lists.{over}
use Rattle.lerc_words.proofs.Binding.{bind-fail, bind-counts}
use Rattle.lerc_header.specs.declared.Header.{Header}
use Rattle.lerc_header.specs.Header.{shape_of, header_says}
use Rattle.lerc.specs.declared.Staged.{Staged}
use Rattle.lerc_header.specs.Shape.{block_count}
use Rattle.lerc_samples.specs.Samples.{stored}
use Rattle.lerc_ranges.specs.declared.Ranges.{Ranges}
use Rattle.lerc_validity.specs.Validity.{MaskInForce, reused, new, spare_with, prepare_says, which, Prepared}
use Rattle.lerc_ranges.specs.Ranges.{read_ranges_says}
use Rattle.lerc_image.specs.Geometry.{tile_of, valid_in_tile}
use Rattle.lerc_image.specs.Walk.{walk_says, Walk, walk_list, BlocksWalked}
use Rattle.lerc_image.specs.Fill.{fill_says, fill_image, Filled}
use Rattle.lerc.specs.Meaning.{Meaning, starts_of, end_of}
use Rattle.lerc.specs.Read.{Lent, read_says, masked, refused_after, read_after, ReadTold, WholeRead}
use Rattle.lerc.specs.Stage.{StageRead, PublishTold, publish_says, Publishing}
use Rattle.lerc_c.specs.Records.{header_room, header_numbers, header_from, ranges_room, ranges_numbers, ranges_from, staged_room, staged_numbers, staged_from}
use Rattle.lerc_c.specs.Entries.{Returned, header_entry, HeaderDone, read_room, read_entry, masked_entry, read_numbers, ReadDone, stage_entry, staged_mask_entry, StageDone, publish_entry, told_numbers, PublishDone, prepare_entry, PrepareDone, ranges_entry, RangesDone, walk_entry, WalkDone, fill_entry, FillDone, stored_entry, StoredDone}
use Rattle.lerc_c.proofs.RecordParts.{long, over-behind, first-put}
use Rattle.lerc_validity.specs.declared.Mask.TheVariants as mask

-- ---- read header

module _ (b header : List ℕ) where
  pub header-short : length header < header_room → HeaderDone (header_entry b header) (refuse 5) header header
  unfolding header_entry
  header-short h = rw (lt-leb header_room (length header) h) (record { why = refl; header = refl })

  pub header-no : {why : Refusal} {n : Refusal} → header_room ≤ length header → header_says b ≡ fail why → n ≡ why → HeaderDone (header_entry b header) n header header
  unfolding header_entry
  header-no h e d = rw (le-leb header_room (length header) h, e) (record { why = d; header = refl })

  pub header_read : {h : Header} {header' : List ℕ} → header_room ≤ length header → header_says b ≡ ok h → header' ≡ over (header_numbers h) header → HeaderDone (header_entry b header) (refuse 0) header header'
  unfolding header_entry
  header_read h e d = rw (le-leb header_room (length header) h, e) (record { why = refl; header = d })

-- ---- whole read

-- the header, and behind it the two counts
read-said : (m : Meaning) (said : List ℕ) {h : Header} {n end : ℕ} {front said' : List ℕ} → m.header ≡ h → n ≡ length (starts_of m.body) → end ≡ end_of m.body
    → front ≡ over (header_numbers h) said → said' ≡ paste front header_room (n ∷ end ∷ []) 2 → said' ≡ over (read_numbers m) said
read-said m said {h} k x y p q = rw (q, p, x, y, ← k) (over-behind (header_numbers m.header) (length (starts_of m.body) ∷ end_of m.body ∷ []) said header_room refl)

module _ (b : List ℕ) (reuse : Bool) (l : Lent) (said : List ℕ) where
  abbrev Read : Refusal → Lent → List ℕ → Type 0
  Read r l' said' = ReadDone (read_entry b reuse l said) (masked_entry b reuse l said) r l l' said said'

  pub read_short : length said < read_room → Read (refuse 5) l said
  unfolding read_entry masked_entry refused_after
  read_short h = record { why = rw (lt-leb read_room (length said) h); lent = rw (lt-leb read_room (length said) h); said = rw (lt-leb read_room (length said) h) }

  -- with room for what is said, the four slices are the reader's
  read-lent : {r : Res ReadTold} {l' : Lent} → read_room ≤ length said → WholeRead b reuse r l l' → l' ≡ read_after (read_entry b reuse l said) (masked_entry b reuse l said) l
  unfolding read_entry masked_entry
  read-lent h w = rw (le-leb read_room (length said) h) w.lent

  pub read-refused : {why : Refusal} {n : Refusal} {l' : Lent} → read_room ≤ length said → WholeRead b reuse (fail why) l l' → n ≡ why → Read n l' said
  unfolding read_entry
  read-refused h w d =
      let e = bind-fail (read_says b reuse l) _ (sym w.says) in
      record { why = rw (le-leb read_room (length said) h, e) d; lent = read-lent h w; said = rw (le-leb read_room (length said) h, e) }

  pub read_whole : {h : Header} {n end : ℕ} {l' : Lent} {front said' : List ℕ} → read_room ≤ length said → WholeRead b reuse (ok (record { header = h; blocks = n; end = end })) l l'
      → front ≡ over (header_numbers h) said → said' ≡ paste front header_room (n ∷ end ∷ []) 2 → Read (refuse 0) l' said'
  unfolding read_entry
  read_whole long w p q =
      let (m, r, c) = bind-counts (read_says b reuse l) _ (sym w.says) in
      let z = read-said m said (sym (ap (λ (v : ReadTold). v.header) c)) (ap (λ (v : ReadTold). v.blocks) c) (ap (λ (v : ReadTold). v.end) c) p q in
      record { why = rw (le-leb read_room (length said) long, r); lent = read-lent long w; said = rw (le-leb read_room (length said) long, r) z }

-- ---- stage

module _ (b : List ℕ) (reuse : Bool) (l : Lent) (staged : List ℕ) where
  abbrev Stage : Refusal → List ℕ → List ℕ → List ℕ → Type 0
  Stage r spare' list' staged' = StageDone (stage_entry b reuse l staged) (staged_mask_entry b reuse l staged) r l spare' list' staged staged'

  pub stage-short : length staged < staged_room → Stage (refuse 5) l.spare l.list staged
  unfolding stage_entry staged_mask_entry
  stage-short h = rw (lt-leb staged_room (length staged) h) (record { why = refl; spare = refl; list = refl; staged = refl })

  module _ (long : staged_room ≤ length staged) where
    -- with room for the answer, it is the reader's
    stage_is : stage_entry b reuse l staged ≡ read_says b reuse l
    unfolding stage_entry
    stage_is = rw (le-leb staged_room (length staged) long)

    staged-mask-is : staged_mask_entry b reuse l staged ≡ masked b reuse l
    unfolding staged_mask_entry
    staged-mask-is = rw (le-leb staged_room (length staged) long)

    pub stage-refused : {why : Refusal} {n : Refusal} {spare' list' : List ℕ} → StageRead b reuse (fail why) l spare' list' → n ≡ why → Stage n spare' list' staged
    stage-refused w d =
        let e = bind-fail (read_says b reuse l) _ (sym w.says) in
        rw (stage_is, staged-mask-is) (record { why = rw (e) d; spare = w.spare; list = w.list; staged = rw (e) })

    pub stage-done : {found : Staged} {spare' list' staged' : List ℕ} → StageRead b reuse (ok found) l spare' list' → staged' ≡ over (staged_numbers found) staged
        → Stage (refuse 0) spare' list' staged'
    stage-done w q =
        let (m, r, c) = bind-counts (read_says b reuse l) _ (sym w.says) in
        let z = q ∙ ap (λ (a : Staged). over (staged_numbers a) staged) c in
        rw (stage_is, staged-mask-is) (record { why = rw (r); spare = w.spare; list = w.list; staged = rw (r) z })

-- ---- publish

module _ (b : List ℕ) (reuse : Bool) (staged : List ℕ) (l : Lent) (said : List ℕ) where
  abbrev publish_has_room : Bool
  publish_has_room = leb staged_room (length staged) && leb 2 (length said)

  abbrev Publish : Refusal → List ℕ → List ℕ → List ℕ → Type 0
  Publish r kept' image' said' = PublishDone (publish_entry b reuse staged l said) r l kept' image' said said'

  pub publish-short : publish_has_room ≡ false → Publish (refuse 5) l.kept l.image said
  unfolding publish_entry
  publish-short t = rw (t) (record { why = refl; kept = refl; image = refl; said = refl })

  module _ (t : publish_has_room ≡ true) {given : Res Staged} (g : given ≡ staged_from staged) where
    -- with room for both records, the answer is the reader's
    publish-is : publish_entry b reuse staged l said ≡ publish_says b reuse given l
    unfolding publish_entry
    publish-is = rw (t, g)

    pub publish-refused : {why : Refusal} {n : Refusal} {kept' image' : List ℕ} → Publishing b reuse given (fail why) l kept' image' → n ≡ why → Publish n kept' image' said
    publish-refused w d =
        let e = bind-fail (publish_says b reuse given l) _ (sym w.says) in
        rw (publish-is) (record { why = rw (e) d; kept = w.kept; image = w.image; said = rw (e) })

    pub publish-done : {end words : ℕ} {n : Refusal} {kept' image' said' : List ℕ} → Publishing b reuse given (ok (record { end = end; words = words })) l kept' image'
        → (n ≡ refuse 0) × (said' ≡ over (end ∷ words ∷ []) said) → Publish n kept' image' said'
    publish-done w (z, q) =
        let (m, r, c) = bind-counts (publish_says b reuse given l) _ (sym w.says) in
        let s = q ∙ ap (λ (v : PublishTold). over (told_numbers v) said) c in
        rw (publish-is) (record { why = rw (r) z; kept = w.kept; image = w.image; said = rw (r) s })

-- ---- prepare a mask

module _ (b header : List ℕ) (reuse : Bool) (old spare said : List ℕ) where
  abbrev prepare_has_room : Bool
  prepare_has_room = leb header_room (length header) && leb 2 (length said)

  pub prepare-short : prepare_has_room ≡ false → PrepareDone (prepare_entry b header reuse old spare said) (refuse 5) spare spare said said
  unfolding prepare_entry
  prepare-short t = rw (t) (record { why = refl; spare = refl; said = refl })

  pub prepare-wide : {why : Refusal} {n : Refusal} → prepare_has_room ≡ true → header_from header ≡ fail why → n ≡ why
      → PrepareDone (prepare_entry b header reuse old spare said) n spare spare said said
  unfolding prepare_entry
  prepare-wide t e d = rw (t, e) (record { why = d; spare = refl; said = refl })

  pub prepare-is : {h : Header} {n : Refusal} {spare' said' : List ℕ} → prepare_has_room ≡ true → header_from header ≡ ok h
      → PrepareDone (prepare_says b h reuse old (length spare)) n spare spare' said said' → PrepareDone (prepare_entry b header reuse old spare said) n spare spare' said said'
  unfolding prepare_entry
  prepare-is t e d = rw (t, e) d

-- what the reader's answer tells
module _ {spare spare' : List ℕ} (said : List ℕ) where
  pub told-no : (m : Res MaskInForce) {why : Refusal} → Prepared m (fail why) spare spare' → PrepareDone m why spare spare' said said
  told-no m {why} p = go m p.says p.spare
    where
      go : (x : Res MaskInForce) → fail why ≡ (x >>= which) → spare' ≡ after x spare (λ f. spare_with f spare) → PrepareDone x why spare spare' said said
      go (ok (reused l)) e d = absurd (let z : ◌≡◌ {A = ℕ} 0 1 = cc in omega arith)
      go (ok (new l)) e d = absurd (let z : ◌≡◌ {A = ℕ} 0 1 = cc in omega arith)
      go (fail r) e d = record { why = cc; spare = d; said = refl }

  pub told-kept : (m : Res MaskInForce) {k : ℕ} {n : Refusal} {said' : List ℕ} → Prepared m (ok (mask.Kept k)) spare spare' → (n ≡ refuse 0) × (said' ≡ over (1 ∷ k ∷ []) said) → PrepareDone m n spare spare' said said'
  told-kept m {k} {n} {said'} p (z, q) = go m p.says p.spare
    where
      go : (x : Res MaskInForce) → ok (mask.Kept k) ≡ (x >>= which) → spare' ≡ after x spare (λ f. spare_with f spare) → PrepareDone x n spare spare' said said'
      go (ok (reused l)) e d = let c : k ≡ length l = cc in record { why = z; spare = d; said = rw (c) at q }
      go (ok (new l)) e d = absurd (let z : ◌≡◌ {A = ℕ} 0 1 = cc in omega arith)
      go (fail r) e d = absurd (let z : ◌≡◌ {A = ℕ} 0 1 = cc in omega arith)

  pub told-spare : (m : Res MaskInForce) {k : ℕ} {n : Refusal} {said' : List ℕ} → Prepared m (ok (mask.Spare k)) spare spare' → (n ≡ refuse 0) × (said' ≡ over (2 ∷ k ∷ []) said) → PrepareDone m n spare spare' said said'
  told-spare m {k} {n} {said'} p (z, q) = go m p.says p.spare
    where
      go : (x : Res MaskInForce) → ok (mask.Spare k) ≡ (x >>= which) → spare' ≡ after x spare (λ f. spare_with f spare) → PrepareDone x n spare spare' said said'
      go (ok (reused l)) e d = absurd (let z : ◌≡◌ {A = ℕ} 0 1 = cc in omega arith)
      go (ok (new l)) e d = let c : k ≡ length l = cc in record { why = z; spare = d; said = rw (c) at q }
      go (fail r) e d = absurd (let z : ◌≡◌ {A = ℕ} 0 1 = cc in omega arith)

-- ---- read ranges

module _ (b header ranges : List ℕ) where
  abbrev ranges_have_room : Bool
  ranges_have_room = leb header_room (length header) && leb ranges_room (length ranges)

  pub ranges-short : ranges_have_room ≡ false → RangesDone (ranges_entry b header ranges) (refuse 5) ranges ranges
  unfolding ranges_entry
  ranges-short t = rw (t) (record { why = refl; ranges = refl })

  pub ranges-wide : {why : Refusal} {n : Refusal} → ranges_have_room ≡ true → header_from header ≡ fail why → n ≡ why → RangesDone (ranges_entry b header ranges) n ranges ranges
  unfolding ranges_entry
  ranges-wide t e d = rw (t, e) (record { why = d; ranges = refl })

  pub ranges-no : {h : Header} {why : Refusal} {n : Refusal} → ranges_have_room ≡ true → header_from header ≡ ok h → read_ranges_says b h ≡ fail why → n ≡ why
      → RangesDone (ranges_entry b header ranges) n ranges ranges
  unfolding ranges_entry
  ranges-no t e f d = rw (t, e, f) (record { why = d; ranges = refl })

  pub ranges-done : {h : Header} {r : Ranges} {ranges' : List ℕ} → ranges_have_room ≡ true → header_from header ≡ ok h → read_ranges_says b h ≡ ok r → ranges' ≡ over (ranges_numbers r) ranges
      → RangesDone (ranges_entry b header ranges) (refuse 0) ranges ranges'
  unfolding ranges_entry
  ranges-done t e f d = rw (t, e, f) (record { why = refl; ranges = d })

-- ---- walk

module _ (b header ranges m list said : List ℕ) where
  abbrev walk_has_room : Bool
  walk_has_room = leb header_room (length header) && leb ranges_room (length ranges) && leb 2 (length said)

  pub walk-short : walk_has_room ≡ false → WalkDone (walk_entry b header ranges m list said) (refuse 5) list list said said
  unfolding walk_entry
  walk-short t = rw (t) (record { why = refl; list = refl; said = refl })

  pub walk-wide : {why : Refusal} {n : Refusal} → walk_has_room ≡ true → header_from header ≡ fail why → n ≡ why → WalkDone (walk_entry b header ranges m list said) n list list said said
  unfolding walk_entry
  walk-wide t e d = rw (t, e) (record { why = d; list = refl; said = refl })

  pub walk-mark : {h : Header} {why : Refusal} {n : Refusal} → walk_has_room ≡ true → header_from header ≡ ok h → ranges_from ranges ≡ fail why → n ≡ why
      → WalkDone (walk_entry b header ranges m list said) n list list said said
  unfolding walk_entry
  walk-mark t e f d = rw (t, e, f) (record { why = d; list = refl; said = refl })

  pub walk_no : {h : Header} {r : Ranges} {why : Refusal} {list' : List ℕ} → walk_has_room ≡ true → header_from header ≡ ok h → ranges_from ranges ≡ ok r → BlocksWalked b h r m (fail why) list list'
      → WalkDone (walk_entry b header ranges m list said) why list list' said said
  unfolding walk_entry walk_list
  walk_no {h} {r} {why} {list'} t e f w =
      let g = bind-fail (walk_says b h r m (length list)) _ (sym w.says) in
      rw (t, e, f, g) (record { why = refl; list = rw (g) at w.list; said = refl })

  pub walk-done : {h : Header} {r : Ranges} {blocks end : ℕ} {n : Refusal} {list' said' : List ℕ} → walk_has_room ≡ true → header_from header ≡ ok h → ranges_from ranges ≡ ok r
      → BlocksWalked b h r m (ok (record { blocks = blocks; end = end })) list list' → (n ≡ refuse 0) × (said' ≡ over (blocks ∷ end ∷ []) said) → WalkDone (walk_entry b header ranges m list said) n list list' said said'
  unfolding walk_entry walk_list
  walk-done {h} {r} {blocks} {end} {n} {list'} {said'} t e f w (z, q) =
      let (c, g, k) = bind-counts (walk_says b h r m (length list)) _ (sym w.says) in
      let x : blocks ≡ block_count (shape_of h) = ap (λ (v : Walk). v.blocks) k in
      let y : end ≡ c.end = ap (λ (v : Walk). v.end) k in
      let s : said' ≡ over (block_count (shape_of h) ∷ c.end ∷ []) said = q ∙ ap (λ (v : Walk). over (v.blocks ∷ v.end ∷ []) said) k in
      rw (t, e, f, g) (record { why = z; list = rw (g) at w.list; said = s })

-- ---- fill

module _ (b header ranges m list : List ℕ) (i : ℕ) (image said : List ℕ) where
  abbrev fill_has_room : Bool
  fill_has_room = leb header_room (length header) && leb ranges_room (length ranges) && leb 1 (length said)

  pub fill-short : fill_has_room ≡ false → FillDone (fill_entry b header ranges m list i image said) m i (refuse 5) image image said said
  unfolding fill_entry
  fill-short t = rw (t) (record { why = refl; image = refl; said = refl })

  pub fill-wide : {why : Refusal} {n : Refusal} → fill_has_room ≡ true → header_from header ≡ fail why → n ≡ why
      → FillDone (fill_entry b header ranges m list i image said) m i n image image said said
  unfolding fill_entry
  fill-wide t e d = rw (t, e) (record { why = d; image = refl; said = refl })

  pub fill-mark : {h : Header} {why : Refusal} {n : Refusal} → fill_has_room ≡ true → header_from header ≡ ok h → ranges_from ranges ≡ fail why → n ≡ why
      → FillDone (fill_entry b header ranges m list i image said) m i n image image said said
  unfolding fill_entry
  fill-mark t e f d = rw (t, e, f) (record { why = d; image = refl; said = refl })

  pub fill-no : {h : Header} {r : Ranges} {why : Refusal} {n : Refusal} {image' : List ℕ} → fill_has_room ≡ true → header_from header ≡ ok h → ranges_from ranges ≡ ok r
      → Filled b h r m list i (fail why) image image' → n ≡ why → FillDone (fill_entry b header ranges m list i image said) m i n image image' said said
  unfolding fill_entry fill_image
  fill-no {h} {r} {why} {n} {image'} t e f w d =
      let g = bind-fail (fill_says b h r m list i (length image)) _ (sym w.says) in
      rw (t, e, f, g) (record { why = d; image = rw (g) at w.image; said = refl })

  pub fill_done : {h : Header} {r : Ranges} {words : ℕ} {image' said' : List ℕ} → fill_has_room ≡ true → header_from header ≡ ok h → ranges_from ranges ≡ ok r
      → Filled b h r m list i (ok words) image image' → said' ≡ set said 0 words → FillDone (fill_entry b header ranges m list i image said) m i (refuse 0) image image' said said'
  unfolding fill_entry fill_image
  fill_done {h} {r} {words} {image'} {said'} t e f w q =
      let (k, g, c) = bind-counts (fill_says b h r m list i (length image)) _ (sym w.says) in
      let l : 1 ≤ length said = (long 1 header ranges said t).said_fits in
      let s : said' ≡ over (valid_in_tile (shape_of h) m (tile_of (shape_of h) i) ∷ []) said = q ∙ first-put said words l ∙ ap (λ (v : ℕ). over (v ∷ []) said) c in
      rw (t, e, f, g) (record { why = refl; image = rw (g) at w.image; said = s })

-- ---- a value as a stored word

module _ (kind v : ℕ) (said : List ℕ) where
  pub stored_short : length said < 1 → StoredDone (stored_entry kind v said) (refuse 5) said said
  unfolding stored_entry
  stored_short h = rw (lt-leb 1 (length said) h) (record { why = refl; said = refl })

  pub stored_no : {why : Refusal} {n : Refusal} → 1 ≤ length said → stored kind v ≡ fail why → n ≡ why → StoredDone (stored_entry kind v said) n said said
  unfolding stored_entry
  stored_no h e d = rw (le-leb 1 (length said) h, e) (record { why = d; said = refl })

  pub stored-done : {w : ℕ} {said' : List ℕ} → 1 ≤ length said → stored kind v ≡ ok w → said' ≡ set said 0 w → StoredDone (stored_entry kind v said) (refuse 0) said said'
  unfolding stored_entry
  stored-done {w} h e q = rw (le-leb 1 (length said) h, e) (record { why = refl; said = q ∙ first-put said w h })

-- ---- the place

-- a slice without a number has none to change
placeless : (place : List ℕ) → length place < 1 → place ≡ set place 0 0
placeless [] h = refl
placeless (p ∷ rest) h = absurd (omega arith)

-- refused before all else: nothing is written
pub nowhere : {Done : Refusal → Type 0} (place : List ℕ) → length place < 1 → Done (refuse 5) → Returned Done 5 place place
nowhere place h d = record { why = refuse 5; done = d; number = refl; place = placeless place h }

pub somewhere : {Done : Refusal → Type 0} (place : List ℕ) (why : Refusal) → Done why → Returned Done why.number place (set place 0 why.at)
somewhere place why d = record { why = why; done = d; number = refl; place = refl }
