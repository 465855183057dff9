-- Demand 3 for C, proved.
-- Assumes nothing.
use mathlib.Core.Path.{◌≡◌, ◌∙◌, sym, ap, refl, subst}
use mathlib.Core.Bool.{Bool, true, false, cond, ◌&&◌}
use mathlib.Core.List.{List, [], ◌∷◌, map}
use Prim.Native.Nat.{ℕ, ◌≤◌}
use native.Mathlib.Omega.{arith}
use lib.ListN.{length, get_or, set, take, drop, length-append}
use lib.Dec.{leb, ltb}
use lib.Seq.{take-append_seam}
use borrow.Author.Tests.{leb-true, le-leb, lt-ltb, le-ltb}
use Rattle.lerc_words.specs.declared.Refusal.{Refusal}
use Rattle.lerc_words.specs.Res.{Res, ok, fail, ◌>>=◌, accepts, refuse, require}
use Rattle.lerc_words.specs.Lists.{over}
use Rattle.lerc_words.proofs.Binding.{bind_is, bind-counts, and_is, ok-is, accepts-is}
use Rattle.lerc_header.specs.declared.Header.{Header}
use Rattle.lerc_header.specs.declared.Shape.{Shape}
use Rattle.lerc_header.specs.Header.{shape_of, header_says}
use Rattle.lerc_header.specs.Shape.{mask_length, block_count}
use Rattle.lerc_validity.specs.Validity.{MaskInForce, reused, new as made, bytes_of, spare_with, which, prepare_says, in_force}
use Rattle.lerc_validity.proofs.Prepared.{Part, prepared-right, mask-length, in-force}
use Rattle.lerc_ranges.specs.declared.Ranges.{Ranges}
use Rattle.lerc_ranges.specs.Ranges.{read_ranges_says}
use Rattle.lerc_ranges.proofs.Judged.{read-ranges-kept}
use Rattle.lerc_image.specs.Geometry.{tile_of, valid_in_tile}
use Rattle.lerc_image.specs.Blocks.{Chain}
use Rattle.lerc_image.specs.Walk.{walk_says, Walk}
use Rattle.lerc.specs.Meaning.{Meaning, blocks, meaning_from, body_says, meaning}
use Rattle.lerc.specs.Read.{Lent, ReadTold, room, masked, read_says}
use Rattle.lerc_c.specs.Records.{why_of, number_of, header_room, header_numbers, fields_fit, header_at, header_from, ranges_room, ranges_numbers, ranges_in, ranges_from}
use Rattle.lerc_c.specs.Entries.{placing, header_entry, prepare_entry, mask_numbers, ranges_entry, walk_entry, read_room, read_entry}
use Rattle.lerc_c.proofs.Back.{header-kept, ranges-back}
use Rattle.lerc_c.proofs.Numbers.{prepare-numbered, zero-accepts}
use Rattle.lerc_theorems.specs.Calls.{HeaderCall, ReadRanges, RangesCall, WalkCall, FillCalls, none as no_call, more as one-call, ReadCall}
use Rattle.lerc_theorems.specs.DemandTwo.{Roomy}
use Rattle.lerc_theorems.specs.DemandThree.{ByWalk, ByRead, Surveyed, by-walk as surveyed-walk, by_read as surveyed-read, ReadAlike, answer_to}
use Rattle.lerc_theorems.proofs.Calls.{ranges-held, header-call, prepare-call, ranges-call, walk_call, read-call}
use Rattle.lerc_theorems.proofs.Refusals.{masked-is}
use Rattle.lerc_theorems.proofs.Meanings.{Means, meaning-is, mask-kept, keeps, Rooms, rooms}
use Rattle.lerc_theorems.proofs.Bodies.{coded-is}
use Rattle.lerc_theorems.proofs.Longer.{alike-take, walk_same as longer-walk}
use Rattle.lerc_theorems.proofs.Fills.{means-walking, walking-says}
use Rattle.lerc_theorems.proofs.DemandThree.{demand-three}
use Rattle.lerc_c_theorems.specs.Calls.{HoldsHeader, HoldsRanges, Told, HasPlace, Accepted, HeaderInC, PrepareInC, RangesInC, WalkInC, ReadInC}
use Rattle.lerc_c_theorems.specs.SameReader.{Tells, whole_numbers, alone}
use Rattle.lerc_c_theorems.specs.DemandThree.{Bytes, InHandInC, in_hand, shape_in, told_slice, ByWalkInC, ByReadInC, StepsAccept, SurveyedInC, by-walk, by_read, Outcome, FillsInC, none, more, Answered, AllAnswered, no_more, one_more, ReadAlikeInC, AnyOrderInC, DemandThreeInC}
use Rattle.lerc_c_theorems.proofs.Calls.{Entered, header-done, prepare-done, ranges-done, walk-done, read_done}
use Rattle.lerc_c_theorems.proofs.SameReader.{prepare-reads, placed-entry}
use Rattle.lerc_theorems.proofs.Made.{handed-made}
use Rattle.lerc_c_theorems.proofs.Made.{header-as, prepare-as, ranges-as, walk-as, fill-as, read_as}

-- ---- 0 tells that the records were long enough, and the slice of the place

roomy : {A : Type 0} (t : Bool) (k : Bool → Res A) → 0 ≡ number_of (require t 5 >>= k) → t ≡ true
roomy true k e = refl
roomy false k e = absurd (omega (arith, e))

-- an entry that returned 0 had room for its place, and did not refuse
entered : {A : Type 0} {Done : Refusal → Type 0} {t : Told} (m : Res A) (r : Entered Done t) → r.why ≡ why_of (placing t.place₀ m) → t.number ≡ 0 → HasPlace t × (0 ≡ number_of m)
entered {t = t} m r k z =
    let e : 0 ≡ number_of (placing t.place₀ m) = sym z ∙ r.number ∙ ap (λ (q : Refusal). q.number) k in
    let i = leb-true _ _ (roomy (leb 1 (length t.place₀)) _ e) in
    (i, e ∙ ap number_of (placed-entry t.place₀ m i))

header-long : {b : List ℕ} {t : Told} {header₀ header₁ : List ℕ} → HeaderInC b t header₀ header₁ → t.number ≡ 0 → HasPlace t × (header_room ≤ length header₀)
unfolding header_entry
header-long {b} {t} {header₀} c z = let r = header-done c in let (i, e) = entered {t = t} (header_entry b header₀) r r.done.why z in (i, leb-true _ _ (roomy (leb header_room (length header₀)) _ e))

prepare-long : {b header : List ℕ} {reuse : Bool} {kept : List ℕ} {t : Told} {spare₀ spare₁ said₀ said₁ : List ℕ} → PrepareInC b header reuse kept t spare₀ spare₁ said₀ said₁ → t.number ≡ 0
    → HasPlace t × (2 ≤ length said₀)
unfolding prepare_entry
prepare-long {b} {header} {reuse} {kept} {t} {spare₀} {spare₁} {said₀} c z =
    let r = prepare-done c in
    let (i, e) = entered {t = t} (prepare_entry b header reuse kept spare₀ said₀) r r.done.why z in
    (i, leb-true _ _ (and_is (leb header_room (length header)) _ (roomy (leb header_room (length header) && leb 2 (length said₀)) _ e)).1)

ranges-long : {b header : List ℕ} {t : Told} {ranges₀ ranges₁ : List ℕ} → RangesInC b header t ranges₀ ranges₁ → t.number ≡ 0 → HasPlace t × (ranges_room ≤ length ranges₀)
unfolding ranges_entry
ranges-long {b} {header} {t} {ranges₀} c z =
    let r = ranges-done c in
    let (i, e) = entered {t = t} (ranges_entry b header ranges₀) r r.done.why z in
    (i, leb-true _ _ (and_is (leb header_room (length header)) _ (roomy (leb header_room (length header) && leb ranges_room (length ranges₀)) _ e)).1)

walk-long : {b header ranges mask : List ℕ} {t : Told} {list₀ list₁ said₀ said₁ : List ℕ} → WalkInC b header ranges mask t list₀ list₁ said₀ said₁ → t.number ≡ 0 → HasPlace t × (2 ≤ length said₀)
unfolding walk_entry
walk-long {b} {header} {ranges} {mask} {t} {list₀} {list₁} {said₀} c z =
    let r = walk-done c in
    let (i, e) = entered {t = t} (walk_entry b header ranges mask list₀ said₀) r r.done.why z in
    (i, leb-true _ _ (and_is (leb header_room (length header) && leb ranges_room (length ranges)) _ (roomy (leb header_room (length header) && leb ranges_room (length ranges) && leb 2 (length said₀)) _ e)).1)

read-long : {b : List ℕ} {reuse : Bool} {t : Told} {old new : Lent} {said₀ said₁ : List ℕ} → ReadInC b reuse t old new said₀ said₁ → t.number ≡ 0 → HasPlace t × (read_room ≤ length said₀)
unfolding read_entry
read-long {b} {reuse} {t} {old} {new} {said₀} c z =
    let r = read_done c in
    let (i, e) = entered {t = t} (read_entry b reuse old said₀) r r.done.why z in
    (i, leb-true _ _ (roomy (leb read_room (length said₀)) _ e))

-- ---- a record holds what it was written from

pub over-long : (front old : List ℕ) → length front ≤ length (over front old)
over-long front old = rw (length-append) (omega arith)

header-in-hand : (b header₀ header₁ : List ℕ) → Bytes b → Accepted (λ t. HeaderInC b t header₀ header₁) → (h : Header) × (header_says b ≡ ok h) × HoldsHeader header₁ h
header-in-hand b header₀ header₁ bytes (_, _, c) =
    let (i, l) = header-long c refl in
    let (r, d, t) = header-as c i l in
    let (h, e) = accepts-is r (t.zero.0 refl) in
    let says : header_says b ≡ ok h = sym (header-call d) ∙ e in
    (h, says, subst (λ (l : List ℕ). HoldsHeader l h) (sym (t.written h e)) (record { long = over-long (header_numbers h) header₀; is = header-kept b header₀ bytes says }))

ranges-in-hand : (b header : List ℕ) (h : Header) (ranges₀ ranges₁ : List ℕ) → HoldsHeader header h → Accepted (λ t. RangesInC b header t ranges₀ ranges₁)
    → (r : Ranges) × (read_ranges_says b h ≡ ok r) × HoldsRanges ranges₁ r
ranges-in-hand b header h ranges₀ ranges₁ p (_, _, c) =
    let (i, l) = ranges-long c refl in
    let (r, d, t) = ranges-as c p i l in
    let (g, e) = accepts-is r (t.zero.0 refl) in
    let says : read_ranges_says b h ≡ ok g = sym (ranges-call d) ∙ e in
    let k = read-ranges-kept b h g says in
    let z : length (ranges_numbers g) ≡ ranges_room = rw (length-append, k.low, k.high) in
    let l = over-long (ranges_numbers g) ranges₀ in
    (g, says, subst (λ (l : List ℕ). HoldsRanges l g) (sym (t.written g e)) (record { long = omega (arith, z, l); is = ranges-back g ranges₀ k.low k.high }))

-- what an accepted whole read tells: its header is the blob's, and there was room
record WholeTells (b : List ℕ) (old : Lent) (h : Header) : Type 0 where
  says : header_says b ≡ ok h
  room : room h old ≡ true

whole-read : {b : List ℕ} {reuse : Bool} {h : Header} {n end : ℕ} {old new : Lent} → ReadCall b reuse (ok (record { header = h; blocks = n; end = end })) old new → WholeTells b old h
unfolding read_says meaning_from
whole-read {b} {reuse} {h} {n} {end} {old} c =
    let (m, e, q) = bind-counts (read_says b reuse old) _ (sym (read-call c).says) in
    let (k, p, e) = bind_is (masked b reuse old) _ e in
    let (y, _, e) = bind_is (body_says (take k.header.size b) k.header (bytes_of k.mask)) _ e in
    let z : h ≡ k.header = ap (λ (v : ReadTold). v.header) q ∙ sym (ap (λ (v : Meaning). v.header) (ok-is e)) in
    let g = masked-is b reuse old k p in
    rw (z) (record { says = g.header; room = g.room })

-- what an accepted whole read said: it serves as the header's record, and has the count and the end behind it
record Said (said : List ℕ) (w : ReadTold) : Type 0 where
  header : HoldsHeader said w.header
  blocks : get_or said 11 0 ≡ w.blocks
  end : get_or said 12 0 ≡ w.end

said-is : (b : List ℕ) (w : ReadTold) (old : List ℕ) → Bytes b → header_says b ≡ ok w.header → Said (over (whole_numbers w) old) w
said-is b w old bytes e = record {
  header = record { long = over-long (header_numbers w.header) (over (whole_numbers w) old); is = header-kept b (over (whole_numbers w) old) bytes e };
  blocks = refl;
  end = refl;
}

read-in-hand : {b : List ℕ} {reuse : Bool} {old new : Lent} {said₀ said₁ : List ℕ} → Bytes b → Accepted (λ t. ReadInC b reuse t old new said₀ said₁)
    → (w : ReadTold) × ReadCall b reuse (ok (record { header = w.header; blocks = w.blocks; end = w.end })) old new × Said said₁ w
read-in-hand {b} {reuse} {old} {new} {said₀} bytes (_, _, c) =
    let (i, l) = read-long c refl in
    let (r, d, t) = read_as c i l in
    let (w, e) = accepts-is r (t.zero.0 refl) in
    let d = subst (λ (q : Res ReadTold). ReadCall b reuse q old new) (e) d in
    (w, d, subst (λ (l : List ℕ). Said l w) (sym (t.written w e)) (said-is b w said₀ bytes (whole-read d).says))

-- what a record holds is what its numbers are
pub at-header : {l : List ℕ} {h : Header} → HoldsHeader l h → h ≡ header_at l
unfolding header_from
at-header {l} p = let (_, _, e) = bind_is (require (fields_fit l) 3) _ p.is in sym (ok-is e)

at-ranges : {l : List ℕ} {r : Ranges} → HoldsRanges l r → r ≡ ranges_in l
unfolding ranges_from
at-ranges {l} p = let (_, _, e) = bind_is (require (ltb (get_or l 1 0) 2) 3) _ p.is in sym (ok-is e)

-- ---- calls of the reader behind those of C

-- the header and the ranges that are in hand
pub record Held (x : InHandInC) : Type 0 where
  pub says : header_says x.blob ≡ ok (header_at x.header)
  pub header : HoldsHeader x.header (header_at x.header)
  pub ranges : HoldsRanges x.ranges (ranges_in x.ranges)
  pub read : ReadRanges x.blob (header_at x.header) (ranges_in x.ranges)

pub held_by : (x : InHandInC) (h : Header) → header_says x.blob ≡ ok h → HoldsHeader x.header h → {ranges₀ : List ℕ} → Accepted (λ t. RangesInC x.blob x.header t ranges₀ x.ranges) → Held x
held_by x h e p {ranges₀} c = go h (at-header p) e p
  where
    go : (h : Header) → h ≡ header_at x.header → header_says x.blob ≡ ok h → HoldsHeader x.header h → Held x
    go h z e p =
        let p = subst (HoldsHeader x.header) z p in
        let (g, s, q) = ranges-in-hand x.blob x.header (header_at x.header) ranges₀ x.ranges p c in
        let (v, l) = ranges-long c.2 refl in
        let (r, d, t) = ranges-as c.2 p v l in
        let i : g ≡ ranges_in x.ranges = at-ranges q in
        let y : r ≡ (ok (ranges_in x.ranges)) = ranges-call d ∙ (s ∙ ap ok i) in
        record {
          says = e ∙ ap ok z;
          header = p;
          ranges = subst (HoldsRanges x.ranges) i q;
          read = subst (RangesCall x.blob (header_at x.header)) y d;
        }

-- the mask that was lent begins with the mask in force
front : (f : MaskInForce) (mask kept spare₀ part₀ : List ℕ) → Part kept f
    → (let part₁ = over (mask_numbers f) part₀ in take (get_or part₁ 1 0) mask ≡ take (get_or part₁ 1 0) (told_slice part₁ kept (spare_with f spare₀))) → take (length (bytes_of f)) mask ≡ bytes_of f
front (reused m) mask kept spare₀ part₀ p e = e ∙ sym p.1
front (made m) mask kept spare₀ part₀ p e = e ∙ take-append_seam m (drop (length m) spare₀)

module _ (x : InHandInC) (w : ByWalkInC x) where
  abbrev h : Header
  h = header_at x.header

  hold : Held x
  hold = let (h, s, p) = header-in-hand x.blob w.header₀ x.header w.bytes w.header in held_by x h s p w.ranges

  header-called : HeaderCall x.blob (ok h)
  header-called =
      let (i, l) = header-long w.header.2 refl in
      let (r, d, t) = header-as w.header.2 i l in
      subst (HeaderCall x.blob) ((header-call d ∙ hold.says)) d

  prepared : (f : MaskInForce) × (prepare_says x.blob h x.reuse x.kept (length w.spare₀) ≡ ok f) × (w.spare₁ ≡ spare_with f w.spare₀) × (w.part₁ ≡ over (mask_numbers f) w.part₀)
  prepared =
      let d = prepare-done w.prepare.2 in
      let (i, l) = prepare-long w.prepare.2 refl in
      let m = prepare_entry x.blob x.header x.reuse x.kept w.spare₀ w.part₀ in
      let k = placed-entry w.prepare.0 m i in
      let n : number_of m ≡ 0 = sym (d.number ∙ ap (λ (q : Refusal). q.number) d.done.why ∙ ap number_of k) in
      let (f, e) = zero-accepts (prepare-numbered x.blob x.header x.reuse x.kept w.spare₀ w.part₀) n in
      let y = k ∙ e in
      (f, sym (prepare-reads x.blob hold.header x.reuse x.kept w.spare₀ w.part₀ l) ∙ e, rw (y) at d.done.spare, rw (y) at d.done.said)

  mask-in-front : (f : MaskInForce) → prepare_says x.blob h x.reuse x.kept (length w.spare₀) ≡ ok f → w.spare₁ ≡ spare_with f w.spare₀ → w.part₁ ≡ over (mask_numbers f) w.part₀
      → (mask : List ℕ) → take (get_or w.part₁ 1 0) mask ≡ take (get_or w.part₁ 1 0) (told_slice w.part₁ x.kept w.spare₁) → take (mask_length (shape_of h)) mask ≡ bytes_of f
  mask-in-front f e i j mask k =
      let z : length (bytes_of f) ≡ mask_length (shape_of h) = mask-length x.blob h x.reuse x.kept (length w.spare₀) f e in
      rw (← z) (front f mask x.kept w.spare₀ w.part₀ (prepared-right x.blob h x.reuse x.kept (length w.spare₀) f e).part (rw (j, i) at k))

  walk-called : WalkCall x.blob h (ranges_in x.ranges) w.longer (ok (record { blocks = x.count; end = x.end })) w.list₀ w.list₁
  walk-called =
      let (i, l) = walk-long w.walk.2 refl in
      let (r, d, t) = walk-as w.walk.2 hold.header hold.ranges i l in
      let (v, e) = accepts-is r (t.zero.0 refl) in
      let s = t.written v e in
      let n : v.blocks ≡ x.count = sym (w.count ∙ ap (λ (l : List ℕ). get_or l 0 0) s) in
      let k : v.end ≡ x.end = sym (w.end ∙ ap (λ (l : List ℕ). get_or l 1 0) s) in
      let z = e ∙ told n k in
      subst (λ (q : Res Walk). WalkCall x.blob h (ranges_in x.ranges) w.longer q w.list₀ w.list₁) z d
    where
      told : {n m end other : ℕ} → n ≡ m → end ≡ other → ok {A = Walk} (record { blocks = n; end = end }) ≡ ok {A = Walk} (record { blocks = m; end = other })
      told n k = rw (n, k)

  walked : ByWalk (in_hand x)
  walked =
      let (room, l) = prepare-long w.prepare.2 refl in
      let (r, d, t) = prepare-as w.prepare.2 hold.header room l in
      let (f, e, i, j) = prepared in
      let m = prepare_says x.blob h x.reuse x.kept (length w.spare₀) in
      let part = sym (in-force f m r x.kept w.spare₀ w.spare₁ e (prepared-right x.blob h x.reuse x.kept (length w.spare₀) f e).part (prepare-call d)) in
      record {
        said = r;
        spare = w.spare₀;
        prepared = w.spare₁;
        part = in_force r x.kept w.spare₁;
        longer = w.longer;
        unlisted = w.list₀;
        listed = w.list₁;
        header = header-called;
        prepare = d;
        handed = handed-made x.kept w.spare₁ r;
        ranges = hold.read;
        begins = mask-in-front f e i j w.longer w.begins ∙ part;
        walk = walk-called;
        mask = mask-in-front f e i j x.mask w.mask ∙ part;
        list = w.list;
        room = w.room;
      }

module _ (x : InHandInC) (w : ByReadInC x) where
  read-hold : Held x
  read-hold = let (v, d, s) = read-in-hand w.bytes w.read in held_by x v.header (whole-read d).says s.header w.ranges

  read-called : ReadCall x.blob x.reuse (ok (record { header = (header_at x.header); blocks = x.count; end = x.end })) w.old w.new
  read-called =
      let (v, d, s) = read-in-hand w.bytes w.read in
      let i : v.header ≡ header_at x.header = at-header s.header in
      let n : v.blocks ≡ x.count = sym (w.count ∙ s.blocks) in
      let k : v.end ≡ x.end = sym (w.end ∙ s.end) in
      subst (λ (q : Res ReadTold). ReadCall x.blob x.reuse q w.old w.new) (told i n k) d
    where
      told : {h g : Header} {n m end other : ℕ} → h ≡ g → n ≡ m → end ≡ other → ok {A = ReadTold} (record { header = h; blocks = n; end = end }) ≡ ok {A = ReadTold} (record { header = g; blocks = m; end = other })
      told i n k = rw (i, n, k)

  read_whole : ByRead (in_hand x)
  read_whole = record {
    old = w.old;
    new = w.new;
    read = read-called;
    kept = w.kept;
    some = w.some;
    ranges = read-hold.read;
    mask = w.mask;
    list = w.list;
    room = w.room;
  }

surveyed : (x : InHandInC) → SurveyedInC x → Held x × Surveyed (in_hand x)
surveyed x (by-walk w) = (hold x w, surveyed-walk (walked x w))
surveyed x (by_read w) = (read-hold x w, surveyed-read (read_whole x w))

-- ---- a blob in blocks is accepted

module _ (b : List ℕ) (reuse : Bool) (old : Lent) (h : Header) (f : MaskInForce) (c : Chain) (e : meaning b reuse old.kept ≡ ok (record { header = h; mask = f; body = blocks c })) (y : Roomy b old) where
  parts : Means b reuse old.kept (record { header = h; mask = f; body = blocks c })
  parts = meaning-is b reuse old.kept _ e

  room_for : Rooms h old
  room_for = rooms h old (y h parts.header)

  mask-found : prepare_says b h reuse old.kept (length old.spare) ≡ ok f
  unfolding prepare_says
  mask-found = rw (keeps b reuse old.kept _ parts, le-leb _ _ room_for.kept, le-leb _ _ room_for.spare) parts.mask

  told_of : (f : MaskInForce) → accepts (which f) ≡ true
  told_of (reused m) = refl
  told_of (made m) = refl

  -- with the ranges that were read, and a mask that may be longer
  walk-found : (g : Ranges) → read_ranges_says b h ≡ ok g → (mask : List ℕ) → take (mask_length (shape_of h)) mask ≡ bytes_of f → walk_says b h g mask (length old.list) ≡ ok c
  walk-found g says mask i =
      let z = (mask-kept b reuse old.kept _ parts room_for.kept).size in
      let a = alike-take (shape_of h) mask (bytes_of f) i (omega (arith, z)) in
      let w = means-walking b reuse old.kept h f c e room_for.kept g says (length old.list) room_for.list in
      longer-walk b h w.kept mask (bytes_of f) a g (length old.list) ∙ walking-says b h g (bytes_of f) (length old.list) c w

  ranges-found : (ranges : Ranges) × (read_ranges_says b h ≡ ok ranges)
  ranges-found =
      let k = coded-is (take h.size b) h (bytes_of f) c parts.body in
      (k.ranges, ranges-held b h (keeps b reuse old.kept _ parts) ∙ k.read)

  steps : StepsAccept b reuse old h f
  steps = record {
    header = λ v header₀ header₁ q i l. let (s, d, t) = header-as q i l in t.zero.1 (ap accepts (header-call d ∙ parts.header));
    prepare = λ v header spare said₀ said₁ q p i l. let (s, d, t) = prepare-as q p i l in t.zero.1 (ap accepts (prepare-call d).says ∙ rw (mask-found) (told_of f));
    ranges = λ v header ranges₀ ranges₁ q p i l. let (s, d, t) = ranges-as q p i l in
        t.zero.1 (ap accepts (ranges-call d ∙ ranges-found.1));
    walk = λ v header ranges mask list said₀ said₁ g q p i says m k l. let (s, d, t) = walk-as q p i k l in
        t.zero.1 (ap accepts (walk_call d).says ∙ rw (walk-found g says mask m));
  }

-- ---- fills

-- each record tells what the reader answered
abbrev AllTell : List (Res ℕ) → List Outcome → Type 0
AllTell [] [] = Unit {0}
AllTell [] (o ∷ others) = ⊥
AllTell (a ∷ answers) [] = ⊥
AllTell (a ∷ answers) (o ∷ others) = Tells a alone o.told o.said₀ o.said₁ × AllTell answers others

module _ {b header ranges mask list : List ℕ} {h : Header} {r : Ranges} (p : HoldsHeader header h) (q : HoldsRanges ranges r) where
  filled : (ns : List ℕ) (said : List Outcome) (old new : List ℕ) → FillsInC b header ranges mask list ns said old new → (answers : List (Res ℕ)) × FillCalls b h r mask list ns answers old new × AllTell answers said
  filled ns said old new (none image) = ([], no_call image, tt)
  filled ns said old new (more n rest one others old' mid new' i l c f) =
      let (a, d, t) = fill-as c p q i l in
      let (answers, calls, tells) = filled rest others mid new' f in
      (a ∷ answers, one-call n rest a answers old' mid new' d calls, (t, tells))

answered : (s : Shape) (mask : List ℕ) (n : ℕ) (o : Outcome) → Tells ((answer_to s mask n)) alone o.told o.said₀ o.said₁ → Answered s mask n o
answered s mask n o t = record {
  place = t.place ∙ ap (set o.told.place₀ 0) (go (ltb n (block_count s)));
  below = λ l. let e : (answer_to s mask n) ≡ ok (valid_in_tile s mask (tile_of s n)) = rw (lt-ltb _ _ l) in (t.zero.1 (ap accepts e), t.written _ e);
  above = λ l. let e : (answer_to s mask n) ≡ fail (refuse 11) = rw (le-ltb _ _ l) in (t.refused _ e, t.kept _ e);
}
  where
    go : (b : Bool) → (why_of ((cond b (ok (valid_in_tile s mask (tile_of s n))) (fail (refuse 11))))).at ≡ 0
    go true = refl
    go false = refl

all-answered : (s : Shape) (mask ns : List ℕ) (said : List Outcome) → AllTell (map (answer_to s mask) ns) said → AllAnswered s mask ns said
all-answered s mask [] [] t = no_more
all-answered s mask [] (o ∷ os) t = absurd t
all-answered s mask (n ∷ ns) [] t = absurd t
all-answered s mask (n ∷ ns) (o ∷ os) t = one_more n ns o os (answered s mask n o t.0) (all-answered s mask ns os t.1)

-- an accepted read had room for all
alike : (x : InHandInC) → header_says x.blob ≡ ok (header_at x.header) → (left : Lent) → ReadAlikeInC x left → ReadAlike x.blob x.reuse x.kept (header_at x.header) x.image left
alike x e left a =
    let (i, l) = read-long a.read.2 refl in
    let (r, d, t) = read_as a.read.2 i l in
    let (v, s) = accepts-is r (t.zero.0 refl) in
    let y = whole-read (subst (λ (q : Res ReadTold). ReadCall x.blob x.reuse q a.lent left) (s) d) in
    let z : v.header ≡ header_at x.header = ok-is (sym y.says ∙ e) in
    record { answer = r; lent = a.lent; read = d; room = subst (λ (h : Header). room h a.lent ≡ true) z y.room; same-mask = a.same-mask; same_start = a.same_start }

pub in-any-order : (x : InHandInC) → Held x → Surveyed (in_hand x) → (ns : List ℕ) (said : List Outcome) (new : List ℕ) → FillsInC x.blob x.header x.ranges x.mask x.list ns said x.image new
    → AnyOrderInC x ns said new
in-any-order x h y ns said new f =
    let (answers, calls, tells) = filled h.header h.ranges ns said x.image new f in
    let a = demand-three.any_order (in_hand x) y ns answers new calls in
    record {
      found = a.found;
      answers = all-answered (shape_in x) x.mask ns said (subst (λ (q : List (Res ℕ)). AllTell q said) a.answers tells);
      long = a.long;
      cells = a.cells;
      as_read = λ left r. a.as_read left (alike x h.says left r);
      complete = λ g left r. a.complete g left (alike x h.says left r);
    }

pub demand-three-in-c : DemandThreeInC
demand-three-in-c = record {
  header-handed = header-in-hand;
  ranges-handed = ranges-in-hand;
  read-handed = λ b reuse old new said₀ said₁ bytes c. let (w, d, s) = read-in-hand bytes c in (w.header, (whole-read d).says, s.header);
  steps-accepted = steps;
  opened-by-walk-in-c = λ x w. demand-three.opened-by-walk (in_hand x) (walked x w);
  opened-by-read-in-c = λ x w. demand-three.opened-by-read (in_hand x) (read_whole x w);
  any-order-in-c = λ x s. let (h, y) = surveyed x s in in-any-order x h y;
}
