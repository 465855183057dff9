-- Laws of records.
-- Assumes nothing.
use Prim.Native.Nat.{ℕ, ◌+◌, ◌^◌, ◌<◌, ◌≤◌}
use mathlib.Core.Path.{◌≡◌, ◌∙◌, refl}
use mathlib.Core.Bool.{true, false, cond, ◌&&◌}
use mathlib.Core.List.{List, [], ◌∷◌, ◌++◌, append-nil}
use native.Mathlib.Omega.{arith}
use lib.ListN.{length, get_or, set, take, drop, length-append, length-take, length-drop}
use lib.Seq.{paste, take-append_seam, drop-append-add, take-length, drop-drop, drop-length}
use Rattle.lerc_words.specs.Lists.{over}
use lib.Dec.{leb, eqb}
use native.Mathlib.Nat.{zero-add}
use borrow.Author.Tests.{leb-true, ltb-true, lt-ltb, le-ltb}
use Rattle.lerc_words.specs.declared.Refusal.{Refusal}
use Rattle.lerc_words.specs.Res.{ok, fail, refuse}
use Rattle.lerc_words.proofs.Binding.{and_is}
use Rattle.lerc_header.specs.declared.Header.{Header}
use Rattle.lerc_header.specs.Limits.{depth_limit}
use Rattle.lerc_ranges.specs.declared.Ranges.{Ranges}
use Rattle.lerc_ranges.specs.Ranges.{}
use Rattle.lerc.specs.declared.BodyKind.{BodyKind}
use Rattle.lerc.specs.declared.Staged.{Staged}
use Rattle.lerc.specs.Stage.{kind_number}
use Rattle.lerc_c.specs.Records.{header_room, header_numbers, fields_fit, header_at, header_from, maxima_place, ranges_room, ranges_numbers, ranges_from, mask_number, mask_length, staged_numbers, kind_from, mask_from, names_right, staged_in, staged_from}
use Rattle.lerc_validity.specs.Validity.{MaskTold}

-- ---- a header's record

-- every number fits its field
pub record Fit (l : List ℕ) : Type 0 where
  pub rows : get_or l 0 0 < 2 ^ 32
  pub columns : get_or l 1 0 < 2 ^ 32
  pub depth : get_or l 2 0 < 2 ^ 32
  pub valid : get_or l 3 0 < 2 ^ 32
  pub side : get_or l 4 0 < 2 ^ 32
  pub size : get_or l 5 0 < 2 ^ 32
  pub kind : get_or l 6 0 < 2 ^ 32
  pub mask : get_or l 10 0 < 2 ^ 32

pub fit : (l : List ℕ) → fields_fit l ≡ true → Fit l
unfolding fields_fit
fit l e =
    let (e, mask) = and_is _ _ e in
    let (e, kind) = and_is _ _ e in
    let (e, size) = and_is _ _ e in
    let (e, side) = and_is _ _ e in
    let (e, valid) = and_is _ _ e in
    let (e, depth) = and_is _ _ e in
    let (rows, columns) = and_is _ _ e in
    record {
      rows = ltb-true _ _ rows;
      columns = ltb-true _ _ columns;
      depth = ltb-true _ _ depth;
      valid = ltb-true _ _ valid;
      side = ltb-true _ _ side;
      size = ltb-true _ _ size;
      kind = ltb-true _ _ kind;
      mask = ltb-true _ _ mask;
    }

pub header-fits : (l : List ℕ) → fields_fit l ≡ true → ok (header_at l) ≡ header_from l
unfolding header_from
header-fits l e = rw (e)

pub header-wide : (l : List ℕ) → fields_fit l ≡ false → fail (refuse 3) ≡ header_from l
unfolding header_from
header-wide l e = rw (e)

-- ---- room

pub both_long : (k n : ℕ) (xs ys : List ℕ) → (leb k (length xs) && leb n (length ys)) ≡ true → (k ≤ length xs) × (n ≤ length ys)
both_long k n xs ys t =
    let (x, y) = and_is (leb k (length xs)) (leb n (length ys)) t in
    (leb-true k (length xs) x, leb-true n (length ys) y)

-- there is room in all three records of a walk or a fill
pub record Long (n : ℕ) (header ranges said : List ℕ) : Type 0 where
  pub header-fits : header_room ≤ length header
  pub ranges-fit : ranges_room ≤ length ranges
  pub said_fits : n ≤ length said

pub long : (n : ℕ) (header ranges said : List ℕ) → (leb header_room (length header) && leb ranges_room (length ranges) && leb n (length said)) ≡ true → Long n header ranges said
long n header ranges said t =
    let (u, s) = and_is (leb header_room (length header) && leb ranges_room (length ranges)) (leb n (length said)) t in
    let (h, r) = both_long header_room ranges_room header ranges u in
    record { header-fits = h; ranges-fit = r; said_fits = leb-true n (length said) s }

-- ---- what is put into a record

-- words put behind those that are there
pub over-behind : (a b s : List ℕ) (n : ℕ) → length a ≡ n → paste (over a s) n b (length b) ≡ over (a ++ b) s
over-behind a b s n e =
    rw (← e, take-append_seam a (drop (length a) s), take-length b, drop-append-add a (drop (length a) s) (length b), drop-drop (length b) (length a) s, length-append a b)

-- one word
pub first-put : (s : List ℕ) (w : ℕ) → 1 ≤ length s → set s 0 w ≡ over (w ∷ []) s
first-put [] w h = absurd (let z : 1 ≤ 0 = h in omega arith)
first-put (x ∷ s) w h = refl

-- words put over all that is there
pub whole-paste : (z x : List ℕ) → length x ≡ length z → paste z 0 x (length x) ≡ x
whole-paste z x e = rw (zero-add, take-length x, e, drop-length z, append-nil)

-- ---- the record of ranges

pub mark-right : (l : List ℕ) → get_or l 1 0 ≤ 1 → {min max : List ℕ} → min ≡ take depth_limit (drop 2 l) → max ≡ take depth_limit (drop maxima_place l)
    → ok (record { at = get_or l 0 0; constant = eqb (get_or l 1 0) 1; min = min; max = max }) ≡ ranges_from l
unfolding ranges_from
mark-right l h e d = let k : get_or l 1 0 < 2 = omega arith in rw (lt-ltb (get_or l 1 0) 2 k, e, d)

pub mark-wrong : (l : List ℕ) → 1 < get_or l 1 0 → fail (refuse 3) ≡ ranges_from l
unfolding ranges_from
mark-wrong l h = let k : 2 ≤ get_or l 1 0 = omega arith in rw (le-ltb (get_or l 1 0) 2 k)

-- a part of a record, put over an array
pub part-put : (l z : List ℕ) (i n : ℕ) {w : List ℕ} → length z ≡ n → i + n ≤ length l → w ≡ paste z 0 (take n (drop i l)) (length (take n (drop i l))) → w ≡ take n (drop i l)
part-put l z i n h k e =
    let f : length (take n (drop i l)) ≡ length z = simp (length-take, length-drop) (omega arith) in
    e ∙ whole-paste z (take n (drop i l)) f

-- place and mark, minima, maxima: one behind the other
pub ranges-put : (r : Ranges) (s : List ℕ) {mark : ℕ} {x y z : List ℕ} → length r.min ≡ depth_limit → mark ≡ cond r.constant 1 0 → x ≡ paste s 0 (r.at ∷ mark ∷ []) 2
    → y ≡ paste x 2 r.min (length r.min) → z ≡ paste y maxima_place r.max (length r.max) → z ≡ over (ranges_numbers r) s
ranges-put r s {mark} {x} {y} {z} h m e d f =
    let front : List ℕ = r.at ∷ mark ∷ [] in
    let k : y ≡ over (front ++ r.min) s = d ∙ rw (e) (over-behind front r.min s 2 refl) in
    let n : length (front ++ r.min) ≡ maxima_place = rw (h) in
    let g : z ≡ over (front ++ r.min ++ r.max) s = f ∙ rw (k) (over-behind (front ++ r.min) r.max s maxima_place n) in
    rw (m) at g

-- ---- the record of an answer of staging

-- the header, and behind it five numbers
pub staged-put : (a : Staged) (s : List ℕ) {kind mask long : ℕ} {front out : List ℕ} → kind ≡ kind_number a.body → mask ≡ mask_number a.mask → long ≡ mask_length a.mask
    → front ≡ over (header_numbers a.header) s → out ≡ paste front header_room (a.blocks ∷ a.end ∷ kind ∷ mask ∷ long ∷ []) 5 → out ≡ over (staged_numbers a) s
staged-put a s k m n p q =
    rw (q, p, k, m, n) (over-behind (header_numbers a.header) (a.blocks ∷ a.end ∷ kind_number a.body ∷ mask_number a.mask ∷ mask_length a.mask ∷ []) s header_room refl)

module _ (l : List ℕ) where
  pub answer-wide : {why : Refusal} → header_from l ≡ fail why → fail (refuse 0) ≡ staged_from l
  unfolding staged_in
  answer-wide e = rw (e)

  pub answer-unnamed : {h : Header} → header_from l ≡ ok h → names_right l ≡ false → fail (refuse 0) ≡ staged_from l
  unfolding staged_in
  answer-unnamed e t = rw (e, t)

  pub answer-named : {h : Header} {body : BodyKind} {mask : MaskTold} → header_from l ≡ ok h → names_right l ≡ true → body ≡ kind_from (get_or l 13 0) → mask ≡ mask_from (get_or l 14 0) (get_or l 15 0)
      → ok (record { header = h; body = body; blocks = get_or l 11 0; end = get_or l 12 0; mask = ok mask }) ≡ staged_from l
  unfolding staged_in
  answer-named e t k m = rw (e, t, k, m)
