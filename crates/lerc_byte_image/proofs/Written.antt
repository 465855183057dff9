-- What is accepted and what is written: the same symbols, and every valid cell by them.
-- Assumes nothing.
use Rattle.std.proofs.Common.{◌≡◌, ℕ, zero, suc, ◌+◌, ◌*◌, ◌/◌, ◌%◌, ◌<◌, ◌≤◌, Bool, true, false, cond, eqb, ltb, leb, List, ◌∷◌, length, get_or, take, sym, refl, ap, ◌∙◌, mul-le-mul_right, mod-lt, suc-mul, mul_comm, arith, take_all, le-leb, leb-true}
use Rattle.lerc_words.specs.Res.{ok, require}
use Rattle.lerc_words.specs.Lists.{total, all_to}
use Rattle.lerc_words.proofs.Binding.{bind_is, ok-is, require-is}
use Rattle.lerc_words.proofs.Marking.{marked-is}
use Rattle.lerc_words.proofs.Tables.{all-each}
use Rattle.lerc_bits.specs.Bits.{Counts, counts}
use Rattle.lerc_bits.proofs.Values.{counts-ends}
use Rattle.lerc_header.specs.declared.Header.{Header}
use Rattle.lerc_header.specs.declared.Extent.{Extent}
use Rattle.lerc_header.specs.declared.Shape.{Shape}
use Rattle.lerc_header.specs.Header.{shape_of, held}
use Rattle.lerc_header.specs.Shape.{pixels, cells, mask_length}
use Rattle.lerc_header.proofs.Kept.{held-shaped, held-is}
use Rattle.lerc_mask.specs.Mask.{pixel_valid, valid_below}
use Rattle.lerc_image.specs.Geometry.{is_valid_cell}
use Rattle.lerc_image.specs.Paint.{painted}
use Rattle.lerc_image.proofs.Painting.{painted-words}
use Rattle.lerc_image.proofs.Pixels.{valid-at, valid-pixel, valid-before}
use Rattle.lerc_byte_image.specs.declared.table.Range.{Range}
use Rattle.lerc_byte_image.specs.Table.{Table, range_at, lengths_at, codes_at, run_words, prefix_free, table_at}
use Rattle.lerc_byte_image.specs.Symbols.{Run, symbols_from, end_of, Coded, coded_at}
use Rattle.lerc_byte_image.specs.Prediction.{byte_of, prediction, left_behind, byte_word, delta_place, plain_place}
use Rattle.lerc_byte_image.specs.Image.{image_at, checked_image, symbol_no, write_table, by_table, written_image}
use Rattle.lerc_byte_image.proofs.Coded.{coded-length, coded-symbol}

-- ---- checked in the blob's own bytes

-- a slice that is as long as the header says is taken whole
pub checked-are : (s : List ℕ) (h : Header) (mode : ℕ) {e : Extent} → held h (length s) ≡ ok e → length s ≡ h.size → checked_image s h mode ≡ image_at s h mode
unfolding checked_image
checked-are s h mode k l =
    let t : take h.size s ≡ s = take_all h.size s (omega arith) in
    rw (k, t)

-- ---- bytes

-- what pixels left behind depends on the symbols of the valid ones among them
pub left-same : (kind columns : ℕ) (m : List ℕ) (f g : ℕ → ℕ) (p : ℕ) → ((q : ℕ) → q < p → pixel_valid m q ≡ true → f q ≡ g q) → left_behind kind columns m f p ≡ left_behind kind columns m g p
unfolding left_behind
left-same kind columns m f g zero same = refl
left-same kind columns m f g (suc p) same =
    rw (left-same kind columns m f g p (λ q l. same q (omega arith))) (ap (λ (x : ℕ). x ∷ left_behind kind columns m g p) (go (pixel_valid m p) (same p (omega arith))))
  where
    before : List ℕ
    before = left_behind kind columns m g p

    go : (b : Bool) → (b ≡ true → f p ≡ g p) → cond b (byte_of kind (f p) (prediction columns m before p)) (get_or before 0 0) ≡ cond b (byte_of kind (g p) (prediction columns m before p)) (get_or before 0 0)
    go true e = rw (e refl)
    go false e = refl

-- the place of a valid pixel's symbol is below their number
module _ (h : Shape) (m : List ℕ) (d q : ℕ) (deep : d < h.depth) (here : q < pixels h) (valid : pixel_valid m q ≡ true) where
  plain-below : plain_place h m d q < valid_below (pixels h) m * h.depth
  plain-below =
      let b = valid-before m q (pixels h) here valid in
      omega (arith, suc-mul (valid_below q m) h.depth, mul-le-mul_right h.depth b)

  delta-below : delta_place h m d q < valid_below (pixels h) m * h.depth
  delta-below =
      let b = valid-before m q (pixels h) here valid in
      omega (arith, suc-mul d (valid_below (pixels h) m), mul-le-mul_right (valid_below (pixels h) m) deep, mul_comm (valid_below (pixels h) m) h.depth)

-- a valid cell's byte depends on as many symbols as there are valid cells
pub byte-same : (h : Shape) (kind : ℕ) (delta : Bool) (m : List ℕ) (f g : ℕ → ℕ) (c : ℕ) → 0 < h.depth → is_valid_cell h m c ≡ true → ((i : ℕ) → i < valid_below (pixels h) m * h.depth → f i ≡ g i)
    → byte_word h kind delta m f c ≡ byte_word h kind delta m g c
unfolding byte_word
byte-same h kind true m f g c deep e same =
    let v = valid-at h m c e in
    let here = valid-pixel h m c deep v in
    let d = c % h.depth in
    ap (λ (x : List ℕ). get_or x 0 0)
    (left-same kind h.columns m (λ q. f (delta_place h m d q)) (λ q. g (delta_place h m d q)) (suc (c / h.depth))
    (λ q l w. same (delta_place h m d q) (delta-below h m d q (mod-lt c deep) (omega arith) w)))
byte-same h kind false m f g c deep e same =
    let v = valid-at h m c e in
    let here = valid-pixel h m c deep v in
    rw (same _ (plain-below h m (c % h.depth) (c / h.depth) (mod-lt c deep) here v.valid))

-- a byte is below 256
byte-of-small : (kind symbol predicted : ℕ) → byte_of kind symbol predicted ≤ 255
unfolding byte_of
byte-of-small kind symbol predicted = omega arith

pub byte_small : (h : Shape) (kind : ℕ) (delta : Bool) (m : List ℕ) (f : ℕ → ℕ) (c : ℕ) → is_valid_cell h m c ≡ true → byte_word h kind delta m f c ≤ 255
unfolding byte_word left_behind
byte_small h kind true m f c e = rw (valid-at h m c e).valid (byte-of-small kind _ _)
byte_small h kind false m f c e = byte-of-small kind _ _

-- ---- an accepted image

-- its lengths are packed counts, none of them above 32
pub lengths-are : (s : List ℕ) (at n : ℕ) {c : Counts} → lengths_at s at n ≡ ok c → (counts s at ≡ ok c) × ((k : ℕ) → k < n → get_or c.values k 0 ≤ 32)
unfolding lengths_at
lengths-are s at n e =
    let (d, k, e) = bind_is (counts s at) _ e in
    let (_, _, e) = bind_is (require (eqb (length d.values) n) 8) _ e in
    let (_, q, e) = bind_is (require (all_to n (λ i. leb (get_or d.values i 0) 32)) 8) _ e in
    let (_, _, e) = bind_is (require (ltb 0 (total n (λ i. get_or d.values i 0))) 8) _ e in
    (k ∙ e, rw (← ok-is e) (λ i l. leb-true _ _ (all-each n i _ (require-is _ 8 q) l)))

-- the table that a range and lengths lead to
abbrev pub table_of : List ℕ → Range → Counts → Table
table_of s r c = record {
  range = r;
  lengths = c.values;
  codes = codes_at s c.next r.count c.values;
  start = c.next + run_words (total r.count (λ k. get_or c.values k 0)) * 4;
}

-- what an accepted table was read as
pub record TableParts (s : List ℕ) (at : ℕ) (t : Table) : Type 0 where
  pub range : Range
  pub range-is : range_at s at ≡ ok range
  pub lengths : Counts
  pub lengths-is : lengths_at s (at + 16) range.count ≡ ok lengths
  pub inside : (table_of s range lengths).start ≤ length s
  pub free : prefix_free (table_of s range lengths) ≡ true
  pub whole : table_of s range lengths ≡ t

pub table-parts : (s : List ℕ) (at : ℕ) {t : Table} → table_at s at ≡ ok t → TableParts s at t
unfolding table_at
table-parts s at e =
    let (r, a, e) = bind_is (range_at s at) _ e in
    let (c, l, e) = bind_is (lengths_at s (at + 16) r.count) _ e in
    let (_, q, e) = bind_is (require (leb (table_of s r c).start (length s)) 1) _ e in
    let (_, f, e) = bind_is (require (prefix_free (table_of s r c)) 8) _ e in
    record { range = r; range-is = a; lengths = c; lengths-is = l; inside = leb-true _ _ (require-is _ 1 q); free = require-is _ 8 f; whole = ok-is e }

-- its table takes more than 16 bytes, and ends within
pub table-ends : (s : List ℕ) (at : ℕ) {t : Table} → table_at s at ≡ ok t → (at + 16 < t.start) × (t.start ≤ length s)
table-ends s at e =
    let p = table-parts s at e in
    let i = counts-ends s (at + 16) (lengths-are s (at + 16) p.range.count p.lengths-is).0 in
    rw (← p.whole) (omega (arith, i.0), p.inside)

-- its table, its symbols, and its end within
pub record ImageParts (s : List ℕ) (at n : ℕ) (x : Coded) : Type 0 where
  pub table : Table
  pub table_is : table_at s at ≡ ok table
  pub run : Run
  pub run_is : symbols_from s table n 0 ≡ ok run
  pub end : end_of table.start run.bits ≡ x.end
  pub inside : x.end ≤ length s
  pub whole : record { symbols = run.values; end = end_of table.start run.bits } ≡ x

pub image-parts : (s : List ℕ) (at n : ℕ) {x : Coded} → coded_at s at n ≡ ok x → ImageParts s at n x
unfolding coded_at
image-parts s at n e =
    let (t, a, e) = bind_is (table_at s at) _ e in
    let (r, b, e) = bind_is (symbols_from s t n 0) _ e in
    let (_, q, e) = bind_is (require (leb (end_of t.start r.bits) (length s)) 1) _ e in
    let z = ap (λ (x : Coded). x.end) (ok-is e) in
    record { table = t; table_is = a; run = r; run_is = b; end = z; inside = rw (← z) (leb-true _ _ (require-is _ 1 q)); whole = ok-is e }

-- the table, and the symbols that it gives; the end lies within, and behind the mode byte
pub image-symbols : (s : List ℕ) (h : Header) (mode : ℕ) {c : Coded} → image_at s h mode ≡ ok c
    → (t : Table) × (table_at s (mode + 1) ≡ ok t) × (length c.symbols ≡ h.valid * h.depth) × ((i : ℕ) → i < h.valid * h.depth → get_or c.symbols i 0 ≡ symbol_no s t 0 i)
    × (c.end ≤ length s) × (mode + 1 < c.end)
unfolding image_at
image-symbols s h mode {c} e =
    let n = h.valid * h.depth in
    let g = image-parts s (mode + 1) n (marked-is mode _ e) in
    let values : g.run.values ≡ c.symbols = ap (λ (x : Coded). x.symbols) g.whole in (
      g.table,
      g.table_is,
      rw (← values) (coded-length s g.table n 0 g.run_is),
      λ j l. ap (λ (x : List ℕ). get_or x j 0) (sym values) ∙ coded-symbol s g.table n 0 g.run_is j l,
      g.inside,
      rw (← g.end) (omega (arith, (table-ends s (mode + 1) g.table_is).0)),
    )

-- ---- what is written where the image is accepted

pub written-are : (s : List ℕ) (h : Header) (mode : ℕ) (delta : Bool) (m image : List ℕ) {e : Extent} {c : Coded} → held h (length s) ≡ ok e → length s ≡ h.size
    → mask_length (shape_of h) ≤ length m → cells (shape_of h) ≤ length image → valid_below (pixels (shape_of h)) m ≡ h.valid → image_at s h mode ≡ ok c
    → written_image s h mode delta m image ≡ painted image (is_valid_cell (shape_of h) m) (byte_word (shape_of h) h.kind delta m (λ i. get_or c.symbols i 0))
unfolding written_image write_table by_table
written-are s h mode delta m image {e} {c} k l wide room valid i =
    let all : take h.size s ≡ s = take_all h.size s (omega arith) in
    let (t, a, _, same, _, _) = image-symbols s h mode i in
    rw (k ∙ ap ok (held-is h (length s) k), le-leb (mask_length (shape_of h)) (length m) wide, le-leb (cells (shape_of h)) (length image) room, all, a)
    (painted-words image _ _ (is_valid_cell (shape_of h) m)
    (λ p q. byte-same (shape_of h) h.kind delta m (symbol_no s t 0) (λ i. get_or c.symbols i 0) p (held-shaped h (length s) k).depth.0 q
    (λ j b. sym (same j (rw (valid) at b)))))
