-- The table that an image is written by, and where none is.
-- Assumes nothing.
use Rattle.std.proofs.Common.{◌≡◌, ℕ, ◌+◌, ◌≤◌, Bool, true, false, ◌&&◌, leb, List, length, take, sym, ap, arith, length-take, leb-true}
use Rattle.lerc_words.specs.declared.Refusal.{Refusal}
use Rattle.lerc_words.specs.Res.{ok, fail, after}
use Rattle.lerc_words.proofs.Binding.{and_is}
use Rattle.lerc_header.specs.declared.Header.{Header}
use Rattle.lerc_header.specs.declared.Extent.{Extent}
use Rattle.lerc_header.specs.Shape.{cells}
use Rattle.lerc_header.specs.Header.{shape_of, held}
use Rattle.lerc_header.proofs.Kept.{held-is}
use Rattle.lerc_byte_image.specs.declared.table.TableHead.{TableHead}
use Rattle.lerc_byte_image.specs.Table.{table_at}
use Rattle.lerc_byte_image.specs.Image.{by_table, write_table, written_image}
use Rattle.lerc_byte_image.specs.Parts.{table_by, table_said, Kept, Behind}
use Rattle.lerc_byte_image.proofs.Kept.{table_kept}
use Rattle.lerc_byte_image.proofs.Checking.{table-past, inside}

-- a slice that begins with so many
take_in : (n : ℕ) (xs : List ℕ) → length (take n xs) ≡ n → n ≤ length xs
take_in n xs e = omega (arith, rw (length-take) at e)

-- a table that was read
module _ (s : List ℕ) (at : ℕ) (t : TableHead) (lengths codes : List ℕ) (says : table_said (ok t) lengths codes ≡ table_at s at) where
  pub read_is : table_at s at ≡ ok (table_by t.range t.start (take t.range.count lengths) (take t.range.count codes))
  read_is = sym says

  kept : Kept (table_by t.range t.start (take t.range.count lengths) (take t.range.count codes))
  kept = (table_kept s at _ read_is).0

  pub lengths-in : t.range.count ≤ length lengths
  lengths-in = take_in t.range.count lengths kept.lengths

  pub codes-in : t.range.count ≤ length codes
  codes-in = take_in t.range.count codes kept.codes

  pub lengths-cut : t.range.count ≡ length (take t.range.count lengths)
  lengths-cut = sym kept.lengths

  pub codes-cut : t.range.count ≡ length (take t.range.count codes)
  codes-cut = sym kept.codes

  pub read_behind : length s ≤ 16777216 → Behind s (table_by t.range t.start (take t.range.count lengths) (take t.range.count codes)) 0
  read_behind l = record { kept = kept; short = l; inside = (table_kept s at _ read_is).1; at = omega arith }

-- ---- the tests before it

module _ (b : List ℕ) (h : Header) (mode : ℕ) (delta : Bool) (m im : List ℕ) where
  pub unheld : {r : Refusal} → held h (length b) ≡ fail r → im ≡ written_image b h mode delta m im
  unfolding written_image write_table
  unheld e = rw (e)

  pub no_room : {e : Extent} → held h (length b) ≡ ok e → (leb e.mask (length m) && leb e.cells (length im)) ≡ false → im ≡ written_image b h mode delta m im
  unfolding written_image write_table
  no_room k r = rw (k, r)

  module _ {e : Extent} (k : held h (length b) ≡ ok e) (room : (leb e.mask (length m) && leb e.cells (length im)) ≡ true) where
    size_is : e.size ≡ h.size
    size_is = ap (λ (x : Extent). x.size) (held-is h (length b) k)

    pub form-is : e.shape ≡ shape_of h
    form-is = ap (λ (x : Extent). x.shape) (held-is h (length b) k)

    pub blob-in : e.size ≡ length (take e.size b)
    blob-in = let l = inside b h mode k in rw (length-take) (omega arith)

    pub cells_in : cells (shape_of h) ≤ length im
    cells_in =
        let c : e.cells ≡ cells (shape_of h) = ap (λ (x : Extent). x.cells) (held-is h (length b) k) in
        rw (← c) (leb-true _ _ (and_is (leb e.mask (length m)) (leb e.cells (length im)) room).1)

    pub written : {new : List ℕ} → new ≡ after (table_at (take e.size b) (mode + 1)) im (by_table (take e.size b) h delta m im) → new ≡ written_image b h mode delta m im
    unfolding written_image write_table
    written w = rw (k, room) (rw (size_is) at w)

    -- the mode byte stands behind the end
    pub no_table : e.size ≤ mode → im ≡ written_image b h mode delta m im
    no_table l = written (rw (table-past (take e.size b) (mode + 1) (let z = blob-in in omega arith)))
