-- Whole read: its answer, and every lent slice afterwards.
-- Assumes nothing.
use Rattle.std.specs.Prelude.{ℕ, ◌≡◌, Bool, ◌&&◌, List, length, take, leb}
use Rattle.lerc_words.specs.Res.{Res, ok, fail, ◌>>=◌, require}
use Rattle.lerc_words.specs.Lists.{over}
use Rattle.lerc_header.specs.declared.Header.{Header}
use Rattle.lerc_header.specs.Header.{shape_of, header_says}
use Rattle.lerc_header.specs.Shape.{cells, mask_length, block_count}
use Rattle.lerc_validity.specs.Validity.{MaskInForce, bytes_of, mask_says, spare_with}
use Rattle.lerc_image.specs.Geometry.{is_valid_cell}
use Rattle.lerc_image.specs.Paint.{painted}
use Rattle.lerc.specs.declared.Whole.{Whole}
use Rattle.lerc.specs.Meaning.{Meaning, meaning_from, end_of, starts_of, cell_word}

-- the slices that a whole read is lent
pub record Lent : Type 0 where
  pub kept : List ℕ
  pub spare : List ℕ
  pub list : List ℕ
  pub image : List ℕ

-- "Room is judged .. from the header alone, for every slice an entry is lent, the list included, whatever the body."
unfoldable pub room : Header → Lent → Bool
room h l =
    let s = shape_of h in
    leb (mask_length s) (length l.kept) && leb (mask_length s) (length l.spare)
    && leb (block_count s) (length l.list) && leb (cells s) (length l.image)

-- as far as the mask: header, room, mask section
pub record Masked : Type 0 where
  pub header : Header
  pub mask : MaskInForce

unfoldable pub masked : List ℕ → Bool → Lent → Res Masked
masked b reuse l = do
  h ← header_says b
  _ ← require (room h l) 5
  m ← mask_says (take h.size b) h reuse l.kept
  ok (record { header = h; mask = m })

-- "whole read": the meaning, once there is room
unfoldable pub read_says : List ℕ → Bool → Lent → Res Meaning
read_says b reuse l = do
  m ← masked b reuse l
  meaning_from b m.header m.mask

-- ---- afterwards

-- "Success writes only the mask's length, the list's first count entries and valid cells."
unfoldable pub published : Meaning → Lent → Lent
published m l =
    let h = m.header in
    let mask = bytes_of m.mask in
    record {
      kept = over mask l.kept;
      spare = spare_with m.mask l.spare;
      list = over (starts_of m.body) l.list;
      image = painted l.image (is_valid_cell (shape_of h) mask) (cell_word h mask m.body);
    }

-- "It leaves every lent slice unchanged, except: where the mask section was accepted and no mask was reused, the spare's first (pixels+7)/8 bytes hold the new mask."
unfoldable pub refused_after : Res Masked → Lent → Lent
refused_after (ok m) l = record { kept = l.kept; spare = spare_with m.mask l.spare; list = l.list; image = l.image }
refused_after (fail r) l = l

-- every lent slice afterwards
abbrev pub read_after : Res Meaning → Res Masked → Lent → Lent
read_after (ok m) k l = published m l
read_after (fail r) k l = refused_after k l

-- ---- the answer

abbrev pub ReadTold : Type 0
ReadTold = Whole

-- what is reported of a meaning
abbrev pub read_count : Meaning → Res ReadTold
read_count m = ok (record { header = m.header; blocks = length (starts_of m.body); end = end_of m.body })

-- "answer, number, and every lent byte afterwards"
pub record WholeRead (b : List ℕ) (reuse : Bool) (r : Res ReadTold) (old new : Lent) : Type 0 where
  pub says : r ≡ (read_says b reuse old >>= read_count)
  pub lent : new ≡ read_after (read_says b reuse old) (masked b reuse old) old
