-- What `scatter_square` has done before a row, whose byte of the mask is k.
-- Assumes nothing.
use mathlib.Core.Path.{◌≡◌}
use mathlib.Core.Bool.{true}
use mathlib.Core.List.{List}
use Prim.Native.Nat.{ℕ, ◌+◌, ◌*◌, ◌/◌, ◌^◌, ◌≤◌, ◌<◌}
use native.Mathlib.Nat.{add-mul, mul-le-mul_right}
use native.Mathlib.Omega.{arith}
use lib.ListN.{length, get_or}
use Rattle.lerc_words.specs.Lists.{count}
use Rattle.lerc_words.proofs.Counts.{count-le}
use Rattle.lerc_words.proofs.Little.{Bytes}
use Rattle.lerc_header.specs.declared.Shape.{Shape}
use Rattle.lerc_mask.specs.Mask.{pixel_valid}
use Rattle.lerc_image.specs.declared.Tile.{Tile}
use Rattle.lerc_image.specs.Geometry.{tile_of}
use Rattle.lerc_image.specs.Paint.{scattered}
use Rattle.lerc_image.specs.Parts.{Asked, RowIn, rowed, bit_set, is_square}
use Rattle.lerc_image.proofs.Rows.{row_from}
use Rattle.lerc_image.proofs.Squares.{Square, square-is, square-in, bit-row}
use Rattle.lerc_image.proofs.Standing.{asked_in}
use Rattle.lerc_image.proofs.Laying.{length-rowed}
use Rattle.lerc_image.proofs.RowTurns.{RowAt, RowsPut, row_first, rows_none, row_in, row_next, row_put, rows-put-all}

-- the byte of a square's first row
abbrev first_byte : Shape → Tile → ℕ
first_byte h t = t.y * (h.columns / 8) + t.x / 8

pub record SquareRows (h : Shape) (n : ℕ) (m words old image : List ℕ) (k start row used : ℕ) : Type 0 where
  pub at : RowAt h (tile_of h n) n old image start row used
  pub put : RowsPut h (tile_of h n) n m words old image row used
  pub square : Square h (tile_of h n)
  pub long : ((tile_of h n).y + 8) * (h.columns / 8) ≤ length m
  pub byte : k ≡ first_byte h (tile_of h n) + row * (h.columns / 8)

pub squares-none : {h : Shape} {t : Tile} {n : ℕ} {m : List ℕ} (words : List ℕ) {old : List ℕ} → Asked h t n old → is_square h t ≡ true → (t.y + 8) * (h.columns / 8) ≤ length m
    → SquareRows h n m words old old (first_byte h t) ((t.y * h.columns + t.x) * h.depth + t.d) 0 0
squares-none {h} {t} {n} {m} words {old} a q l = rw a.tile (go (rw a.tile at a) (rw a.tile at q) (rw a.tile at l))
  where
    go : Asked h (tile_of h n) n old → is_square h (tile_of h n) ≡ true → ((tile_of h n).y + 8) * (h.columns / 8) ≤ length m
        → SquareRows h n m words old old (first_byte h (tile_of h n)) (((tile_of h n).y * h.columns + (tile_of h n).x) * h.depth + (tile_of h n).d) 0 0
    go a q l = record { at = row_first a; put = rows_none a m words; square = square-is h (tile_of h n) q; long = l; byte = omega arith }

module _ {h : Shape} {n : ℕ} {m words old image : List ℕ} {k start row used : ℕ} (s : SquareRows h n m words old image k start row used) where
  pub squares-all : 8 ≤ row → image ≡ scattered h m n words old
  squares-all l = rows-put-all s.put (omega (arith, s.square.high))

  module _ (r : row < 8) where
    pub in-tile : row < (tile_of h n).h
    in-tile = omega (arith, s.square.high)

    low : row * (h.columns / 8) ≤ 7 * (h.columns / 8)
    low = let a : row ≤ 7 = omega arith in mul-le-mul_right (h.columns / 8) a

    pub squares-in : k < length m
    squares-in = omega (arith, s.byte, low, (square-in h (tile_of h n) (asked_in s.at.asked) s.square (length m) s.long).0)

    pub squares-on : k + h.columns / 8 < 2 ^ 64
    squares-on = omega (arith, s.byte, low, (square-in h (tile_of h n) (asked_in s.at.asked) s.square (length m) s.long).1)

    pub squares-row : RowIn used 8 h.depth start image
    squares-row = rw s.square.wide at (row_in s.at in-tile)

    pub squares-next : Bytes m → {next : List ℕ} {now : ℕ} → now ≡ used + count 8 (bit_set (get_or m k 0)) → next ≡ rowed (bit_set (get_or m k 0)) words used h.depth start 8 image
        → SquareRows h n m words old next (k + h.columns / 8) (start + h.columns * h.depth) (row + 1) now
    squares-next b {next} {now} e q =
        let t = tile_of h n in
        let bits = bit_set (get_or m k 0) in
        let image-is : next ≡ rowed bits words used h.depth start t.w image = rw s.square.wide q in
        let used-is : now ≡ used + count t.w bits = rw s.square.wide e in
        let valid : (c : ℕ) → c < t.w → pixel_valid m (row_from h t row + c) ≡ bits c = λ c l. rw s.byte (bit-row h t m b s.square.wide s.square.left s.square.even row c l) in
        record {
          at = row_next s.at in-tile (rw (q) (length-rowed bits words used h.depth start image 8)) (omega (arith, used-is, count-le t.w bits));
          put = rw (image-is, used-is) (row_put s.at in-tile s.put bits valid);
          square = s.square;
          long = s.long;
          byte = omega (arith, s.byte, add-mul row 1 (h.columns / 8));
        }
