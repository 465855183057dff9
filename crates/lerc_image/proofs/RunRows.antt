-- The rows of a tile counted in the runs that give the mask, each from a place of its own.
-- Assumes nothing.
use mathlib.Core.Path.{◌≡◌, refl, sym, ap, ◌∙◌}
use mathlib.Core.Bool.{Bool, true, false}
use mathlib.Core.List.{List}
use Prim.Native.Nat.{ℕ, ◌+◌, ◌-◌, ◌*◌, ◌/◌, ◌%◌, ◌^◌, ◌≤◌, ◌<◌}
use native.Mathlib.Decide.{dec_lt}
use native.Mathlib.Numerals.{add-one}
use native.Mathlib.Omega.{arith}
use borrow.Author.Tests.{eqb-true, eqb-false}
use lib.Dec.{eqb}
use lib.ListN.{length, get_or, set, replicate, length-set, length-replicate, get_or-replicate, get_or-eq_default}
use lib.Seq.{get_or-set_same, get_or-set_other}
use Rattle.lerc_words.proofs.Counts.{count-zero, count-le}
use Rattle.lerc_header.specs.declared.Header.{Header}
use Rattle.lerc_header.specs.declared.Extent.{Extent}
use Rattle.lerc_header.specs.Limits.{side_limit}
use Rattle.lerc_header.specs.Shape.{pixels, mask_length}
use Rattle.lerc_mask.specs.declared.seek.RunPlace.{RunPlace}
use Rattle.lerc_mask.specs.declared.seek.RunFound.{RunFound}
use Rattle.lerc_mask.specs.Mask.{valid_below, valid_from}
use Rattle.lerc_mask.specs.Seek.{given, front, OnWay}
use Rattle.lerc_mask.proofs.Pixels.{from_suc, valid-uniform-255}
use Rattle.lerc_mask.proofs.Given.{Finds, way-front}
use Rattle.lerc_image.specs.declared.Tile.{Tile}
use Rattle.lerc_image.specs.declared.Position.{Position}
use Rattle.lerc_image.specs.Geometry.{tile_here}
use Rattle.lerc_image.specs.Parts.{BodyAsked}
use Rattle.lerc_image.specs.Own.{mask_by, RowsOnWay, RowCounted, OwnAsked}
use Rattle.lerc_image.proofs.Rows.{Carried}
use Rattle.lerc_image.proofs.Standing.{Standing, standing-count}

-- ---- the places

fronts : (n i : ℕ) → get_or (replicate n front) i front ≡ front
fronts n i = go (dec_lt i n)
  where
    go : Dec (i < n) → get_or (replicate n front) i front ≡ front
    go (yes l) = get_or-replicate n i front front l
    go (no l) =
        let k : length (replicate n front) ≤ i = rw (length-replicate) (omega arith) in
        get_or-eq_default (replicate n front) front k

-- all rows begin at the front
pub rows-front : (want : ℕ) (section : List ℕ) → RowsOnWay want section (replicate side_limit front)
rows-front want section = record { long = refl; way = λ row. rw (fronts side_limit row) (way-front want section) }

-- one row's place is replaced by another on the way
module _ {want : ℕ} {section : List ℕ} {places : List RunPlace} (w : RowsOnWay want section places) (row : ℕ) (l : row < side_limit) (p : RunPlace) (o : OnWay want section p) where
  set-way : (j : ℕ) (b : Bool) → eqb j row ≡ b → OnWay want section (get_or (set places row p) j front)
  set-way j true e = rw (eqb-true j row e, get_or-set_same places row p front (rw w.long l)) o
  set-way j false e = rw (get_or-set_other places row j p front (eqb-false j row e)) (w.way j)

  pub rows-set : RowsOnWay want section (set places row p)
  rows-set = record { long = length-set places row p ∙ w.long; way = λ j. set-way j (eqb j row) refl }

-- ---- one row

-- before pixel k of a row: how many of those before it are valid, and a place on the way
pub record RowCounting (want : ℕ) (section : List ℕ) (first n : ℕ) (place : RunPlace) (k found : ℕ) : Type 0 where
  pub few : k ≤ n
  pub found-is : found ≡ valid_from first k (given want section)
  pub way : OnWay want section place

pub row-none : {want : ℕ} {section : List ℕ} (first n : ℕ) {place : RunPlace} → OnWay want section place → RowCounting want section first n place 0 0
row-none first n w = record { few = omega arith; found-is = sym (count-zero _); way = w }

module _ {want : ℕ} {section : List ℕ} {first n : ℕ} {place : RunPlace} {k found : ℕ} (c : RowCounting want section first n place k found) where
  pub row_small : found ≤ k
  row_small = rw c.found-is (count-le k _)

  pub row_next : k < n → {r : RunFound} → Finds want section ((first + k) / 8) r → {bit : ℕ} → bit ≡ r.byte / 2 ^ (7 - (first + k) % 8) % 2
      → RowCounting want section first n r.place (k + 1) (found + bit)
  row_next l {r} f {bit} b =
      record {
        few = omega arith;
        found-is = ap (λ (x : ℕ). found + x) (b ∙ ap (λ (x : ℕ). x / 2 ^ (7 - (first + k) % 8) % 2) f.byte) ∙ rw (c.found-is, add-one) (sym (from_suc first k (given want section)));
        way = f.way;
      }

  pub row-all : n ≤ k → RowCounted want section first n (record { place = place; found = found })
  row-all l = let e : k ≡ n = omega (arith, c.few) in record { found = rw (e) at c.found-is; way = c.way }

-- ---- the tile of a block

mask-all : (h : Header) (e : Extent) → BodyAsked h e → (full : Bool) (section : List ℕ) → full ≡ true → valid_below (pixels e.shape) (mask_by full e.mask section) ≡ pixels e.shape
mask-all h e a full section z =
    let want : e.mask ≡ mask_length e.shape = rw a.sizes in
    let room : pixels e.shape ≤ 8 * e.mask = omega arith in
    rw (z) (valid-uniform-255 (pixels e.shape) e.mask room)

module _ {h : Header} {e : Extent} {p : Position} {n : ℕ} (w : Standing h e p n) (l : n < e.blocks) where
  -- its valid pixels can be asked for
  pub own-asked : {t : Tile} → t ≡ tile_here e.shape p → {full : Bool} {section : List ℕ} {places : List RunPlace} {before : ℕ}
      → Carried e.shape (mask_by full e.mask section) n before → RowsOnWay e.mask section places → OwnAsked e.shape t e.mask section full before places
  own-asked q {full} {section} c r =
      let a = standing-count w l q refl c in
      record {
        asked = record { tile = a.tile; all = mask-all h e w.asked full section; same = a.same };
        side = rw (q) (omega (arith, w.asked.shaped.side.1));
        rows = r;
      }
