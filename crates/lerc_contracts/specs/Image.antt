-- lerc_image.rs: `Position`, `tiles`, `linear_value`, `linear`. A position is our own record.
-- Upstream: JD-P/verified-tiff, commit 9a6464383f, MIT licence (NOTICE).
-- Assumes nothing.
use Rattle.std.specs.Prelude.{ℕ, zero, suc, ◌+◌, ◌-◌, ◌*◌, ◌/◌, ◌%◌, ◌≤◌, ◌<◌, Bool, not, cond, List, length, get_or, set, ltb, eqb}
use Rattle.std.proofs.Math.Option.{Option, none, some}
use Rattle.lerc_numeric.specs.Kinds.{type_size}
use Rattle.lerc_header.specs.declared.Header.{Header}
use Rattle.lerc_header.specs.Header.{shape_of}
use Rattle.lerc_header.specs.Shape.{Shaped}
use Rattle.lerc_mask.specs.Mask.{pixel_valid}
use Rattle.lerc_image.specs.declared.Tile.{Tile}
use Rattle.lerc_image.specs.declared.Position.{Position}
use Rattle.lerc_contracts.specs.Outside.{on_some, word, range_ok, width, height, side}
use Rattle.lerc_contracts.specs.Block.{ResultModel, block}

-- `Position::valid`; `Header::invariant` is `Shaped`
pub record PositionValid (p : Position) (h : Header) : Type 0 where
  pub header : Shaped (shape_of h)
  pub x : p.x < width h
  pub y : p.y ≤ height h
  pub d : p.d < h.depth

-- `Position::tile`
abbrev pub tile : Position → Header → Tile
tile p h = record {
  x = p.x;
  y = p.y;
  d = p.d;
  w = cond (ltb (width h - p.x) (side h)) (width h - p.x) (side h);
  h = cond (ltb (height h - p.y) (side h)) (height h - p.y) (side h);
}

-- `Position::next`
abbrev pub next : Position → Header → Position
next p h =
    cond (ltb (p.d + 1) h.depth) (record { x = p.x; y = p.y; d = p.d + 1 })
    (let t = tile p h in
    cond (ltb (p.x + t.w) (width h)) (record { x = p.x + t.w; y = p.y; d = 0 })
    (record { x = 0; y = p.y + t.h; d = 0 }))

-- `tiles`; a block is read as in `block`
unfoldable pub tiles : List ℕ → Header → List ℕ → List ℕ → Position → ℕ → List ℕ → ℕ → Option ResultModel
tiles s h mask max p at out zero = cond (eqb p.y (height h)) (some (record { at = at; image = out })) none
tiles s h mask max p at out (suc fuel) =
    cond (eqb p.y (height h)) (some (record { at = at; image = out }))
    (on_some (block s h (tile p h) mask (get_or max p.d 0) at out) (λ b. tiles s h mask max (next p h) b.at b.image fuel))

-- the pair that `linear_value` gives
pub record PlaceAndWord : Type 0 where
  pub at : ℕ
  pub value : ℕ

-- `linear_value`
unfoldable pub linear_value : List ℕ → Header → ℕ → ℕ → Bool → List ℕ → Option PlaceAndWord
linear_value s h at k raw constant =
    cond (not raw) (some (record { at = at; value = get_or constant (k % h.depth) 0 }))
    (let size = type_size h.kind in
    cond (not (range_ok (length s) at size)) none (some (record { at = at + size; value = word s at size })))

-- `linear`
unfoldable pub linear : List ℕ → Header → List ℕ → List ℕ → Bool → ℕ → ℕ → List ℕ → ℕ → Option ResultModel
linear s h mask constant raw k at out zero = cond (eqb k (width h * height h * h.depth)) (some (record { at = at; image = out })) none
linear s h mask constant raw k at out (suc fuel) =
    cond (eqb k (width h * height h * h.depth)) (some (record { at = at; image = out }))
    (cond (not (pixel_valid mask (k / h.depth)))
    (linear s h mask constant raw (k + 1) at out fuel)
    (on_some (linear_value s h at k raw constant) (λ v. linear s h mask constant raw (k + 1) v.at (set out k v.value) fuel)))
