-- lerc_block.rs: `Tile`, `Mode`, `mode`, `Step`, `value`, `ResultModel`, `finish`. A tile is our own record; its depth is `d`.
-- Upstream: JD-P/verified-tiff, commit 9a6464383f, MIT licence (NOTICE).
-- Assumes nothing.
use Rattle.std.specs.Prelude.{ℕ, zero, suc, ◌+◌, ◌*◌, ◌/◌, ◌%◌, ◌≤◌, ◌<◌, not, cond, ◌&&◌, ◌||◌, List, [], length, get_or, set, leb, eqb}
use Rattle.std.proofs.Math.Option.{Option, none, some}
use Rattle.lerc_numeric.specs.Numeric.{finite, counted_sum, scaled, less}
use Rattle.lerc_numeric.specs.Kinds.{type_size}
use Rattle.lerc_header.specs.declared.Header.{Header}
use Rattle.lerc_header.specs.Header.{shape_of}
use Rattle.lerc_header.specs.Shape.{Shaped}
use Rattle.lerc_mask.specs.Mask.{pixel_valid}
use Rattle.lerc_image.specs.declared.Tile.{Tile}
use Rattle.lerc_contracts.specs.Outside.{unwrap, on_some, word, range_ok, number, storage, reduced, width, height}
use Rattle.lerc_contracts.specs.Bits.{decoded}

-- `Tile::valid`; `Header::invariant` is `Shaped`
pub record TileValid (t : Tile) (h : Header) : Type 0 where
  pub header : Shaped (shape_of h)
  pub wide : (0 < t.w) × (t.w ≤ 16)
  pub high : (0 < t.h) × (t.h ≤ 16)
  pub column : t.x + t.w ≤ width h
  pub row : t.y + t.h ≤ height h
  pub depth : t.d < h.depth

-- `Tile::pixel`
abbrev pub pixel : Tile → Header → ℕ → ℕ
pixel t h k = (t.y + k / t.w) * width h + t.x + k % t.w

-- `Tile::target`
abbrev pub target : Tile → Header → ℕ → ℕ
target t h k = pixel t h k * h.depth + t.d

-- `Mode`
pub record Mode : Type 0 where
  pub at : ℕ
  pub flag : ℕ
  pub offset : ℕ
  pub quant : ℕ
  pub next : ℕ

-- `mode`, behind an offset of the kind k
abbrev pub mode_offset : List ℕ → ℕ → ℕ → ℕ → ℕ → Option Mode
mode_offset s at f k value =
    cond (not (finite value)) none
    (let next = at + 1 + type_size k in
    cond (eqb f 3) (some (record { at = next; flag = f; offset = value; quant = 0; next = next }))
    (on_some (decoded s next) (λ q. some (record { at = q.end; flag = f; offset = value; quant = next; next = q.end }))))

-- `mode`
unfoldable pub mode : List ℕ → ℕ → Header → Tile → Option Mode
mode s at h t =
    cond (leb (length s) at) none
    (let flag = get_or s at 0 in
    cond (not (eqb (flag / 4 % 16) (t.x / 8 % 16))) none
    (let f = flag % 4 in
    cond (eqb f 0 || eqb f 2) (some (record { at = at + 1; flag = f; offset = 0; quant = 0; next = at + 1 }))
    (on_some (reduced h.kind (flag / 64)) (λ k. on_some (number s (at + 1) k) (mode_offset s at f k)))))

-- `Step`
pub record Step : Type 0 where
  pub value : ℕ
  pub at : ℕ
  pub q : ℕ

-- `value`; its `num::sum` is `counted_sum` (`plus-counted`)
unfoldable pub value : List ℕ → Header → Mode → List ℕ → ℕ → ℕ → ℕ → Option Step
value s h m q at index maximum =
    cond (eqb m.flag 0)
    (let size = type_size h.kind in
    cond (not (range_ok (length s) at size)) none (some (record { value = word s at size; at = at + size; q = index })))
    (cond (eqb m.flag 2) (some (record { value = 0; at = at; q = index }))
    (let total = counted_sum m.offset (scaled h.error (get_or q index 0)) in
    let v = cond (eqb m.flag 3) m.offset (cond (less total maximum) total maximum) in
    cond (eqb m.flag 1 && leb (length q) index) none
    (on_some (storage v h.kind) (λ bits. some (record { value = bits; at = at; q = cond (eqb m.flag 1) (index + 1) index })))))

-- `ResultModel`; `data` is a reserved word here
pub record ResultModel : Type 0 where
  pub at : ℕ
  pub image : List ℕ

-- `finish`, where all places are done
abbrev pub finished : Mode → List ℕ → ℕ → ℕ → List ℕ → Option ResultModel
finished m q at index out = cond (eqb m.flag 1 && not (eqb index (length q))) none (some (record { at = at; image = out }))

-- `finish`
unfoldable pub finish : List ℕ → Header → Tile → Mode → List ℕ → List ℕ → ℕ → ℕ → ℕ → ℕ → List ℕ → ℕ → Option ResultModel
finish s h t m q mask maximum k at index out zero = cond (eqb k (t.w * t.h)) (finished m q at index out) none
finish s h t m q mask maximum k at index out (suc fuel) =
    cond (eqb k (t.w * t.h)) (finished m q at index out)
    (cond (not (pixel_valid mask (pixel t h k)))
    (finish s h t m q mask maximum (k + 1) at index out fuel)
    (on_some (value s h m q at index maximum) (λ step. finish s h t m q mask maximum (k + 1) step.at step.q (set out (target t h k) step.value) fuel)))

-- the counts of a mode, as `tiles` has them
abbrev pub counts_of : List ℕ → Mode → List ℕ
counts_of s m = cond (eqb m.flag 1) (unwrap (record { end = 0; values = [] }) (decoded s m.quant)).values []

-- a block as `tiles` reads it: its mode, then its cells
unfoldable pub block : List ℕ → Header → Tile → List ℕ → ℕ → ℕ → List ℕ → Option ResultModel
block s h t mask maximum at out = on_some (mode s at h t) (λ m. finish s h t m (counts_of s m) mask maximum 0 m.at 0 out 256)
