-- lerc_byte_image.rs: `pixel`, `target`, `prediction`, `finish`, `decoded`.
-- Upstream: JD-P/verified-tiff, commit 9a6464383f, MIT licence (NOTICE).
-- Assumes nothing.
use Rattle.std.specs.Prelude.{ℕ, zero, suc, ◌+◌, ◌-◌, ◌*◌, ◌/◌, ◌%◌, Bool, not, cond, ◌&&◌, List, length, get_or, set, leb, ltb, eqb}
use Rattle.std.proofs.Math.Option.{Option, none, some}
use Rattle.lerc_header.specs.declared.Header.{Header}
use Rattle.lerc_mask.specs.Mask.{pixel_valid}
use Rattle.lerc_byte_image.specs.Table.{Table}
use Rattle.lerc_contracts.specs.Outside.{on_some, table, symbol, width, height}
use Rattle.lerc_contracts.specs.Block.{ResultModel}

-- `pixel`
unfoldable pub pixel : Header → Bool → ℕ → ℕ
pixel h delta k = cond delta (k % (width h * height h)) (k / h.depth)

-- `target`
unfoldable pub target : Header → Bool → ℕ → ℕ
target h delta k = cond delta (pixel h delta k * h.depth + k / (width h * height h)) k

-- `prediction`
unfoldable pub prediction : Header → Bool → ℕ → List ℕ → List ℕ → ℕ → ℕ
prediction h delta k mask out previous =
    cond (not delta) 0
    (let p = pixel h delta k in
    let prev = cond (eqb p 0) 0 previous in
    cond (ltb 0 (p % width h) && pixel_valid mask (p - 1)) prev
    (cond (leb (width h) p && pixel_valid mask (p - width h)) (get_or out (target h delta k - width h * h.depth) 0)
    prev))

-- `value`, in `finish`
abbrev pub value : Header → ℕ → ℕ → ℕ
value h v predicted = (v + 256 - cond (eqb h.kind 0) 128 0 + predicted) % 256

-- `finish`, where all cells are done
abbrev pub bytes_end : List ℕ → ℕ → ℕ → List ℕ → Option ResultModel
bytes_end s base p out =
    let at = base + ((p + 31) / 32 + 1) * 4 in
    cond (ltb (length s) at) none (some (record { at = at; image = out }))

-- `finish`
unfoldable pub finish : List ℕ → Header → List ℕ → ℕ → Table → Bool → ℕ → ℕ → ℕ → List ℕ → ℕ → Option ResultModel
finish s h mask base t delta k p prev out zero = cond (eqb k (width h * height h * h.depth)) (bytes_end s base p out) none
finish s h mask base t delta k p prev out (suc fuel) =
    cond (eqb k (width h * height h * h.depth)) (bytes_end s base p out)
    (let px = pixel h delta k in
    let dest = target h delta k in
    let previous = cond (delta && eqb px 0) 0 prev in
    cond (not (pixel_valid mask px))
    (finish s h mask base t delta (k + 1) p previous out fuel)
    (on_some (symbol s base p t) (λ x.
    let predicted = prediction h delta k mask out prev in
    let v = value h x.value predicted in
    finish s h mask base t delta (k + 1) x.next v (set out dest v) fuel)))

-- `decoded`
unfoldable pub decoded : List ℕ → Header → List ℕ → ℕ → Bool → List ℕ → Option ResultModel
decoded s h mask start delta out = on_some (table s start) (λ t. finish s h mask t.at t.table delta 0 0 0 out (width h * height h * h.depth))
