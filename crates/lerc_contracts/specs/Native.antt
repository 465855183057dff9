-- native_lerc.rs: `pixels`, the body of a blob.
-- Upstream: JD-P/verified-tiff, commit 9a6464383f, MIT licence (NOTICE).
-- Assumes nothing.
use Rattle.std.specs.Prelude.{ℕ, ◌+◌, Bool, true, false, not, cond, ◌&&◌, ◌||◌, List, length, get_or, leb, ltb, eqb}
use Rattle.std.proofs.Math.Option.{Option, none, some}
use Rattle.lerc_words.specs.Lists.{tabulate}
use Rattle.lerc_header.specs.declared.Header.{Header}
use Rattle.lerc_contracts.specs.Outside.{on_some, data_at}
use Rattle.lerc_contracts.specs.Planes.{RangeModel, ranges, constants}
use Rattle.lerc_contracts.specs.Block.{ResultModel}
use Rattle.lerc_contracts.specs.Image.{tiles, linear}
use Rattle.lerc_contracts.specs.ByteImage.{decoded}

-- `entropy`
abbrev pub entropy : Header → Bool
entropy h = ltb h.kind 2 && eqb h.error 0x3fe0000000000000

-- `pixels`, behind a sweep byte of 0
abbrev pub unswept : List ℕ → Header → List ℕ → RangeModel → List ℕ → Option ResultModel
unswept s h mask r initial =
    let at = r.at + 1 in
    cond (entropy h && (leb (length s) at || ltb 2 (get_or s at 0))) none
    (cond (entropy h && not (eqb (get_or s at 0) 0)) (decoded s h mask (at + 1) (eqb (get_or s at 0) 1) initial)
    (tiles s h mask r.max (record { x = 0; y = 0; d = 0 }) (at + cond (entropy h) 1 0) initial (length initial)))

-- `pixels`, behind the ranges
abbrev pub ranged : List ℕ → Header → List ℕ → List ℕ → RangeModel → Option ResultModel
ranged s h mask initial r =
    cond r.constant (on_some (constants r.min h.depth h.kind) (λ c. linear s h mask c false 0 r.at initial (length initial)))
    (cond (leb (length s) r.at) none
    (cond (not (eqb (get_or s r.at 0) 0)) (linear s h mask (tabulate 64 (λ i. 0)) true 0 (r.at + 1) initial (length initial))
    (unswept s h mask r initial)))

-- `pixels`
unfoldable pub pixels : List ℕ → Header → List ℕ → List ℕ → Option ResultModel
pixels s h mask initial =
    cond (eqb h.valid 0) (some (record { at = data_at h; image = initial }))
    (on_some (ranges s h) (ranged s h mask initial))
