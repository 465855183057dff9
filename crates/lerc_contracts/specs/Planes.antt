-- lerc_planes.rs: `mask_size`, `count`, `validity`, `equal`, `RangeModel`, `ranges`, `constants`.
-- Upstream: JD-P/verified-tiff, commit 9a6464383f, MIT licence (NOTICE).
-- Assumes nothing.
use Rattle.std.specs.Prelude.{ℕ, zero, suc, ◌+◌, ◌*◌, ◌/◌, ◌%◌, Bool, true, not, cond, ◌&&◌, ◌||◌, List, length, get_or, take, ltb, eqb}
use Rattle.std.proofs.Math.Option.{Option, none, some}
use Rattle.lerc_words.specs.Lists.{tabulate, all_to}
use Rattle.lerc_numeric.specs.Numeric.{finite, less}
use Rattle.lerc_numeric.specs.Kinds.{type_size}
use Rattle.lerc_header.specs.declared.Header.{Header}
use Rattle.lerc_mask.specs.Mask.{pixel_valid}
use Rattle.lerc_contracts.specs.Outside.{is_some, unwrap, on_some, number, storage, runs_of, width, height, data_at}

-- `mask_size`
abbrev pub mask_size : Header → ℕ
mask_size h = (width h * height h + 7) / 8

-- `count`
unfoldable pub count : List ℕ → ℕ → ℕ
count s zero = 0
count s (suc n) = count s n + cond (pixel_valid s n) 1 0

-- `validity`: a mask, if its valid pixels have the header's number
abbrev pub counted : Header → List ℕ → Option (List ℕ)
counted h v = cond (not (eqb (count v (width h * height h)) h.valid)) none (some v)

-- `validity`
unfoldable pub validity : List ℕ → Header → List ℕ → Bool → Option (List ℕ)
validity s h old reuse =
    let size = mask_size h in
    on_some
    (cond (eqb h.valid 0) (some (tabulate size (λ i. 0)))
    (cond (eqb h.valid (width h * height h)) (some (tabulate size (λ i. 255)))
    (cond (eqb h.mask 0) (cond reuse (some (take size old)) none)
    (runs_of s 70 (data_at h) size))))
    (counted h)

-- `equal`
unfoldable pub equal : ℕ → ℕ → Bool
equal a b = eqb a b || (eqb (a % 0x8000000000000000) 0 && eqb (b % 0x8000000000000000) 0)

-- `RangeModel`
pub record RangeModel : Type 0 where
  pub at : ℕ
  pub constant : Bool
  pub min : List ℕ
  pub max : List ℕ

-- `ranges`: the numbers of one bound, from the place of depth 0 on
unfoldable pub bounds : List ℕ → Header → ℕ → ℕ → List ℕ
bounds s h first rest =
    tabulate 64 (λ i. cond (ltb i h.depth) (unwrap 0 (number s (data_at h + (first + i) * type_size h.kind) h.kind)) rest)

-- `ranges`
unfoldable pub ranges : List ℕ → Header → Option RangeModel
ranges s h =
    cond (equal h.min h.max) (some (record { at = data_at h; constant = true; min = tabulate 64 (λ i. h.min); max = tabulate 64 (λ i. h.max) }))
    (let size = type_size h.kind in
    let at = data_at h + 2 * h.depth * size in
    let minima = bounds s h 0 h.min in
    let maxima = bounds s h h.depth h.max in
    cond (ltb (length s) at || not (all_to h.depth (λ i. finite (get_or minima i 0) && finite (get_or maxima i 0) && not (less (get_or maxima i 0) (get_or minima i 0))))) none
    (some (record { at = at; constant = all_to h.depth (λ i. equal (get_or minima i 0) (get_or maxima i 0)); min = minima; max = maxima })))

-- `constants`
unfoldable pub constants : List ℕ → ℕ → ℕ → Option (List ℕ)
constants values depth kind =
    cond (not (all_to depth (λ i. is_some (storage (get_or values i 0) kind)))) none
    (some (tabulate 64 (λ i. cond (ltb i depth) (unwrap 0 (storage (get_or values i 0) kind)) 0)))
