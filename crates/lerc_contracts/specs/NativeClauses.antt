-- native_lerc.rs: `pixels` (docs/CONTRACTS.md, section 9).
-- Assumes nothing.
use Rattle.std.specs.Prelude.{◌≡◌, true, List, ℕ, ◌*◌, ◌≤◌, ◌<◌, length, get_or}
use Rattle.lerc_words.specs.Res.{ok, accepts}
use Rattle.lerc_words.proofs.Little.{Bytes}
use Rattle.lerc_header.specs.declared.Header.{Header}
use Rattle.lerc_header.specs.Header.{shape_of, ranges_at, pair_right}
use Rattle.lerc_header.specs.Shape.{Shaped}
use Rattle.lerc_header.specs.Shape as shape
use Rattle.lerc_mask.specs.Mask.{valid_below}
use Rattle.lerc_ranges.specs.declared.Ranges.{Ranges}
use Rattle.lerc_ranges.specs.Ranges.{ranges_says}
use Rattle.lerc.specs.Meaning.{Body, starts_of, body_says}
use Rattle.lerc_numeric.specs.Numeric.{counted_sum}
use Rattle.lerc_overflow.specs.By.{body_by}
use Rattle.lerc_overflow.specs.Changes.{AllCalm}
use Rattle.lerc_contracts.specs.Outside.{said, is_some, length_max}
use Rattle.lerc_contracts.specs.Native.{pixels}
use Rattle.lerc_contracts.specs.Between.{bodied}

-- THE BODY: `pixels` is ours over upstream's sum, painted, where the two read alike; it is accepted where ours is, and is ours where no operand of a sum is infinite
pub record PixelsIs (s : List ℕ) (h : Header) (mask initial : List ℕ) : Type 0 where
  pub pixels-counted : pixels s h mask initial ≡ said (bodied h mask initial) (body_by counted_sum s h mask)
  pub pixels-ok : accepts (body_says s h mask) ≡ is_some (pixels s h mask initial)
  pub pixels-same : ((y : Body) → body_says s h mask ≡ ok y → AllCalm s h (starts_of y)) → pixels s h mask initial ≡ said (bodied h mask initial) (body_says s h mask)

-- where the two read alike
pub record ReadAlike (s : List ℕ) (h : Header) : Type 0 where
  pub pair : pair_right h.min h.max ≡ true
  pub begins : ranges_at h ≤ length s
  pub plain : h.valid ≡ 0 → h.mask ≡ 0
  -- any sweep byte but 0 is a raw body there
  pub sweep : (r : Ranges) → ranges_says s h ≡ ok r → get_or s r.at 0 < 2

pub record NativeClauses : Type 0 where
  -- section 9
  pub pixels-is : (s : List ℕ) → Bytes s → length s ≤ length_max → (h : Header) → Shaped (shape_of h) → (mask initial : List ℕ) → length initial ≡ h.columns * h.rows * h.depth → valid_below (shape.pixels (shape_of h)) mask ≡ h.valid → ReadAlike s h → PixelsIs s h mask initial
