-- P1 to P12 of the rules: one table, one claim, computed by the checker from the definitions that the code is proved against; and sums with an infinity.
-- Assumes nothing.
use Rattle.std.specs.Prelude.{ℕ, zero, suc, ◌^◌, ◌≡◌, refl, cond, List, [], ◌∷◌, ◌++◌, map, replicate}
use Rattle.std.specs.Float.Ieee.{size, span, climb}
use Rattle.lerc_words.specs.Res.{Res, ok, fail, ◌>>=◌, refuse, word_at, little}
use Rattle.lerc_words.specs.Lists.{from, all_to}
use Rattle.lerc_numeric.specs.Numeric.{mag, code, sum, counted_sum, scaled, less, lesser}
use Rattle.lerc_numeric.specs.Kinds.{narrowed, whole, cut}
use Rattle.lerc_numeric.specs.Steps.{step_of}
use Rattle.lerc_samples.specs.Samples.{stored}
use Rattle.lerc_bits.specs.Bits.{tabled, plan, digits, chosen, looked_up, values_of, unpacked, counts}
use Rattle.lerc_mask.specs.Mask.{pixel_valid, copy_at, repeat_at, end_at, signed_at, step_at, runs, mask_runs}

-- what a case shows: numbers, or a refusal
abbrev pub counts_of : List ℕ → Res (List ℕ)
counts_of s = do
  c ← counts s 0
  ok c.values

-- the valid ones of the first n pixels
unfoldable pub valid_of : ℕ → List ℕ → List ℕ
valid_of zero m = []
valid_of (suc p) m = valid_of p m ++ cond (pixel_valid m p) (p ∷ []) []

abbrev pub valid_in : ℕ → ℕ → List ℕ → Res (List ℕ)
valid_in pixels bytes s = do
  m ← mask_runs bytes s
  ok (valid_of pixels m)

abbrev pub word : ℕ → Res (List ℕ)
word w = ok (w ∷ [])

abbrev pub one : Res ℕ → Res (List ℕ)
one r = do
  w ← r
  word w

pub record Case : Type 0 where
  pub got : Res (List ℕ)
  pub want : Res (List ℕ)

abbrev pub table : List Case
table =
    record { got = counts_of (0x82 ∷ 0x03 ∷ 0x39 ∷ []); want = ok (1 ∷ 2 ∷ 3 ∷ []) }
    ∷ record { got = counts_of (0xA4 ∷ 0x03 ∷ 0x03 ∷ 0x95 ∷ 0x18 ∷ []); want = ok (0 ∷ 9 ∷ 5 ∷ []) }
    ∷ record { got = counts_of (0xA4 ∷ 0x03 ∷ 0x03 ∷ 0x95 ∷ 0x1C ∷ []); want = fail (refuse 8) }
    ∷ record { got = counts_of (0xC2 ∷ 0x01 ∷ 0x00 ∷ []); want = fail (refuse 8) }
    ∷ record { got = counts_of (0x40 ∷ 0x00 ∷ 0x01 ∷ []); want = ok (replicate 256 0) }
    ∷ record { got = counts_of (0x40 ∷ 0x01 ∷ 0x01 ∷ []); want = fail (refuse 8) }
    ∷ record { got = valid_in 10 2 (0x02 ∷ 0x00 ∷ 0xA0 ∷ 0x40 ∷ 0x00 ∷ 0x80 ∷ []); want = ok (0 ∷ 2 ∷ 9 ∷ []) }
    ∷ record { got = word (sum 0x4340000000000000 0x4008000000000000); want = word 0x4340000000000002 }
    ∷ record { got = word (sum 0x3FF0000000000000 0xBFF0000000000000); want = word 0 }
    ∷ record { got = word (narrowed 0x3FF0000010000000); want = word 0x3F800000 }
    ∷ record { got = one (stored 0 0xC060100000000000); want = word 128 }
    ∷ record { got = one (stored 0 0x4060000000000000); want = fail (refuse 9) }
    ∷ record { got = one (stored 1 0xBFE0000000000000); want = word 0 }
    ∷ []

pub cases : map (λ (c : Case). c.got) table ≡ map (λ (c : Case). c.want) table
unfolding valid_of counts plan tabled unpacked values_of looked_up digits chosen word_at little from all_to size span climb
    pixel_valid copy_at repeat_at end_at signed_at step_at runs sum counted_sum mag code narrowed whole cut stored
cases = refl

-- ---- "finite plus infinity, either way round, is that infinity": +0, -0 and the greatest finite numbers with an infinity of either sign

abbrev pub rows : ℕ → ℕ → List Case
rows i f = record { got = word (sum i f); want = word i } ∷ record { got = word (sum f i); want = word i } ∷ []

abbrev pub with_infinity : ℕ → List Case
with_infinity i = rows i 0 ++ rows i 0x8000000000000000 ++ rows i 0x7FEFFFFFFFFFFFFF ++ rows i 0xFFEFFFFFFFFFFFFF

-- "Offset -2^1023, error 2^1000, count 2^30: the product is infinite .. Lerc2 gives infinity, and the clamp gives the maximum"; two infinities are counted as before
abbrev pub infinity_table : List Case
infinity_table =
    record { got = word (scaled 0x7E70000000000000 (2 ^ 30)); want = word 0x7FF0000000000000 }
    ∷ record { got = word (sum 0xFFE0000000000000 (scaled 0x7E70000000000000 (2 ^ 30))); want = word 0x7FF0000000000000 }
    ∷ record { got = word (step_of 0xFFE0000000000000 0x7E70000000000000 0x7FE8000000000000 (2 ^ 30)); want = word 0x7FE8000000000000 }
    ∷ record { got = word (counted_sum 0xFFE0000000000000 (scaled 0x7E70000000000000 (2 ^ 30))); want = word 0x7FE0000000000000 }
    ∷ record { got = word (sum 0x7FF0000000000000 0x7FF0000000000000); want = word 0x7FF0000000000000 }
    ∷ record { got = word (sum 0x7FF0000000000000 0xFFF0000000000000); want = word 0 }
    ∷ (with_infinity 0x7FF0000000000000 ++ with_infinity 0xFFF0000000000000)

pub infinities : map (λ (c : Case). c.got) infinity_table ≡ map (λ (c : Case). c.want) infinity_table
unfolding size span climb sum counted_sum scaled less lesser step_of mag code
infinities = refl
