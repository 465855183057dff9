-- The ranges of each depth.
-- Assumes nothing.
use Prim.{Unit, tt}
use Rattle.std.specs.Prelude.{ℕ, suc, ◌+◌, ◌*◌, min, Bool, true, cond, List, length, get_or, take, replicate, leb, ltb}
use Rattle.lerc_words.specs.Res.{Res, ok, fail, ◌>>=◌, marked, require, little, each}
use Rattle.lerc_words.specs.Lists.{tabulate, over, count, all_to}
use Rattle.lerc_numeric.specs.Numeric.{same, finite}
use Rattle.lerc_numeric.specs.Kinds.{type_size, value_of}
use Rattle.lerc_samples.specs.Samples.{stored}
use Rattle.lerc_header.specs.declared.Header.{Header}
use Rattle.lerc_header.specs.Limits.{depth_limit}
use Rattle.lerc_header.specs.Header.{ranges_at, pair_right, held}
use Rattle.lerc_ranges.specs.declared.Ranges.{Ranges}

-- "Min and max the same ..: constant, nothing read, all 64 entries as in the header."
unfoldable pub uniform_ranges : Header → Ranges
uniform_ranges h = record { at = ranges_at h; constant = true; min = replicate depth_limit h.min; max = replicate depth_limit h.max }

-- the i-th number of a kind from a place on
unfoldable pub number_at : ℕ → List ℕ → ℕ → ℕ → ℕ
number_at kind s at i = value_of kind (little (type_size kind) s (at + i * type_size kind))

-- a number for each depth; "entries past depth stay header min and max"
unfoldable pub by_depth : ℕ → (ℕ → ℕ) → ℕ → List ℕ
by_depth depth f d = tabulate depth_limit (λ i. cond (ltb i depth) (f i) d)

-- behind the minima, and behind the maxima
abbrev pub maxima_at : Header → ℕ
maxima_at h = ranges_at h + h.depth * type_size h.kind

abbrev pub ranges_end : Header → ℕ
ranges_end h = maxima_at h + h.depth * type_size h.kind

-- "depth minima then depth maxima in the blob's kind", "All pairs the same: constant."
unfoldable pub coded_ranges : List ℕ → Header → Ranges
coded_ranges s h =
    let low = by_depth h.depth (number_at h.kind s (ranges_at h)) h.min in
    let high = by_depth h.depth (number_at h.kind s (maxima_at h)) h.max in
    record { at = ranges_end h; constant = all_to h.depth (λ i. same (get_or low i 0) (get_or high i 0)); min = low; max = high }

-- "a range number not finite, or maximum less than minimum"; "7 for the pairs below the depth"
unfoldable pub pairs_right : ℕ → Ranges → Bool
pairs_right depth r = all_to depth (λ i. pair_right (get_or r.min i 0) (get_or r.max i 0))

-- the first depth whose pair is wrong: as many depths come before it as have right pairs up to their own
unfoldable pub first_wrong : ℕ → Ranges → ℕ
first_wrong depth r = count depth (λ i. pairs_right (suc i) r)

-- "for 7 the first byte of the first wrong number, depth by depth, minimum before maximum, the maximum where it is the lesser"
unfoldable pub wrong_number_at : Header → Ranges → ℕ
wrong_number_at h r =
    let i = first_wrong h.depth r in
    cond (finite (get_or r.min i 0)) (maxima_at h) (ranges_at h) + i * type_size h.kind

-- "all of which must fit (1) before a number is judged"; "the first range byte where the ranges do not fit"
unfoldable pub ranges_says : List ℕ → Header → Res Ranges
ranges_says s h =
    cond (same h.min h.max) (ok (uniform_ranges h))
    ((do
      _ ← marked (ranges_at h) (require (leb (ranges_end h) (length s)) 1)
      _ ← marked (wrong_number_at h (coded_ranges s h)) (require (pairs_right h.depth (coded_ranges s h)) 7)
      ok (coded_ranges s h)))

-- the ranges in the bytes of a blob that was opened; "depth 64" is all that is asked of its header again
unfoldable pub ranges_in_says : List ℕ → Header → Res Ranges
ranges_in_says s h = do
  _ ← require (leb h.depth depth_limit) 4
  ranges_says s h

-- ---- read ranges: "only read ranges by itself, as upstream, does not look at valid"

unfoldable pub read_ranges_says : List ℕ → Header → Res Ranges
read_ranges_says b h = do
  _ ← held h (length b)
  ranges_says (take h.size b) h

-- ---- ranges by value: "7 for the pairs below the depth", "0 for ranges by value"; an array has no pair past its end

unfoldable pub pairs_says : ℕ → Ranges → Res Bool
pairs_says depth r = require (pairs_right (min depth depth_limit) r) 7

-- nothing beside that they are right
abbrev pub pairs_said : Res Bool → Res (Unit {0})
pairs_said (ok right) = ok tt
pairs_said (fail why) = fail why

-- ---- the words of a constant body: "the minimum of each depth", stored

unfoldable pub constant_words : ℕ → ℕ → List ℕ → Res (List ℕ)
constant_words depth kind values = each (stored kind) (take depth values)

-- behind the words of the depths "the rest" is 0
abbrev pub constants_said : Res (List ℕ) → Res (List ℕ)
constants_said (ok words) = ok (over words (replicate depth_limit 0))
constants_said (fail why) = fail why
