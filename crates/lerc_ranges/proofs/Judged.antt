-- What ranges that were read keep, and what their judges say.
-- Assumes nothing.
use Prim.Native.Nat.{ℕ, ◌≤◌, ◌<◌, min}
use mathlib.Core.Path.{◌≡◌, ◌∙◌, sym}
use mathlib.Core.Bool.{Bool, true, false, cond}
use mathlib.Core.List.{List}
use native.Mathlib.Omega.{arith}
use native.Mathlib.Nat.{min-eq_left}
use borrow.Author.Tests.{le-leb, leb-true}
use lib.ListN.{length, take, length-take, length-replicate, get_or-replicate}
use lib.Dec.{leb}
use Rattle.lerc_words.specs.Res.{Res, ok, ◌>>=◌, marked, require}
use Rattle.lerc_words.proofs.Binding.{bind_is, require-is, ok-is, each-length}
use Rattle.lerc_words.proofs.Marking.{marked-is}
use Rattle.lerc_words.proofs.Tables.{all_true}
use Rattle.lerc_numeric.specs.Numeric.{same}
use Rattle.lerc_samples.specs.Samples.{stored}
use Rattle.lerc_header.specs.declared.Header.{Header}
use Rattle.lerc_header.specs.Limits.{depth_limit}
use Rattle.lerc_header.specs.Header.{ranges_at, pair_right, held}
use Rattle.lerc_header.proofs.Kept.{held-shaped, held-size, held-pair}
use Rattle.lerc_ranges.specs.declared.Ranges.{Ranges}
use Rattle.lerc_ranges.specs.Ranges.{uniform_ranges, coded_ranges, ranges_end, pairs_right, wrong_number_at, ranges_says, ranges_in_says, read_ranges_says, pairs_says, constant_words}
use Rattle.lerc_ranges.proofs.ByDepth.{length-by-depth}

-- the pairs below the depth are right, the body begins behind them and within s, and an entry stands for each depth
pub record RangesKept (s : List ℕ) (h : Header) (r : Ranges) : Type 0 where
  pub pairs : pairs_right h.depth r ≡ true
  pub behind : ranges_at h ≤ r.at
  pub inside : r.at ≤ length s
  pub low : length r.min ≡ depth_limit
  pub high : length r.max ≡ depth_limit

module _ (s : List ℕ) (h : Header) (few : h.depth ≤ depth_limit) (pair : pair_right h.min h.max ≡ true) (room : ranges_at h ≤ length s) where
  uniform-kept : RangesKept s h (uniform_ranges h)
  unfolding uniform_ranges pairs_right
  uniform-kept =
      record {
        pairs = all_true h.depth _ (λ k l.
            let m : k < depth_limit = omega arith in
            rw (get_or-replicate depth_limit k h.min 0 m, get_or-replicate depth_limit k h.max 0 m) pair);
        behind = omega arith;
        inside = room;
        low = length-replicate depth_limit h.min;
        high = length-replicate depth_limit h.max;
      }

  coded_kept : pairs_right h.depth (coded_ranges s h) ≡ true → ranges_end h ≤ length s → RangesKept s h (coded_ranges s h)
  unfolding coded_ranges
  coded_kept right fit =
      record { pairs = right; behind = omega arith; inside = fit; low = length-by-depth h.depth _ h.min; high = length-by-depth h.depth _ h.max }

  -- where the header's minimum and maximum differ
  abbrev judged : Res Ranges
  judged = do
    _ ← marked (ranges_at h) (require (leb (ranges_end h) (length s)) 1)
    _ ← marked (wrong_number_at h (coded_ranges s h)) (require (pairs_right h.depth (coded_ranges s h)) 7)
    ok (coded_ranges s h)

  judged-kept : (r : Ranges) → judged ≡ ok r → RangesKept s h r
  judged-kept r e =
      let fit = require (leb (ranges_end h) (length s)) 1 in
      let right = require (pairs_right h.depth (coded_ranges s h)) 7 in
      let (_, t1, e1) = bind_is (marked (ranges_at h) fit) _ e in
      let (_, t7, e7) = bind_is (marked (wrong_number_at h (coded_ranges s h)) right) _ e1 in
      rw (← ok-is e7) (coded_kept (require-is _ _ (marked-is _ right t7)) (leb-true _ _ (require-is _ _ (marked-is _ fit t1))))

  pub ranges-kept : (r : Ranges) → ranges_says s h ≡ ok r → RangesKept s h r
  unfolding ranges_says
  ranges-kept r = go (same h.min h.max)
    where
      go : (t : Bool) → cond t (ok (uniform_ranges h)) judged ≡ ok r → RangesKept s h r
      go true e = rw (← ok-is e) uniform-kept
      go false e = judged-kept r e

-- no more depths than an array has: the ranges are those of the rules
pub ranges-few : (s : List ℕ) (h : Header) → h.depth ≤ depth_limit → ranges_in_says s h ≡ ranges_says s h
unfolding ranges_in_says
ranges-few s h l = rw (le-leb h.depth depth_limit l)

pub read-ranges-kept : (b : List ℕ) (h : Header) (r : Ranges) → read_ranges_says b h ≡ ok r → RangesKept (take h.size b) h r
unfolding read_ranges_says
read-ranges-kept b h r e =
    let (x, p, e) = bind_is (held h (length b)) _ e in
    let (room, fits, _) = held-size h (length b) p in
    let k : ranges_at h ≤ length (take h.size b) = simp length-take (omega arith) in
    ranges-kept (take h.size b) h (held-shaped h (length b) p).depth.1 (held-pair h (length b) p) k r e

-- of a depth that an array holds
pub pairs-judged : (depth : ℕ) (r : Ranges) → depth ≤ depth_limit → pairs_says depth r ≡ require (pairs_right depth r) 7
unfolding pairs_says
pairs-judged depth r h = rw (min-eq_left h)

pub pairs-right : (depth : ℕ) (r : Ranges) {t : Bool} → depth ≤ depth_limit → pairs_says depth r ≡ ok t → pairs_right depth r ≡ true
pairs-right depth r h e = require-is _ 7 (sym (pairs-judged depth r h) ∙ e)

pub length-constants : (depth kind : ℕ) (values : List ℕ) {ws : List ℕ} → constant_words depth kind values ≡ ok ws → length ws ≡ min depth (length values)
unfolding constant_words
length-constants depth kind values e = each-length (stored kind) (take depth values) e ∙ length-take depth values

-- ---- the ranges that a caller has
