-- What a test that fails says: one of its parts does.
-- Assumes nothing.
use mathlib.Core.Path.{◌≡◌, refl}
use mathlib.Core.Logic.{◌⊎◌, inl, inr, ⊎_elim}
use mathlib.Core.Bool.{Bool, true, false, not, ◌&&◌}
use Prim.Native.Nat.{ℕ, ◌+◌, ◌*◌, ◌^◌, ◌≤◌, ◌<◌}
use native.Mathlib.Omega.{arith}
use lib.ListN.{length, get_or}
use lib.Dec.{leb, ltb}
use borrow.Author.Tests.{ltb-true, ltb-false, leb-false, not-true, not-false}
use Rattle.lerc_words.proofs.Binding.{and_is}
use Rattle.lerc_words.proofs.Tables.{all_true, all-each}
use Rattle.lerc_numeric.specs.Numeric.{negative, finite, mag, less}
use Rattle.lerc_header.specs.declared.Header.{Header}
use Rattle.lerc_header.specs.Limits.{sideways, depth_limit, cell_limit, side_limit, size_limit}
use Rattle.lerc_header.specs.Header.{shape_of, ranges_at, error_right, pair_right, fields_right, within_ceilings}
use Rattle.lerc_header.specs.Shape.{cells, mask_length, block_count}
use Rattle.lerc_header.proofs.Kept.{Right, CeilingsKept, fields-right, within-ceilings}
use Rattle.lerc_ranges.specs.declared.Ranges.{Ranges}
use Rattle.lerc_ranges.specs.Ranges.{pairs_right, first_wrong}
use Rattle.lerc_ranges.proofs.Wrong.{right_at, pairs-wrong, first-wrong, first-wrong-is}
use Rattle.lerc.specs.Read.{Lent, room}
use Rattle.lerc_theorems.specs.Table.{PairWrong, low-not-finite, high-not-finite, crossed, SomePairWrong, pair-at, FirstAt, FieldWrong, no_rows, no-columns, no-depth, no-side, valid-many, kind-large, error-negative, error-large, min-max-wrong, size_small, CeilingPassed, rows-many, columns-many, depth-large, cells-many, side-large, size-large, TooShort, kept-short, spare-short, list-short, image-short}
use Rattle.lerc_theorems.proofs.Meanings.{Rooms, rooms}
use Rattle.lerc_theorems.proofs.Demands.{and-not}

-- of two tests one fails, and each leads to the same
pub either : {A : Type 0} (a b : Bool) → (a ≡ false → A) → (b ≡ false → A) → (a && b) ≡ false → A
either a b f g e = ⊎_elim f g (and-not a b e)

-- a test that cannot hold fails
unless : (t : Bool) → (t ≡ true → ⊥) → t ≡ false
unless true f = absurd (f refl)
unless false f = refl

-- a test does not both hold and fail
never : {t : Bool} → t ≡ true → t ≡ false → ⊥
never e f = let z : ◌≡◌ {A = ℕ} 0 1 = cc in omega arith

past : {a b : ℕ} → a < b → b ≤ a → ⊥
past l k = omega arith

none : (n : ℕ) → ltb 0 n ≡ false → n ≡ 0
none n e = let w = ltb-false 0 n e in omega arith

-- ---- pairs

module _ (low high : ℕ) where
  pair-not : pair_right low high ≡ false → PairWrong low high
  unfolding pair_right
  pair-not e = either (finite low && finite high) (not (less high low)) (λ e. either (finite low) (finite high) low-not-finite high-not-finite e) (λ e. crossed (not-false _ e)) e

  not-pair : PairWrong low high → pair_right low high ≡ false
  unfolding pair_right
  not-pair w = unless _ (λ t. let (a, c) = and_is (finite low && finite high) _ t in let (a, b) = and_is (finite low) (finite high) a in wrong a b (not-true _ c) w)
    where
      wrong : finite low ≡ true → finite high ≡ true → less high low ≡ false → PairWrong low high → ⊥
      wrong a b c (low-not-finite f) = never a f
      wrong a b c (high-not-finite f) = never b f
      wrong a b c (crossed d) = never d c

  -- the minimum is finite: so the maximum is wrong
  pub high-wrong : finite low ≡ true → pair_right low high ≡ false → (finite high ≡ false) ⊎ (less high low ≡ true)
  high-wrong a e = on (pair-not e)
    where
      on : PairWrong low high → (finite high ≡ false) ⊎ (less high low ≡ true)
      on (low-not-finite f) = absurd (never a f)
      on (high-not-finite f) = inl f
      on (crossed d) = inr d

module _ (depth : ℕ) (r : Ranges) where
  -- the first depth whose pair is wrong has right ones before it, and no other is the first
  pub first-at : pairs_right depth r ≡ false → FirstAt (first_wrong depth r) depth r × (right_at r (first_wrong depth r) ≡ false)
  unfolding pairs_right
  first-at e = let (l, a, w) = first-wrong depth r e in ((l, λ j k. all-each (first_wrong depth r) j (right_at r) a k), w)

  pub at_first : (i : ℕ) → FirstAt i depth r → PairWrong (get_or r.min i 0) (get_or r.max i 0) → first_wrong depth r ≡ i
  unfolding pairs_right
  at_first i f w = first-wrong-is depth i r f.0 (all_true i (right_at r) f.1) (not-pair _ _ w)

  pub pairs-not : pairs_right depth r ≡ false → SomePairWrong depth r
  pairs-not e = let (f, w) = first-at e in pair-at _ f.0 (pair-not _ _ w)

  pub not-pairs : SomePairWrong depth r → pairs_right depth r ≡ false
  not-pairs (pair-at i l w) = pairs-wrong depth i r l (not-pair _ _ w)

-- ---- the header

module _ (h : Header) where
  error-not : error_right h.error ≡ false → FieldWrong h
  unfolding error_right
  error-not e = either (not (negative h.error)) (ltb (mag h.error) (2 ^ (1023 + 1074))) (λ e. error-negative (not-false _ e)) (λ e. error-large (ltb-false _ _ e)) e

  error-is : error_right h.error ≡ true → (negative h.error ≡ false) × (mag h.error < 2 ^ (1023 + 1074))
  unfolding error_right
  error-is t = let (a, b) = and_is (not (negative h.error)) _ t in (not-true _ a, ltb-true _ _ b)

  pub fields-not : fields_right h ≡ false → FieldWrong h
  unfolding fields_right
  fields-not e =
      either _ (leb (ranges_at h) h.size) (λ e.
      either _ (pair_right h.min h.max) (λ e.
      either _ (error_right h.error) (λ e.
      either _ (leb h.kind 7) (λ e.
      either _ (leb h.valid (h.rows * h.columns)) (λ e.
      either _ (ltb 0 h.side) (λ e.
      either _ (ltb 0 h.depth) (λ e.
      either (ltb 0 h.rows) (ltb 0 h.columns) (λ e. no_rows (none _ e)) (λ e. no-columns (none _ e)) e)
      (λ e. no-depth (none _ e)) e) (λ e. no-side (none _ e)) e) (λ e. valid-many (leb-false _ _ e)) e) (λ e. kind-large (leb-false _ _ e)) e)
      error-not e) (λ e. min-max-wrong (pair-not _ _ e)) e) (λ e. size_small (leb-false _ _ e)) e

  pub not-fields : FieldWrong h → fields_right h ≡ false
  not-fields w = unless _ (λ t. wrong (fields-right h t) w)
    where
      wrong : Right h → FieldWrong h → ⊥
      wrong r (no_rows z) = omega (arith, r.rows)
      wrong r (no-columns z) = omega (arith, r.columns)
      wrong r (no-depth z) = omega (arith, r.depth)
      wrong r (no-side z) = omega (arith, r.side)
      wrong r (valid-many l) = omega (arith, r.valid)
      wrong r (kind-large l) = omega (arith, r.kind)
      wrong r (error-negative n) = never n (error-is r.error).0
      wrong r (error-large l) = past (error-is r.error).1 l
      wrong r (min-max-wrong w) = never r.pair (not-pair _ _ w)
      wrong r (size_small l) = omega (arith, r.size)

  pub ceilings-not : within_ceilings h ≡ false → CeilingPassed h
  unfolding within_ceilings
  ceilings-not e =
      either _ (leb h.size size_limit) (λ e.
      either _ (leb h.side side_limit) (λ e.
      either _ (leb (h.rows * h.columns * h.depth) cell_limit) (λ e.
      either _ (leb h.depth depth_limit) (λ e.
      either (leb h.rows sideways) (leb h.columns sideways) (λ e. rows-many (leb-false _ _ e)) (λ e. columns-many (leb-false _ _ e)) e)
      (λ e. depth-large (leb-false _ _ e)) e) (λ e. cells-many (leb-false _ _ e)) e) (λ e. side-large (leb-false _ _ e)) e) (λ e. size-large (leb-false _ _ e)) e

  pub not-ceilings : CeilingPassed h → within_ceilings h ≡ false
  not-ceilings p = unless _ (λ t. passed (within-ceilings h t) p)
    where
      passed : CeilingsKept h → CeilingPassed h → ⊥
      passed w (rows-many l) = omega (arith, w.rows)
      passed w (columns-many l) = omega (arith, w.columns)
      passed w (depth-large l) = omega (arith, w.depth)
      passed w (cells-many l) = omega (arith, w.cells)
      passed w (side-large l) = omega (arith, w.side)
      passed w (size-large l) = omega (arith, w.size)

  -- ---- room

  pub room-not : (l : Lent) → room h l ≡ false → TooShort h l
  unfolding room
  room-not l e =
      either _ (leb (cells (shape_of h)) (length l.image)) (λ e.
      either _ (leb (block_count (shape_of h)) (length l.list)) (λ e.
      either (leb (mask_length (shape_of h)) (length l.kept)) (leb (mask_length (shape_of h)) (length l.spare)) (λ e. kept-short (leb-false _ _ e)) (λ e. spare-short (leb-false _ _ e)) e)
      (λ e. list-short (leb-false _ _ e)) e) (λ e. image-short (leb-false _ _ e)) e

  pub not-room : (l : Lent) → TooShort h l → room h l ≡ false
  not-room l w = unless _ (λ t. short (rooms h l t) w)
    where
      short : Rooms h l → TooShort h l → ⊥
      short r (kept-short s) = past s r.kept
      short r (spare-short s) = past s r.spare
      short r (list-short s) = past s r.list
      short r (image-short s) = past s r.image
