-- When a header, a mask or ranges are refused: the table holds exactly.
-- Assumes nothing.
use mathlib.Core.Path.{◌≡◌, ◌∙◌, ap, refl, subst}
use mathlib.Core.Logic.{◌↔◌, ◌≢◌, ◌⊎◌, inl, inr, ⊎_elim}
use mathlib.Core.Bool.{Bool, true, false, cond, ◌&&◌}
use mathlib.Core.List.{List}
use Prim.Native.Nat.{ℕ, ◌+◌, ◌*◌, ◌≤◌}
use native.Mathlib.Omega.{arith}
use lib.ListN.{length, get_or, take, drop}
use lib.Dec.{leb, eqb}
use borrow.Author.Tests.{leb-true, leb-false, le-leb, lt-leb, eqb-true, eqb-false, eq-eqb, ne_eqb}
use Rattle.lerc_words.specs.declared.Refusal.{Refusal}
use Rattle.lerc_words.specs.Res.{Res, ok, fail, ◌>>=◌, refuse, placed, require}
use Rattle.lerc_words.proofs.Binding.{bind_is, require-is, and_is}
use Rattle.lerc_words.proofs.Marking.{marked-no, marked-fails}
use Rattle.lerc_numeric.specs.Numeric.{same, finite}
use Rattle.lerc_numeric.specs.Kinds.{type_size}
use Rattle.lerc_header.specs.declared.Header.{Header}
use Rattle.lerc_header.specs.declared.Extent.{Extent}
use Rattle.lerc_header.specs.Limits.{depth_limit}
use Rattle.lerc_header.specs.Header.{header_bytes, ranges_at, shape_of, extent_of, pair_right, fields_right, within_ceilings, key_right, header_of, held, checksum_right, header_says}
use Rattle.lerc_header.specs.Shape.{pixels, mask_length}
use Rattle.lerc_header.proofs.Kept.{held-is}
use Rattle.lerc_mask.specs.Mask.{valid_below, coded, mask_field}
use Rattle.lerc_mask.proofs.Runs.{coded-six}
use Rattle.lerc_validity.specs.Validity.{uniform, kept, unrolled, mask_in, mask_says, find_says, prepare_says}
use Rattle.lerc_ranges.specs.Ranges.{maxima_at, ranges_end, coded_ranges, pairs_right, wrong_number_at, ranges_says, ranges_in_says, read_ranges_says}
use Rattle.lerc_theorems.specs.Table.{PairWrong, low-not-finite, high-not-finite, crossed, pair-at, FirstAt, HeldRight, HeldRefused, field-wrong, ceiling-passed, blob-cut, ChecksumWrong, HeaderRefused, header-cut, key-wrong, not-held, checksum-wrong, UniformMask, MaskWrong, uniform-coded, not-allowed, miscounted, runs-wrong, FindRefused, find-room, section-cut, find-wrong, PrepareRefused, mask-held, mask-room, mask-wrong, RangesRefused, ranges-cut, minimum-wrong, maximum-wrong, RangesInRefused, depths-many, ranges-not-in, ReadRangesRefused, ranges-held, ranges-wrong}
use Rattle.lerc_theorems.proofs.Masks.{coded-wrong, wrong-coded}
use Rattle.lerc_theorems.proofs.Wrong.{high-wrong, not-pairs, first-at, at_first, fields-not, not-fields, ceilings-not, not-ceilings}
use Rattle.lerc_theorems.proofs.Demands.{demand, demand-at, reading, reading-one, choosing, not-refused, and-not, and_first, and_second}

module _ (h : Header) (len : ℕ) where
  -- a header is held exactly where it is right
  pub right-held : HeldRight h len → held h len ≡ ok (extent_of h)
  unfolding held
  right-held r = rw (r.fields, r.ceilings, le-leb _ _ r.whole)

  pub held-right : {e : Extent} → held h len ≡ ok e → HeldRight h len
  unfolding held
  held-right e =
      let (_, p, e) = bind_is (require (fields_right h) 3) _ e in
      let (_, q, e) = bind_is (require (within_ceilings h) 4) _ e in
      let (_, r, e) = bind_is (require (leb h.size len) 1) _ e in
      record { fields = require-is _ 3 p; ceilings = require-is _ 4 q; whole = leb-true _ _ (require-is _ 1 r) }

  held-refused : {n : Refusal} → held h len ≡ fail n → HeldRefused h len n
  unfolding held
  held-refused e =
      let P = HeldRefused h len in
      demand P (fields_right h) 3 _ e (λ t. field-wrong (fields-not h t)) (λ f e.
      demand P (within_ceilings h) 4 _ e (λ t. ceiling-passed f (ceilings-not h t)) (λ c e.
      demand P (leb h.size len) 1 _ e (λ t. blob-cut f c (leb-false _ _ t)) (λ t e. not-refused e)))

  refused-held : {n : Refusal} → HeldRefused h len n → held h len ≡ fail n
  unfolding held
  refused-held (field-wrong f) = rw (not-fields h f)
  refused-held (ceiling-passed f c) = rw (f, not-ceilings h c)
  refused-held (blob-cut f c l) = rw (f, c, lt-leb _ _ l)

  pub held-exactly : (n : Refusal) → (held h len ≡ fail n) ↔ HeldRefused h len n
  held-exactly n = (held-refused, refused-held)

  -- a chain that begins by holding a header is refused: so is the header, or it is right and the rest is refused
  pub holding : (P : Refusal → Type 0) {j : Refusal} {B : Type 0} (k : Extent → Res B) → (held h len >>= k) ≡ fail j → (HeldRefused h len j → P j) → (HeldRight h len → k (extent_of h) ≡ fail j → P j) → P j
  holding P {j} k e f g = reading P (held h len) k e (λ d. f (held-refused d)) (λ x d e. g (held-right d) (subst (λ y. k y ≡ fail j) (held-is h len d) e))

module _ (b : List ℕ) where
  checksum-not : (size : ℕ) → checksum_right b size ≡ false → ChecksumWrong b size
  unfolding checksum_right
  checksum-not size e = eqb-false _ _ e

  not-checksum : (size : ℕ) → ChecksumWrong b size → checksum_right b size ≡ false
  unfolding checksum_right
  not-checksum size w = ne_eqb _ _ w

  header_refused : {n : Refusal} → header_says b ≡ fail n → HeaderRefused b n
  unfolding header_says
  header_refused e =
      let P = HeaderRefused b in
      demand P (leb header_bytes (length b)) 1 _ e (λ t. header-cut (leb-false _ _ t)) (λ l e.
      demand P (key_right b) 2 _ e (key-wrong (leb-true _ _ l)) (λ k e.
      reading P (held (header_of b) (length b)) _ e (λ d. not-held (leb-true _ _ l) k (held-refused (header_of b) (length b) d)) (λ x d e.
      demand P (checksum_right b (header_of b).size) 13 _ e (λ t. checksum-wrong (leb-true _ _ l) k (held-right (header_of b) (length b) d) (checksum-not (header_of b).size t)) (λ t e. not-refused e))))

  refused-header : {n : Refusal} → HeaderRefused b n → header_says b ≡ fail n
  unfolding header_says
  refused-header (header-cut l) = rw (lt-leb _ _ l)
  refused-header (key-wrong l k) = rw (le-leb _ _ l, k)
  refused-header (not-held l k r) = rw (le-leb _ _ l, k, refused-held (header_of b) (length b) r)
  refused-header (checksum-wrong l k r w) = rw (le-leb _ _ l, k, right-held (header_of b) (length b) r, not-checksum (header_of b).size w)

  pub header-exactly : (n : Refusal) → (header_says b ≡ fail n) ↔ HeaderRefused b n
  header-exactly n = (header_refused, refused-header)

-- ---- the mask

-- one of two tests holds, and both lead to the same
pick : {A : Type 0} (a b : Bool) {x y r : A} (z : A) → x ≡ r → y ≡ r → (a ≡ true) ⊎ (b ≡ true) → cond a x (cond b y z) ≡ r
pick true b z p q v = p
pick false true z p q v = q
pick false false z p q v = absurd (⊎_elim (λ e. let n : ◌≡◌ {A = ℕ} 0 1 = cc in omega arith) (λ e. let n : ◌≡◌ {A = ℕ} 0 1 = cc in omega arith) v)

module _ (s : List ℕ) (h : Header) (reuse : Bool) (old : List ℕ) where
  -- "Any breach is 6."
  abbrev Wrong : Refusal → Type 0
  Wrong n = (n ≡ refuse 6) × MaskWrong s h reuse old

  uniform-refused : {n : Refusal} (byte : ℕ) → UniformMask h → uniform h byte ≡ fail n → Wrong n
  unfolding uniform
  uniform-refused byte v e = demand Wrong (eqb h.mask 0) 6 _ e (λ t. (refl, uniform-coded v (eqb-false _ _ t))) (λ t e. not-refused e)

  kept-refused : {n : Refusal} → (UniformMask h → ⊥) → h.mask ≡ 0 → kept h reuse old ≡ fail n → Wrong n
  unfolding kept
  kept-refused u z e =
      demand Wrong reuse 6 _ e (λ t. (refl, not-allowed u z t)) (λ a e.
      demand Wrong (eqb (valid_below (pixels (shape_of h)) (take (mask_length (shape_of h)) old)) h.valid) 6 _ e (λ t. (refl, miscounted u z a (eqb-false _ _ t))) (λ t e. not-refused e))

  unrolled-refused : {n : Refusal} → (UniformMask h → ⊥) → h.mask ≢ 0 → unrolled s h ≡ fail n → Wrong n
  unfolding unrolled
  unrolled-refused u z e =
      let c = coded (take h.mask (drop header_bytes s)) (pixels (shape_of h)) h.valid in
      reading-one Wrong 6 c _ (coded-six _ (pixels (shape_of h)) h.valid) e (λ d. (refl, runs-wrong u z (coded-wrong _ (pixels (shape_of h)) h.valid d))) (λ m d e. not-refused e)

  mask-refused : {n : Refusal} → mask_in s h reuse old ≡ fail n → Wrong n
  unfolding mask_in
  mask-refused e =
      choosing Wrong (eqb h.valid 0) _ _ e (λ t e. uniform-refused 0 (inl (eqb-true _ _ t)) e) (λ t e.
      choosing Wrong (eqb h.valid (pixels (shape_of h))) _ _ e (λ u e. uniform-refused 255 (inr (eqb-true _ _ u)) e) (λ u e.
      let v : UniformMask h → ⊥ = ⊎_elim (eqb-false _ _ t) (eqb-false _ _ u) in
      choosing Wrong (eqb h.mask 0) _ _ e (λ z e. kept-refused v (eqb-true _ _ z) e) (λ z e. unrolled-refused v (eqb-false _ _ z) e)))

  not-uniform : (UniformMask h → ⊥) → mask_in s h reuse old ≡ cond (eqb h.mask 0) (kept h reuse old) (unrolled s h)
  unfolding mask_in
  not-uniform u = rw (ne_eqb h.valid 0 (λ e. u (inl e)), ne_eqb h.valid (pixels (shape_of h)) (λ e. u (inr e)))

  refused-uniform : (byte : ℕ) → h.mask ≢ 0 → uniform h byte ≡ fail (refuse 6)
  unfolding uniform
  refused-uniform byte z = rw (ne_eqb _ _ z)

  refused-mask : MaskWrong s h reuse old → mask_in s h reuse old ≡ fail (refuse 6)
  unfolding mask_in kept unrolled
  refused-mask (uniform-coded v z) =
      pick (eqb h.valid 0) (eqb h.valid (pixels (shape_of h))) _ (refused-uniform 0 z) (refused-uniform 255 z) (⊎_elim (λ e. inl (eq-eqb _ _ e)) (λ e. inr (eq-eqb _ _ e)) v)
  refused-mask (not-allowed u z a) = not-uniform u ∙ rw (eq-eqb _ _ z, a)
  refused-mask (miscounted u z a c) = not-uniform u ∙ rw (eq-eqb _ _ z, a, ne_eqb _ _ c)
  refused-mask (runs-wrong u z c) = not-uniform u ∙ rw (ne_eqb _ _ z, wrong-coded (take h.mask (drop header_bytes s)) (pixels (shape_of h)) h.valid c)

  -- "66 for 6"
  pub mask-exactly : (n : Refusal) → (mask_says s h reuse old ≡ fail n) ↔ ((n ≡ placed mask_field (refuse 6)) × MaskWrong s h reuse old)
  mask-exactly n = (there, λ p. rw p.0 (marked-no mask_field (refused-mask p.1)))
    where
      there : mask_says s h reuse old ≡ fail n → (n ≡ placed mask_field (refuse 6)) × MaskWrong s h reuse old
      there e =
          let (q, d, z) = marked-fails mask_field (mask_in s h reuse old) e in
          let (y, w) = mask-refused d in
          (z ∙ ap (placed mask_field) y, w)

module _ (b : List ℕ) (h : Header) (reuse : Bool) (old : List ℕ) (room : ℕ) where
  prepare-refused : {n : Refusal} → prepare_says b h reuse old room ≡ fail n → PrepareRefused b h reuse old room n
  unfolding prepare_says
  prepare-refused {n} e =
      let P = PrepareRefused b h reuse old room in
      holding h (length b) P _ e (λ d. mask-held d) (λ r e.
      demand P (leb (mask_length (shape_of h)) (length old) && leb (mask_length (shape_of h)) room) 5 _ e
      (λ t. mask-room r (⊎_elim (λ u. inl (leb-false _ _ u)) (λ u. inr (leb-false _ _ u)) (and-not _ _ t)))
      (λ t e. let (u, v) = and_is _ _ t in let (z, w) = (mask-exactly (take h.size b) h reuse old n).0 e in
      rw (z) (mask-wrong r (leb-true _ _ u) (leb-true _ _ v) w)))

  refused-prepare : {n : Refusal} → PrepareRefused b h reuse old room n → prepare_says b h reuse old room ≡ fail n
  unfolding prepare_says
  refused-prepare {n} (mask-held d) = rw ((held-exactly h (length b) n).1 d)
  refused-prepare (mask-room r s) =
      rw (right-held h (length b) r, ⊎_elim (λ u. and_first _ (leb (mask_length (shape_of h)) room) (lt-leb _ _ u)) (λ u. and_second (leb (mask_length (shape_of h)) (length old)) _ (lt-leb _ _ u)) s)
  refused-prepare (mask-wrong r u v w) = rw (right-held h (length b) r, le-leb _ _ u, le-leb _ _ v, (mask-exactly (take h.size b) h reuse old (placed mask_field (refuse 6))).1 (refl, w))

  pub prepare-exactly : (n : Refusal) → (prepare_says b h reuse old room ≡ fail n) ↔ PrepareRefused b h reuse old room n
  prepare-exactly n = (prepare-refused, refused-prepare)

module _ (s : List ℕ) (h : Header) (reuse : Bool) (old : List ℕ) (room : ℕ) where
  find-refused : {n : Refusal} → find_says s h reuse old room ≡ fail n → FindRefused s h reuse old room n
  unfolding find_says
  find-refused {n} e =
      let P = FindRefused s h reuse old room in
      demand P (leb (mask_length (shape_of h)) (length old) && leb (mask_length (shape_of h)) room) 5 _ e
      (λ t. find-room (⊎_elim (λ u. inl (leb-false _ _ u)) (λ u. inr (leb-false _ _ u)) (and-not _ _ t)))
      (λ t e. let (u, v) = and_is _ _ t in
      demand P (leb (ranges_at h) (length s)) 1 _ e (λ w. section-cut (leb-true _ _ u) (leb-true _ _ v) (leb-false _ _ w))
      (λ w e. let (z, x) = (mask-exactly s h reuse old n).0 e in rw (z) (find-wrong (leb-true _ _ u) (leb-true _ _ v) (leb-true _ _ w) x)))

  refused-find : {n : Refusal} → FindRefused s h reuse old room n → find_says s h reuse old room ≡ fail n
  unfolding find_says
  refused-find (find-room t) =
      rw (⊎_elim (λ u. and_first _ (leb (mask_length (shape_of h)) room) (lt-leb _ _ u)) (λ u. and_second (leb (mask_length (shape_of h)) (length old)) _ (lt-leb _ _ u)) t)
  refused-find (section-cut u v l) = rw (le-leb _ _ u, le-leb _ _ v, lt-leb _ _ l)
  refused-find (find-wrong u v l w) = rw (le-leb _ _ u, le-leb _ _ v, le-leb _ _ l, (mask-exactly s h reuse old (placed mask_field (refuse 6))).1 (refl, w))

  pub find-exactly : (n : Refusal) → (find_says s h reuse old room ≡ fail n) ↔ FindRefused s h reuse old room n
  find-exactly n = (find-refused, refused-find)

-- ---- ranges

module _ (s : List ℕ) (h : Header) where
  abbrev low : ℕ → ℕ
  low i = get_or (coded_ranges s h).min i 0

  abbrev high : ℕ → ℕ
  high i = get_or (coded_ranges s h).max i 0

  -- where the minimum of a depth stands, or its maximum
  abbrev number_place : Bool → ℕ → ℕ
  number_place maximum i = cond maximum (maxima_at h) (ranges_at h) + i * type_size h.kind

  -- the first wrong pair: its minimum where that is not finite, else its maximum
  wrong-at : (i : ℕ) (f : Bool) → same h.min h.max ≡ false → ranges_end h ≤ length s → FirstAt i h.depth (coded_ranges s h)
      → finite (low i) ≡ f → pair_right (low i) (high i) ≡ false → RangesRefused s h (placed (number_place f i) (refuse 7))
  wrong-at i false t l p f w = minimum-wrong i t l p f
  wrong-at i true t l p f w = maximum-wrong i t l p f (high-wrong _ _ f w)

  pairs-refused : same h.min h.max ≡ false → ranges_end h ≤ length s → pairs_right h.depth (coded_ranges s h) ≡ false
      → RangesRefused s h (placed (wrong_number_at h (coded_ranges s h)) (refuse 7))
  unfolding wrong_number_at
  pairs-refused t l v = let (p, w) = first-at h.depth (coded_ranges s h) v in wrong-at _ _ t l p refl w

  refused-pairs : (i : ℕ) (f : Bool) → same h.min h.max ≡ false → ranges_end h ≤ length s → FirstAt i h.depth (coded_ranges s h)
      → finite (low i) ≡ f → PairWrong (low i) (high i) → ranges_says s h ≡ fail (placed (number_place f i) (refuse 7))
  unfolding ranges_says wrong_number_at
  refused-pairs i f t l p e w =
      let r = coded_ranges s h in
      rw (t, le-leb _ _ l, not-pairs h.depth r (pair-at i p.0 w), at_first h.depth r i p w, e)

  ranges-refused : {n : Refusal} → ranges_says s h ≡ fail n → RangesRefused s h n
  unfolding ranges_says
  ranges-refused e =
      let P = RangesRefused s h in
      choosing P (same h.min h.max) _ _ e (λ t e. not-refused e) (λ t e.
      demand-at P (ranges_at h) (leb (ranges_end h) (length s)) 1 _ e (λ u. ranges-cut t (leb-false _ _ u)) (λ u e.
      demand-at P (wrong_number_at h (coded_ranges s h)) (pairs_right h.depth (coded_ranges s h)) 7 _ e (pairs-refused t (leb-true _ _ u)) (λ v e. not-refused e)))

  refused-ranges : {n : Refusal} → RangesRefused s h n → ranges_says s h ≡ fail n
  unfolding ranges_says
  refused-ranges (ranges-cut t l) = rw (t, lt-leb _ _ l)
  refused-ranges (minimum-wrong i t l p f) = refused-pairs i false t l p f (low-not-finite f)
  refused-ranges (maximum-wrong i t l p f w) = refused-pairs i true t l p f (⊎_elim high-not-finite crossed w)

  pub ranges-exactly : (n : Refusal) → (ranges_says s h ≡ fail n) ↔ RangesRefused s h n
  ranges-exactly n = (ranges-refused, refused-ranges)

module _ (s : List ℕ) (h : Header) where
  ranges-in-refused : {n : Refusal} → ranges_in_says s h ≡ fail n → RangesInRefused s h n
  unfolding ranges_in_says
  ranges-in-refused {n} e =
      demand (RangesInRefused s h) (leb h.depth depth_limit) 4 _ e (λ t. depths-many (leb-false _ _ t)) (λ t e. ranges-not-in (leb-true _ _ t) ((ranges-exactly s h n).0 e))

  refused-ranges-in : {n : Refusal} → RangesInRefused s h n → ranges_in_says s h ≡ fail n
  unfolding ranges_in_says
  refused-ranges-in (depths-many l) = rw (lt-leb _ _ l)
  refused-ranges-in {n} (ranges-not-in l d) = rw (le-leb _ _ l, (ranges-exactly s h n).1 d)

  pub ranges-in-exactly : (n : Refusal) → (ranges_in_says s h ≡ fail n) ↔ RangesInRefused s h n
  ranges-in-exactly n = (ranges-in-refused, refused-ranges-in)

module _ (b : List ℕ) (h : Header) where
  read-ranges-refused : {n : Refusal} → read_ranges_says b h ≡ fail n → ReadRangesRefused b h n
  unfolding read_ranges_says
  read-ranges-refused {n} e =
      holding h (length b) (ReadRangesRefused b h) _ e (λ d. ranges-held d) (λ r e. ranges-wrong r ((ranges-exactly (take h.size b) h n).0 e))

  refused-read-ranges : {n : Refusal} → ReadRangesRefused b h n → read_ranges_says b h ≡ fail n
  unfolding read_ranges_says
  refused-read-ranges {n} (ranges-held d) = rw ((held-exactly h (length b) n).1 d)
  refused-read-ranges {n} (ranges-wrong r d) = rw (right-held h (length b) r, (ranges-exactly (take h.size b) h n).1 d)

  pub read-ranges-exactly : (n : Refusal) → (read_ranges_says b h ≡ fail n) ↔ ReadRangesRefused b h n
  read-ranges-exactly n = (read-ranges-refused, refused-read-ranges)
