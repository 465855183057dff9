-- lerc_planes.rs: its clauses from ours.
-- Assumes nothing.
use mathlib.Core.Path.{◌≡◌, refl, sym, ap, ◌∙◌}
use mathlib.Core.Bool.{Bool, true, false, not, cond, ◌&&◌, ◌||◌}
use mathlib.Core.List.{List}
use mathlib.Core.Option.{none, some}
use Prim.Native.Nat.{ℕ, zero, suc, ◌+◌, ◌-◌, ◌*◌, ◌%◌, ◌^◌, ◌≤◌, ◌<◌}
use native.Mathlib.Omega.{arith}
use native.Mathlib.Nat.{zero-add, zero-mul, add-zero, mul_comm, add-mul, suc-mul, mul-le-mul_right}
use native.Mathlib.Decide.{dec_le, dec_lt}
use borrow.Author.Tests.{lt-ltb, le-ltb, le-leb, lt-leb, eq-eqb, ne_eqb, eqb-true, eqb-false}
use lib.Dec.{ltb, eqb}
use lib.ListN.{length, get_or, take, drop, replicate, length-take}
use lib.Seq.{get_or-take}
use Rattle.lerc_words.specs.Res.{Res, ok, fail, ◌>>=◌, refuse, require, each, accepts}
use Rattle.lerc_words.proofs.Marking.{marked-is}
use Rattle.lerc_words.specs.Lists.{tabulate, all_to, over}
use Rattle.lerc_words.specs.Lists as our
use Rattle.lerc_words.proofs.Tables.{replicate-from, tabulate-same, all_same, all_true, all-fails}
use Rattle.lerc_words.proofs.Binding.{each-length}
use Rattle.lerc_words.proofs.Little.{word_at-ok}
use Rattle.lerc_words.proofs.Each.{each_at, each-not}
use Rattle.lerc_contracts.proofs.Lists.{over-out, length_over, padded}
use Rattle.lerc_numeric.specs.Numeric.{same}
use Rattle.lerc_numeric.specs.Kinds.{type_size}
use Rattle.lerc_numeric.proofs.Compare.{same_bits, same-zeros}
use Rattle.lerc_samples.specs.Samples.{sample_at, stored}
use Rattle.lerc_header.specs.declared.Header.{Header}
use Rattle.lerc_header.specs.declared.Extent.{Extent}
use Rattle.lerc_header.specs.Header.{shape_of, header_bytes, ranges_at, pair_right, held, extent_of}
use Rattle.lerc_header.proofs.Kept.{held-is}
use Rattle.lerc_header.specs.Shape.{pixels, mask_length}
use Rattle.lerc_mask.specs.Mask.{valid_below, mask_field}
use Rattle.lerc_mask.specs.Mask.{mask_runs, coded}
use Rattle.lerc_mask.proofs.Pixels.{valid-uniform-0, valid-uniform-255}
use Rattle.lerc_ranges.specs.declared.Ranges.{Ranges}
use Rattle.lerc_ranges.specs.Ranges.{number_at, by_depth, maxima_at, ranges_end, uniform_ranges, ranges_says, coded_ranges, pairs_right, read_ranges_says, constant_words, constants_said}
use Rattle.lerc_validity.specs.Validity.{MaskTold, MaskInForce, reused, new, bytes_of, uniform, kept, unrolled, mask_in, mask_says, prepare_says, which, Prepared, in_force}
use Rattle.lerc_validity.proofs.Preparing.{uniform-ok, uniform-no, says_none, says_all, says-kept, says-runs, prepare-no, prepare-says}
use Rattle.lerc_validity.proofs.Prepared.{prepare-found, prepared-right, mask-length, in-force}
use Rattle.lerc_ranges.proofs.Judged.{read-ranges-kept}
use Rattle.lerc_contracts.specs.Outside.{said, is_some, unwrap, on_some, number, storage}
use Rattle.lerc_contracts.specs.Planes.{mask_size, count, counted, validity, equal, bounds, ranges, constants}
use Rattle.lerc_contracts.specs.Between.{Sectioned, model}
use Rattle.lerc_contracts.specs.PlanesClauses.{ValidityCases, RangesCases, PrepareClauses, ReadRangesClauses, ConvertClauses}
use Rattle.lerc_contracts.proofs.WithoutNumber.{said-marked}

-- ---- the mask

pixels-are : (h : Header) → h.columns * h.rows ≡ pixels (shape_of h)
pixels-are h = mul_comm h.columns h.rows

-- 3.1
pub size_is : (h : Header) → mask_size h ≡ mask_length (shape_of h)
size_is h = rw (pixels-are h)

-- 3.2
pub count-is : (s : List ℕ) (n : ℕ) → count s n ≡ valid_below n s
unfolding count our.count
count-is s zero = refl
count-is s (suc n) = rw (count-is s n)

counted-some : (h : Header) (m : List ℕ) → valid_below (pixels (shape_of h)) m ≡ h.valid → counted h m ≡ some m
counted-some h m e = rw (pixels-are h, count-is m (pixels (shape_of h)), eq-eqb (valid_below (pixels (shape_of h)) m) h.valid e)

counted_none : (h : Header) (m : List ℕ) → (valid_below (pixels (shape_of h)) m ≡ h.valid → ⊥) → counted h m ≡ none
counted_none h m e = rw (pixels-are h, count-is m (pixels (shape_of h)), ne_eqb (valid_below (pixels (shape_of h)) m) h.valid e)

all_of : (n b : ℕ) → tabulate n (λ i. b) ≡ replicate n b
all_of n b = sym (replicate-from n 0 b)

module _ (s : List ℕ) (h : Header) (old : List ℕ) (reuse : Bool) where
  -- 3.3
  pub validity-none : h.valid ≡ 0 → validity s h old reuse ≡ some (replicate (mask_length (shape_of h)) 0)
  unfolding validity
  validity-none e =
      let n = mask_length (shape_of h) in
      rw (eq-eqb h.valid 0 e, size_is h, all_of n 0) (counted-some h (replicate n 0) (valid-uniform-0 (pixels (shape_of h)) n ∙ sym e))

  -- 3.4
  pub validity-all : (h.valid ≡ 0 → ⊥) → h.valid ≡ pixels (shape_of h) → validity s h old reuse ≡ some (replicate (mask_length (shape_of h)) 255)
  unfolding validity
  validity-all d e =
      let n = mask_length (shape_of h) in
      rw (ne_eqb h.valid 0 d, eq-eqb h.valid (h.columns * h.rows) (e ∙ sym (pixels-are h)), size_is h, all_of n 255)
      (counted-some h (replicate n 255) (valid-uniform-255 (pixels (shape_of h)) n (omega arith) ∙ sym e))

  module _ (d : h.valid ≡ 0 → ⊥) (f : h.valid ≡ pixels (shape_of h) → ⊥) where
    mixed : h.valid ≡ h.columns * h.rows → ⊥
    mixed e = f (e ∙ pixels-are h)

    -- 3.5, 3.6
    pub validity-kept : h.mask ≡ 0 → validity s h old reuse ≡ said bytes_of (kept h reuse old)
    unfolding validity kept
    validity-kept e = rw (ne_eqb h.valid 0 d, ne_eqb h.valid (h.columns * h.rows) mixed, eq-eqb h.mask 0 e, size_is h) (go reuse refl)
      where
        m : List ℕ
        m = take (mask_length (shape_of h)) old

        counts : (t : Bool) → eqb (valid_below (pixels (shape_of h)) m) h.valid ≡ t → counted h m ≡ said bytes_of (kept h true old)
        counts true e = rw (e) (counted-some h m (eqb-true _ _ e))
        counts false e = rw (e) (counted_none h m (eqb-false _ _ e))

        go : (t : Bool) → reuse ≡ t → on_some (cond t (some m) none) (counted h) ≡ said bytes_of (kept h t old)
        go true e = counts (eqb (valid_below (pixels (shape_of h)) m) h.valid) refl
        go false e = refl

    -- 3.7
    pub validity-runs : (h.mask ≡ 0 → ⊥) → validity s h old reuse ≡ said bytes_of (unrolled s h)
    unfolding validity unrolled coded
    validity-runs e = rw (ne_eqb h.valid 0 d, ne_eqb h.valid (h.columns * h.rows) mixed, ne_eqb h.mask 0 e, size_is h, section) (go (mask_runs (mask_length (shape_of h)) t))
      where
        t : List ℕ
        t = take h.mask (drop header_bytes s)

        section : header_bytes + h.mask - 70 ≡ h.mask
        section = omega arith

        counts : (m : List ℕ) (u : Bool) → eqb (valid_below (pixels (shape_of h)) m) h.valid ≡ u
            → counted h m ≡ said bytes_of ((require u 6 >>= λ _. ok m) >>= λ m. ok (new m))
        counts m true e = counted-some h m (eqb-true _ _ e)
        counts m false e = counted_none h m (eqb-false _ _ e)

        go : (m : Res (List ℕ)) → on_some (said (λ m. m) m) (counted h) ≡ said bytes_of ((m >>= λ m. require (eqb (valid_below (pixels (shape_of h)) m) h.valid) 6 >>= λ _. ok m) >>= λ m. ok (new m))
        go (ok m) = counts m (eqb (valid_below (pixels (shape_of h)) m) h.valid) refl
        go (fail r) = refl

  -- THE MASK, also 3.8
  pub validity-is : Sectioned h → validity s h old reuse ≡ said bytes_of (mask_says s h reuse old)
  validity-is (p, q) = none? (eqb h.valid 0) refl ∙ sym (said-marked bytes_of mask_field (mask_in s h reuse old))
    where
      section? : (h.valid ≡ 0 → ⊥) → (h.valid ≡ pixels (shape_of h) → ⊥) → (t : Bool) → eqb h.mask 0 ≡ t → validity s h old reuse ≡ said bytes_of (mask_in s h reuse old)
      section? d f true e = rw (says-kept s h reuse old d f (eqb-true _ _ e)) (validity-kept d f (eqb-true _ _ e))
      section? d f false e = rw (says-runs s h reuse old d f (eqb-false _ _ e)) (validity-runs d f (eqb-false _ _ e))

      all? : (h.valid ≡ 0 → ⊥) → (t : Bool) → eqb h.valid (pixels (shape_of h)) ≡ t → validity s h old reuse ≡ said bytes_of (mask_in s h reuse old)
      all? d true e = let v = eqb-true _ _ e in rw (validity-all d v, says_all s h reuse old d v, uniform-ok h 255 (q v))
      all? d false e = section? d (eqb-false _ _ e) (eqb h.mask 0) refl

      none? : (t : Bool) → eqb h.valid 0 ≡ t → validity s h old reuse ≡ said bytes_of (mask_in s h reuse old)
      none? true e = let v = eqb-true _ _ e in rw (validity-none v, says_none s h reuse old v, uniform-ok h 0 (p v))
      none? false e = all? (eqb-false _ _ e) (eqb h.valid (pixels (shape_of h))) refl

  -- what ours accepts, upstream does
  pub validity-of : (f : MaskInForce) → mask_says s h reuse old ≡ ok f → validity s h old reuse ≡ some (bytes_of f)
  validity-of f a = validity-is (sectioned 0 (λ v. says_none s h reuse old v), λ v. whole v (eqb h.valid 0) refl) ∙ ap (said bytes_of) a
    where
      sectioned : (byte : ℕ) → {v : Type 0} → (v → mask_in s h reuse old ≡ uniform h byte) → v → h.mask ≡ 0
      sectioned byte g v = go (eqb h.mask 0) refl
        where
          go : (t : Bool) → eqb h.mask 0 ≡ t → h.mask ≡ 0
          go true e = eqb-true _ _ e
          go false e = absurd (let w : ◌≡◌ {A = Res MaskInForce} (fail (refuse 6)) (ok f) = sym (uniform-no h byte (eqb-false _ _ e)) ∙ sym (g v) ∙ marked-is mask_field (mask_in s h reuse old) a in let z : ◌≡◌ {A = ℕ} 0 1 = cc in omega arith)

      whole : h.valid ≡ pixels (shape_of h) → (t : Bool) → eqb h.valid 0 ≡ t → h.mask ≡ 0
      whole v true e = sectioned 0 (λ w. says_none s h reuse old w) (eqb-true _ _ e)
      whole v false e = sectioned 255 (λ w. says_all s h reuse old (eqb-false _ _ e) w) v

  pub validity-cases : ValidityCases s h old reuse
  validity-cases = record { validity-none = validity-none; validity-all = validity-all; validity-kept = validity-kept; validity-runs = validity-runs; validity-is = validity-is; validity-of = validity-of }

-- ---- ranges

both_zero : (x y : ℕ) → eqb (x + y) 0 ≡ (eqb x 0 && eqb y 0)
both_zero zero y = rw (zero-add)
both_zero (suc x) y = rw (ne_eqb (suc x) 0 (λ e. absurd (omega arith)), ne_eqb (suc x + y) 0 (λ e. absurd (omega arith)))

-- 3.16
pub equal_is : (a b : ℕ) → equal a b ≡ same a b
unfolding equal
equal_is a b = go (eqb a b) refl
  where
    go : (t : Bool) → eqb a b ≡ t → (eqb a b || (eqb (a % 2 ^ 63) 0 && eqb (b % 2 ^ 63) 0)) ≡ same a b
    go true e = rw (e) (same_bits a b (eqb-true _ _ e))
    go false e = rw (e, ← both_zero (a % 2 ^ 63) (b % 2 ^ 63)) (same-zeros a b (eqb-false _ _ e))

module _ (s : List ℕ) (h : Header) (inside : ranges_end h ≤ length s) where
  -- a number of one bound
  number_is : (first i : ℕ) → first + i < h.depth + h.depth → unwrap 0 (number s (ranges_at h + (first + i) * type_size h.kind) h.kind) ≡ number_at h.kind s (ranges_at h + first * type_size h.kind) i
  unfolding sample_at number_at
  number_is first i l =
      let z = type_size h.kind in
      let a : (first + i) * z ≡ first * z + i * z = add-mul first i z in
      let b : suc (first + i) * z ≤ (h.depth + h.depth) * z = mul-le-mul_right z l in
      let c : (h.depth + h.depth) * z ≡ h.depth * z + h.depth * z = add-mul h.depth h.depth z in
      let d : suc (first + i) * z ≡ (first + i) * z + z = suc-mul (first + i) z in
      let e : ranges_at h + (first * z + i * z) ≡ ranges_at h + first * z + i * z = omega arith in
      rw (word_at-ok z s (ranges_at h + (first + i) * z) (omega arith), a, e)

  bounds-are : (first rest : ℕ) → first ≤ h.depth → bounds s h first rest ≡ by_depth h.depth (number_at h.kind s (ranges_at h + first * type_size h.kind)) rest
  unfolding bounds by_depth
  bounds-are first rest k = tabulate-same 64 _ _ (λ i l. go i (dec_lt i h.depth))
    where
      go : (i : ℕ) → Dec (i < h.depth) → cond (ltb i h.depth) (unwrap 0 (number s (ranges_at h + (first + i) * type_size h.kind) h.kind)) rest
          ≡ cond (ltb i h.depth) (number_at h.kind s (ranges_at h + first * type_size h.kind) i) rest
      go i (yes l) = rw (lt-ltb i h.depth l) (number_is first i (omega arith))
      go i (no l) = rw (le-ltb i h.depth (omega arith))

cond-not : {A : Type 0} (t : Bool) (x y : A) → cond (not t) x y ≡ cond t y x
cond-not true x y = refl
cond-not false x y = refl

module _ (s : List ℕ) (h : Header) where
  -- where they end
  end_is : ranges_at h + 2 * h.depth * type_size h.kind ≡ ranges_end h
  end_is =
      let z = type_size h.kind in
      let a : (h.depth + h.depth) * z ≡ h.depth * z + h.depth * z = add-mul h.depth h.depth z in
      let b : 2 * h.depth ≡ h.depth + h.depth = omega arith in
      rw (b, a) (omega arith)

  pub ranges-cases : RangesCases s h
  unfolding ranges uniform_ranges coded_ranges pairs_right pair_right
  ranges-cases = record {
    ranges-alike = λ e. rw (equal_is h.min h.max, e, all_of 64 h.min, all_of 64 h.max);
    ranges-past = λ e l. rw (equal_is h.min h.max, e, end_is, lt-ltb (length s) (ranges_end h) l);
    ranges-here = λ e l.
        let low = bounds-are s h l 0 h.min (omega arith) in
        let high = bounds-are s h l h.depth h.max (omega arith) in
        let z : ranges_at h + 0 * type_size h.kind ≡ ranges_at h = rw (zero-mul) (add-zero (ranges_at h)) in
        let lows = by_depth h.depth (number_at h.kind s (ranges_at h)) h.min in
        let highs = by_depth h.depth (number_at h.kind s (maxima_at h)) h.max in
        let c : all_to h.depth (λ i. equal (get_or lows i 0) (get_or highs i 0)) ≡ all_to h.depth (λ i. same (get_or lows i 0) (get_or highs i 0)) =
        all_same h.depth (λ i. equal (get_or lows i 0) (get_or highs i 0)) (λ i. same (get_or lows i 0) (get_or highs i 0)) (λ i _. equal_is (get_or lows i 0) (get_or highs i 0)) in
        rw (equal_is h.min h.max, e, end_is, le-ltb (length s) (ranges_end h) l, low, high, z, c) (cond-not (pairs_right h.depth (coded_ranges s h)) none (some (model (coded_ranges s h))));
  }

-- THE RANGES
pub ranges-is : (s : List ℕ) (h : Header) → ranges s h ≡ said model (ranges_says s h)
unfolding ranges_says
ranges-is s h = alike (same h.min h.max) refl
  where
    right : (t : Bool) → pairs_right h.depth (coded_ranges s h) ≡ t → same h.min h.max ≡ false → ranges_end h ≤ length s → ranges s h ≡ said model (ranges_says s h)
    right true p e l = rw (e, le-leb (ranges_end h) (length s) l, p) ((ranges-cases s h).ranges-here e l ∙ rw (p))
    right false p e l = rw (e, le-leb (ranges_end h) (length s) l, p) ((ranges-cases s h).ranges-here e l ∙ rw (p))

    inside : same h.min h.max ≡ false → Dec (ranges_end h ≤ length s) → ranges s h ≡ said model (ranges_says s h)
    inside e (yes l) = right (pairs_right h.depth (coded_ranges s h)) refl e l
    inside e (no l) = let k : length s < ranges_end h = omega arith in rw (e, lt-leb (ranges_end h) (length s) k) ((ranges-cases s h).ranges-past e k)

    alike : (t : Bool) → same h.min h.max ≡ t → ranges s h ≡ said model (ranges_says s h)
    alike true e = rw (e) ((ranges-cases s h).ranges-alike e)
    alike false e = inside e (dec_le (ranges_end h) (length s))

-- ---- a constant body's words

-- THE CONSTANTS
pub constants-is : (values : List ℕ) (depth kind : ℕ) → depth ≤ 64 → depth ≤ length values → constants values depth kind ≡ said (λ ws. over ws (replicate 64 0)) (constant_words depth kind values)
unfolding constants constant_words
constants-is values depth kind k l = go (each (stored kind) (take depth values)) refl
  where
    here : (i : ℕ) → i < depth → get_or (take depth values) i 0 ≡ get_or values i 0
    here i h = get_or-take depth values i 0 h

    wide : length (take depth values) ≡ depth
    wide = simp length-take (omega arith)

    go : (m : Res (List ℕ)) → each (stored kind) (take depth values) ≡ m → cond (not (all_to depth (λ i. is_some (storage (get_or values i 0) kind)))) none (some (tabulate 64 (λ i. cond (ltb i depth) (unwrap 0 (storage (get_or values i 0) kind)) 0))) ≡ said (λ ws. over ws (replicate 64 0)) m
    go (ok ws) e =
        let n = each-length (stored kind) (take depth values) e ∙ wide in
        let at : (i : ℕ) → i < depth → stored kind (get_or values i 0) ≡ ok (get_or ws i 0) = λ i h. rw (← here i h) (each_at (stored kind) (take depth values) i 0 0 e (omega (arith, wide))) in
        rw (all_true depth (λ i. is_some (storage (get_or values i 0) kind)) (λ i h. rw (at i h)))
        (ap (λ (x : List ℕ). some x) (rw (← n) (padded 64 ws (λ i. unwrap 0 (storage (get_or values i 0) kind)) (omega arith) (λ i h. rw (at i (omega arith))))))
    go (fail r) e =
        let (i, h, f) = each-not (stored kind) (take depth values) 0 e in
        let f2 : stored kind (get_or values i 0) ≡ fail r = rw (← here i (omega (arith, wide))) f in
        rw (all-fails depth i (λ i. is_some (storage (get_or values i 0) kind)) (omega (arith, wide)) (rw (f2)))

which-some : (m : Res MaskInForce) → accepts (m >>= which) ≡ is_some (said bytes_of m)
which-some (ok (reused m)) = refl
which-some (ok (new m)) = refl
which-some (fail q) = refl

-- ---- `prepare`: from the promises of `lerc_validity::prepare_mask` and `mask_in_force`. Upstream's one mask is the kept one
-- before, and the one in force after

module _ (b : List ℕ) (h : Header) (reuse : Bool) (old : List ℕ) (r : Res MaskTold) (spare newer : List ℕ) (promise : Prepared (prepare_says b h reuse old (length spare)) r spare newer) where
  told : (m : Res MaskInForce) → prepare_says b h reuse old (length spare) ≡ m → Prepared m r spare newer
  told m e = rw (e) at promise

  -- the part that is written
  written : (m : Res MaskInForce) → prepare_says b h reuse old (length spare) ≡ m → (length newer ≡ length spare) × ((i : ℕ) → mask_length (shape_of h) ≤ i → get_or newer i 0 ≡ get_or spare i 0)
  written (fail q) e = let p = (told (fail q) e).spare in rw (p) (refl, λ i l. refl)
  written (ok (reused m)) e = let p = (told (ok (reused m)) e).spare in rw (p) (refl, λ i l. refl)
  written (ok (new m)) e =
      let p = (told (ok (new m)) e).spare in
      let n = mask-length b h reuse old (length spare) (new m) e in
      let f = prepare-found b h reuse old (length spare) (new m) e in
      rw (p) (length_over m spare (omega (arith, f.there)), λ i l. over-out m spare i (omega arith))

  module _ (e : Extent) (k : held h (length b) ≡ ok e) (here : mask_size h ≤ length old) (there : mask_size h ≤ length spare) where
    judged : prepare_says b h reuse old (length spare) ≡ mask_says (take h.size b) h reuse old
    judged =
        let i : e ≡ extent_of h = held-is h (length b) k in
        prepare-says b h reuse old (length spare) {e = e} k (rw (i, ← size_is h) here) (rw (i, ← size_is h) there)

    -- 3.14
    pub prepare-mask : accepts r ≡ true → validity (take h.size b) h old reuse ≡ some (in_force r old newer)
    prepare-mask a = go (prepare_says b h reuse old (length spare)) refl
      where
        go : (m : Res MaskInForce) → prepare_says b h reuse old (length spare) ≡ m → validity (take h.size b) h old reuse ≡ some (in_force r old newer)
        go (ok f) e = validity-of (take h.size b) h old reuse f (sym judged ∙ e) ∙ ap (λ (x : List ℕ). some x)
            (sym (in-force f (ok f) r old spare newer refl (prepared-right b h reuse old (length spare) f e).part (told (ok f) e)))
        go (fail q) e = absurd (let w : r ≡ fail q = (told (fail q) e).says in let t : accepts r ≡ false = rw (w) in let z : ◌≡◌ {A = ℕ} 0 1 = cc in omega arith)

  pub prepare-clauses : PrepareClauses b h reuse old r spare newer
  unfolding prepare_says
  prepare-clauses = record {
    prepare-held = λ q e. promise.says ∙ ap (λ (m : Res MaskInForce). m >>= which) (prepare-no b h reuse old (length spare) e);
    prepare-room = λ e k l. promise.says ∙ rw (k, l);
    prepare-length = (written (prepare_says b h reuse old (length spare)) refl).0;
    prepare-rest = λ i l. (written (prepare_says b h reuse old (length spare)) refl).1 i (rw (← size_is h) l);
    prepare-ok = λ e k i j p. rw (validity-is (take h.size b) h old reuse p, promise.says, judged e k i j) (which-some (mask_says (take h.size b) h reuse old));
    prepare-mask = prepare-mask;
  }

-- ---- `same`, `read_ranges`, `convert`: from the promises of `lerc_numeric::same`, `lerc_ranges::read_ranges` and `convert`

-- 3.17
pub same_ok : (a b : ℕ) (r : Bool) → r ≡ same a b → r ≡ equal a b
same_ok a b r e = e ∙ sym (equal_is a b)

ranges-some : (m : Res Ranges) → accepts m ≡ is_some (said model m)
ranges-some (ok m) = refl
ranges-some (fail q) = refl

module _ (b : List ℕ) (h : Header) (r : Res Ranges) (promise : r ≡ read_ranges_says b h) where
  module _ (e : Extent) (k : held h (length b) ≡ ok e) where
    judged-ranges : read_ranges_says b h ≡ ranges_says (take h.size b) h
    unfolding read_ranges_says
    judged-ranges = rw (k)

  pub read-ranges-clauses : ReadRangesClauses b h r
  unfolding read_ranges_says
  read-ranges-clauses = record {
    read-ranges-held = λ q e. rw (promise, e);
    read-ranges-ok = λ e k. rw (promise, judged-ranges e k, ranges-is (take h.size b) h) (ranges-some (ranges_says (take h.size b) h));
    read-ranges-model = λ e k g a. ranges-is (take h.size b) h ∙ ap (said model) (sym (judged-ranges e k) ∙ sym promise ∙ a);
    read-ranges-inside = λ e k g a. let i = read-ranges-kept b h g (sym promise ∙ a) in (i.behind, i.inside);
  }

constants-some : (m : Res (List ℕ)) → accepts (constants_said m) ≡ is_some (said (λ ws. over ws (replicate 64 0)) m)
constants-some (ok m) = refl
constants-some (fail q) = refl

module _ (values : List ℕ) (depth kind : ℕ) (r : Res (List ℕ)) (wide : length values ≡ 64) (promise : r ≡ constants_said (constant_words depth kind values)) (few : depth ≤ 64) where
  stored_is : (m : Res (List ℕ)) {words : List ℕ} → constants_said m ≡ ok words → said (λ ws. over ws (replicate 64 0)) m ≡ some words
  stored_is (ok m) {words} e = let z : over m (replicate 64 0) ≡ words = cc in ap some z
  stored_is (fail q) e = absurd (let z : ◌≡◌ {A = ℕ} 0 1 = cc in omega arith)

  pub convert-clauses : ConvertClauses values depth kind r
  convert-clauses = record {
    convert-ok = rw (promise, constants-is values depth kind few (omega arith)) (constants-some (constant_words depth kind values));
    convert-words = λ words a. rw (constants-is values depth kind few (omega arith)) (stored_is (constant_words depth kind values) (sym promise ∙ a));
  }
