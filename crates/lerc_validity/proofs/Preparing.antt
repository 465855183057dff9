-- One law for each answer of the functions that prepare a mask.
-- Assumes nothing.
use mathlib.Core.Path.{◌≡◌, ◌∙◌, sym, ap, refl}
use mathlib.Core.Bool.{Bool, true, false, ◌&&◌}
use mathlib.Core.List.{List}
use Prim.Native.Nat.{ℕ, ◌≤◌, ◌<◌}
use native.Mathlib.Omega.{arith}
use borrow.Author.Tests.{le-leb, lt-leb, eq-eqb, ne_eqb}
use lib.ListN.{length, take, drop, replicate, length-take}
use lib.Dec.{leb}
use Rattle.lerc_words.specs.declared.Refusal.{Refusal}
use Rattle.lerc_words.specs.Res.{Res, ok, fail, ◌>>=◌, refuse, placed, marked, after}
use Rattle.lerc_words.proofs.Marking.{marked-after, Bare}
use Rattle.lerc_words.specs.Lists.{over}
use Rattle.lerc_header.specs.declared.Header.{Header}
use Rattle.lerc_header.specs.declared.Extent.{Extent}
use Rattle.lerc_header.specs.Header.{shape_of, held, header_bytes, ranges_at}
use Rattle.lerc_header.proofs.Kept.{held-is, held-size}
use Rattle.lerc_header.specs.Shape.{pixels, mask_length}
use Rattle.lerc_mask.specs.Mask.{valid_below, mask_field, coded, decoded, RunsUnrolled}
use Rattle.lerc_mask.proofs.Pixels.{valid-take}
use Rattle.lerc_mask.proofs.Runs.{coded-bare, decoded-coded}
use Rattle.lerc_validity.specs.declared.Mask.TheVariants.{Kept, Spare}
use Rattle.lerc_validity.specs.Validity.{MaskInForce, reused, new, uniform, kept, unrolled, mask_in, mask_says, find_says, prepare_says, spare_with, MaskTold, which, Prepared, from_runs}

-- ---- the promise, for each answer

pub refused : {m : Res MaskInForce} {r : Refusal} {old : List ℕ} → m ≡ fail r → Prepared m (fail r) old old
refused e = rw e (record { says = refl; spare = refl })

pub spared : {m : Res MaskInForce} (bytes : List ℕ) (n : ℕ) {old newer : List ℕ} → m ≡ ok (new bytes) → length bytes ≡ n → newer ≡ over bytes old → Prepared m (ok (Spare n)) old newer
spared bytes n e l d = rw (e, d) (record { says = rw (l); spare = refl })

pub reuses : {m : Res MaskInForce} (bytes : List ℕ) (n : ℕ) {old : List ℕ} → m ≡ ok (reused bytes) → length bytes ≡ n → Prepared m (ok (Kept n)) old old
reuses bytes n e l = rw e (record { says = rw (l); spare = refl })

pub prepared-no : (m : Res MaskInForce) {r : Refusal} {old newer : List ℕ} → Prepared m (fail r) old newer → m ≡ fail r
prepared-no (ok f) p = absurd (let e = p.says in let z : ◌≡◌ {A = ℕ} 0 1 = cc in omega arith)
prepared-no (fail q) {r} p = let e = p.says in let z : q ≡ r = cc in ap fail z

-- with a place on the answer
pub told_at : (p : ℕ) (m : Res MaskInForce) → marked p (m >>= which) ≡ (marked p m >>= which)
told_at p (ok (reused m)) = refl
told_at p (ok (new m)) = refl
told_at p (fail r) = refl

pub prepared-at : {m : Res MaskInForce} {r q : Res MaskTold} (p : ℕ) {old newer : List ℕ} → Prepared m r old newer → q ≡ marked p r → Prepared (marked p m) q old newer
prepared-at {m} p {old} d e = record {
  says = e ∙ ap (marked p) d.says ∙ told_at p m;
  spare = d.spare ∙ sym (marked-after p m old (λ f. spare_with f old));
}

-- ---- a uniform mask

pub uniform-no : (h : Header) (byte : ℕ) → (h.mask ≡ 0 → ⊥) → uniform h byte ≡ fail (refuse 6)
unfolding uniform
uniform-no h byte d = rw (ne_eqb h.mask 0 d)

pub uniform-ok : (h : Header) (byte : ℕ) → h.mask ≡ 0 → uniform h byte ≡ ok (new (replicate (mask_length (shape_of h)) byte))
unfolding uniform
uniform-ok h byte e = rw (eq-eqb h.mask 0 e)

-- ---- the kept mask

-- only the bytes of the mask are counted
counted : (h : Header) (old : List ℕ) → valid_below (pixels (shape_of h)) (take (mask_length (shape_of h)) old) ≡ valid_below (pixels (shape_of h)) old
counted h old = valid-take (pixels (shape_of h)) (mask_length (shape_of h)) old (omega arith)

module _ (h : Header) (reuse : Bool) (old : List ℕ) where
  pub kept-no : reuse ≡ false → kept h reuse old ≡ fail (refuse 6)
  unfolding kept
  kept-no e = rw (e)

  pub kept-count : reuse ≡ true → (valid_below (pixels (shape_of h)) old ≡ h.valid → ⊥) → kept h reuse old ≡ fail (refuse 6)
  unfolding kept
  kept-count e d = rw (e, counted h old, ne_eqb (valid_below (pixels (shape_of h)) old) h.valid d)

  pub kept-ok : reuse ≡ true → valid_below (pixels (shape_of h)) old ≡ h.valid → kept h reuse old ≡ ok (reused (take (mask_length (shape_of h)) old))
  unfolding kept
  kept-ok e d = rw (e, counted h old, eq-eqb (valid_below (pixels (shape_of h)) old) h.valid d)

-- ---- a mask of runs

pub from_runs-is : (a : Res ℕ) {r : Res ℕ} → r ≡ marked 0 a → (r >>= λ n. ok (Spare n)) ≡ from_runs a
from_runs-is (ok n) e = rw (e)
from_runs-is (fail q) e = rw (e)

-- what the answer says, whatever is done with the bytes
pub runs-says : (p : ℕ) (m : Res (List ℕ)) → Bare m → (a : Res ℕ) → a ≡ (marked p m >>= λ bytes. ok (length bytes)) → from_runs a ≡ (m >>= (λ bytes. ok (new bytes)) >>= which)
runs-says p (ok bytes) i (ok n) u = let e : n ≡ length bytes = cc in rw (e)
runs-says p (ok bytes) i (fail r) u = absurd (let z : ◌≡◌ {A = ℕ} 0 1 = cc in omega arith)
runs-says p (fail q) i (ok n) u = absurd (let z : ◌≡◌ {A = ℕ} 0 1 = cc in omega arith)
runs-says p (fail q) i (fail r) u =
    let e : r ≡ placed p q = cc (u) in
    let z : placed 0 q ≡ q = cc (i) in
    rw (e) (ap fail z)

runs_after : (m : Res (List ℕ)) (old : List ℕ) → after m old (λ bytes. over bytes old) ≡ after (m >>= λ bytes. ok (new bytes)) old (λ f. spare_with f old)
runs_after (ok bytes) old = refl
runs_after (fail r) old = refl

runs-told : (p : ℕ) (m : Res (List ℕ)) → Bare m → (a : Res ℕ) {old newer : List ℕ} → RunsUnrolled (marked p m) a old newer → Prepared (m >>= λ bytes. ok (new bytes)) (from_runs a) old newer
runs-told p m i a {old} u = record { says = runs-says p m i a u.says; spare = u.left ∙ marked-after p m old (λ bytes. over bytes old) ∙ runs_after m old }

pub unroll-told : (s : List ℕ) (h : Header) (room : ℕ) (a : Res ℕ) {old newer : List ℕ} → mask_length (shape_of h) ≤ room
    → RunsUnrolled (decoded (take h.mask (drop header_bytes s)) (pixels (shape_of h)) h.valid room) a old newer → Prepared (unrolled s h) (from_runs a) old newer
unfolding unrolled
unroll-told s h room a l u =
    let t = take h.mask (drop header_bytes s) in
    runs-told mask_field (coded t (pixels (shape_of h)) h.valid) (coded-bare t (pixels (shape_of h)) h.valid) a (rw (decoded-coded t (pixels (shape_of h)) h.valid room l) at u)

-- ---- which of them

module _ (s : List ℕ) (h : Header) (reuse : Bool) (old : List ℕ) where
  pub says_none : h.valid ≡ 0 → mask_in s h reuse old ≡ uniform h 0
  unfolding mask_in
  says_none e = rw (eq-eqb h.valid 0 e)

  pub says_all : (h.valid ≡ 0 → ⊥) → h.valid ≡ pixels (shape_of h) → mask_in s h reuse old ≡ uniform h 255
  unfolding mask_in
  says_all d e = rw (ne_eqb h.valid 0 d, eq-eqb h.valid (pixels (shape_of h)) e)

  module _ (d : h.valid ≡ 0 → ⊥) (f : h.valid ≡ pixels (shape_of h) → ⊥) where
    pub says-kept : h.mask ≡ 0 → mask_in s h reuse old ≡ kept h reuse old
    unfolding mask_in
    says-kept e = rw (ne_eqb h.valid 0 d, ne_eqb h.valid (pixels (shape_of h)) f, eq-eqb h.mask 0 e)

    pub says-runs : (h.mask ≡ 0 → ⊥) → mask_in s h reuse old ≡ unrolled s h
    unfolding mask_in
    says-runs e = rw (ne_eqb h.valid 0 d, ne_eqb h.valid (pixels (shape_of h)) f, ne_eqb h.mask 0 e)

-- ---- room, and the section in the bytes

module _ (s : List ℕ) (h : Header) (reuse : Bool) (old : List ℕ) (room : ℕ) where
  abbrev has_room : Bool
  has_room = leb (mask_length (shape_of h)) (length old) && leb (mask_length (shape_of h)) room

  pub find-room : has_room ≡ false → find_says s h reuse old room ≡ fail (refuse 5)
  unfolding find_says
  find-room t = rw (t)

  pub find-short : has_room ≡ true → length s < ranges_at h → find_says s h reuse old room ≡ fail (refuse 1)
  unfolding find_says
  find-short t l = rw (t, lt-leb (ranges_at h) (length s) l)

  pub find-says : has_room ≡ true → ranges_at h ≤ length s → find_says s h reuse old room ≡ mask_says s h reuse old
  unfolding find_says
  find-says t l = rw (t, le-leb (ranges_at h) (length s) l)

-- ---- the header by value

module _ (b : List ℕ) (h : Header) (reuse : Bool) (old : List ℕ) (room : ℕ) where
  pub prepare-no : {r : Refusal} → held h (length b) ≡ fail r → prepare_says b h reuse old room ≡ fail r
  unfolding prepare_says
  prepare-no e = rw (e)

  -- the section of a header that is held lies in its blob
  pub prepare-find : {e : Extent} → held h (length b) ≡ ok e → prepare_says b h reuse old room ≡ find_says (take h.size b) h reuse old room
  unfolding prepare_says find_says
  prepare-find k =
      let (behind, fits, _) = held-size h (length b) k in
      let l : ranges_at h ≤ length (take h.size b) = simp length-take (omega arith) in
      rw (k, held-is h (length b) k, le-leb (ranges_at h) (length (take h.size b)) l)

  pub prepare-says : {e : Extent} → held h (length b) ≡ ok e → e.mask ≤ length old → e.mask ≤ room → prepare_says b h reuse old room ≡ mask_says (take h.size b) h reuse old
  unfolding prepare_says
  prepare-says {e} k l m = rw (k, le-leb e.mask (length old) l, le-leb e.mask room m)
