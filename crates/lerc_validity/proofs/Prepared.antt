-- What holds of a mask that was prepared.
-- Assumes nothing.
use mathlib.Core.Path.{◌≡◌, refl, sym, ap, ◌∙◌}
use mathlib.Core.Bool.{Bool, true, false, ◌&&◌}
use mathlib.Core.List.{List}
use mathlib.Core.Logic.{◌⊎◌, inl, inr}
use Prim.{Unit, tt}
use Prim.Native.Nat.{ℕ, ◌≤◌, ◌<◌}
use native.Mathlib.Omega.{arith}
use borrow.Author.Tests.{le-leb, leb-true, eqb-true}
use lib.Dec.{leb, eqb}
use lib.ListN.{length, take, drop, replicate, length-take, length-append, length-replicate}
use lib.Seq.{take-append_seam}
use Rattle.lerc_words.specs.declared.Refusal.{Refusal}
use Rattle.lerc_words.specs.Res.{Res, ok, fail, ◌>>=◌, refuse, placed, require}
use Rattle.lerc_words.proofs.Marking.{marked-is, marked-fails}
use Rattle.lerc_words.specs.Lists.{over}
use Rattle.lerc_words.proofs.Binding.{bind_is, require-is, cond-elim, and_is}
use Rattle.lerc_words.proofs.Little.{Bytes}
use Rattle.lerc_header.specs.declared.Header.{Header}
use Rattle.lerc_header.specs.declared.Extent.{Extent}
use Rattle.lerc_header.specs.Header.{shape_of, extent_of, held, header_bytes}
use Rattle.lerc_header.specs.Shape.{pixels, mask_length}
use Rattle.lerc_header.proofs.Kept.{held-is}
use Rattle.lerc_mask.specs.Mask.{valid_below, coded, mask_field}
use Rattle.lerc_mask.proofs.Pixels.{valid-uniform-0, valid-uniform-255}
use Rattle.lerc_mask.proofs.Steps.{bytes-part, bytes-repeat}
use Rattle.lerc_mask.proofs.Runs.{coded-is, coded-length, coded-bytes, coded-six}
use Rattle.lerc_validity.specs.declared.Mask.TheVariants.{Kept, Spare}
use Rattle.lerc_validity.specs.declared.compared.MaskFound.{MaskFound}
use Rattle.lerc_validity.specs.Validity.{MaskInForce, reused, new, bytes_of, uniform, kept, unrolled, mask_in, mask_says, prepare_says, MaskTold, Prepared, Compared, first_of, in_force}

-- a reused mask is the first part of the kept one
abbrev pub Part : List ℕ → MaskInForce → Type 0
Part old (reused m) = (length m ≤ length old) × (m ≡ take (length m) old)
Part old (new m) = Unit

-- "Length is (pixels+7)/8", "Valid pixels must number `valid`": all three ways to a mask
pub record Right (s : List ℕ) (h : Header) (old : List ℕ) (f : MaskInForce) : Type 0 where
  pub size : length (bytes_of f) ≡ mask_length (shape_of h)
  pub counts : valid_below (pixels (shape_of h)) (bytes_of f) ≡ h.valid
  pub bytes : Bytes s → Bytes old → Bytes (bytes_of f)
  pub part : Part old f

-- an accepted mask is right; "Any breach is 6."
abbrev pub Told : List ℕ → Header → List ℕ → Res MaskInForce → Type 0
Told s h old (ok f) = Right s h old f
Told s h old (fail r) = r ≡ refuse 6

module _ (s : List ℕ) (h : Header) (old : List ℕ) where
  required : (t : Bool) (a : Res MaskInForce) → (t ≡ true → Told s h old a) → Told s h old (require t 6 >>= λ _. a)
  required true a f = f refl
  required false a f = refl

  uniform-told : (byte : ℕ) → byte < 256 → valid_below (pixels (shape_of h)) (replicate (mask_length (shape_of h)) byte) ≡ h.valid → Told s h old (uniform h byte)
  unfolding uniform
  uniform-told byte l e = required (eqb h.mask 0) (ok (new (replicate (mask_length (shape_of h)) byte))) (λ _. record {
    size = length-replicate (mask_length (shape_of h)) byte;
    counts = e;
    bytes = λ _ _. bytes-repeat (mask_length (shape_of h)) byte l;
    part = tt;
  })

  kept-told : (reuse : Bool) → mask_length (shape_of h) ≤ length old → Told s h old (kept h reuse old)
  unfolding kept
  kept-told reuse l =
      let n = mask_length (shape_of h) in
      let m = take n old in
      let z : length m ≡ n = rw (length-take) (omega arith) in
      let same = eqb (valid_below (pixels (shape_of h)) m) h.valid in
      required reuse (require same 6 >>= λ _. ok (reused m)) (λ _. required same (ok (reused m)) (λ e. record {
        size = z;
        counts = eqb-true _ _ e;
        bytes = λ _ b. bytes-part old 0 n b;
        part = (omega arith, rw (z));
      }))

  runs-told : Told s h old (unrolled s h)
  unfolding unrolled
  runs-told = go (coded t (pixels (shape_of h)) h.valid) refl
    where
      t : List ℕ
      t = take h.mask (drop header_bytes s)

      go : (a : Res (List ℕ)) → coded t (pixels (shape_of h)) h.valid ≡ a → Told s h old (a >>= λ m. ok (new m))
      go (ok m) e =
          record {
            size = coded-length t (pixels (shape_of h)) h.valid m e;
            counts = (coded-is t (pixels (shape_of h)) h.valid m e).counts;
            bytes = λ b _. coded-bytes t (pixels (shape_of h)) h.valid m (bytes-part s header_bytes h.mask b) e;
            part = tt;
          }
      go (fail r) e = coded-six t (pixels (shape_of h)) h.valid r e

  mask-told : (reuse : Bool) → mask_length (shape_of h) ≤ length old → Told s h old (mask_in s h reuse old)
  unfolding mask_in
  mask-told reuse l =
      let P = Told s h old in
      let p = pixels (shape_of h) in
      let n = mask_length (shape_of h) in
      cond-elim P (eqb h.valid 0) (λ e. uniform-told 0 (omega arith) (valid-uniform-0 p n ∙ sym (eqb-true _ _ e)))
      (λ _. cond-elim P (eqb h.valid p) (λ e. uniform-told 255 (omega arith) (valid-uniform-255 p n (omega arith) ∙ sym (eqb-true _ _ e)))
      (λ _. cond-elim P (eqb h.mask 0) (λ _. kept-told reuse l) (λ _. runs-told)))

  -- the same with its place on a refusal
  pub mask-right : (reuse : Bool) (f : MaskInForce) → mask_length (shape_of h) ≤ length old → mask_says s h reuse old ≡ ok f → Right s h old f
  mask-right reuse f l e = rw (marked-is mask_field (mask_in s h reuse old) e) at (mask-told reuse l)

  pub mask-six : (reuse : Bool) (r : Refusal) → mask_length (shape_of h) ≤ length old → mask_says s h reuse old ≡ fail r → r ≡ placed mask_field (refuse 6)
  mask-six reuse r l e =
      let (q, d, p) = marked-fails mask_field (mask_in s h reuse old) e in
      p ∙ ap (placed mask_field) (rw (d) at (mask-told reuse l))

-- ---- prepare a mask

module _ (b : List ℕ) (h : Header) (reuse : Bool) (old : List ℕ) (room : ℕ) where
  -- accepted: the header was held, there was room, and the section is right
  pub record Found (f : MaskInForce) : Type 0 where
    pub header : held h (length b) ≡ ok (extent_of h)
    pub here : mask_length (shape_of h) ≤ length old
    pub there : mask_length (shape_of h) ≤ room
    pub mask : mask_says (take h.size b) h reuse old ≡ ok f

  pub prepare-found : (f : MaskInForce) → prepare_says b h reuse old room ≡ ok f → Found f
  unfolding prepare_says
  prepare-found f e =
      let (x, p, e) = bind_is (held h (length b)) _ e in
      let (_, q, e) = bind_is (require (leb x.mask (length old) && leb x.mask room) 5) _ e in
      let (k, l) = and_is (leb x.mask (length old)) (leb x.mask room) (require-is _ 5 q) in
      let i : x ≡ extent_of h = held-is h (length b) p in
      record { header = rw (i) at p; here = rw (i) at (leb-true x.mask (length old) k); there = rw (i) at (leb-true x.mask room l); mask = e }

  module _ (f : MaskInForce) (e : prepare_says b h reuse old room ≡ ok f) where
    pub prepared-right : Right (take h.size b) h old f
    prepared-right = let k = prepare-found f e in mask-right (take h.size b) h old reuse f k.here k.mask

    pub mask-length : length (bytes_of f) ≡ mask_length (shape_of h)
    mask-length = prepared-right.size

    pub mask-counts : valid_below (pixels (shape_of h)) (bytes_of f) ≡ h.valid
    mask-counts = prepared-right.counts

    pub mask-bytes : Bytes b → Bytes old → Bytes (bytes_of f)
    mask-bytes p q = prepared-right.bytes (bytes-part b 0 h.size p) q

  -- a refusal is the header's, or 5, or 6
  pub prepare-numbers : (r : Refusal) → prepare_says b h reuse old room ≡ fail r → (held h (length b) ≡ fail r) ⊎ ((r ≡ refuse 5) ⊎ (r ≡ placed mask_field (refuse 6)))
  unfolding prepare_says
  prepare-numbers r e = go (held h (length b)) refl
    where
      go : (a : Res Extent) → held h (length b) ≡ a → (held h (length b) ≡ fail r) ⊎ ((r ≡ refuse 5) ⊎ (r ≡ placed mask_field (refuse 6)))
      go (fail x) d = let y = rw (d) at e in let z : x ≡ r = cc in inl (d ∙ ap fail z)
      go (ok x) d = inr (roomy (leb x.mask (length old) && leb x.mask room) refl (rw (d) at e))
        where
          roomy : (t : Bool) → (leb x.mask (length old) && leb x.mask room) ≡ t → (require t 5 >>= λ _. mask_says (take h.size b) h reuse old) ≡ fail r → (r ≡ refuse 5) ⊎ (r ≡ placed mask_field (refuse 6))
          roomy false l z = inl (cc)
          roomy true l z =
              let (k, _) = and_is (leb x.mask (length old)) (leb x.mask room) l in
              let i = held-is h (length b) d in
              let n : mask_length (shape_of h) ≤ length old = rw (i) at (leb-true x.mask (length old) k) in
              inr (mask-six (take h.size b) h old reuse r n z)

-- ---- the mask handed back

first-whole : (n : ℕ) (s : List ℕ) → n ≤ length s → first_of n s ≡ take n s
first-whole n s h = rw (le-leb n (length s) h)

first-over : (m old : List ℕ) → first_of (length m) (over m old) ≡ m
first-over m old = first-whole (length m) (over m old) (rw (length-append) (omega arith)) ∙ take-append_seam m (drop (length m) old)

-- what is handed back after an acceptance is the mask in force
pub in-force : (f : MaskInForce) (m : Res MaskInForce) (r : Res MaskTold) (old spare newer : List ℕ) → m ≡ ok f → Part old f → Prepared m r spare newer → in_force r old newer ≡ bytes_of f
unfolding in_force
in-force (reused n) m r old spare newer e p u =
    let a : r ≡ ok (Kept (length n)) = rw (e) at u.says in
    rw (a) (first-whole (length n) old p.0 ∙ sym p.1)
in-force (new n) m r old spare newer e p u =
    let a : r ≡ ok (Spare (length n)) = rw (e) at u.says in
    let d : newer ≡ over n spare = rw (e) at u.spare in
    rw (a, d) (first-over n spare)

-- ---- the promise leaves no room

pub prepared-same : {m : Res MaskInForce} {a b : Res MaskTold} {old x y : List ℕ} → Prepared m a old x → Prepared m b old y → (a ≡ b) × (x ≡ y)
prepared-same p q = (p.says ∙ sym q.says, p.spare ∙ sym q.spare)

pub compared_same : {m : Res MaskInForce} {a b : Res MaskFound} {spare : List ℕ} → Compared m a spare → Compared m b spare → a ≡ b
compared_same p q = p.says ∙ sym q.says
