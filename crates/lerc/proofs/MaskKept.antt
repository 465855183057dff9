-- The mask behind a header that was opened, found or compared, and kept on acceptance.
-- Assumes nothing.
use mathlib.Core.Path.{◌≡◌, ◌∙◌, sym, ap, refl}
use mathlib.Core.Bool.{Bool, true, false, cond}
use mathlib.Core.List.{List, []}
use Prim.Native.Nat.{ℕ, ◌≤◌}
use native.Mathlib.Omega.{arith}
use lib.ListN.{length, take, drop, replicate, length-take}
use lib.Seq.{take_all}
use lib.Dec.{leb, eqb}
use borrow.Author.Tests.{le-leb, leb-true, ne_eqb}
use Rattle.lerc_words.specs.declared.Refusal.{Refusal}
use Rattle.lerc_words.specs.Res.{Res, ok, fail, ◌>>=◌, require}
use Rattle.lerc_words.specs.Lists.{over}
use Rattle.lerc_validity.specs.Validity.{holds_mask}
use Rattle.lerc_image.specs.Own.{own_mask}
use Rattle.lerc_mask.specs.Seek.{given}
use Rattle.lerc_mask.proofs.Given.{given-runs}
use Rattle.lerc_slices.specs.Slices.{copied}
use Rattle.lerc_words.proofs.Binding.{and_is, bind_is}
use Rattle.lerc_words.proofs.Marking.{marked-is}
use Rattle.lerc_header.specs.declared.Header.{Header}
use Rattle.lerc_header.specs.declared.Extent.{Extent}
use Rattle.lerc_header.specs.Header.{shape_of, extent_of, held, header_says, header_bytes}
use Rattle.lerc_header.specs.Shape.{pixels, cells, mask_length, block_count}
use Rattle.lerc_header.proofs.Kept.{held-size, held-own, header-held}
use Rattle.lerc_mask.specs.Mask.{valid_below, coded, mask_field}
use Rattle.lerc_mask.proofs.Runs.{coded-is}
use Rattle.lerc_validity.specs.declared.Mask.{Mask}
use Rattle.lerc_validity.specs.declared.Mask.TheVariants as mask
use Rattle.lerc_validity.specs.Validity.{MaskInForce, reused, new, bytes_of, uniform, kept, unrolled, mask_in, mask_says, find_says, prepare_says, which, Prepared, in_force}
use Rattle.lerc_validity.proofs.Preparing.{prepare-find, prepare-says}
use Rattle.lerc_validity.proofs.Prepared.{Right, prepared-right, in-force}
use Rattle.lerc.specs.Read.{Lent, room, masked}
use Rattle.lerc.specs.Stage.{mask_named}
use Rattle.lerc.specs.Parts.{Ready, MaskFits, has_room}
use Rattle.lerc.proofs.Bodies.{over-itself}
use Rattle.lerc.proofs.Endings.{mask-no, mask-yes}

-- ---- keep

module _ (kept spare : List ℕ) where
  -- a new mask is copied
  pub keep-new : {said : Res Mask} (n : ℕ) → said ≡ ok (mask.Spare n) → (n ≤ length kept) × (n ≤ length spare) → copied (take n spare) kept ≡ over (in_force said kept spare) kept
  unfolding in_force
  keep-new n e (k, l) =
      let t : take (length kept) (take n spare) ≡ take n spare = take_all (length kept) (take n spare) (simp length-take (omega arith)) in
      rw (e, le-leb n (length spare) l, t)

  -- a reused one stands there
  pub keep-old : {said : Res Mask} (n : ℕ) → said ≡ ok (mask.Kept n) → kept ≡ over (in_force said kept spare) kept
  unfolding in_force
  keep-old n e = rw (e) (go (leb n (length kept)) refl)
    where
      go : (t : Bool) → leb n (length kept) ≡ t → kept ≡ over (cond t (take n kept) []) kept
      go true q = sym (over-itself n kept (leb-true n (length kept) q))
      go false q = refl

-- ---- what the answer names

pub which-is : (f : MaskInForce) → which f ≡ mask_named f
which-is (reused m) = refl
which-is (new m) = refl

-- the mask that was accepted, or the refusal
pub names : {x : Res MaskInForce} (said : Res Mask) → said ≡ (x >>= which) → (f : MaskInForce) → x ≡ ok f → said ≡ mask_named f
names {x} said p f e = p ∙ ap (λ (y : Res MaskInForce). y >>= which) e ∙ which-is f

pub refuses : {x : Res MaskInForce} {said : Res Mask} {why : Refusal} → said ≡ (x >>= which) → said ≡ fail why → x ≡ fail why
refuses {x} {said} {why} p e = go x (sym e ∙ p)
  where
    go : (y : Res MaskInForce) → fail why ≡ (y >>= which) → y ≡ fail why
    go (ok (reused m)) q = absurd (let z : ◌≡◌ {A = ℕ} 0 1 = cc in omega arith)
    go (ok (new m)) q = absurd (let z : ◌≡◌ {A = ℕ} 0 1 = cc in omega arith)
    go (fail r) q = let z : r ≡ why = cc in ap fail z

pub accepted : {x : Res MaskInForce} (said : Res Mask) {next : Mask} → said ≡ (x >>= which) → said ≡ ok next → (f : MaskInForce) × (x ≡ ok f)
accepted {x} said {next} p e = go x (sym e ∙ p)
  where
    go : (y : Res MaskInForce) → ok next ≡ (y >>= which) → (f : MaskInForce) × (y ≡ ok f)
    go (ok f) q = (f, refl)
    go (fail r) q = absurd (let z : ◌≡◌ {A = ℕ} 0 1 = cc in omega arith)

-- only a new mask can fail to stand there
pub is-new : (f : MaskInForce) (spare : List ℕ) → holds_mask f spare ≡ false → (w : List ℕ) × (f ≡ new w)
is-new (reused w) spare e = absurd (let z : ◌≡◌ {A = ℕ} 0 1 = cc in omega arith)
is-new (new w) spare e = (w, refl)

-- ---- a mask that the blob itself gives

module _ (s : List ℕ) (h : Header) (w : List ℕ) where
  uniform-is : uniform h 255 ≡ ok (new w) → replicate (mask_length (shape_of h)) 255 ≡ w
  unfolding uniform
  uniform-is q = let (_, _, u) = bind_is (require (eqb h.mask 0) 6) _ q in cc

  kept-not : (reuse : Bool) (old : List ℕ) → kept h reuse old ≡ ok (new w) → ⊥
  unfolding kept
  kept-not reuse old q =
      let (_, _, u) = bind_is (require reuse 6) _ q in
      let (_, _, u) = bind_is (require (eqb (valid_below (pixels (shape_of h)) (take (mask_length (shape_of h)) old)) h.valid) 6) _ u in
      let z : ◌≡◌ {A = ℕ} 0 1 = cc in
      omega arith

  abbrev section : List ℕ
  section = take h.mask (drop header_bytes s)

  runs-are : unrolled s h ≡ ok (new w) → given (mask_length (shape_of h)) section ≡ w
  unfolding unrolled
  runs-are q =
      let (m, u, r) = bind_is (coded section (pixels (shape_of h)) h.valid) _ q in
      let z : m ≡ w = cc in
      given-runs (mask_length (shape_of h)) section w ((coded-is section (pixels (shape_of h)) h.valid m u).runs ∙ ap ok z)

  pub mask-own : (reuse : Bool) (old : List ℕ) → (h.valid ≡ 0 → ⊥) → mask_in s h reuse old ≡ ok (new w) → own_mask s h ≡ w
  unfolding mask_in own_mask
  mask-own reuse old v q = pick (eqb h.valid (pixels (shape_of h))) (eqb h.mask 0) (rw (ne_eqb h.valid 0 v) at q)
    where
      pick : (t u : Bool) → cond t (uniform h 255) (cond u (kept h reuse old) (unrolled s h)) ≡ ok (new w)
          → cond t (replicate (mask_length (shape_of h)) 255) (given (mask_length (shape_of h)) section) ≡ w
      pick true u q = uniform-is q
      pick false true q = absurd (kept-not reuse old q)
      pick false false q = runs-are q

-- ---- the mask section

module _ (b : List ℕ) (reuse : Bool) (l : Lent) (h : Header) (e : header_says b ≡ ok h) (d : room h l ≡ true) where
  -- what is asked for the mask
  abbrev pub asked : Res MaskInForce
  asked = find_says (take h.size b) h reuse l.kept (length l.spare)

  pub record Rooms : Type 0 where
    pub kept : mask_length (shape_of h) ≤ length l.kept
    pub spare : mask_length (shape_of h) ≤ length l.spare
    pub list : block_count (shape_of h) ≤ length l.list
    pub image : cells (shape_of h) ≤ length l.image

  pub rooms : Rooms
  unfolding room
  rooms =
      let (u, k4) = and_is _ _ d in
      let (v, k3) = and_is _ _ u in
      let (k1, k2) = and_is _ _ v in
      record { kept = leb-true _ _ k1; spare = leb-true _ _ k2; list = leb-true _ _ k3; image = leb-true _ _ k4 }

  kept-header : held h (length b) ≡ ok (extent_of h)
  kept-header = (header-held b h e).1

  -- the blob's own bytes
  own : length (take h.size b) ≡ h.size
  own = let (_, fits, _) = held-size h (length b) kept-header in simp length-take (omega arith)

  prepare-is : prepare_says b h reuse l.kept (length l.spare) ≡ asked
  prepare-is = prepare-find b h reuse l.kept (length l.spare) kept-header

  mask_is : asked ≡ mask_says (take h.size b) h reuse l.kept
  mask_is = sym prepare-is ∙ prepare-says b h reuse l.kept (length l.spare) kept-header rooms.kept rooms.spare

  pub masked-no : {why : Refusal} → asked ≡ fail why → masked b reuse l ≡ fail why
  masked-no i = mask-no b reuse l e d (sym mask_is ∙ i)

  module _ (f : MaskInForce) (i : asked ≡ ok f) where
    pub masked-yes : masked b reuse l ≡ ok (record { header = h; mask = f })
    masked-yes = mask-yes b reuse l e d (sym mask_is ∙ i)

    right : Right (take h.size b) h l.kept f
    right = prepared-right b h reuse l.kept (length l.spare) f (prepare-is ∙ i)

    -- what the rest needs
    pub ready : Ready (take h.size b) h (bytes_of f)
    ready = record {
      header = held-own h (length b) (length (take h.size b)) kept-header (omega (arith, own));
      whole = own;
      counts = right.counts;
      mask = omega (arith, right.size);
    }

    -- a mask that was put into the spare
    pub part-found : {said : Res Mask} {newer : List ℕ} → Prepared asked said l.spare newer → in_force said l.kept newer ≡ bytes_of f
    part-found {said} {newer} p = in-force f asked said l.kept l.spare newer i right.part p

    pub fits : {said : Res Mask} → said ≡ mask_named f → MaskFits said l.kept l.spare
    fits {said} n k q = go f right.size (sym n ∙ q)
      where
        go : (g : MaskInForce) → length (bytes_of g) ≡ mask_length (shape_of h) → mask_named g ≡ ok (mask.Spare k) → (k ≤ length l.kept) × (k ≤ length l.spare)
        go (reused w) z u = absurd (let z : ◌≡◌ {A = ℕ} 0 1 = cc in omega arith)
        go (new w) z u = let v : k ≡ length w = cc in (omega (arith, z, v, rooms.kept), omega (arith, z, v, rooms.spare))

    -- the blob's own mask, where it is a new one and some pixel is valid
    pub own_is : (w : List ℕ) → f ≡ new w → (h.valid ≡ 0 → ⊥) → own_mask (take h.size b) h ≡ w
    own_is w n v = mask-own (take h.size b) h w reuse l.kept v (marked-is mask_field (mask_in (take h.size b) h reuse l.kept) (sym mask_is ∙ i ∙ ap ok n))

-- ---- room

-- the tests of the code, over the sizes that it has, are room
pub room-is : (h : Header) (x : Extent) (l : Lent) → x ≡ extent_of h → has_room x (length l.kept) (length l.spare) (length l.list) (length l.image) ≡ room h l
unfolding room
room-is h x l k = rw (k)
