-- Publishing twice: the mask that was kept is found again, and the image is painted as it is.
-- Assumes nothing.
use mathlib.Core.Path.{◌≡◌, ◌∙◌, sym, ap, refl}
use mathlib.Core.Bool.{Bool, true, false, cond, ◌||◌}
use mathlib.Core.List.{List}
use Prim.Native.Nat.{ℕ, ◌≤◌}
use native.Mathlib.Omega.{arith}
use lib.ListN.{length, take}
use lib.Dec.{eqb}
use Rattle.lerc_words.specs.Res.{ok, require, Res}
use Rattle.lerc_words.specs.Lists.{over}
use Rattle.lerc_words.proofs.Binding.{bind_is}
use Rattle.lerc_words.proofs.Marking.{marked-is}
use Rattle.lerc_slices.proofs.Begins.{begins-over, over-begins}
use Rattle.lerc_header.specs.declared.Header.{Header}
use Rattle.lerc_header.specs.Shape.{pixels, mask_length}
use Rattle.lerc_header.specs.Header.{shape_of}
use Rattle.lerc_mask.specs.Mask.{valid_below, mask_field}
use Rattle.lerc_validity.specs.Validity.{MaskInForce, reused, new, bytes_of, uniform, kept, unrolled, mask_in, mask_says}
use Rattle.lerc_validity.proofs.Prepared.{Part, Right}
use Rattle.lerc_image.specs.Paint.{painted}
use Rattle.lerc_image.specs.Geometry.{is_valid_cell}
use Rattle.lerc_image.proofs.Painting.{painted_same, painted-twice}
use Rattle.lerc.specs.Meaning.{Meaning, cell_word}
use Rattle.lerc.specs.Read.{Lent, read_says, published}
use Rattle.lerc.proofs.Bodies.{over-itself}
use Rattle.lerc.proofs.Both.{room-more}
use Rattle.lerc.proofs.Endings.{mask-yes, read_behind}
use Rattle.lerc_theorems.proofs.Meanings.{Means, mask-kept, rooms}
use Rattle.lerc_staged.specs.Calls.{as_published}
use Rattle.lerc_staged.specs.Staged.{PublishTwice}
use Rattle.lerc_staged.proofs.Calls.{publish-call}
use Rattle.lerc_staged.proofs.Done.{Done, done-of, done-says, done-kept, done-image}
use Rattle.lerc_staged.proofs.Fills.{read-room, read-parts}
use Rattle.lerc_staged.proofs.Writes.{writes}
use Rattle.lerc.specs.declared.Staged.{Staged}

-- ---- the mask

-- a new mask is not the kept one
module _ (s : List ℕ) (h : Header) (reuse : Bool) (old other : List ℕ) (w : List ℕ) where
  not-kept : kept h reuse old ≡ ok (new w) → ⊥
  unfolding kept
  not-kept q =
      let (_, _, u) = bind_is (require reuse 6) _ q in
      let (_, _, u) = bind_is (require (eqb (valid_below (pixels (shape_of h)) (take (mask_length (shape_of h)) old)) h.valid) 6) _ u in
      let z : ◌≡◌ {A = ℕ} 0 1 = cc in
      omega arith

  new-again : mask_in s h reuse old ≡ ok (new w) → mask_in s h reuse other ≡ ok (new w)
  unfolding mask_in
  new-again q = pick (eqb h.valid 0) (eqb h.valid (pixels (shape_of h))) (eqb h.mask 0) q
    where
      pick : (t u v : Bool) → cond t (uniform h 0) (cond u (uniform h 255) (cond v (kept h reuse old) (unrolled s h))) ≡ ok (new w)
          → cond t (uniform h 0) (cond u (uniform h 255) (cond v (kept h reuse other) (unrolled s h))) ≡ ok (new w)
      pick true u v q = q
      pick false true v q = q
      pick false false true q = absurd (not-kept q)
      pick false false false q = q

-- kept as it is in force, it is found again
mask-again : (s : List ℕ) (h : Header) (reuse : Bool) (old : List ℕ) (f : MaskInForce) → Part old f → mask_in s h reuse old ≡ ok f → mask_in s h reuse (over (bytes_of f) old) ≡ ok f
mask-again s h reuse old (reused w) p q =
    let z : over w old ≡ old = ap (λ (v : List ℕ). over v old) p.1 ∙ over-itself (length w) old p.0 in
    ap (mask_in s h reuse) z ∙ q
mask-again s h reuse old (new w) p q = new-again s h reuse old (over w old) w q

-- ---- what was read is read again once it is published

module _ (b : List ℕ) (reuse : Bool) (l l' : Lent) (m : Meaning) (e : read_says b reuse l ≡ ok m) (k : l'.kept ≡ over (bytes_of m.mask) l.kept) where
  parts : Means b reuse l.kept m
  parts = read-parts b reuse l m e

  right : Right (take m.header.size b) m.header l.kept m.mask
  right = mask-kept b reuse l.kept m parts (rooms m.header l (read-room b reuse l m e)).kept

  mask-found : mask_says (take m.header.size b) m.header reuse l'.kept ≡ ok m.mask
  mask-found =
      let s = take m.header.size b in
      let one = marked-is mask_field (mask_in s m.header reuse l.kept) parts.mask in
      rw (k, mask-again s m.header reuse l.kept m.mask right.part one)

  pub read_kept : length l.kept ≤ length l'.kept → length l.spare ≤ length l'.spare → length l.list ≤ length l'.list → length l.image ≤ length l'.image → read_says b reuse l' ≡ ok m
  read_kept o s n i =
      let roomy = room-more m.header l l' o s n i (read-room b reuse l m e) in
      read_behind b reuse l' (mask-yes b reuse l' parts.header roomy mask-found) ∙ rw parts.body

-- ---- and published again

-- a mask over itself, and an image over itself
over-twice : (front old : List ℕ) → over front (over front old) ≡ over front old
over-twice front old = over-begins front (over front old) (begins-over front old)

painted-again : (im : List ℕ) (which : ℕ → Bool) (word : ℕ → ℕ) → painted (painted im which word) which word ≡ painted im which word
painted-again im which word = painted-twice im word which which ∙ painted_same im word (λ c. which c || which c) which (λ c l. self (which c))
  where
    self : (v : Bool) → (v || v) ≡ v
    self true = refl
    self false = refl

module _ (m : Meaning) (l l' : Lent) where
  kept_again : l'.kept ≡ (published m l).kept → (published m l').kept ≡ l'.kept
  unfolding published
  kept_again e = rw (e) (over-twice (bytes_of m.mask) l.kept)

  image-again : l'.image ≡ (published m l).image → (published m l').image ≡ l'.image
  unfolding published
  image-again e = rw (e) (painted-again l.image (is_valid_cell (shape_of m.header) (bytes_of m.mask)) (cell_word m.header (bytes_of m.mask) m.body))

  kept-over : l'.kept ≡ (published m l).kept → l'.kept ≡ over (bytes_of m.mask) l.kept
  unfolding published
  kept-over e = e

module _ {b : List ℕ} {reuse : Bool} {a : Res Staged} {l : Lent} {m : Meaning} (d : Done b reuse a l m) (kept image : List ℕ) (k : kept ≡ (published m l).kept) (i : image ≡ (published m l).image) where
  pub done-again : Done b reuse a (as_published l kept image) m
  done-again =
      let l' = as_published l kept image in
      let w = writes b reuse l m d.means in
      let kept-long : length kept ≡ length l.kept = ap length k ∙ w.kept.long in
      let image-long : length image ≡ length l.image = ap length i ∙ w.image.long in
      record {
        means = read_kept b reuse l l' m d.means (kept-over m l l' k) (omega (arith, kept-long)) (omega arith) (omega arith) (omega (arith, image-long));
        spare = d.spare;
        answer = d.answer;
        list = d.list;
      }

pub publish-twice : PublishTwice
publish-twice b reuse given said told old kept image again-kept again-image p accepted q =
    let (m, d) = done-of (publish-call p) accepted.2 in
    let k = done-kept d (publish-call p) in
    let i = done-image d (publish-call p) in
    let e = done-again d kept image k i in
    let l' = as_published old kept image in (
      done-says e (publish-call q) ∙ sym (done-says d (publish-call p)),
      done-kept e (publish-call q) ∙ kept_again m old l' k,
      done-image e (publish-call q) ∙ image-again m old l' i,
    )
