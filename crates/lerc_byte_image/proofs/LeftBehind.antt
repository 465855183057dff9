-- What the pixels of one depth leave behind, and the prediction from it.
-- Assumes nothing.
use Rattle.std.proofs.Common.{◌≡◌, ℕ, zero, suc, ◌+◌, ◌-◌, ◌%◌, ◌<◌, ◌≤◌, Bool, true, false, cond, leb, List, get_or, sym, refl, ◌∙◌, mod-lt, suc-add, zero-add, add-one, arith, lt-ltb, le-leb, leb-true}
use native.Mathlib.Nat.{zero-mod}
use borrow.Author.Tests.{lt-leb}
use Rattle.lerc_words.proofs.Binding.{and_is}
use Rattle.lerc_mask.specs.Mask.{pixel_valid}
use Rattle.lerc_byte_image.specs.Prediction.{byte_of, less_of, left_valid, above_valid, prediction, left_behind, delta_byte}
use Rattle.lerc_byte_image.specs.ImageParts.{guess}

byte_low : (kind symbol before : ℕ) → byte_of kind symbol before < 256
unfolding byte_of
byte_low kind symbol before = mod-lt (symbol + before + (256 - less_of kind)) (omega arith)

module _ (kind columns : ℕ) (m : List ℕ) (symbol : ℕ → ℕ) where
  -- the last value
  unfoldable pub left : ℕ → ℕ
  left p = get_or (left_behind kind columns m symbol p) 0 0

  pub left-none : left 0 ≡ 0
  unfolding left left_behind
  left-none = refl

  pub left-yes : (p : ℕ) → pixel_valid m p ≡ true → left (p + 1) ≡ byte_of kind (symbol p) (prediction columns m (left_behind kind columns m symbol p) p)
  unfolding left left_behind
  left-yes p e = rw (add-one, e)

  pub left-no : (p : ℕ) → pixel_valid m p ≡ false → left (p + 1) ≡ left p
  unfolding left left_behind
  left-no p e = rw (add-one, e)

  -- what lies further back
  pub left_far : (k p : ℕ) → get_or (left_behind kind columns m symbol (k + p)) k 0 ≡ left p
  unfolding left left_behind
  left_far zero p = rw (zero-add)
  left_far (suc k) p = rw (suc-add) (left_far k p)

  -- it is a byte
  pub left-low : (p : ℕ) → left p < 256
  unfolding left left_behind
  left-low zero = omega arith
  left-low (suc p) = go (pixel_valid m p) (left-low p)
    where
      go : (b : Bool) → left p < 256 → cond b (byte_of kind (symbol p) (prediction columns m (left_behind kind columns m symbol p) p)) (get_or (left_behind kind columns m symbol p) 0 0) < 256
      go true l = byte_low kind (symbol p) (prediction columns m (left_behind kind columns m symbol p) p)
      go false l = l

  -- what the pixel above left behind
  pub left-above : (p : ℕ) → 0 < columns → columns ≤ p → get_or (left_behind kind columns m symbol p) (columns - 1) 0 ≡ left (p - columns + 1)
  left-above p c l =
      let e : columns - 1 + (p - columns + 1) ≡ p = omega arith in
      rw (e) at (left_far (columns - 1) (p - columns + 1))

  -- the prediction, from the last value and a word that is the one above where that is valid
  pub guess-is : (p last above : ℕ) → 0 < columns → last ≡ left p → (columns ≤ p → pixel_valid m (p - columns) ≡ true → above ≡ left (p - columns + 1))
      → guess columns m p last above ≡ prediction columns m (left_behind kind columns m symbol p) p
  unfolding prediction left
  guess-is p last above c a f = rw (a) (go (left_valid columns m p) (above_valid columns m p) refl)
    where
      before : List ℕ
      before = left_behind kind columns m symbol p

      go : (x y : Bool) → above_valid columns m p ≡ y → cond x (get_or before 0 0) (cond y above (get_or before 0 0)) ≡ cond x (get_or before 0 0) (cond y (get_or before (columns - 1) 0) (get_or before 0 0))
      go true y e = refl
      go false true e =
          let u = and_is (leb columns p) (pixel_valid m (p - columns)) e in
          let l = leb-true columns p u.0 in
          f l u.1 ∙ sym (left-above p c l)
      go false false e = refl

  -- at the start of a row: by the one above, and of the first row by nothing
  pub first-row : 0 < columns → 0 ≡ prediction columns m (left_behind kind columns m symbol 0) 0
  unfolding prediction left_behind
  first-row c = rw (zero-mod columns, lt-leb columns 0 c)

  pub next_row : (p : ℕ) → 0 < columns → (p + columns) % columns ≡ 0 → pixel_valid m p ≡ true → left (p + 1) ≡ prediction columns m (left_behind kind columns m symbol (p + columns)) (p + columns)
  unfolding prediction
  next_row p c z e =
      let d : p + columns - columns ≡ p = omega arith in
      rw (z, le-leb columns (p + columns) (omega arith), d, e) (rw (d) at (sym (left-above (p + columns) c (omega arith))))

  -- within a row: by the one before
  pub same_row : (p : ℕ) → 0 < (p + 1) % columns → pixel_valid m p ≡ true → left (p + 1) ≡ prediction columns m (left_behind kind columns m symbol (p + 1)) (p + 1)
  unfolding prediction left
  same_row p l e = let d : p + 1 - 1 ≡ p = omega arith in rw (lt-ltb 0 ((p + 1) % columns) l, d, e)

  pub delta-is : (p : ℕ) → delta_byte kind columns m symbol p ≡ left (p + 1)
  unfolding left
  delta-is p = rw (add-one)
