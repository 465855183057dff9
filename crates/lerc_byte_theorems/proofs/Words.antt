-- The words of cells, by the words that they are predicted from.
-- Assumes nothing.
use mathlib.Core.Path.{◌≡◌, ◌∙◌, sym, ap}
use mathlib.Core.Bool.{true, false, and-false}
use mathlib.Core.List.{List}
use Prim.Native.Nat.{ℕ, zero, suc, ◌+◌, ◌-◌, ◌%◌, ◌≤◌, ◌<◌}
use native.Mathlib.Omega.{arith}
use native.Mathlib.Decide.{dec_le}
use native.Mathlib.Nat.{zero-mod, add-zero}
use lib.Arith.{digits_div, digits_mod}
use lib.Dec.{leb, ltb}
use borrow.Author.Tests.{lt-ltb, le-leb, lt-leb, ne_eqb}
use Rattle.lerc_header.specs.declared.Shape.{Shape}
use Rattle.lerc_mask.specs.Mask.{pixel_valid}
use Rattle.lerc_byte_image.specs.Prediction.{byte_of, left_valid, above_valid, prediction, left_behind, delta_place, byte_word}
use Rattle.lerc_byte_image.proofs.LeftBehind.{left, left-none, left-yes, left-no, left-above, delta-is}
use Rattle.lerc_byte_theorems.specs.Images.{Added, AddedLess, delta_word, Predicted, PredictedLeft, PredictedAbove, PredictedLast, PredictedFirst, PlainWord}

-- ---- a byte

pub added : Added
unfolding byte_of
added kind symbol prediction k = rw (ne_eqb kind 0 k) (omega arith)

pub added-less : AddedLess
unfolding byte_of
added-less symbol prediction = omega arith

-- ---- the prediction, by the last value of one depth

module _ (kind columns : ℕ) (m : List ℕ) (symbol : ℕ → ℕ) (p : ℕ) where
  by_left : left_valid columns m p ≡ true → prediction columns m (left_behind kind columns m symbol p) p ≡ left kind columns m symbol p
  unfolding prediction left
  by_left e = rw (e)

  by-above : 0 < columns → left_valid columns m p ≡ false → columns ≤ p → pixel_valid m (p - columns) ≡ true
      → prediction columns m (left_behind kind columns m symbol p) p ≡ left kind columns m symbol (p - columns + 1)
  unfolding prediction
  by-above c e l v = rw (e, le-leb columns p l, v) (left-above kind columns m symbol p c l)

  by_last : left_valid columns m p ≡ false → above_valid columns m p ≡ false → prediction columns m (left_behind kind columns m symbol p) p ≡ left kind columns m symbol p
  unfolding prediction left
  by_last e f = rw (e, f)

  -- it is carried across pixels that are not valid
  carried : (n : ℕ) → ((i : ℕ) → p ≤ i → i < p + n → pixel_valid m i ≡ false) → left kind columns m symbol (p + n) ≡ left kind columns m symbol p
  carried zero f = rw (add-zero)
  carried (suc n) f =
      let z : p + suc n ≡ p + n + 1 = omega arith in
      rw (z) (left-no kind columns m symbol (p + n) (f (p + n) (omega arith) (omega arith)) ∙ carried n (λ i a l. f i a (omega arith)))

-- ---- words

module _ (h : Shape) (kind : ℕ) (m : List ℕ) (symbol : ℕ → ℕ) (d : ℕ) (deep : d < h.depth) where
  -- the last value behind pixel p, of depth d
  abbrev last : ℕ → ℕ
  last p = left kind h.columns m (λ q. symbol (delta_place h m d q)) p

  word-is : (p : ℕ) → delta_word h kind m symbol p d ≡ last (p + 1)
  unfolding byte_word
  word-is p = rw (digits_div p deep, digits_mod p deep) (delta-is kind h.columns m (λ q. symbol (delta_place h m d q)) p)

  by : (p x : ℕ) → pixel_valid m p ≡ true → prediction h.columns m (left_behind kind h.columns m (λ q. symbol (delta_place h m d q)) p) p ≡ x → Predicted h kind m symbol p d x
  by p x v e = word-is p ∙ left-yes kind h.columns m (λ q. symbol (delta_place h m d q)) p v ∙ ap (byte_of kind (symbol (delta_place h m d p))) e

pub predicted-left : PredictedLeft
predicted-left h kind m symbol zero d c deep v l w = absurd (let z = zero-mod h.columns in omega (arith, l, z))
predicted-left h kind m symbol (suc p) d c deep v l w =
    let z : suc p - 1 ≡ p = omega arith in
    let y : p + 1 ≡ suc p = omega arith in
    let e : left_valid h.columns m (suc p) ≡ true = rw (lt-ltb 0 (suc p % h.columns) l, w) in
    by h kind m symbol d deep (suc p) _ v (by_left kind h.columns m (λ q. symbol (delta_place h m d q)) (suc p) e ∙ sym (rw (z) (rw (y) at (word-is h kind m symbol d deep p))))

pub predicted-above : PredictedAbove
predicted-above h kind m symbol p d c deep v e l w =
    by h kind m symbol d deep p _ v (by-above kind h.columns m (λ q. symbol (delta_place h m d q)) p c e l w ∙ sym (word-is h kind m symbol d deep (p - h.columns)))

pub predicted-last : PredictedLast
predicted-last h kind m symbol p q d c deep v e f l w none =
    let z : q + 1 + (p - (q + 1)) ≡ p = omega arith in
    let g = rw (z) at (carried kind h.columns m (λ i. symbol (delta_place h m d i)) (q + 1) (p - (q + 1)) (λ i a b. none i (omega arith) (omega arith))) in
    by h kind m symbol d deep p _ v (by_last kind h.columns m (λ q. symbol (delta_place h m d q)) p e f ∙ g ∙ sym (word-is h kind m symbol d deep q))

-- no pixel before is valid
none_left : (columns : ℕ) (m : List ℕ) (p : ℕ) → ((i : ℕ) → i < p → pixel_valid m i ≡ false) → left_valid columns m p ≡ false
none_left columns m zero f = rw (zero-mod columns)
none_left columns m (suc p) f = let z : suc p - 1 ≡ p = omega arith in rw (z, f p (omega arith)) (and-false (ltb 0 (suc p % columns)))

none_above : (columns : ℕ) (m : List ℕ) (p : ℕ) → 0 < columns → ((i : ℕ) → i < p → pixel_valid m i ≡ false) → above_valid columns m p ≡ false
none_above columns m p c f = go (dec_le columns p)
  where
    go : Dec (columns ≤ p) → above_valid columns m p ≡ false
    go (yes l) = rw (f (p - columns) (omega arith)) (and-false (leb columns p))
    go (no l) = rw (lt-leb columns p (omega arith))

pub predicted-first : PredictedFirst
predicted-first h kind m symbol p d c deep v none =
    let f : ℕ → ℕ = λ q. symbol (delta_place h m d q) in
    let z : 0 + p ≡ p = omega arith in
    let g = rw (z) at (carried kind h.columns m f 0 p (λ i a l. none i (omega arith))) in
    by h kind m symbol d deep p 0 v (by_last kind h.columns m f p (none_left h.columns m p none) (none_above h.columns m p c none) ∙ g ∙ left-none kind h.columns m f)

pub plain_word : PlainWord
unfolding byte_word
plain_word h kind m symbol p d deep = rw (digits_div p deep, digits_mod p deep)
