-- Rows without an invalid pixel: each byte is predicted by the one before it.
-- Assumes nothing.
use Rattle.std.proofs.Common.{◌≡◌, ℕ, zero, suc, ◌+◌, ◌-◌, ◌*◌, ◌/◌, ◌%◌, ◌<◌, ◌≤◌, true, List, length, get_or, set, sym, refl, ◌∙◌, add-zero, mul-le-mul_right, suc-mul, add-one, arith}
use native.Mathlib.Nat.{add-mod_right, mul-mod_left}
use lib.Arith.{digits_div, digits_mod}
use Rattle.lerc_header.specs.declared.Shape.{Shape}
use Rattle.lerc_header.specs.Shape.{pixels, cells, Shaped}
use Rattle.lerc_mask.specs.Mask.{pixel_valid, valid_below}
use Rattle.lerc_image.specs.Paint.{painted}
use Rattle.lerc_byte_image.specs.Table.{Table}
use Rattle.lerc_byte_image.specs.Prediction.{less_of, byte_of, prediction, left_behind}
use Rattle.lerc_byte_image.specs.Image.{spot, symbol_no}
use Rattle.lerc_byte_image.specs.Parts.{Kept, entry_of}
use Rattle.lerc_byte_image.specs.ImageParts.{chained, strip, plane_upto, plane_word}
use Rattle.lerc_byte_image.proofs.Spots.{spot-value, symbol-after}
use Rattle.lerc_byte_image.proofs.PlainCells.{byte-is, every, all-below}
use Rattle.lerc_byte_image.proofs.PlaneCells.{InStrip, strip-more, plane-row}
use Rattle.lerc_byte_image.proofs.PlaneSteps.{symbol_in, word-above}
use Rattle.lerc_byte_image.proofs.LeftBehind.{left, left-yes, same_row, next_row, delta-is}

pub chained-zero : (kind : ℕ) (symbol : ℕ → ℕ) (first : ℕ) → chained kind symbol first 0 ≡ first
unfolding chained
chained-zero kind symbol first = refl

pub chained_more : (kind : ℕ) (symbol : ℕ → ℕ) (first n : ℕ) → chained kind symbol first (n + 1) ≡ byte_of kind (symbol n) (chained kind symbol first n)
unfolding chained
chained_more kind symbol first n = rw (add-one)

-- row y of one depth, of whose pixels these are the symbols
module _ (kind columns : ℕ) (m : List ℕ) (symbol own : ℕ → ℕ) (y first : ℕ) where
  pub row_chained : first ≡ prediction columns m (left_behind kind columns m symbol (y * columns)) (y * columns)
      → ((x : ℕ) → x < columns → pixel_valid m (y * columns + x) ≡ true) → ((x : ℕ) → x < columns → own x ≡ symbol (y * columns + x))
      → (x : ℕ) → x < columns → chained kind own first (x + 1) ≡ left kind columns m symbol (y * columns + x + 1)
  row_chained f every same zero l =
      let v : pixel_valid m (y * columns) ≡ true = rw (add-zero) at (every 0 l) in
      let e : own 0 ≡ symbol (y * columns) = rw (add-zero) at (same 0 l) in
      chained_more kind own first 0 ∙ rw (chained-zero, e, f, add-zero) (sym (left-yes kind columns m symbol (y * columns) v))
  row_chained f every same (suc x) l =
      let k : x < columns = omega arith in
      let e : y * columns + suc x ≡ y * columns + x + 1 = omega arith in
      let before : chained kind own first (suc x) ≡ left kind columns m symbol (y * columns + x + 1) = rw (add-one) at (row_chained f every same x k) in
      let r : (y * columns + x + 1) % columns ≡ suc x = rw (e) at (digits_mod y l) in
      let v : pixel_valid m (y * columns + x + 1) ≡ true = rw (e) at (every (suc x) l) in
      let s : own (suc x) ≡ symbol (y * columns + x + 1) = rw (e) at (same (suc x) l) in
      chained_more kind own first (suc x)
      ∙ rw (before, s, e, same_row kind columns m symbol (y * columns + x) (omega arith) (every x k))
      (sym (left-yes kind columns m symbol (y * columns + x + 1) v))

-- one pixel more of a row
module _ (s : List ℕ) (t : Table) (kept : Kept t) (kind less first p depth d i x e last b : ℕ) (inside : d < depth)
    (l : less ≡ less_of kind) (f : e ≡ entry_of s t (spot s t p x)) (k : last ≡ chained kind (symbol_no s t p) first x)
    (g : b ≡ (e % 256 + last + (256 - less)) % 256) where
  pub row_last : b ≡ chained kind (symbol_no s t p) first (x + 1)
  row_last = byte-is kind less (symbol_no s t p x) e last b l (spot-value s t kept p x e f) g ∙ rw (k) (sym (chained_more kind (symbol_no s t p) first x))

  pub row_more : (im : List ℕ) → (i + x) * depth + d < length im
      → set (painted im (strip depth d i x) (λ c. chained kind (symbol_no s t p) first (c / depth - i + 1))) ((i + x) * depth + d) b
      ≡ painted im (strip depth d i (x + 1)) (λ c. chained kind (symbol_no s t p) first (c / depth - i + 1))
  row_more im r =
      let z : ((i + x) * depth + d) / depth - i ≡ x = rw (digits_div (i + x) inside) (omega arith) in
      let w : b ≡ chained kind (symbol_no s t p) first (((i + x) * depth + d) / depth - i + 1) = rw (z) row_last in
      rw (w) (strip-more im (λ c. chained kind (symbol_no s t p) first (c / depth - i + 1)) depth d i x inside r)

-- ---- one row more of a depth without an invalid pixel
module _ (h : Shape) (m : List ℕ) (s : List ℕ) (t : Table) (kind p d : ℕ) (shaped : Shaped h) (inside : d < h.depth) (full : valid_below (pixels h) m ≡ pixels h)
    (y first q : ℕ) (here : y < h.rows)
    (f : first ≡ prediction h.columns m (left_behind kind h.columns m (symbol_in m s t p) (y * h.columns)) (y * h.columns))
    (z : q ≡ spot s t p (y * h.columns)) where
  row-end : y * h.columns + h.columns ≤ pixels h
  row-end = omega (arith, mul-le-mul_right h.columns here, suc-mul y h.columns)

  row-symbol : (x : ℕ) → x < h.columns → symbol_no s t q x ≡ symbol_in m s t p (y * h.columns + x)
  row-symbol x l =
      let e = row-end in
      let k : y * h.columns + x ≤ pixels h = omega arith in
      rw (z, all-below h m shaped full (y * h.columns + x) k) (symbol-after s t p (y * h.columns) x)

  row_word : (c : ℕ) → InStrip h.depth d (y * h.columns) h.columns c → chained kind (symbol_no s t q) first (c / h.depth - y * h.columns + 1) ≡ plane_word h kind m s t p c
  unfolding plane_word
  row_word c i =
      let e = row-end in
      let l : c / h.depth - y * h.columns < h.columns = omega (arith, i.from, i.to) in
      let k : y * h.columns + (c / h.depth - y * h.columns) ≡ c / h.depth = omega (arith, i.from) in
      row_chained kind h.columns m (symbol_in m s t p) (symbol_no s t q) y first f (λ j w. every h m shaped full (y * h.columns + j) (omega arith)) row-symbol (c / h.depth - y * h.columns) l
      ∙ rw (k) (sym (delta-is kind h.columns m (symbol_in m s t p) (c / h.depth)))

  module _ (im image new : List ℕ) (room : cells h ≤ length im) (w : image ≡ painted im (plane_upto h m d (y * h.columns)) (plane_word h kind m s t p))
      (u : new ≡ painted image (strip h.depth d (y * h.columns) h.columns) (λ c. chained kind (symbol_no s t q) first (c / h.depth - y * h.columns + 1))) where
    pub row_put : new ≡ painted im (plane_upto h m d (y * h.columns + h.columns)) (plane_word h kind m s t p)
    row_put =
        u ∙ rw (w) (plane-row h m d inside (y * h.columns) h.columns im (plane_word h kind m s t p) (λ c. chained kind (symbol_no s t q) first (c / h.depth - y * h.columns + 1)) row-end (every h m shaped full) row_word)

    -- and what predicts the next one
    pub row_first : get_or new (y * h.columns * h.depth + d) 0 % 256
        ≡ prediction h.columns m (left_behind kind h.columns m (symbol_in m s t p) (y * h.columns + h.columns)) (y * h.columns + h.columns)
    row_first =
        let e = row-end in
        let o = shaped.columns.0 in
        let k : y * h.columns < pixels h = omega arith in
        let v = every h m shaped full (y * h.columns) k in
        let r : (y * h.columns + h.columns) % h.columns ≡ 0 = add-mod_right (y * h.columns) h.columns ∙ mul-mod_left y h.columns in
        rw (row_put) (word-above h m s t kind p d shaped inside im room (y * h.columns + h.columns) (y * h.columns) (omega arith) k v)
        ∙ next_row kind h.columns m (symbol_in m s t p) (y * h.columns) o r v
