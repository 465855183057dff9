-- One pixel of one depth, by the mask.
-- Assumes nothing.
use Rattle.std.proofs.Common.{◌≡◌, ℕ, ◌+◌, ◌-◌, ◌*◌, ◌/◌, ◌%◌, ◌<◌, ◌≤◌, true, List, length, get_or, set, sym, ◌∙◌, mod-eq_of_lt, add-mul, arith}
use lib.Arith.{digits_div}
use Rattle.lerc_header.specs.declared.Shape.{Shape}
use Rattle.lerc_header.specs.Shape.{pixels, cells, Shaped}
use Rattle.lerc_mask.specs.Mask.{pixel_valid, valid_below}
use Rattle.lerc_image.specs.Paint.{painted}
use Rattle.lerc_image.proofs.Pixels.{valid-more}
use Rattle.lerc_byte_image.specs.Table.{Table}
use Rattle.lerc_byte_image.specs.Prediction.{less_of, prediction, left_behind}
use Rattle.lerc_byte_image.specs.Image.{spot, symbol_no}
use Rattle.lerc_byte_image.specs.Parts.{Kept, entry_of}
use Rattle.lerc_byte_image.specs.ImageParts.{guess, plane_upto, plane_word}
use Rattle.lerc_byte_image.proofs.Spots.{spot-value, spot-next}
use Rattle.lerc_byte_image.proofs.PlainCells.{byte-is}
use Rattle.lerc_byte_image.proofs.LeftBehind.{left, left-yes, left-low, guess-is, delta-is}
use Rattle.lerc_byte_image.proofs.PlaneCells.{plane-adds, plane-cell}

-- the symbol of a pixel of one depth, whose symbols begin at bit p
abbrev pub symbol_in : List ℕ → List ℕ → Table → ℕ → ℕ → ℕ
symbol_in m s t p q = symbol_no s t p (valid_below q m)

-- the same pixel of another row
pub cell-above : (i columns depth d : ℕ) → columns ≤ i → i * depth + d - columns * depth ≡ (i - columns) * depth + d
cell-above i columns depth d l =
    let e : i - columns + columns ≡ i = omega arith in
    let f : i * depth ≡ (i - columns) * depth + columns * depth = rw (e) at (add-mul (i - columns) columns depth) in
    omega arith

module _ (h : Shape) (m : List ℕ) (s : List ℕ) (t : Table) (kind p d : ℕ) (shaped : Shaped h) (inside : d < h.depth) where
  -- a cell's word is what its pixel leaves behind
  pub word-left : (i : ℕ) → plane_word h kind m s t p (i * h.depth + d) ≡ left kind h.columns m (symbol_in m s t p) (i + 1)
  unfolding plane_word
  word-left i = rw (digits_div i inside) (delta-is kind h.columns m (symbol_in m s t p) i)

  module _ (im : List ℕ) (room : cells h ≤ length im) (i : ℕ) where
    -- a word that was written
    pub word-above : (j : ℕ) → j < i → j < pixels h → pixel_valid m j ≡ true
        → get_or (painted im (plane_upto h m d i) (plane_word h kind m s t p)) (j * h.depth + d) 0 % 256 ≡ left kind h.columns m (symbol_in m s t p) (j + 1)
    word-above j l k v =
        rw (plane-cell h m d inside i j im (plane_word h kind m s t p) l k room v, word-left j)
        (mod-eq_of_lt (left-low kind h.columns m (symbol_in m s t p) (j + 1)))

    -- a valid pixel: the place behind its symbol, its byte, and the image with it
    pub pixel-step : i < pixels h → Kept t → (less e last predicted b q cell : ℕ) (image : List ℕ) → pixel_valid m i ≡ true → less ≡ less_of kind
        → q ≡ spot s t p (valid_below i m) → e ≡ entry_of s t q → last ≡ left kind h.columns m (symbol_in m s t p) i
        → cell ≡ i * h.depth + d → image ≡ painted im (plane_upto h m d i) (plane_word h kind m s t p)
        → predicted ≡ guess h.columns m i last (get_or image (cell - h.columns * h.depth) 0 % 256) → b ≡ (e % 256 + predicted + (256 - less)) % 256
        → (q + e / 256 ≡ spot s t p (valid_below (i + 1) m)) × (b ≡ left kind h.columns m (symbol_in m s t p) (i + 1))
        × (set image cell b ≡ painted im (plane_upto h m d (i + 1)) (plane_word h kind m s t p))
    pixel-step here kept less e last predicted b q cell image v l z f k y w u g =
        let before : List ℕ = painted im (plane_upto h m d i) (plane_word h kind m s t p) in
        let at : e ≡ entry_of s t (spot s t p (valid_below i m)) = rw (z) at f in
        let a = guess-is kind h.columns m (symbol_in m s t p) i last (get_or before (i * h.depth + d - h.columns * h.depth) 0 % 256) shaped.columns.0 k
        (λ c x. rw (cell-above i h.columns h.depth d c) (word-above (i - h.columns) (let o = shaped.columns.0 in omega arith) (let o = shaped.columns.0 in omega arith) x)) in
        let n : predicted ≡ prediction h.columns m (left_behind kind h.columns m (symbol_in m s t p) i) i = (rw (w, y) at u) ∙ a in
        let byte : b ≡ left kind h.columns m (symbol_in m s t p) (i + 1) =
        byte-is kind less (symbol_in m s t p i) e predicted b l (spot-value s t kept p (valid_below i m) e at) g
        ∙ rw (n) (sym (left-yes kind h.columns m (symbol_in m s t p) i v)) in (
          rw (z, valid-more m i v) (spot-next s t kept p (valid_below i m) e at),
          byte,
          rw (w, y, byte, ← word-left i) (plane-adds h m d inside i im (plane_word h kind m s t p) here room v),
        )
