-- The bytes of a Huffman image, from its symbols.
-- Assumes nothing.
use Rattle.std.specs.Prelude.{ℕ, zero, suc, ◌+◌, ◌-◌, ◌*◌, ◌/◌, ◌%◌, Bool, cond, ◌&&◌, List, [], ◌∷◌, ◌==◌, nat_le, nat_lt, slice_index}
use Rattle.lerc_header.specs.declared.Shape.{Shape}
use Rattle.lerc_header.specs.Shape.{pixels}
use Rattle.lerc_mask.specs.Mask.{pixel_valid, valid_below}

-- "less 128 for kind 0"
abbrev pub less_of : ℕ → ℕ
less_of kind = cond (kind == 0) 128 0

-- "symbol and prediction are added modulo 256, less 128 for kind 0"
unfoldable pub byte_of : ℕ → ℕ → ℕ → ℕ
byte_of kind symbol prediction = (symbol + prediction + (256 - less_of kind)) % 256

-- "the left pixel (same row) is valid"
abbrev pub left_valid : ℕ → List ℕ → ℕ → Bool
left_valid columns m p = nat_lt 0 (p % columns) && pixel_valid m (p - 1)

-- the pixel above is valid
abbrev pub above_valid : ℕ → List ℕ → ℕ → Bool
above_valid columns m p = nat_le columns p && pixel_valid m (p - columns)

-- "the last value where the left pixel (same row) is valid, else the word above where that is valid, else the last valid value (0 at the start of each depth)";
-- `before` is what pixels p - 1, p - 2, .. left behind
unfoldable pub prediction : ℕ → List ℕ → List ℕ → ℕ → ℕ
prediction columns m before p =
    cond (left_valid columns m p) (slice_index before 0)
    (cond (above_valid columns m p) (slice_index before (columns - 1)) (slice_index before 0))

-- what pixels p - 1, .. 0 of one depth left behind, the nearest first: a valid one its byte, another the last valid value
unfoldable pub left_behind : ℕ → ℕ → List ℕ → (ℕ → ℕ) → ℕ → List ℕ
left_behind kind columns m symbol zero = []
left_behind kind columns m symbol (suc p) =
    let before = left_behind kind columns m symbol p in
    cond (pixel_valid m p) (byte_of kind (symbol p) (prediction columns m before p)) (slice_index before 0) ∷ before

-- the byte of valid pixel p of one depth, whose pixels have these symbols
abbrev pub delta_byte : ℕ → ℕ → List ℕ → (ℕ → ℕ) → ℕ → ℕ
delta_byte kind columns m symbol p = slice_index (left_behind kind columns m symbol (suc p)) 0

-- which symbol is a cell's. "Mode 1: depth by depth, pixels in order"
abbrev pub delta_place : Shape → List ℕ → ℕ → ℕ → ℕ
delta_place h m d p = d * valid_below (pixels h) m + valid_below p m

-- "Mode 2: pixel by pixel, depth innermost"
abbrev pub plain_place : Shape → List ℕ → ℕ → ℕ → ℕ
plain_place h m d p = valid_below p m * h.depth + d

-- the word of a valid cell: a byte, "0 to 255, for kind 0 too"; mode 2 has "no prediction"
unfoldable pub byte_word : Shape → ℕ → Bool → List ℕ → (ℕ → ℕ) → ℕ → ℕ
byte_word h kind delta m symbol c =
    let p = c / h.depth in
    let d = c % h.depth in
    cond delta (delta_byte kind h.columns m (λ q. symbol (delta_place h m d q)) p)
    (byte_of kind (symbol (plain_place h m d p)) 0)
