-- The images of bodies without blocks: what the code paints is the meaning's word at each valid cell.
-- Assumes nothing.
use mathlib.Core.Path.{◌≡◌, sym, refl}
use mathlib.Core.Bool.{Bool, true, false}
use mathlib.Core.List.{List, ◌++◌}
use Prim.Native.Nat.{ℕ, ◌+◌, ◌*◌, ◌/◌, ◌%◌, ◌≤◌, ◌<◌}
use native.Mathlib.Omega.{arith}
use native.Mathlib.Nat.{mod-lt, mul-le-mul, mul-le-mul_right, suc-mul}
use Rattle.lerc_words.specs.Res.{ok}
use Rattle.lerc_numeric.specs.Kinds.{type_size}
use Rattle.lerc_header.specs.declared.Extent.{Extent}
use Rattle.lerc_header.specs.Limits.{cell_limit}
use Rattle.lerc_header.specs.Header.{held}
use Rattle.lerc_header.proofs.Kept.{held-shaped, held-valid}
use Rattle.lerc_numeric.proofs.Integers.{size-le}
use lib.ListN.{length, take, get_or-append, take-append-drop, length-take}
use Rattle.lerc_words.specs.Res.{little}
use Rattle.lerc_words.specs.Lists.{tabulate, over}
use Rattle.lerc_words.proofs.Tables.{get_d_tabulate}
use Rattle.lerc_header.specs.declared.Header.{Header}
use Rattle.lerc_header.specs.declared.Shape.{Shape}
use Rattle.lerc_header.specs.Header.{shape_of}
use Rattle.lerc_header.specs.Shape.{pixels}
use Rattle.lerc_mask.specs.Mask.{valid_below}
use Rattle.lerc_image.specs.Geometry.{is_valid_cell}
use Rattle.lerc_image.specs.Paint.{painted}
use Rattle.lerc_image.proofs.Painting.{painted-none, painted-words}
use Rattle.lerc.specs.Meaning.{constant, raw, cell_word}
use Rattle.lerc.specs.Linear.{depth_word, raw_word}
use Rattle.lerc_image.proofs.Pixels.{valid-at, valid-pixel, valid-before}

-- ---- no valid pixel at all

pub image-empty : (h : Shape) (m image : List ℕ) (word : ℕ → ℕ) → 0 < h.depth → valid_below (pixels h) m ≡ 0 → image ≡ painted image (is_valid_cell h m) word
image-empty h m image word d e = painted-none image word (is_valid_cell h m) (λ c l. go c (is_valid_cell h m c) refl)
  where
    go : (c : ℕ) (b : Bool) → is_valid_cell h m c ≡ b → is_valid_cell h m c ≡ false
    go c true q =
        let v = valid-at h m c q in
        absurd (let k = valid-before m (c / h.depth) (pixels h) (valid-pixel h m c d v) v.valid in omega arith)
    go c false q = q

-- ---- constant

pub image-constant : (h : Header) (m image words rest : List ℕ) (end : ℕ) → 0 < h.depth → length words ≡ h.depth
    → painted image (is_valid_cell (shape_of h) m) (depth_word (shape_of h) (words ++ rest)) ≡ painted image (is_valid_cell (shape_of h) m) (cell_word h m (constant words end))
unfolding cell_word
image-constant h m image words rest end d e =
    painted-words image (depth_word (shape_of h) (words ++ rest)) (cell_word h m (constant words end)) (is_valid_cell (shape_of h) m)
    (λ c q. let l : c % h.depth < length words = rw (e) (mod-lt c d) in get_or-append words rest 0 (c % h.depth) l)

-- ---- raw

pub image-raw : (h : Header) (s m image : List ℕ) (at size end : ℕ) → 0 < h.depth → valid_below (pixels (shape_of h)) m ≡ h.valid
    → painted image (is_valid_cell (shape_of h) m) (raw_word s at size (shape_of h) m)
    ≡ painted image (is_valid_cell (shape_of h) m) (cell_word h m (raw (tabulate (h.valid * h.depth) (λ k. little size s (at + k * size))) end))
unfolding cell_word
image-raw h s m image at size end d e =
    painted-words image (raw_word s at size (shape_of h) m) (cell_word h m (raw (tabulate (h.valid * h.depth) (λ k. little size s (at + k * size))) end)) (is_valid_cell (shape_of h) m)
    (λ c q.
    let v = valid-at (shape_of h) m c q in
    let b : valid_below (c / h.depth) m < h.valid = rw (← e) (valid-before m (c / h.depth) (pixels (shape_of h)) (valid-pixel (shape_of h) m c d v) v.valid) in
    let l : valid_below (c / h.depth) m * h.depth + c % h.depth < h.valid * h.depth =
    omega (arith, mod-lt c d, suc-mul (valid_below (c / h.depth) m) h.depth, mul-le-mul_right h.depth b) in
    sym (get_d_tabulate (h.valid * h.depth) (λ k. little size s (at + k * size)) (valid_below (c / h.depth) m * h.depth + c % h.depth) 0 l))

-- ---- the mask

-- a part of a slice put where it stands changes nothing
pub over-itself : (n : ℕ) (s : List ℕ) → n ≤ length s → over (take n s) s ≡ s
over-itself n s l = let e : length (take n s) ≡ n = simp length-take (omega arith) in rw (e) (take-append-drop n s)

-- ---- sizes of a raw body

pub valid-cells : (h : Header) (n : ℕ) {e : Extent} → held h n ≡ ok e → h.valid * h.depth ≤ cell_limit
valid-cells h n k = omega (arith, (held-shaped h n k).few, mul-le-mul_right h.depth (held-valid h n k))

pub valid-bytes : (h : Header) (n : ℕ) {e : Extent} → held h n ≡ ok e → h.valid * h.depth * type_size h.kind ≤ cell_limit * 8
valid-bytes h n k = mul-le-mul (valid-cells h n k) (size-le h.kind)
