-- Each definition, its place taken off, is the one without places.
-- Assumes nothing.
use mathlib.Core.Path.{◌≡◌, ◌∙◌, refl}
use mathlib.Core.Bool.{Bool, true, false, not, cond, ◌&&◌}
use mathlib.Core.List.{List}
use Prim.Native.Nat.{ℕ, zero, suc, ◌+◌, ◌*◌}
use lib.ListN.{length, get_or, take}
use lib.Dec.{leb, ltb, eqb}
use Rattle.lerc_words.specs.Res.{Res, ok, fail, ◌>>=◌, marked, require, word_at}
use Rattle.lerc_words.proofs.Marking.{marked-twice}
use Rattle.lerc_numeric.specs.Numeric.{same}
use Rattle.lerc_header.specs.declared.Header.{Header}
use Rattle.lerc_header.specs.Header.{shape_of, ranges_at, held, header_says}
use Rattle.lerc_header.specs.Limits.{depth_limit}
use Rattle.lerc_header.specs.Shape.{mask_length, block_count}
use Rattle.lerc_mask.specs.Mask.{mask_field}
use Rattle.lerc_validity.specs.Validity.{MaskInForce, bytes_of, mask_in, mask_says, find_says, prepare_says}
use Rattle.lerc_ranges.specs.declared.Ranges.{Ranges}
use Rattle.lerc_ranges.specs.Ranges.{ranges_end, coded_ranges, pairs_right, wrong_number_at, ranges_says, ranges_in_says, read_ranges_says}
use Rattle.lerc_sweep.specs.Sweep.{Way, raw_from, blocks_from, huffman_from, has_mode_byte, mode_byte, mode_at, moded, sweep_byte, swept}
use Rattle.lerc_block.specs.Block.{raw_words, block_says}
use Rattle.lerc_image.specs.Geometry.{tile_of, valid_in_tile}
use Rattle.lerc_image.specs.Blocks.{block_at, chain, all_blocks}
use Rattle.lerc_image.specs.Walk.{way_walked, body_walked, walk_says}
use Rattle.lerc_image.specs.Fill.{fill_says}
use Rattle.lerc_byte_image.specs.Symbols.{coded_at}
use Rattle.lerc_byte_image.specs.Image.{image_at}
use Rattle.lerc.specs.Meaning.{missing_word_at, raw_body, block_body, huffman_body, body_from, swept_body, body_says, meaning_from, meaning}
use Rattle.lerc.specs.Read.{Lent, room, masked, read_says}
use Rattle.lerc_places.specs.Without.{ranges_plain, ranges_in_plain, read_ranges_plain, find_plain, prepare_plain, moded_plain, swept_plain, block_plain, chain_plain, way_walked_plain, body_walked_plain, walk_plain, fill_plain, raw_plain, block_body_plain, huffman_plain, body_from_plain, swept_body_plain, body_plain, meaning_from_plain, meaning_plain, masked_plain, read_plain}
use Rattle.lerc_places.proofs.Bare.{raw-bare, block-bare, mode-bare, sweep-bare, symbols-bare, held-bare, header-bare, mask-bare, constant-bare}

-- ---- in general

-- taken off an answer and off what follows it
plain-bind : {A B : Type 0} (m : Res A) {n : Res A} (k l : A → Res B) → marked 0 m ≡ n → ((a : A) → marked 0 (k a) ≡ l a) → marked 0 (m >>= k) ≡ (n >>= l)
plain-bind (ok a) k l e f = rw (← e) (f a)
plain-bind (fail r) k l e f = rw (← e)

-- behind a test
plain_then : {B : Type 0} (t : Bool) (n : ℕ) (k l : Bool → Res B) → marked 0 (k true) ≡ l true → marked 0 (require t n >>= k) ≡ (require t n >>= l)
plain_then true n k l e = e
plain_then false n k l e = refl

-- and behind one with a place
plain-placed : {B : Type 0} (p : ℕ) (t : Bool) (n : ℕ) (k l : Bool → Res B) → marked 0 (k true) ≡ l true → marked 0 (marked p (require t n) >>= k) ≡ (require t n >>= l)
plain-placed p true n k l e = e
plain-placed p false n k l e = refl

plain-cond : {A : Type 0} (t : Bool) (x y : Res A) {u v : Res A} → marked 0 x ≡ u → marked 0 y ≡ v → marked 0 (cond t x y) ≡ cond t u v
plain-cond true x y e f = e
plain-cond false x y e f = f

-- a place that was put on is taken off
plain-marked : {A : Type 0} (p : ℕ) (m : Res A) {n : Res A} → marked 0 m ≡ n → marked 0 (marked p m) ≡ n
plain-marked p m e = marked-twice 0 p m ∙ e

-- ---- ranges and mask

pub ranges-plain : (s : List ℕ) (h : Header) → marked 0 (ranges_says s h) ≡ ranges_plain s h
unfolding ranges_says ranges_plain
ranges-plain s h =
    plain-cond (same h.min h.max) _ _ refl
    (plain-placed (ranges_at h) (leb (ranges_end h) (length s)) 1 _ _
    (plain-placed (wrong_number_at h (coded_ranges s h)) (pairs_right h.depth (coded_ranges s h)) 7 _ _ refl))

pub ranges-in-plain : (s : List ℕ) (h : Header) → marked 0 (ranges_in_says s h) ≡ ranges_in_plain s h
unfolding ranges_in_says ranges_in_plain
ranges-in-plain s h = plain_then (leb h.depth depth_limit) 4 _ _ (ranges-plain s h)

pub read-ranges-plain : (b : List ℕ) (h : Header) → marked 0 (read_ranges_says b h) ≡ read_ranges_plain b h
unfolding read_ranges_says read_ranges_plain
read-ranges-plain b h = plain-bind (held h (length b)) _ _ (held-bare h (length b)) (λ _. ranges-plain (take h.size b) h)

mask-plain : (s : List ℕ) (h : Header) (reuse : Bool) (old : List ℕ) → marked 0 (mask_says s h reuse old) ≡ mask_in s h reuse old
mask-plain s h reuse old = plain-marked mask_field (mask_in s h reuse old) (mask-bare s h reuse old)

pub find-plain : (s : List ℕ) (h : Header) (reuse : Bool) (old : List ℕ) (room : ℕ) → marked 0 (find_says s h reuse old room) ≡ find_plain s h reuse old room
unfolding find_says find_plain
find-plain s h reuse old room =
    plain_then (leb (mask_length (shape_of h)) (length old) && leb (mask_length (shape_of h)) room) 5 _ _
    (plain_then (leb (ranges_at h) (length s)) 1 _ _ (mask-plain s h reuse old))

pub prepare-plain : (b : List ℕ) (h : Header) (reuse : Bool) (old : List ℕ) (room : ℕ) → marked 0 (prepare_says b h reuse old room) ≡ prepare_plain b h reuse old room
unfolding prepare_says prepare_plain
prepare-plain b h reuse old room =
    plain-bind (held h (length b)) _ _ (held-bare h (length b)) (λ e.
    plain_then (leb e.mask (length old) && leb e.mask room) 5 _ _ (mask-plain (take h.size b) h reuse old))

-- ---- the sweep byte, and the mode byte

moded-plain : (s : List ℕ) (kind error at : ℕ) → marked 0 (moded s kind error at) ≡ moded_plain s kind error at
unfolding moded moded_plain
moded-plain s kind error at = plain-cond (has_mode_byte kind error) (mode_at s at) _ (plain-marked at (mode_byte s at) (mode-bare s at)) refl

-- without places the test of the sweep byte stands in line
in-line : (m : Res ℕ) (t : ℕ → Bool) (k : ℕ → Res Way) → ((m >>= λ a. require (t a) 8 >>= λ _. ok a) >>= k) ≡ (m >>= λ a. require (t a) 8 >>= λ _. k a)
in-line (ok a) t k = go (t a)
  where
    go : (b : Bool) → ((require b 8 >>= λ _. ok a) >>= k) ≡ (require b 8 >>= λ _. k a)
    go true = refl
    go false = refl
in-line (fail r) t k = refl

swept-plain : (s : List ℕ) (kind error at : ℕ) → marked 0 (swept s kind error at) ≡ swept_plain s kind error at
unfolding swept sweep_byte swept_plain
swept-plain s kind error at =
    let goes : ℕ → Res Way = λ sweep. cond (eqb sweep 1) (ok (raw_from (at + 1))) (moded_plain s kind error (at + 1)) in
    plain-bind (marked at (sweep_byte s at)) _ goes (plain-marked at (sweep_byte s at) (sweep-bare s at)) (λ sweep. plain-cond (eqb sweep 1) _ _ refl (moded-plain s kind error (at + 1)))
    ∙ in-line (word_at 1 s at) (λ sweep. ltb sweep 2) goes

-- ---- blocks

pub block-plain : (s : List ℕ) (h : Header) (maxima m : List ℕ) (n at : ℕ) → marked 0 (block_at s h maxima m n at) ≡ block_plain s h maxima m n at
unfolding block_at block_plain
block-plain s h maxima m n at =
    let t = tile_of (shape_of h) n in
    let top = get_or maxima t.d 0 in
    let v = valid_in_tile (shape_of h) m t in
    plain-marked at (block_says s at h.kind h.error top t.x v) (block-bare s at h.kind h.error top t.x v)

chain-plain : (s : List ℕ) (h : Header) (maxima m : List ℕ) (f n at : ℕ) → marked 0 (chain s h maxima m f n at) ≡ chain_plain s h maxima m f n at
unfolding chain chain_plain
chain-plain s h maxima m zero n at = refl
chain-plain s h maxima m (suc f) n at =
    plain-bind (block_at s h maxima m n at) _ _ (block-plain s h maxima m n at) (λ b.
    plain-bind (chain s h maxima m f (suc n) b.next) _ _ (chain-plain s h maxima m f (suc n) b.next) (λ c. refl))

all_plain : (s : List ℕ) (h : Header) (maxima m : List ℕ) (at : ℕ) → marked 0 (all_blocks s h maxima m at) ≡ chain_plain s h maxima m (block_count (shape_of h)) 0 at
all_plain s h maxima m at = chain-plain s h maxima m (block_count (shape_of h)) 0 at

-- ---- walk and fill

way-plain : (s : List ℕ) (h : Header) (maxima m : List ℕ) (sweep : ℕ) (way : Way) → marked 0 (way_walked s h maxima m sweep way) ≡ way_walked_plain s h maxima m way
unfolding way_walked way_walked_plain
way-plain s h maxima m sweep (raw_from at) = refl
way-plain s h maxima m sweep (blocks_from at) = all_plain s h maxima m at
way-plain s h maxima m sweep (huffman_from delta mode) = refl

walked-plain : (s : List ℕ) (h : Header) (maxima m : List ℕ) (at : ℕ) → marked 0 (body_walked s h maxima m at) ≡ body_walked_plain s h maxima m at
unfolding body_walked body_walked_plain
walked-plain s h maxima m at = plain-bind (swept s h.kind h.error at) _ _ (swept-plain s h.kind h.error at) (λ way. way-plain s h maxima m at way)

pub walk-plain : (b : List ℕ) (h : Header) (r : Ranges) (m : List ℕ) (room : ℕ) → marked 0 (walk_says b h r m room) ≡ walk_plain b h r m room
unfolding walk_says walk_plain
walk-plain b h r m room =
    plain-bind (held h (length b)) _ _ (held-bare h (length b)) (λ e.
    plain_then (leb e.mask (length m) && leb e.blocks room) 5 _ _
    (plain_then (pairs_right h.depth r) 7 _ _
    (plain_then (ltb 0 h.valid && not r.constant) 10 _ _ (walked-plain (take h.size b) h r.max m r.at))))

pub fill-plain : (b : List ℕ) (h : Header) (r : Ranges) (m list : List ℕ) (n room : ℕ) → marked 0 (fill_says b h r m list n room) ≡ fill_plain b h r m list n room
unfolding fill_says fill_plain
fill-plain b h r m list n room =
    plain-bind (held h (length b)) _ _ (held-bare h (length b)) (λ e.
    plain_then (ltb n e.blocks) 11 _ _
    (plain_then (leb e.mask (length m) && leb e.blocks (length list) && leb e.cells room) 5 _ _
    (plain_then (pairs_right h.depth r) 7 _ _ (block-plain (take h.size b) h r.max m n (get_or list n 0)))))

-- ---- a blob

raw-plain : (s : List ℕ) (h : Header) (at : ℕ) → marked 0 (raw_body s h at) ≡ raw_plain s h at
unfolding raw_body raw_plain
raw-plain s h at =
    let n = h.valid * h.depth in
    let place = missing_word_at (length s) at h.kind in
    let words = raw_words s at h.kind n in
    plain-bind (marked place words) _ _ (plain-marked place words (raw-bare s at h.kind n)) (λ b. refl)

huffman-plain : (s : List ℕ) (h : Header) (delta : Bool) (mode : ℕ) → marked 0 (huffman_body s h delta mode) ≡ huffman_plain s h delta mode
unfolding huffman_body huffman_plain image_at
huffman-plain s h delta mode =
    let n = h.valid * h.depth in
    plain-bind (image_at s h mode) _ _ (plain-marked mode (coded_at s (mode + 1) n) (symbols-bare s (mode + 1) n)) (λ c. refl)

from-plain : (s : List ℕ) (h : Header) (r : Ranges) (m : List ℕ) (way : Way) → marked 0 (body_from s h r m way) ≡ body_from_plain s h r m way
unfolding block_body block_body_plain
from-plain s h r m (raw_from at) = raw-plain s h at
from-plain s h r m (blocks_from at) = plain-bind (all_blocks s h r.max m at) _ _ (all_plain s h r.max m at) (λ c. refl)
from-plain s h r m (huffman_from delta mode) = huffman-plain s h delta mode

body-plain : (s : List ℕ) (h : Header) (m : List ℕ) → marked 0 (body_says s h m) ≡ body_plain s h m
unfolding body_says body_plain swept_body swept_body_plain
body-plain s h m =
    plain-cond (eqb h.valid 0) _ _ refl
    (plain-bind (ranges_says s h) _ _ (ranges-plain s h) (λ r.
    plain-cond r.constant _ _ (constant-bare h r)
    (plain-bind (swept s h.kind h.error r.at) _ _ (swept-plain s h.kind h.error r.at) (λ way. from-plain s h r m way))))

from-mask-plain : (b : List ℕ) (h : Header) (m : MaskInForce) → marked 0 (meaning_from b h m) ≡ meaning_from_plain b h m
unfolding meaning_from meaning_from_plain
from-mask-plain b h m = let s = take h.size b in plain-bind (body_says s h (bytes_of m)) _ _ (body-plain s h (bytes_of m)) (λ y. refl)

pub meaning-plain : (b : List ℕ) (reuse : Bool) (old : List ℕ) → marked 0 (meaning b reuse old) ≡ meaning_plain b reuse old
unfolding meaning meaning_plain
meaning-plain b reuse old =
    plain-bind (header_says b) _ _ (header-bare b) (λ h.
    plain-bind (mask_says (take h.size b) h reuse old) _ _ (mask-plain (take h.size b) h reuse old) (λ m. from-mask-plain b h m))

pub masked_plain_lem : (b : List ℕ) (reuse : Bool) (l : Lent) → marked 0 (masked b reuse l) ≡ masked_plain b reuse l
unfolding masked masked_plain
masked_plain_lem b reuse l =
    plain-bind (header_says b) _ _ (header-bare b) (λ h.
    plain_then (room h l) 5 _ _
    (plain-bind (mask_says (take h.size b) h reuse l.kept) _ _ (mask-plain (take h.size b) h reuse l.kept) (λ m. refl)))

pub read_plain_lem : (b : List ℕ) (reuse : Bool) (l : Lent) → marked 0 (read_says b reuse l) ≡ read_plain b reuse l
unfolding read_says read_plain
read_plain_lem b reuse l = plain-bind (masked b reuse l) _ _ (masked_plain_lem b reuse l) (λ m. from-mask-plain b m.header m.mask)
