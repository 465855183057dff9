-- Every refusal carries a number from 1 to 13, so 0 always means accepted. 12 comes from the entries of packs alone.
-- Assumes nothing.
use Prim.Native.Nat.{ℕ, zero, suc, ◌+◌, ◌*◌, ◌/◌, ◌%◌, ◌≤◌}
use mathlib.Core.Path.{◌≡◌, refl}
use mathlib.Core.Logic.{⊎_elim}
use mathlib.Core.Bool.{Bool, true, false, cond, not, ◌&&◌}
use mathlib.Core.List.{List, [], ◌∷◌}
use native.Mathlib.Omega.{arith}
use lib.ListN.{length, get_or, take, drop, replicate}
use lib.Dec.{leb, ltb, eqb}
use borrow.Author.Tests.{leb-true}
use Rattle.lerc_words.specs.declared.Refusal.{Refusal}
use Rattle.lerc_words.specs.Res.{Res, ok, fail, ◌>>=◌, refuse, marked, require, each, word_at}
use Rattle.lerc_words.proofs.Binding.{and_is}
use Rattle.lerc_numeric.specs.Numeric.{negative, finite, same}
use Rattle.lerc_numeric.specs.Kinds.{type_size, whole, bound, cut}
use Rattle.lerc_numeric.specs.Steps.{step_of}
use Rattle.lerc_samples.specs.Samples.{stored, no_kind, offset_kinds, offset_kind, sample_at}
use Rattle.lerc_bits.specs.declared.Plan.{Plan}
use Rattle.lerc_bits.specs.Bits.{count_bytes, plain_plan, table_plan, fits, tabled, plan, run, all_below, looked_up, values_of, unpacked, counts}
use Rattle.lerc_header.specs.declared.Header.{Header}
use Rattle.lerc_header.specs.Header.{shape_of, header_bytes, ranges_at, fields_right, within_ceilings, held, key_right, header_of, checksum_right, header_says}
use Rattle.lerc_header.specs.Shape.{pixels, mask_length, block_count}
use Rattle.lerc_mask.specs.Mask.{valid_below, coded, mask_field}
use Rattle.lerc_mask.proofs.Runs.{coded-six}
use Rattle.lerc_ranges.specs.declared.Ranges.{Ranges}
use Rattle.lerc_validity.specs.Validity.{bytes_of, uniform, kept, unrolled, mask_in, mask_says, prepare_says}
use Rattle.lerc_ranges.specs.Ranges.{ranges_end, wrong_number_at, pairs_right, coded_ranges, ranges_says, read_ranges_says, constant_words}
use Rattle.lerc_block.specs.Block.{raw_words, level_block, stepped_block, offset_at, finite_offset, offset_block, formed, flag_at, block_says}
use Rattle.lerc_image.specs.Geometry.{tile_of, valid_in_tile}
use Rattle.lerc_sweep.specs.Sweep.{Way, raw_from, blocks_from, huffman_from, has_mode_byte, mode_byte, moded, sweep_byte, swept}
use Rattle.lerc_image.specs.Blocks.{block_at, chain, all_blocks}
use Rattle.lerc_image.specs.Walk.{way_walked, body_walked, walk_says}
use Rattle.lerc_image.specs.Fill.{fill_says}
use Rattle.lerc_byte_image.specs.Symbols.{coded_at}
use Rattle.lerc_byte_image.specs.Image.{image_at}
use Rattle.lerc_byte_image.proofs.Refusals.{coded-no}
use Rattle.lerc.specs.Meaning.{missing_word_at, raw_body, block_body, huffman_body, body_from, swept_body, constant_body, body_says, meaning_from}
use Rattle.lerc.specs.Read.{Lent, room, masked, read_says}
use Rattle.lerc.specs.Stage.{was_staged, publish_says}
use Rattle.lerc_words.specs.Lists.{all_to}
use Rattle.lerc_pack.specs.Contents.{entry_place, body_end, body_place, tiles_right}
use Rattle.lerc_pack.specs.Pack.{count_of, head_right, entry_part, zeros_right, entry_at, tile_of as tile_in, pack_says, entry_says}
use Rattle.lerc_pack_writer.specs.Writing.{Given, given_right, adds_up, pack_length, tile_given, write_says}
use Rattle.lerc_c.specs.Records.{number_of, header_room, fields_fit, header_from, ranges_room, ranges_from, staged_room, staged_from}
use Rattle.lerc_c.specs.Entries.{header_entry, prepare_entry, ranges_entry, walk_entry, fill_entry, read_room, read_entry, stage_entry, publish_entry, stored_entry}
use Rattle.lerc_c.specs.Packs.{pack_entry, entry_room, entry_entry, pack_write_entry}
use Rattle.lerc.specs.declared.Staged.{Staged}

-- ---- answers whose refusals are numbered, and how they are put together

abbrev in_table : ℕ → Bool
in_table n = leb 1 n && leb n 13

pub record Numbered {A : Type 0} (m : Res A) : Type 0 where
  pub number : (r : Refusal) → m ≡ fail r → in_table r.number ≡ true

accepted : {A : Type 0} (a : A) → Numbered (ok a)
accepted a = record { number = λ r e. absurd (let z : ◌≡◌ {A = ℕ} 0 1 = cc in omega arith) }

refused : {A : Type 0} (n : ℕ) → in_table n ≡ true → Numbered {A = A} (fail (refuse n))
refused n t = record { number = λ r e. let d : r.number ≡ n = cc in rw (d) t }

check : {B : Type 0} (t : Bool) (n : ℕ) {k : Bool → Res B} → in_table n ≡ true → ((b : Bool) → Numbered (k b)) → Numbered (require t n >>= k)
check true n h p = p true
check false n h p = refused n h

and_then : {A B : Type 0} (m : Res A) {k : A → Res B} → Numbered m → ((a : A) → Numbered (k a)) → Numbered (m >>= k)
and_then (ok a) p q = q a
and_then (fail r) p q = record { number = λ s e. p.number s (let d : r ≡ s = cc in rw (d)) }

-- a place on an answer changes no number
at_place : {A : Type 0} (p : ℕ) (m : Res A) → Numbered m → Numbered (marked p m)
at_place p (ok a) q = accepted a
at_place p (fail r) q = record { number = λ s e. let d : s.number ≡ r.number = cc in rw (d) (q.number r refl) }

check_at : {B : Type 0} (p : ℕ) (t : Bool) (n : ℕ) {k : Bool → Res B} → in_table n ≡ true → ((b : Bool) → Numbered (k b)) → Numbered (marked p (require t n) >>= k)
check_at p true n h q = q true
check_at p false n h q = record { number = λ r e. let d : r.number ≡ n = cc in rw (d) h }

either : {A : Type 0} (t : Bool) {x y : Res A} → Numbered x → Numbered y → Numbered (cond t x y)
either true p q = p
either false p q = q

each-n : {A B : Type 0} (f : A → Res B) (xs : List A) → ((a : A) → Numbered (f a)) → Numbered (each f xs)
unfolding each
each-n f [] p = accepted []
each-n f (x ∷ xs) p = and_then (f x) (p x) (λ y. and_then (each f xs) (each-n f xs p) (λ ys. accepted (y ∷ ys)))

-- ---- words, values, packed counts

word-n : (n : ℕ) (s : List ℕ) (at : ℕ) → Numbered (word_at n s at)
unfolding word_at
word-n n s at = check (leb (at + n) (length s)) 1 refl (λ _. accepted _)

cut-n : (kind w : ℕ) → Numbered (cut kind w)
unfolding cut
cut-n kind w = check (ltb kind 6 && finite w && ltb (whole w) (bound kind (negative w))) 9 refl (λ _. accepted _)

stored-n : (kind w : ℕ) → Numbered (stored kind w)
unfolding stored
stored-n kind w = either (ltb kind 6) (cut-n kind w) (accepted _)

offset-n : (kind code : ℕ) → Numbered (offset_kind kind code)
unfolding offset_kind
offset-n kind code = check (ltb (get_or (get_or offset_kinds kind []) code no_kind) no_kind) 8 refl (λ _. accepted _)

sample-n : (kind : ℕ) (s : List ℕ) (at : ℕ) → Numbered (sample_at kind s at)
unfolding sample_at
sample-n kind s at = and_then (word_at (type_size kind) s at) (word-n (type_size kind) s at) (λ w. accepted _)

fits-n : (len : ℕ) (p : Plan) → Numbered (fits len p)
fits-n len p = check (leb p.next len) 1 refl (λ _. accepted _)

tabled-n : (s : List ℕ) (at n bits : ℕ) → Numbered (tabled s at n bits)
unfolding tabled
tabled-n s at n bits =
    check (ltb 0 bits) 8 refl
    (λ _. and_then (word_at 1 s at) (word-n 1 s at) (λ entries. check (leb 2 entries) 8 refl (λ _. fits-n (length s) (table_plan n bits entries (at + 1)))))

plan-n : (s : List ℕ) (at : ℕ) → Numbered (plan s at)
unfolding plan
plan-n s at =
    and_then (word_at 1 s at) (word-n 1 s at) (λ h.
    check (ltb (h / 64) 3) 8 refl
    (λ _. and_then (word_at (count_bytes h) s (at + 1)) (word-n (count_bytes h) s (at + 1)) (λ n.
    check (leb n 256) 8 refl
    (λ _. either (eqb (h / 32 % 2) 0) (fits-n (length s) (plain_plan n (h % 32) (at + 1 + count_bytes h))) (tabled-n s (at + 1 + count_bytes h) n (h % 32))))))

looked-n : (s : List ℕ) (p : Plan) (indices : List ℕ) → Numbered (looked_up s p indices)
unfolding looked_up
looked-n s p indices = check (all_below p.n p.entries indices) 8 refl (λ _. accepted _)

values-n : (s : List ℕ) (p : Plan) → Numbered (values_of s p)
unfolding values_of
values-n s p = either (eqb p.entries 0) (accepted _) (looked-n s p (run s p.at p.n p.width))

counts-n : (s : List ℕ) (at : ℕ) → Numbered (counts s at)
unfolding counts unpacked
counts-n s at = and_then (plan s at) (plan-n s at) (λ p. and_then (values_of s p) (values-n s p) (λ vs. accepted _))

-- ---- one block, and all

raw-n : (s : List ℕ) (at kind n : ℕ) → Numbered (raw_words s at kind n)
unfolding raw_words
raw-n s at kind n = check (leb (at + n * type_size kind) (length s)) 1 refl (λ _. accepted _)

level-n : (at kind offset n : ℕ) → Numbered (level_block at kind offset n)
unfolding level_block
level-n at kind offset n = and_then (each (stored kind) (replicate n offset)) (each-n (stored kind) (replicate n offset) (stored-n kind)) (λ words. accepted _)

stepped-n : (s : List ℕ) (at kind error top offset n : ℕ) → Numbered (stepped_block s at kind error top offset n)
unfolding stepped_block
stepped-n s at kind error top offset n =
    and_then (counts s at) (counts-n s at) (λ c.
    check (eqb (length c.values) n) 8 refl
    (λ _. and_then (each (λ q. stored kind (step_of offset error top q)) c.values)
    (each-n (λ q. stored kind (step_of offset error top q)) c.values (λ q. stored-n kind (step_of offset error top q))) (λ words. accepted _)))

finite-n : (s : List ℕ) (at kind flag : ℕ) → Numbered (finite_offset s at kind flag)
unfolding finite_offset offset_at
finite-n s at kind flag =
    and_then (offset_at s at kind flag)
    (and_then (offset_kind kind (flag / 64)) (offset-n kind (flag / 64)) (λ k. and_then (sample_at k s at) (sample-n k s at) (λ v. accepted _)))
    (λ o. check (finite o.value) 8 refl (λ _. accepted o))

offsets-n : (s : List ℕ) (at kind error top flag n : ℕ) → Numbered (offset_block s at kind error top flag n)
unfolding offset_block
offsets-n s at kind error top flag n =
    and_then (finite_offset s at kind flag) (finite-n s at kind flag)
    (λ o. either (eqb (flag % 4) 3) (level-n o.next kind o.value n) (stepped-n s o.next kind error top o.value n))

formed-n : (s : List ℕ) (at kind error top flag n : ℕ) → Numbered (formed s at kind error top flag n)
unfolding formed
formed-n s at kind error top flag n =
    either (eqb (flag % 4) 0) (raw-n s at kind n) (either (eqb (flag % 4) 2) (accepted _) (offsets-n s at kind error top flag n))

flag-n : (s : List ℕ) (at x : ℕ) → Numbered (flag_at s at x)
unfolding flag_at
flag-n s at x = and_then (word_at 1 s at) (word-n 1 s at) (λ flag. check (eqb (flag / 4 % 16) (x / 8 % 16)) 8 refl (λ _. accepted flag))

block-n : (s : List ℕ) (at kind error top x n : ℕ) → Numbered (block_says s at kind error top x n)
unfolding block_says
block-n s at kind error top x n =
    and_then (flag_at s at x) (flag-n s at x) (λ flag. formed-n s (at + 1) kind error top flag n)

block_at-n : (s : List ℕ) (h : Header) (maxima m : List ℕ) (n at : ℕ) → Numbered (block_at s h maxima m n at)
unfolding block_at
block_at-n s h maxima m n at =
    let t = tile_of (shape_of h) n in
    at_place at (block_says s at h.kind h.error (get_or maxima t.d 0) t.x (valid_in_tile (shape_of h) m t))
    (block-n s at h.kind h.error (get_or maxima t.d 0) t.x (valid_in_tile (shape_of h) m t))

chain-n : (s : List ℕ) (h : Header) (maxima m : List ℕ) (f n at : ℕ) → Numbered (chain s h maxima m f n at)
unfolding chain
chain-n s h maxima m zero n at = accepted _
chain-n s h maxima m (suc f) n at =
    and_then (block_at s h maxima m n at) (block_at-n s h maxima m n at) (λ b.
    and_then (chain s h maxima m f (suc n) b.next) (chain-n s h maxima m f (suc n) b.next) (λ c. accepted _))

-- ---- header, mask, ranges

held-n : (h : Header) (n : ℕ) → Numbered (held h n)
unfolding held
held-n h n = check (fields_right h) 3 refl (λ _. check (within_ceilings h) 4 refl (λ _. check (leb h.size n) 1 refl (λ _. accepted _)))

header-n : (b : List ℕ) → Numbered (header_says b)
unfolding header_says
header-n b = check (leb header_bytes (length b)) 1 refl (λ _. check (key_right b) 2 refl (λ _. and_then (held (header_of b) (length b)) (held-n (header_of b) (length b)) (λ e. check (checksum_right b (header_of b).size) 13 refl (λ _. accepted _))))

coded-n : (s : List ℕ) (pixels valid : ℕ) → Numbered (coded s pixels valid)
coded-n s pixels valid = record { number = λ r e. let d : r ≡ refuse 6 = coded-six s pixels valid r e in rw (d) }

mask_in-n : (s : List ℕ) (h : Header) (reuse : Bool) (old : List ℕ) → Numbered (mask_in s h reuse old)
unfolding mask_in uniform kept unrolled
mask_in-n s h reuse old =
    either (eqb h.valid 0) (check (eqb h.mask 0) 6 refl (λ _. accepted _))
    (either (eqb h.valid (pixels (shape_of h))) (check (eqb h.mask 0) 6 refl (λ _. accepted _))
    (either (eqb h.mask 0)
    (check reuse 6 refl (λ _. check (eqb (valid_below (pixels (shape_of h)) (take (mask_length (shape_of h)) old)) h.valid) 6 refl (λ _. accepted _)))
    (and_then (coded (take h.mask (drop header_bytes s)) (pixels (shape_of h)) h.valid) (coded-n (take h.mask (drop header_bytes s)) (pixels (shape_of h)) h.valid) (λ m. accepted _))))

mask-n : (s : List ℕ) (h : Header) (reuse : Bool) (old : List ℕ) → Numbered (mask_says s h reuse old)
mask-n s h reuse old = at_place mask_field (mask_in s h reuse old) (mask_in-n s h reuse old)

ranges-n : (s : List ℕ) (h : Header) → Numbered (ranges_says s h)
unfolding ranges_says
ranges-n s h =
    either (same h.min h.max) (accepted _)
    (check_at (ranges_at h) (leb (ranges_end h) (length s)) 1 refl
    (λ _. check_at (wrong_number_at h (coded_ranges s h)) (pairs_right h.depth (coded_ranges s h)) 7 refl (λ _. accepted _)))

-- ---- bodies

mode-n : (s : List ℕ) (at : ℕ) → Numbered (mode_byte s at)
unfolding mode_byte
mode-n s at = and_then (word_at 1 s at) (word-n 1 s at) (λ mode. check (ltb mode 3) 8 refl (λ _. accepted _))

sweep-n : (s : List ℕ) (at : ℕ) → Numbered (sweep_byte s at)
unfolding sweep_byte
sweep-n s at = and_then (word_at 1 s at) (word-n 1 s at) (λ sweep. check (ltb sweep 2) 8 refl (λ _. accepted sweep))

swept-n : (s : List ℕ) (kind error at : ℕ) → Numbered (swept s kind error at)
unfolding swept moded
swept-n s kind error at =
    and_then (marked at (sweep_byte s at)) (at_place at (sweep_byte s at) (sweep-n s at)) (λ sweep.
    either (eqb sweep 1) (accepted _) (either (has_mode_byte kind error) (at_place (at + 1) (mode_byte s (at + 1)) (mode-n s (at + 1))) (accepted _)))

-- of a Huffman image: 1 or 8
image-n : (s : List ℕ) (h : Header) (mode : ℕ) → Numbered (image_at s h mode)
unfolding image_at
image-n s h mode =
    let n = h.valid * h.depth in
    at_place mode (coded_at s (mode + 1) n) (record { number = λ r e. ⊎_elim (λ d. rw (d)) (λ d. rw (d)) (coded-no s (mode + 1) n e) })

body_from-n : (s : List ℕ) (h : Header) (r : Ranges) (m : List ℕ) (w : Way) → Numbered (body_from s h r m w)
unfolding raw_body block_body huffman_body
body_from-n s h r m (raw_from at) =
    let place = missing_word_at (length s) at h.kind in
    let words = raw_words s at h.kind (h.valid * h.depth) in
    and_then (marked place words) (at_place place words (raw-n s at h.kind (h.valid * h.depth))) (λ b. accepted _)
body_from-n s h r m (blocks_from at) = and_then (all_blocks s h r.max m at) (chain-n s h r.max m (block_count (shape_of h)) 0 at) (λ c. accepted _)
body_from-n s h r m (huffman_from delta mode) = and_then (image_at s h mode) (image-n s h mode) (λ c. accepted _)

body-n : (s : List ℕ) (h : Header) (m : List ℕ) → Numbered (body_says s h m)
unfolding body_says constant_body swept_body constant_words
body-n s h m =
    either (eqb h.valid 0) (accepted _)
    (and_then (ranges_says s h) (ranges-n s h) (λ r.
    either r.constant (and_then (constant_words h.depth h.kind r.min) (each-n (stored h.kind) (take h.depth r.min) (stored-n h.kind)) (λ words. accepted _))
    (and_then (swept s h.kind h.error r.at) (swept-n s h.kind h.error r.at) (body_from-n s h r m))))

walked-n : (s : List ℕ) (h : Header) (maxima m : List ℕ) (sweep : ℕ) (w : Way) → Numbered (way_walked s h maxima m sweep w)
unfolding way_walked
walked-n s h maxima m sweep (raw_from at) = at_place sweep (fail (refuse 10)) (refused 10 refl)
walked-n s h maxima m sweep (blocks_from at) = chain-n s h maxima m (block_count (shape_of h)) 0 at
walked-n s h maxima m sweep (huffman_from delta mode) = at_place mode (fail (refuse 10)) (refused 10 refl)

-- ---- the reader

prepare-n : (b : List ℕ) (h : Header) (reuse : Bool) (old : List ℕ) (n : ℕ) → Numbered (prepare_says b h reuse old n)
unfolding prepare_says
prepare-n b h reuse old n =
    and_then (held h (length b)) (held-n h (length b)) (λ e. check (leb e.mask (length old) && leb e.mask n) 5 refl (λ _. mask-n (take h.size b) h reuse old))

read_ranges-n : (b : List ℕ) (h : Header) → Numbered (read_ranges_says b h)
unfolding read_ranges_says
read_ranges-n b h = and_then (held h (length b)) (held-n h (length b)) (λ e. ranges-n (take h.size b) h)

walk-n : (b : List ℕ) (h : Header) (r : Ranges) (m : List ℕ) (n : ℕ) → Numbered (walk_says b h r m n)
unfolding walk_says body_walked
walk-n b h r m n =
    and_then (held h (length b)) (held-n h (length b)) (λ e.
    check (leb e.mask (length m) && leb e.blocks n) 5 refl
    (λ _. check (pairs_right h.depth r) 7 refl
    (λ _. check (ltb 0 h.valid && not r.constant) 10 refl
    (λ _. and_then (swept (take h.size b) h.kind h.error r.at) (swept-n (take h.size b) h.kind h.error r.at) (walked-n (take h.size b) h r.max m r.at)))))

fill-n : (b : List ℕ) (h : Header) (r : Ranges) (m list : List ℕ) (n room : ℕ) → Numbered (fill_says b h r m list n room)
unfolding fill_says
fill-n b h r m list n room =
    and_then (held h (length b)) (held-n h (length b)) (λ e.
    check (ltb n e.blocks) 11 refl
    (λ _. check (leb e.mask (length m) && leb e.blocks (length list) && leb e.cells room) 5 refl
    (λ _. check (pairs_right h.depth r) 7 refl (λ _. block_at-n (take h.size b) h r.max m n (get_or list n 0)))))

masked-n : (b : List ℕ) (reuse : Bool) (l : Lent) → Numbered (masked b reuse l)
unfolding masked
masked-n b reuse l =
    and_then (header_says b) (header-n b) (λ h.
    check (room h l) 5 refl (λ _. and_then (mask_says (take h.size b) h reuse l.kept) (mask-n (take h.size b) h reuse l.kept) (λ m. accepted _)))

read-n : (b : List ℕ) (reuse : Bool) (l : Lent) → Numbered (read_says b reuse l)
unfolding read_says meaning_from
read-n b reuse l =
    and_then (masked b reuse l) (masked-n b reuse l) (λ k.
    and_then (body_says (take k.header.size b) k.header (bytes_of k.mask)) (body-n (take k.header.size b) k.header (bytes_of k.mask)) (λ y. accepted _))

publish-n : (b : List ℕ) (reuse : Bool) (a : Res Staged) (l : Lent) → Numbered (publish_says b reuse a l)
unfolding publish_says
publish-n b reuse a l = and_then (read_says b reuse l) (read-n b reuse l) (λ m. check (was_staged m a l) 3 refl (λ _. accepted m))

-- ---- the entries

header_from-n : (l : List ℕ) → Numbered (header_from l)
unfolding header_from
header_from-n l = check (fields_fit l) 3 refl (λ _. accepted _)

ranges_from-n : (l : List ℕ) → Numbered (ranges_from l)
unfolding ranges_from
ranges_from-n l = check (ltb (get_or l 1 0) 2) 3 refl (λ _. accepted _)

pub header-numbered : (b header : List ℕ) → Numbered (header_entry b header)
unfolding header_entry
header-numbered b header = check (leb header_room (length header)) 5 refl (λ _. header-n b)

pub prepare-numbered : (b header : List ℕ) (reuse : Bool) (old spare said : List ℕ) → Numbered (prepare_entry b header reuse old spare said)
unfolding prepare_entry
prepare-numbered b header reuse old spare said =
    check (leb header_room (length header) && leb 2 (length said)) 5 refl (λ _. and_then (header_from header) (header_from-n header) (λ h. prepare-n b h reuse old (length spare)))

pub ranges-numbered : (b header ranges : List ℕ) → Numbered (ranges_entry b header ranges)
unfolding ranges_entry
ranges-numbered b header ranges =
    check (leb header_room (length header) && leb ranges_room (length ranges)) 5 refl (λ _. and_then (header_from header) (header_from-n header) (λ h. read_ranges-n b h))

pub walk-numbered : (b header ranges m list said : List ℕ) → Numbered (walk_entry b header ranges m list said)
unfolding walk_entry
walk-numbered b header ranges m list said =
    check (leb header_room (length header) && leb ranges_room (length ranges) && leb 2 (length said)) 5 refl
    (λ _. and_then (header_from header) (header_from-n header) (λ h.
    and_then (ranges_from ranges) (ranges_from-n ranges) (λ r. and_then (walk_says b h r m (length list)) (walk-n b h r m (length list)) (λ c. accepted _))))

pub fill-numbered : (b header ranges m list : List ℕ) (n : ℕ) (image said : List ℕ) → Numbered (fill_entry b header ranges m list n image said)
unfolding fill_entry
fill-numbered b header ranges m list n image said =
    check (leb header_room (length header) && leb ranges_room (length ranges) && leb 1 (length said)) 5 refl
    (λ _. and_then (header_from header) (header_from-n header) (λ h.
    and_then (ranges_from ranges) (ranges_from-n ranges) (λ r.
    and_then (fill_says b h r m list n (length image)) (fill-n b h r m list n (length image)) (λ k. accepted _))))

pub read-numbered : (b : List ℕ) (reuse : Bool) (l : Lent) (said : List ℕ) → Numbered (read_entry b reuse l said)
unfolding read_entry
read-numbered b reuse l said = check (leb read_room (length said)) 5 refl (λ _. read-n b reuse l)

pub stage-numbered : (b : List ℕ) (reuse : Bool) (l : Lent) (staged : List ℕ) → Numbered (stage_entry b reuse l staged)
unfolding stage_entry
stage-numbered b reuse l staged = check (leb staged_room (length staged)) 5 refl (λ _. read-n b reuse l)

pub publish-numbered : (b : List ℕ) (reuse : Bool) (staged : List ℕ) (l : Lent) (said : List ℕ) → Numbered (publish_entry b reuse staged l said)
unfolding publish_entry
publish-numbered b reuse staged l said = check (leb staged_room (length staged) && leb 2 (length said)) 5 refl (λ _. publish-n b reuse (staged_from staged) l)

pub stored-numbered : (kind v : ℕ) (said : List ℕ) → Numbered (stored_entry kind v said)
unfolding stored_entry
stored-numbered kind v said = check (leb 1 (length said)) 5 refl (λ _. stored-n kind v)

-- ---- packs

pack-n : (b : List ℕ) → Numbered (pack_says b)
unfolding pack_says
pack-n b =
    check (head_right b) 12 refl
    (λ _. check (all_to (count_of b) (λ i. zeros_right (entry_part b i))) 12 refl
    (λ _. check (tiles_right (count_of b) (tile_in b)) 12 refl
    (λ _. check (eqb (body_place (count_of b) (tile_in b) (count_of b)) (length b)) 12 refl (λ _. accepted _))))

entry-n : (b : List ℕ) (n i : ℕ) → Numbered (entry_says b n i)
unfolding entry_says
entry-n b n i =
    check (ltb i n) 12 refl
    (λ _. check (leb (entry_place (suc i)) (length b)) 12 refl (λ _. check (leb (body_end (entry_at b i)) (length b)) 12 refl (λ _. accepted _)))

write-n : (g : Given) (room : ℕ) → Numbered (write_says g room)
unfolding write_says
write-n g room =
    check (given_right g) 12 refl
    (λ _. check (adds_up g) 12 refl
    (λ _. check (tiles_right (length g.rows) (tile_given g)) 12 refl (λ _. check (leb (pack_length g) room) 5 refl (λ _. accepted _))))

pub pack-numbered : (b said : List ℕ) → Numbered (pack_entry b said)
unfolding pack_entry
pack-numbered b said = check (leb 1 (length said)) 5 refl (λ _. pack-n b)

pub entry-numbered : (b : List ℕ) (tiles number : ℕ) (entry : List ℕ) → Numbered (entry_entry b tiles number entry)
unfolding entry_entry
entry-numbered b tiles number entry = check (leb entry_room (length entry)) 5 refl (λ _. entry-n b tiles number)

pub write-numbered : (g : Given) (room : ℕ) (said : List ℕ) → Numbered (pack_write_entry g room said)
unfolding pack_write_entry
write-numbered g room said = check (leb 1 (length said)) 5 refl (λ _. write-n g room)

-- an entry that returns 0 has accepted
pub zero-accepts : {A : Type 0} {m : Res A} → Numbered m → number_of m ≡ 0 → (a : A) × (m ≡ ok a)
zero-accepts {A} {m} p e = go m p e
  where
    go : (x : Res A) → Numbered x → number_of x ≡ 0 → (a : A) × (x ≡ ok a)
    go (ok a) q d = (a, refl)
    go (fail r) q d = absurd (let h : 1 ≤ r.number = leb-true 1 r.number (and_is (leb 1 r.number) (leb r.number 13) (q.number r refl)).0 in omega arith)
