-- What tells no place: the definitions that mark nothing.
-- Assumes nothing.
use mathlib.Core.Path.{◌≡◌, refl}
use mathlib.Core.Logic.{⊎_elim}
use mathlib.Core.Bool.{Bool, ◌&&◌}
use mathlib.Core.List.{List, [], ◌∷◌}
use Prim.Native.Nat.{ℕ, ◌+◌, ◌*◌, ◌/◌, ◌%◌}
use lib.ListN.{length, get_or, take, drop, replicate}
use lib.Dec.{leb, ltb, eqb}
use Rattle.lerc_words.specs.Res.{Res, ok, fail, marked, each, word_at}
use Rattle.lerc_words.proofs.Marking.{Bare, bare-bind, bare-then, bare-cond}
use Rattle.lerc_words.proofs.Little.{word_at-bare}
use Rattle.lerc_numeric.specs.Numeric.{finite, negative}
use Rattle.lerc_numeric.specs.Kinds.{type_size, whole, bound, cut}
use Rattle.lerc_numeric.specs.Steps.{step_of}
use Rattle.lerc_samples.specs.Samples.{sample_at, stored, no_kind, offset_kinds, offset_kind}
use Rattle.lerc_bits.specs.declared.Plan.{Plan}
use Rattle.lerc_bits.specs.Bits.{plan, run, all_below, looked_up, values_of, unpacked, counts}
use Rattle.lerc_bits.proofs.Returns.{plan-bare}
use Rattle.lerc_header.specs.declared.Header.{Header}
use Rattle.lerc_header.specs.Header.{shape_of, header_bytes, fields_right, within_ceilings, held, key_right, header_of, checksum_right, header_says}
use Rattle.lerc_header.specs.Shape.{pixels, mask_length}
use Rattle.lerc_mask.specs.Mask.{valid_below, coded}
use Rattle.lerc_mask.proofs.Runs.{coded-bare}
use Rattle.lerc_validity.specs.Validity.{uniform, kept, unrolled, mask_in}
use Rattle.lerc_ranges.specs.declared.Ranges.{Ranges}
use Rattle.lerc_ranges.specs.Ranges.{constant_words}
use Rattle.lerc_sweep.specs.Sweep.{mode_byte, sweep_byte}
use Rattle.lerc_block.specs.Block.{raw_words, level_block, stepped_block, offset_at, finite_offset, offset_block, formed, flag_at, block_says}
use Rattle.lerc_byte_image.specs.Symbols.{Coded, coded_at}
use Rattle.lerc_byte_image.proofs.Refusals.{coded-no}
use Rattle.lerc.specs.Meaning.{constant_body}

each_bare : {A B : Type 0} (f : A → Res B) → ((x : A) → Bare (f x)) → (xs : List A) → Bare (each f xs)
unfolding each
each_bare f e [] = refl
each_bare f e (x ∷ xs) = bare-bind (f x) _ (e x) (λ y. bare-bind (each f xs) _ (each_bare f e xs) (λ ys. refl))

-- ---- numbers of a kind

stored-bare : (kind w : ℕ) → Bare (stored kind w)
unfolding stored cut
stored-bare kind w = bare-cond (ltb kind 6) (bare-then (ltb kind 6 && finite w && ltb (whole w) (bound kind (negative w))) 9 _ refl) refl

sample-bare : (kind : ℕ) (s : List ℕ) (at : ℕ) → Bare (sample_at kind s at)
unfolding sample_at
sample-bare kind s at = bare-bind (word_at (type_size kind) s at) _ (word_at-bare (type_size kind) s at) (λ w. refl)

kind-bare : (kind code : ℕ) → Bare (offset_kind kind code)
unfolding offset_kind
kind-bare kind code = bare-then (ltb (get_or (get_or offset_kinds kind []) code no_kind) no_kind) 8 _ refl

-- ---- packed counts

values-bare : (s : List ℕ) (p : Plan) → Bare (values_of s p)
unfolding values_of looked_up
values-bare s p = bare-cond (eqb p.entries 0) refl (bare-then (all_below p.n p.entries (run s p.at p.n p.width)) 8 _ refl)

counts-bare : (s : List ℕ) (at : ℕ) → Bare (counts s at)
unfolding counts unpacked
counts-bare s at = bare-bind (plan s at) _ (plan-bare s at) (λ p. bare-bind (values_of s p) _ (values-bare s p) (λ vs. refl))

-- ---- a block

pub raw-bare : (s : List ℕ) (at kind n : ℕ) → Bare (raw_words s at kind n)
unfolding raw_words
raw-bare s at kind n = bare-then (leb (at + n * type_size kind) (length s)) 1 _ refl

level-bare : (at kind offset n : ℕ) → Bare (level_block at kind offset n)
unfolding level_block
level-bare at kind offset n = bare-bind (each (stored kind) (replicate n offset)) _ (each_bare (stored kind) (stored-bare kind) (replicate n offset)) (λ words. refl)

stepped-bare : (s : List ℕ) (at kind error top offset n : ℕ) → Bare (stepped_block s at kind error top offset n)
unfolding stepped_block
stepped-bare s at kind error top offset n =
    let step : ℕ → Res ℕ = λ q. stored kind (step_of offset error top q) in
    bare-bind (counts s at) _ (counts-bare s at) (λ c.
    bare-then (eqb (length c.values) n) 8 _
    (bare-bind (each step c.values) _ (each_bare step (λ q. stored-bare kind (step_of offset error top q)) c.values) (λ words. refl)))

offset-bare : (s : List ℕ) (at kind flag : ℕ) → Bare (finite_offset s at kind flag)
unfolding finite_offset offset_at
offset-bare s at kind flag =
    bare-bind (offset_at s at kind flag) _
    (bare-bind (offset_kind kind (flag / 64)) _ (kind-bare kind (flag / 64)) (λ k. bare-bind (sample_at k s at) _ (sample-bare k s at) (λ v. refl)))
    (λ o. bare-then (finite o.value) 8 _ refl)

formed_bare : (s : List ℕ) (at kind error top flag n : ℕ) → Bare (formed s at kind error top flag n)
unfolding formed offset_block
formed_bare s at kind error top flag n =
    bare-cond (eqb (flag % 4) 0) (raw-bare s at kind n)
    (bare-cond (eqb (flag % 4) 2) refl
    (bare-bind (finite_offset s at kind flag) _ (offset-bare s at kind flag) (λ o.
    bare-cond (eqb (flag % 4) 3) (level-bare o.next kind o.value n) (stepped-bare s o.next kind error top o.value n))))

pub block-bare : (s : List ℕ) (at kind error top x n : ℕ) → Bare (block_says s at kind error top x n)
unfolding block_says flag_at
block-bare s at kind error top x n =
    bare-bind (flag_at s at x) _
    (bare-bind (word_at 1 s at) _ (word_at-bare 1 s at) (λ flag. bare-then (eqb (flag / 4 % 16) (x / 8 % 16)) 8 _ refl))
    (λ flag. formed_bare s (at + 1) kind error top flag n)

-- ---- the sweep byte, and the mode byte

pub mode-bare : (s : List ℕ) (at : ℕ) → Bare (mode_byte s at)
unfolding mode_byte
mode-bare s at = bare-bind (word_at 1 s at) _ (word_at-bare 1 s at) (λ mode. bare-then (ltb mode 3) 8 _ refl)

pub sweep-bare : (s : List ℕ) (at : ℕ) → Bare (sweep_byte s at)
unfolding sweep_byte
sweep-bare s at = bare-bind (word_at 1 s at) _ (word_at-bare 1 s at) (λ sweep. bare-then (ltb sweep 2) 8 _ refl)

-- ---- the symbols of a Huffman image

pub symbols-bare : (s : List ℕ) (at n : ℕ) → Bare (coded_at s at n)
symbols-bare s at n = go (coded_at s at n) refl
  where
    go : (m : Res Coded) → coded_at s at n ≡ m → marked 0 m ≡ m
    go (ok c) e = refl
    go (fail r) e = ⊎_elim (λ d. rw (d)) (λ d. rw (d)) (coded-no s at n e)

-- ---- header, mask, and the words of a constant body

pub held-bare : (h : Header) (n : ℕ) → Bare (held h n)
unfolding held
held-bare h n = bare-then (fields_right h) 3 _ (bare-then (within_ceilings h) 4 _ (bare-then (leb h.size n) 1 _ refl))

pub header-bare : (b : List ℕ) → Bare (header_says b)
unfolding header_says
header-bare b =
    bare-then (leb header_bytes (length b)) 1 _
    (bare-then (key_right b) 2 _ (bare-bind (held (header_of b) (length b)) _ (held-bare (header_of b) (length b)) (λ _. bare-then (checksum_right b (header_of b).size) 13 _ refl)))

unrolled-bare : (s : List ℕ) (h : Header) → Bare (unrolled s h)
unfolding unrolled
unrolled-bare s h =
    let m = coded (take h.mask (drop header_bytes s)) (pixels (shape_of h)) h.valid in
    bare-bind m _ (coded-bare (take h.mask (drop header_bytes s)) (pixels (shape_of h)) h.valid) (λ m. refl)

pub mask-bare : (s : List ℕ) (h : Header) (reuse : Bool) (old : List ℕ) → Bare (mask_in s h reuse old)
unfolding mask_in uniform kept
mask-bare s h reuse old =
    let m = take (mask_length (shape_of h)) old in
    bare-cond (eqb h.valid 0) (bare-then (eqb h.mask 0) 6 _ refl)
    (bare-cond (eqb h.valid (pixels (shape_of h))) (bare-then (eqb h.mask 0) 6 _ refl)
    (bare-cond (eqb h.mask 0) (bare-then reuse 6 _ (bare-then (eqb (valid_below (pixels (shape_of h)) m) h.valid) 6 _ refl)) (unrolled-bare s h)))

pub constant-bare : (h : Header) (r : Ranges) → Bare (constant_body h r)
unfolding constant_body constant_words
constant-bare h r =
    let low = take h.depth r.min in
    bare-bind (each (stored h.kind) low) _ (each_bare (stored h.kind) (stored-bare h.kind) low) (λ words. refl)
