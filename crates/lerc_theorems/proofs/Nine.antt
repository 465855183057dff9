-- Which reads can refuse 9: no block of a blob whose ranges were read from it, and so a constant body alone.
-- Assumes nothing.
use mathlib.Core.Path.{◌≡◌, ◌∙◌, sym, ap, refl}
use mathlib.Core.Logic.{⊎_elim}
use mathlib.Core.Bool.{Bool, true, false, not, cond}
use mathlib.Core.List.{List, ◌∷◌}
use Prim.Native.Nat.{ℕ, zero, suc, ◌+◌, ◌*◌, ◌≤◌, ◌<◌}
use native.Mathlib.Decide.{dec_lt}
use native.Mathlib.Omega.{arith}
use lib.ListN.{length, get_or, take, drop, replicate, length-take}
use lib.Seq.{get_or-take}
use lib.Dec.{leb, ltb, eqb}
use borrow.Author.Tests.{eqb-false, ne_eqb}
use Rattle.lerc_words.specs.declared.Refusal.{Refusal}
use Rattle.lerc_words.specs.Res.{Res, ok, fail, ◌>>=◌, refuse, marked, require, each, word_at}
use Rattle.lerc_words.proofs.Binding.{ok-is, and_is, bind-fail}
use Rattle.lerc_words.proofs.Marking.{marked-fails}
use Rattle.lerc_words.proofs.Each.{each-replicate, each-replicate-fails}
use Rattle.lerc_numeric.specs.Numeric.{negative, same}
use Rattle.lerc_numeric.specs.Kinds.{type_size, value_of}
use Rattle.lerc_numeric.proofs.Fits.{value-held}
use Rattle.lerc_samples.specs.Samples.{stored}
use Rattle.lerc_samples.proofs.Storable.{Storable, held-storable, storable-float}
use Rattle.lerc_header.specs.declared.Header.{Header}
use Rattle.lerc_header.specs.Limits.{depth_limit}
use Rattle.lerc_header.specs.Shape.{pixels, mask_length, block_count, Shaped}
use Rattle.lerc_header.specs.Header.{shape_of, header_bytes, ranges_at, key_right, fields_right, within_ceilings, error_right, extent_of, held, header_of, checksum_right, header_says}
use Rattle.lerc_header.proofs.Kept.{header-held, held-shaped, held_kept}
use Rattle.lerc_mask.specs.Mask.{valid_below, coded, mask_field}
use Rattle.lerc_mask.proofs.Runs.{coded-six}
use Rattle.lerc_ranges.specs.declared.Ranges.{Ranges}
use Rattle.lerc_validity.specs.Validity.{bytes_of, uniform, kept, unrolled, mask_in, mask_says}
use Rattle.lerc_ranges.specs.Ranges.{uniform_ranges, number_at, maxima_at, ranges_end, coded_ranges, pairs_right, wrong_number_at, ranges_says, constant_words}
use Rattle.lerc_ranges.proofs.ByDepth.{getD-by-depth}
use Rattle.lerc_image.specs.Geometry.{tile_of, valid_in_tile}
use Rattle.lerc_sweep.specs.Sweep.{Way, raw_from, blocks_from, huffman_from, has_mode_byte, mode_byte, mode_at, moded, sweep_byte, swept}
use Rattle.lerc_image.specs.Blocks.{block_at, chain, all_blocks}
use Rattle.lerc_image.proofs.Partition.{tile-depth}
use Rattle.lerc_byte_image.specs.Image.{image_at}
use Rattle.lerc_byte_image.proofs.Refusals.{image-numbers}
use Rattle.lerc.specs.Meaning.{empty, constant, missing_word_at, raw_body, block_body, huffman_body, body_from, swept_body, constant_body, body_says, meaning_from, meaning}
use Rattle.lerc_theorems.specs.DemandTwo.{Unstored}
use Rattle.lerc_theorems.proofs.Demands.{fail-is, not-refused}
use Rattle.lerc_theorems.proofs.Blocks.{stored-exactly, constants-exactly, block-exactly}
use Rattle.lerc_theorems.proofs.Plain.{Plain, stored-plain, constants-plain, block-plain}
use Rattle.lerc_theorems.proofs.Bodies.{judged, judged-is}
use Rattle.lerc_block.specs.Block.{raw_words, block_says}
use Rattle.lerc_block.proofs.Spared.{NotNine, spared-all, storable-spared, block-spared}

-- ---- answers that are not refused 9, at whatever place

abbrev NeverNine : {A : Type 0} → Res A → Type 0
NeverNine m = (why : Refusal) → m ≡ fail why → why.number ≡ 9 → ⊥

never-ok : {A : Type 0} (a : A) → NeverNine (ok a)
never-ok a why e z = not-refused e

-- a test with another number
never-test : (t : Bool) (n : ℕ) → eqb n 9 ≡ false → NeverNine (require t n)
never-test true n q why e z = not-refused e
never-test false n q why e z = absurd (eqb-false n 9 q (ap (λ (r : Refusal). r.number) (fail-is e) ∙ z))

never-bind : {A B : Type 0} (m : Res A) (k : A → Res B) → NeverNine m → ((a : A) → NeverNine (k a)) → NeverNine (m >>= k)
never-bind (ok a) k p q = q a
never-bind (fail r) k p q = λ why e. p why (ap fail (fail-is e))

never-if : {B : Type 0} (t : Bool) (n : ℕ) (k : Bool → Res B) → eqb n 9 ≡ false → ((a : Bool) → NeverNine (k a)) → NeverNine (require t n >>= k)
never-if t n k q = never-bind (require t n) k (never-test t n q)

never-cond : {A : Type 0} (t : Bool) {x y : Res A} → NeverNine x → NeverNine y → NeverNine (cond t x y)
never-cond true p q = p
never-cond false p q = q

never-marked : {A : Type 0} (place : ℕ) (m : Res A) → NeverNine m → NeverNine (marked place m)
never-marked place m p why e z =
    let (q, d, i) = marked-fails place m e in
    p q d (ap (λ (r : Refusal). r.number) (sym i) ∙ z)

never-at : {B : Type 0} (place : ℕ) (t : Bool) (n : ℕ) (k : Bool → Res B) → eqb n 9 ≡ false → ((a : Bool) → NeverNine (k a)) → NeverNine (marked place (require t n) >>= k)
never-at place t n k q = never-bind (marked place (require t n)) k (never-marked place (require t n) (never-test t n q))

-- one whose refusals are at place 0
never-plain : {A : Type 0} (m : Res A) → ((why : Refusal) → m ≡ fail why → Plain why) → NotNine m → NeverNine m
never-plain m f p why e z = p (e ∙ ap fail (f why e ∙ ap refuse z))

-- ---- bodies

module _ (s : List ℕ) (h : Header) (maxima m : List ℕ) (plus : negative h.error ≡ false)
    (high : (n : ℕ) → n < block_count (shape_of h) → Storable h.kind (get_or maxima (tile_of (shape_of h) n).d 0)) where
  at-spared : (n at : ℕ) → n < block_count (shape_of h) → NeverNine (block_at s h maxima m n at)
  unfolding block_at
  at-spared n at l =
      let t = tile_of (shape_of h) n in
      let top = get_or maxima t.d 0 in
      let valid = valid_in_tile (shape_of h) m t in
      never-marked at (block_says s at h.kind h.error top t.x valid)
      (never-plain _ (λ why e. block-plain ((block-exactly s h.kind h.error top at t.x valid why).0 e)) (block-spared s h.kind h.error top (high n l) plus at t.x valid))

  chain-spared : (f n at : ℕ) → n + f ≤ block_count (shape_of h) → NeverNine (chain s h maxima m f n at)
  unfolding chain
  chain-spared zero n at l = never-ok _
  chain-spared (suc f) n at l =
      never-bind (block_at s h maxima m n at) _ (at-spared n at (omega arith))
      (λ b. never-bind (chain s h maxima m f (suc n) b.next) _ (chain-spared f (suc n) b.next (omega arith)) (λ c. never-ok _))

module _ (s : List ℕ) where
  word-spared : (n at : ℕ) → NeverNine (word_at n s at)
  unfolding word_at
  word-spared n at = never-if (leb (at + n) (length s)) 1 _ refl (λ _. never-ok _)

  raw-spared : (kind at n : ℕ) → NeverNine (raw_words s at kind n)
  unfolding raw_words
  raw-spared kind at n = never-if (leb (at + n * type_size kind) (length s)) 1 _ refl (λ _. never-ok _)

  mode-spared : (at : ℕ) → NeverNine (mode_at s at)
  unfolding mode_byte
  mode-spared at =
      never-marked at (mode_byte s at)
      (never-bind (word_at 1 s at) _ (word-spared 1 at)
      (λ mode. never-if (ltb mode 3) 8 _ refl (λ _. never-ok _)))

  sweep-spared : (kind error at : ℕ) → NeverNine (swept s kind error at)
  unfolding swept sweep_byte moded
  sweep-spared kind error at =
      never-bind (marked at (sweep_byte s at)) _
      (never-marked at (sweep_byte s at) (never-bind (word_at 1 s at) _ (word-spared 1 at) (λ sweep. never-if (ltb sweep 2) 8 _ refl (λ _. never-ok _))))
      (λ sweep. never-cond (eqb sweep 1) (never-ok _) (never-cond (has_mode_byte kind error) (mode-spared (at + 1)) (never-ok _)))

  image-spared : (h : Header) (mode : ℕ) → NeverNine (image_at s h mode)
  image-spared h mode why e z = ⊎_elim (λ p. let y : 1 ≡ 9 = sym p ∙ z in absurd (omega arith)) (λ p. let y : 8 ≡ 9 = sym p ∙ z in absurd (omega arith)) (image-numbers s h mode why e).1

  ranges-spared : (h : Header) → NeverNine (ranges_says s h)
  unfolding ranges_says
  ranges-spared h =
      never-cond (same h.min h.max) (never-ok _)
      (never-at (ranges_at h) (leb (ranges_end h) (length s)) 1 _ refl
      (λ _. never-at (wrong_number_at h (coded_ranges s h)) (pairs_right h.depth (coded_ranges s h)) 7 _ refl (λ _. never-ok _)))

-- a number that was read in a kind can be stored in it
own-storable : (kind w : ℕ) → Storable kind (value_of kind w)
own-storable kind w = go (dec_lt kind 6)
  where
    go : Dec (kind < 6) → Storable kind (value_of kind w)
    go (yes l) = held-storable kind (value_of kind w) (value-held kind w l)
    go (no l) = storable-float kind (value_of kind w) (omega arith)

module _ (s : List ℕ) (h : Header) (m : List ℕ) (few : h.depth ≤ depth_limit) where
  -- so can the minima and maxima of each depth
  coded-high : (i : ℕ) → i < h.depth → Storable h.kind (get_or (coded_ranges s h).max i 0)
  unfolding coded_ranges number_at
  coded-high i l = rw (getD-by-depth h.depth (number_at h.kind s (maxima_at h)) h.max i few l) (own-storable h.kind _)

  coded-low : (i : ℕ) → i < h.depth → Storable h.kind (get_or (coded_ranges s h).min i 0)
  unfolding coded_ranges number_at
  coded-low i l = rw (getD-by-depth h.depth (number_at h.kind s (ranges_at h)) h.min i few l) (own-storable h.kind _)

  coded-stored : NotNine (constant_words h.depth h.kind (coded_ranges s h).min)
  unfolding constant_words
  coded-stored =
      let low = (coded_ranges s h).min in
      spared-all (stored h.kind) (take h.depth low) (λ i l.
      let k : i < h.depth = omega (arith, length-take h.depth low, l) in
      rw (get_or-take h.depth low i 0 k) (storable-spared h.kind (get_or low i 0) (coded-low i k)))

  coded-constant : NeverNine (constant_words h.depth h.kind (coded_ranges s h).min)
  coded-constant =
      let low = (coded_ranges s h).min in
      never-plain (constant_words h.depth h.kind low) (λ why e. constants-plain ((constants-exactly h.depth h.kind low why).0 e)) coded-stored

  module _ (shaped : Shaped (shape_of h)) (plus : negative h.error ≡ false) where
    from-spared : (w : Way) → NeverNine (body_from s h (coded_ranges s h) m w)
    unfolding raw_body block_body huffman_body
    from-spared (raw_from at) =
        let words = raw_words s at h.kind (h.valid * h.depth) in
        never-bind (marked (missing_word_at (length s) at h.kind) words) _ (never-marked _ words (raw-spared s h.kind at (h.valid * h.depth))) (λ b. never-ok _)
    from-spared (blocks_from at) =
        never-bind (all_blocks s h (coded_ranges s h).max m at) _
        (chain-spared s h (coded_ranges s h).max m plus (λ n l. coded-high (tile_of (shape_of h) n).d (tile-depth (shape_of h) shaped n l)) (block_count (shape_of h)) 0 at (omega arith))
        (λ c. never-ok _)
    from-spared (huffman_from delta mode) = never-bind (image_at s h mode) _ (image-spared s h mode) (λ c. never-ok _)

    swept-spared : NeverNine (swept_body s h (coded_ranges s h) m)
    unfolding swept_body
    swept-spared = never-bind (swept s h.kind h.error (coded_ranges s h).at) _ (sweep-spared s h.kind h.error (coded_ranges s h).at) from-spared

    constant-spared : NeverNine (constant_body h (coded_ranges s h))
    unfolding constant_body
    constant-spared = never-bind (constant_words h.depth h.kind (coded_ranges s h).min) _ coded-constant (λ ws. never-ok _)

    coded-spared : NeverNine (cond (coded_ranges s h).constant (constant_body h (coded_ranges s h)) (swept_body s h (coded_ranges s h) m))
    coded-spared = never-cond (coded_ranges s h).constant constant-spared swept-spared

-- ---- ranges that the header gives

take_same : (k n v : ℕ) → k ≤ n → take k (replicate n v) ≡ replicate k v
take_same zero n v l = refl
take_same (suc k) zero v l = absurd (omega arith)
take_same (suc k) (suc n) v l = ap (λ (t : List ℕ). v ∷ t) (take_same k n v (omega arith))

module _ (h : Header) (few : h.depth ≤ depth_limit) (some : 0 < h.depth) where
  words_are : constant_words h.depth h.kind (uniform_ranges h).min ≡ each (stored h.kind) (replicate h.depth h.min)
  unfolding constant_words uniform_ranges
  words_are = rw (take_same h.depth depth_limit h.min few)

  uniform-nine : (why : Refusal) → constant_words h.depth h.kind (uniform_ranges h).min ≡ fail why → why.number ≡ 9 → stored h.kind h.min ≡ fail (refuse 9)
  uniform-nine why e z = go (stored h.kind h.min) refl
    where
      go : (x : Res ℕ) → stored h.kind h.min ≡ x → stored h.kind h.min ≡ fail (refuse 9)
      go (ok v) q = not-refused (sym (each-replicate (stored h.kind) h.depth h.min q) ∙ sym words_are ∙ e)
      go (fail r) q =
          let i : r ≡ why = fail-is (sym (each-replicate-fails (stored h.kind) h.depth h.min some q) ∙ sym words_are ∙ e) in
          let d : stored h.kind h.min ≡ fail why = q ∙ ap fail i in
          d ∙ ap fail (stored-plain ((stored-exactly h.kind h.min why).0 d) ∙ ap refuse z)

  nine-uniform : stored h.kind h.min ≡ fail (refuse 9) → constant_words h.depth h.kind (uniform_ranges h).min ≡ fail (refuse 9)
  nine-uniform e = words_are ∙ each-replicate-fails (stored h.kind) h.depth h.min some e

-- ---- the whole

-- what is refused 9 was refused there, or behind
bind-nine : {A B : Type 0} (m : Res A) (k : A → Res B) {why : Refusal} → NeverNine m → (m >>= k) ≡ fail why → why.number ≡ 9 → (a : A) × (m ≡ ok a) × (k a ≡ fail why)
bind-nine (ok a) k p e z = (a, refl, e)
bind-nine (fail r) k {why} p e z = absurd (p why (ap fail (fail-is e)) z)

header-spared : (b : List ℕ) → NeverNine (header_says b)
unfolding header_says held
header-spared b =
    never-if (leb header_bytes (length b)) 1 _ refl
    (λ _. never-if (key_right b) 2 _ refl
    (λ _. never-bind (held (header_of b) (length b)) _
    (never-if (fields_right (header_of b)) 3 _ refl
    (λ _. never-if (within_ceilings (header_of b)) 4 _ refl
    (λ _. never-if (leb (header_of b).size (length b)) 1 _ refl (λ _. never-ok _))))
    (λ _. never-if (checksum_right b (header_of b).size) 13 _ refl (λ _. never-ok _))))

mask-spared : (s : List ℕ) (h : Header) (reuse : Bool) (old : List ℕ) → NeverNine (mask_says s h reuse old)
unfolding mask_in uniform kept unrolled
mask-spared s h reuse old =
    let m = take (mask_length (shape_of h)) old in
    let part = take h.mask (drop header_bytes s) in
    never-marked mask_field (mask_in s h reuse old)
    (never-cond (eqb h.valid 0) (never-if (eqb h.mask 0) 6 _ refl (λ _. never-ok _))
    (never-cond (eqb h.valid (pixels (shape_of h))) (never-if (eqb h.mask 0) 6 _ refl (λ _. never-ok _))
    (never-cond (eqb h.mask 0)
    (never-if reuse 6 _ refl (λ _. never-if (eqb (valid_below (pixels (shape_of h)) m) h.valid) 6 _ refl (λ _. never-ok _)))
    (never-bind (coded part (pixels (shape_of h)) h.valid) _
    (λ why e z. let y : 6 ≡ 9 = sym (ap (λ (r : Refusal). r.number) (coded-six part (pixels (shape_of h)) h.valid why e)) ∙ z in absurd (omega arith))
    (λ r. never-ok _)))))

positive : (e : ℕ) → error_right e ≡ true → negative e ≡ false
unfolding error_right
positive e p = go (negative e) (and_is (not (negative e)) _ p).0
  where
    go : (t : Bool) → not t ≡ true → t ≡ false
    go true q = absurd (let z : ◌≡◌ {A = ℕ} 0 1 = cc in omega arith)
    go false q = refl

-- the body that is refused 9
pub record Flat (h : Header) : Type 0 where
  pub some : 0 < h.valid
  pub constant : same h.min h.max ≡ true
  pub unstored : stored h.kind h.min ≡ fail (refuse 9)

module _ (s : List ℕ) (h : Header) (m : List ℕ) (shaped : Shaped (shape_of h)) (plus : negative h.error ≡ false) where
  module _ (why : Refusal) (nine : why.number ≡ 9) where
    uniform-flat : 0 < h.valid → same h.min h.max ≡ true → cond (uniform_ranges h).constant (constant_body h (uniform_ranges h)) (swept_body s h (uniform_ranges h) m) ≡ fail why → Flat h
    unfolding uniform_ranges constant_body
    uniform-flat v q e =
        record {
          some = v;
          constant = q;
          unstored = uniform-nine h shaped.depth.1 shaped.depth.0 why
              (bind-fail (constant_words h.depth h.kind (uniform_ranges h).min) (λ ws. constant ws (uniform_ranges h).at) e) nine;
        }

    ranges-flat : (r : Ranges) → 0 < h.valid → ranges_says s h ≡ ok r → cond r.constant (constant_body h r) (swept_body s h r m) ≡ fail why → Flat h
    unfolding ranges_says
    ranges-flat r v p e = go (same h.min h.max) refl p
      where
        go : (t : Bool) → same h.min h.max ≡ t → cond t (ok (uniform_ranges h)) (judged s h) ≡ ok r → Flat h
        go true q d = uniform-flat v q (rw (← ok-is d) at e)
        go false q d = absurd (coded-spared s h m shaped.depth.1 shaped plus why (rw (← (judged-is s h r d).is) at e) nine)

    pub body-flat : body_says s h m ≡ fail why → Flat h
    unfolding body_says
    body-flat = go (eqb h.valid 0) refl
      where
        pos : (n : ℕ) → eqb n 0 ≡ false → 0 < n
        pos zero q = absurd (eqb-false 0 0 q refl)
        pos (suc n) q = omega arith

        go : (t : Bool) → eqb h.valid 0 ≡ t → cond t (ok empty) (ranges_says s h >>= λ r. cond r.constant (constant_body h r) (swept_body s h r m)) ≡ fail why → Flat h
        go true q e = not-refused e
        go false q e =
            let (r, p, e) = bind-nine (ranges_says s h) _ (ranges-spared s h) e nine in
            ranges-flat r (pos h.valid q) p e

  pub flat-body : Flat h → body_says s h m ≡ fail (refuse 9)
  unfolding body_says ranges_says uniform_ranges constant_body
  flat-body k =
      rw (ne_eqb h.valid 0 (λ z. let y : h.valid ≡ 0 = z in absurd (omega (arith, k.some))), k.constant, nine-uniform h shaped.depth.1 shaped.depth.0 k.unstored)

module _ (b : List ℕ) (h : Header) (p : header_says b ≡ ok h) where
  keeps : held h (length b) ≡ ok (extent_of h)
  keeps = (header-held b h p).1

  shaped : Shaped (shape_of h)
  shaped = held-shaped h (length b) keeps

  plus : negative h.error ≡ false
  plus = positive h.error (held_kept h (length b) keeps).right.error

pub nine-flat : (b : List ℕ) (reuse : Bool) (old : List ℕ) (why : Refusal) → meaning b reuse old ≡ fail why → why.number ≡ 9 → Unstored b reuse old
unfolding meaning meaning_from
nine-flat b reuse old why e nine =
    let (h, p, e) = bind-nine (header_says b) _ (header-spared b) e nine in
    let (f, q, e) = bind-nine (mask_says (take h.size b) h reuse old) _ (mask-spared (take h.size b) h reuse old) e nine in
    let s = take h.size b in
    let y : body_says s h (bytes_of f) ≡ fail why = bind-fail (body_says s h (bytes_of f)) (λ y. record { header = h; mask = f; body = y }) e in
    let k = body-flat s h (bytes_of f) (shaped b h p) (plus b h p) why nine y in
    record { header = h; mask = f; read = p; masked = q; some = k.some; constant = k.constant; unstored = k.unstored }

pub flat-nine : (b : List ℕ) (reuse : Bool) (old : List ℕ) → Unstored b reuse old → meaning b reuse old ≡ fail (refuse 9)
unfolding meaning meaning_from
flat-nine b reuse old u =
    let h = u.header in
    let k = flat-body (take h.size b) h (bytes_of u.mask) (shaped b h u.read) (plus b h u.read) (record { some = u.some; constant = u.constant; unstored = u.unstored }) in
    rw (u.read, u.masked, k)
