-- native_lerc.rs: its `pixels` is our body, but for the sweep byte (1 alone is raw here).
-- Assumes nothing.
use mathlib.Core.Path.{◌≡◌, refl, ap, ◌∙◌}
use mathlib.Core.Bool.{Bool, true, false, not, cond}
use mathlib.Core.List.{List}
use mathlib.Core.Option.{Option, none, some}
use Prim.Native.Nat.{ℕ, ◌+◌, ◌*◌, ◌≤◌, ◌<◌, min}
use native.Mathlib.Omega.{arith}
use native.Mathlib.Nat.{mul_comm, add-zero}
use native.Mathlib.Decide.{dec_lt}
use borrow.Author.Tests.{lt-ltb, le-ltb, le-leb, lt-leb, eq-eqb, ne_eqb, eqb-true, eqb-false}
use lib.Dec.{leb, eqb}
use lib.ListN.{length, get_or, drop, replicate}
use Rattle.lerc_words.specs.Res.{Res, ok, fail, ◌>>=◌, accepts}
use Rattle.lerc_words.specs.Lists.{tabulate, over}
use Rattle.lerc_words.proofs.Little.{Bytes, word_at-no}
use Rattle.lerc_header.specs.declared.Header.{Header}
use Rattle.lerc_header.specs.Header.{shape_of, header_bytes, ranges_at}
use Rattle.lerc_header.specs.Shape.{Shaped, cells}
use Rattle.lerc_header.specs.Shape as shape
use Rattle.lerc_mask.specs.Mask.{valid_below}
use Rattle.lerc_ranges.specs.declared.Ranges.{Ranges}
use Rattle.lerc_ranges.specs.Ranges.{ranges_says, constant_words}
use Rattle.lerc_ranges.proofs.Judged.{ranges-kept, length-constants}
use Rattle.lerc_sweep.specs.Sweep.{mode_byte, moded, sweep_byte, swept}
use Rattle.lerc_image.specs.Blocks.{Chain}
use Rattle.lerc.specs.Meaning.{constant_body, body_says, cell_word}
use Rattle.lerc.specs.Meaning as body
use Rattle.lerc.proofs.Bodies.{image-empty}
use Rattle.lerc_numeric.specs.Numeric.{counted_sum}
use Rattle.lerc_overflow.specs.By.{all_blocks_by, block_body_by, body_from_by, swept_body_by, body_by}
use Rattle.lerc_overflow.specs.Changes.{body_outline}
use Rattle.lerc_overflow.proofs.Meanings.{body-outline, body-calm}
use Rattle.lerc_contracts.specs.Outside.{said, is_some, on_some, length_max}
use Rattle.lerc_contracts.specs.Planes.{constants}
use Rattle.lerc_contracts.specs.Block.{ResultModel}
use Rattle.lerc_contracts.specs.Image.{tiles, linear}
use Rattle.lerc_contracts.specs.Native.{entropy, unswept, ranged, pixels}
use Rattle.lerc_contracts.specs.Between.{tiled_image, bodied, model}
use Rattle.lerc_contracts.specs.NativeClauses.{PixelsIs, ReadAlike}
use Rattle.lerc_contracts.proofs.Bits.{byte-ok}
use Rattle.lerc_contracts.proofs.Planes.{ranges-is, constants-is}
use Rattle.lerc_contracts.proofs.Image.{tiles-is}
use Rattle.lerc_contracts.proofs.Linear.{constant-is, raw-is}
use Rattle.lerc_contracts.proofs.ByteClauses.{huffman-is}

module _ (s : List ℕ) (y : Bytes s) (few : length s ≤ length_max) (h : Header) (g : Shaped (shape_of h)) (mask initial : List ℕ) (size : length initial ≡ h.columns * h.rows * h.depth)
    (counts : valid_below (shape.pixels (shape_of h)) mask ≡ h.valid) where
  room : cells (shape_of h) ≤ length initial
  room = let e : h.columns * h.rows * h.depth ≡ cells (shape_of h) = rw (mul_comm h.columns h.rows) in omega (arith, size)

  -- blocks
  tiled : (max : List ℕ) (at : ℕ) → tiles s h mask max (record { x = 0; y = 0; d = 0 }) at initial (length initial) ≡ said (bodied h mask initial) (block_body_by counted_sum s h max mask at)
  unfolding block_body_by cell_word
  tiled max at = rw (size) (tiles-is s y few h g mask max at initial room ∙ go (all_blocks_by counted_sum s h max mask at))
    where
      go : (m : Res Chain) → said (tiled_image h mask initial) m ≡ said (bodied h mask initial) (m >>= λ c. ok (body.blocks c))
      go (ok c) = refl
      go (fail q) = refl

  -- a mode byte, where there is one
  unswept-is : (r : Ranges) → unswept s h mask (model r) initial ≡ said (bodied h mask initial) (moded s h.kind h.error (r.at + 1) >>= body_from_by counted_sum s h r mask)
  unfolding moded mode_byte
  unswept-is r = coded (entropy h) refl
    where
      at : ℕ
      at = r.at + 1

      Wanted : Type 0
      Wanted = unswept s h mask (model r) initial ≡ said (bodied h mask initial) (moded s h.kind h.error at >>= body_from_by counted_sum s h r mask)

      which : entropy h ≡ true → at < length s → get_or s at 0 < 3 → (t : Bool) → eqb (get_or s at 0) 0 ≡ t → Wanted
      which e l k true z = rw (e, lt-leb (length s) at l, byte-ok s at l, le-ltb 2 (get_or s at 0) (omega arith), lt-ltb (get_or s at 0) 3 k, z) (tiled r.max (at + 1))
      which e l k false z =
          rw (e, lt-leb (length s) at l, byte-ok s at l, le-ltb 2 (get_or s at 0) (omega arith), lt-ltb (get_or s at 0) 3 k, z)
          (huffman-is s h g mask initial room counts at (eqb (get_or s at 0) 1))

      small : entropy h ≡ true → at < length s → Dec (get_or s at 0 < 3) → Wanted
      small e l (yes k) = which e l k (eqb (get_or s at 0) 0) refl
      small e l (no k) = rw (e, lt-leb (length s) at l, byte-ok s at l, lt-ltb 2 (get_or s at 0) (omega arith), le-ltb (get_or s at 0) 3 (omega arith))

      inside : entropy h ≡ true → Dec (at < length s) → Wanted
      inside e (yes l) = small e l (dec_lt (get_or s at 0) 3)
      inside e (no l) = rw (e, le-leb (length s) at (omega arith), word_at-no 1 s at (omega arith))

      coded : (t : Bool) → entropy h ≡ t → Wanted
      coded true e = inside e (dec_lt at (length s))
      coded false e = rw (e, add-zero at) (tiled r.max at)

  -- a sweep byte
  abbrev announced : Ranges → Option ResultModel
  announced r =
      cond (leb (length s) r.at) none
      (cond (not (eqb (get_or s r.at 0) 0)) (linear s h mask (tabulate 64 (λ i. 0)) true 0 (r.at + 1) initial (length initial))
      (unswept s h mask (model r) initial))

  swept-is : (r : Ranges) → get_or s r.at 0 < 2 → announced r ≡ said (bodied h mask initial) (swept_body_by counted_sum s h r mask)
  unfolding swept_body_by swept sweep_byte
  swept-is r a = inside (dec_lt r.at (length s))
    where
      which : r.at < length s → (t : Bool) → eqb (get_or s r.at 0) 0 ≡ t → announced r ≡ said (bodied h mask initial) (swept_body_by counted_sum s h r mask)
      which l true e =
          let z : get_or s r.at 0 ≡ 0 = eqb-true (get_or s r.at 0) 0 e in
          rw (lt-leb (length s) r.at l, byte-ok s r.at l, lt-ltb (get_or s r.at 0) 2 a, e, ne_eqb (get_or s r.at 0) 1 (λ o. omega arith)) (unswept-is r)
      which l false e =
          let z : get_or s r.at 0 ≡ 0 → ⊥ = eqb-false (get_or s r.at 0) 0 e in
          rw (lt-leb (length s) r.at l, byte-ok s r.at l, lt-ltb (get_or s r.at 0) 2 a, e, eq-eqb (get_or s r.at 0) 1 (omega arith), size)
          (raw-is s h g mask initial room (tabulate 64 (λ i. 0)) (r.at + 1) (omega arith) counts)

      inside : Dec (r.at < length s) → announced r ≡ said (bodied h mask initial) (swept_body_by counted_sum s h r mask)
      inside (yes l) = which l (eqb (get_or s r.at 0) 0) refl
      inside (no l) = rw (le-leb (length s) r.at (omega arith), word_at-no 1 s r.at (omega arith))

  -- a constant body
  constant-body : (r : Ranges) → length r.min ≡ 64 → on_some (constants r.min h.depth h.kind) (λ c. linear s h mask c false 0 r.at initial (length initial)) ≡ said (bodied h mask initial) (constant_body h r)
  unfolding constant_body
  constant-body r long = rw (constants-is r.min h.depth h.kind g.depth.1 (omega (arith, g.depth.1)), size) (go (constant_words h.depth h.kind r.min) refl)
    where
      go : (m : Res (List ℕ)) → constant_words h.depth h.kind r.min ≡ m
          → on_some (said (λ ws. over ws (replicate 64 0)) m) (λ c. linear s h mask c false 0 r.at initial (h.columns * h.rows * h.depth))
          ≡ said (bodied h mask initial) (m >>= λ words. ok (body.constant words r.at))
      go (fail q) e = refl
      go (ok ws) e =
          let n : length ws ≡ h.depth = length-constants h.depth h.kind r.min e ∙ (let z : min h.depth (length r.min) ≡ h.depth = omega (arith, g.depth.1) in z) in
          constant-is s h g mask initial room ws (drop (length ws) (replicate 64 0)) r.at n

  -- THE BODY
  pixels-counted : ReadAlike s h → pixels s h mask initial ≡ said (bodied h mask initial) (body_by counted_sum s h mask)
  unfolding pixels body_by
  pixels-counted a = none? (eqb h.valid 0) refl
    where
      formed : (r : Ranges) → ranges_says s h ≡ ok r → (t : Bool)
          → cond t (on_some (constants r.min h.depth h.kind) (λ c. linear s h mask c false 0 r.at initial (length initial))) (announced r) ≡ said (bodied h mask initial) (cond t (constant_body h r) (swept_body_by counted_sum s h r mask))
      formed r e true = constant-body r (ranges-kept s h g.depth.1 a.pair a.begins r e).low
      formed r e false = swept-is r (a.sweep r e)

      read : (m : Res Ranges) → ranges_says s h ≡ m → on_some (said model m) (ranged s h mask initial) ≡ said (bodied h mask initial) (m >>= λ r. cond r.constant (constant_body h r) (swept_body_by counted_sum s h r mask))
      read (ok r) e = formed r e r.constant
      read (fail q) e = refl

      none? : (t : Bool) → eqb h.valid 0 ≡ t → pixels s h mask initial ≡ said (bodied h mask initial) (body_by counted_sum s h mask)
      none? true e =
          let z : h.valid ≡ 0 = eqb-true h.valid 0 e in
          let m : ranges_at h ≡ header_bytes = rw (a.plain z) in
          rw (e, m) (ap (λ (o : List ℕ). some (record { at = header_bytes; image = o })) (image-empty (shape_of h) mask initial (cell_word h mask body.empty) g.depth.0 (counts ∙ z)))
      none? false e = rw (e, ranges-is s h) (read (ranges_says s h) refl)

  pub pixels-is : ReadAlike s h → PixelsIs s h mask initial
  pixels-is a = record {
    pixels-counted = pixels-counted a;
    pixels-ok = rw (pixels-counted a) (accepted (body_says s h mask) (body_by counted_sum s h mask) (body-outline s h mask));
    pixels-same = λ calm. pixels-counted a ∙ ap (said (bodied h mask initial)) (body-calm s h mask calm);
  }
    where
      accepted : (ours theirs : Res body.Body) → (theirs >>= λ y. ok (body_outline y)) ≡ (ours >>= λ y. ok (body_outline y)) → accepts ours ≡ is_some (said (bodied h mask initial) theirs)
      accepted (ok x) (ok y) e = refl
      accepted (fail q) (fail r) e = refl
      accepted (ok x) (fail r) e = absurd (let z : ◌≡◌ {A = ℕ} 0 1 = cc in omega arith)
      accepted (fail q) (ok y) e = absurd (let z : ◌≡◌ {A = ℕ} 0 1 = cc in omega arith)
