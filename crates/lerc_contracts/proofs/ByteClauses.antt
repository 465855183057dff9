-- lerc_byte_image.rs, clause by clause, from the promises of `lerc_byte_image::check` and of `lerc_byte_image::write`, and from
-- what `lerc` does behind an accepted mask where the body is a Huffman image.
-- Assumes nothing.
use mathlib.Core.Path.{◌≡◌, refl, sym, ap, ◌∙◌}
use mathlib.Core.Bool.{Bool, true, false, cond}
use mathlib.Core.List.{List}
use mathlib.Core.Option.{some}
use Prim.Native.Nat.{ℕ, ◌+◌, ◌*◌, ◌≤◌, ◌<◌}
use native.Mathlib.Omega.{arith}
use native.Mathlib.Nat.{mul_comm}
use borrow.Author.Tests.{leb-true, ltb-true}
use lib.Dec.{leb, ltb, eqb}
use lib.ListN.{length, get_or, take}
use Rattle.lerc_words.specs.declared.Refusal.{Refusal}
use Rattle.lerc_words.specs.Res.{Res, ok, fail, ◌>>=◌, refuse, marked, after, accepts}
use Rattle.lerc_words.proofs.Binding.{bind_is, ok-is, and_is}
use Rattle.lerc_words.proofs.Little.{word_at-no}
use Rattle.lerc_header.specs.declared.Header.{Header}
use Rattle.lerc_header.specs.declared.Extent.{Extent}
use Rattle.lerc_header.specs.Header.{shape_of, held, extent_of}
use Rattle.lerc_header.specs.Shape.{Shaped, pixels, cells}
use Rattle.lerc_header.proofs.Kept.{held-is, held-shaped}
use Rattle.lerc_mask.specs.Mask.{valid_below}
use Rattle.lerc_sweep.specs.Sweep.{raw_from, blocks_from, huffman_from, has_mode_byte, mode_at, moded, sweep_byte, swept}
use Rattle.lerc_image.specs.Geometry.{is_valid_cell}
use Rattle.lerc_image.specs.Paint.{painted}
use Rattle.lerc_image.proofs.Painting.{length-painted, painted-cell, painted-words}
use Rattle.lerc_image.proofs.Upto.{valid-below}
use Rattle.lerc_byte_image.specs.Table.{Table, range_at, table_at}
use Rattle.lerc_byte_image.specs.Symbols.{Coded, coded_at}
use Rattle.lerc_byte_image.specs.Prediction.{byte_word}
use Rattle.lerc_byte_image.specs.Image.{image_at, checked_image, ended, symbol_no, by_table, write_table, written_image}
use Rattle.lerc_byte_image.proofs.Written.{byte-same, byte_small, image-symbols}
use Rattle.lerc_validity.specs.Validity.{MaskTold}
use Rattle.lerc.specs.declared.Staged.{Staged}
use Rattle.lerc.specs.Meaning.{Body, huffman, huffman_body, end_of, cell_word}
use Rattle.lerc.specs.Stage.{staged_body}
use Rattle.lerc.specs.Parts.{Ready, BodyRead}
use Rattle.lerc_contracts.specs.Outside.{said, is_some}
use Rattle.lerc_contracts.specs.ByteImage.{decoded}
use Rattle.lerc_contracts.specs.Between.{imaged, bodied, image_room, their_bytes}
use Rattle.lerc_contracts.specs.ByteClauses.{DecodeBytesClauses, ReadBytesClauses}
use Rattle.lerc_contracts.proofs.WithoutNumber.{told-some, said-marked, result-is}
use Rattle.lerc_contracts.proofs.ImageClauses.{read-body, linear-ok, linear-result}
use Rattle.lerc_contracts.proofs.ByteImage.{bytes-is}

-- ---- what `decode` asks

-- 6.12
pub bytes-kind : (s : List ℕ) (kind error at : ℕ) (delta : Bool) (mode : ℕ) → swept s kind error at ≡ ok (huffman_from delta mode) → kind < 2
unfolding swept moded
bytes-kind s kind error at delta mode e =
    let (sweep, _, e) = bind_is (marked at (sweep_byte s at)) _ e in
    go (eqb sweep 1) (has_mode_byte kind error) refl e
  where
    go : (raw coded : Bool) → has_mode_byte kind error ≡ coded → cond raw (ok (raw_from (at + 1))) (cond coded (mode_at s (at + 1)) (ok (blocks_from (at + 1)))) ≡ ok (huffman_from delta mode) → kind < 2
    go true coded c e = absurd (let z : ◌≡◌ {A = ℕ} 0 1 = cc in omega arith)
    go false true c e = ltb-true kind 2 (and_is (ltb kind 2) (eqb error 0x3fe0000000000000) c).0
    go false false c e = absurd (let z : ◌≡◌ {A = ℕ} 0 1 = cc in omega arith)

-- 6.13
pub bytes-start : (s : List ℕ) (start n : ℕ) → length s < start → coded_at s start n ≡ fail (refuse 1)
unfolding coded_at table_at range_at
bytes-start s start n l = rw (word_at-no 4 s start (omega arith))

-- ---- `decode`

module _ (b : List ℕ) (h : Header) (mask : List ℕ) (mode : ℕ) (delta : Bool) (r : Res ℕ) (old new : List ℕ)
    (checked : r ≡ ended (checked_image b h mode)) (written : new ≡ written_image b h mode delta mask old) where
  -- the blob cut at its size
  abbrev cut : List ℕ
  cut = take h.size b

  abbrev word_by : Table → ℕ → ℕ
  word_by t = byte_word (shape_of h) h.kind delta mask (symbol_no cut t 0)

  -- nothing is written, or every valid cell
  left : (P : List ℕ → Type 0) → P old → ((t : Table) → P (painted old (is_valid_cell (shape_of h) mask) (word_by t))) → P new
  unfolding written_image by_table
  left P same all = rw (written) (go (write_table b h mode (length mask) (length old)))
    where
      go : (m : Res Table) → P (after m old (by_table cut h delta mask old))
      go (ok t) = all t
      go (fail q) = same

  rest : (j : ℕ) → h.columns * h.rows * h.depth ≤ j → j < length old → get_or new j 0 ≡ get_or old j 0
  rest j l o = left (λ x. get_or x j 0 ≡ get_or old j 0) refl (λ t. painted-cell old (word_by t) (is_valid_cell (shape_of h) mask) j o ∙ go t (is_valid_cell (shape_of h) mask j) refl)
    where
      go : (t : Table) (v : Bool) → is_valid_cell (shape_of h) mask j ≡ v → cond v (word_by t j) (get_or old j 0) ≡ get_or old j 0
      go t false e = refl
      go t true e =
          let k : cells (shape_of h) ≤ j = rw (← mul_comm h.columns h.rows) l in
          absurd (omega (arith, valid-below (shape_of h) mask j e))

  small : (i : ℕ) → i < length old → get_or old i 0 ≤ 255 → get_or new i 0 ≤ 255
  small i o low = left (λ x. get_or x i 0 ≤ 255) low (λ t. rw (painted-cell old (word_by t) (is_valid_cell (shape_of h) mask) i o) (go t (is_valid_cell (shape_of h) mask i) refl))
    where
      go : (t : Table) (v : Bool) → is_valid_cell (shape_of h) mask i ≡ v → cond v (word_by t i) (get_or old i 0) ≤ 255
      go t true e = byte_small (shape_of h) h.kind delta mask (symbol_no cut t 0) i e
      go t false e = low

  -- what was accepted
  accepted : (end : ℕ) → r ≡ ok end → (c : Coded) × (image_at cut h mode ≡ ok c) × (end ≡ c.end)
  unfolding checked_image
  accepted end e =
      let (c, d, e) = bind_is (checked_image b h mode) _ (sym checked ∙ e) in
      let (_, _, d) = bind_is (held h (length b)) _ d in
      (c, d, sym (ok-is e))

  module _ (e : Extent) (k : held h (length b) ≡ ok e) (wide : image_room e mask old ≡ true) where
    room : cells (shape_of h) ≤ length old
    room =
        let i : e ≡ extent_of h = held-is h (length b) k in
        rw (i) at (leb-true e.cells (length old) (and_is (leb e.mask (length mask)) (leb e.cells (length old)) wide).1)

    -- every valid cell is written
    now-is : (c : Coded) → image_at cut h mode ≡ ok c
        → (t : Table) × (new ≡ painted old (is_valid_cell (shape_of h) mask) (word_by t)) × ((i : ℕ) → i < h.valid * h.depth → get_or c.symbols i 0 ≡ symbol_no cut t 0 i)
    unfolding written_image write_table by_table
    now-is c i = let (t, a, _, same, _, _) = image-symbols cut h mode i in (t, written ∙ rw (k, wide, a), same)

    module _ (counts : valid_below (pixels (shape_of h)) mask ≡ h.valid) where
      their-bytes : their_bytes b h mask mode delta old ≡ said (imaged h mask delta old) (image_at cut h mode)
      unfolding image_at
      their-bytes =
          bytes-is cut h (held-shaped h (length b) k) mask (mode + 1) delta old room
          ∙ rw (counts) (sym (said-marked (imaged h mask delta old) mode (coded_at cut (mode + 1) (h.valid * h.depth))))

      bytes_ok : accepts r ≡ is_some (their_bytes b h mask mode delta old)
      unfolding checked_image
      bytes_ok = rw (checked, k, their-bytes) (told-some (λ c. c.end) (imaged h mask delta old) (image_at cut h mode))

      bytes-result : (end : ℕ) → r ≡ ok end → their_bytes b h mask mode delta old ≡ some (record { at = end; image = new })
      bytes-result end d =
          let (c, i, z) = accepted end d in
          let (t, w, same) = now-is c i in
          let o : new ≡ painted old (is_valid_cell (shape_of h) mask) (byte_word (shape_of h) h.kind delta mask (λ j. get_or c.symbols j 0)) =
          w ∙ painted-words old _ _ (is_valid_cell (shape_of h) mask)
          (λ p v. byte-same (shape_of h) h.kind delta mask (symbol_no cut t 0) (λ j. get_or c.symbols j 0) p (held-shaped h (length b) k).depth.0 v (λ j l. sym (same j (rw (counts) at l)))) in
          their-bytes ∙ ap (said (imaged h mask delta old)) i ∙ sym (result-is z o)

  pub decode-bytes-clauses : DecodeBytesClauses b h mask mode delta r old new
  unfolding checked_image written_image write_table
  decode-bytes-clauses = record {
    bytes-held = λ q e. (checked ∙ rw (e), written ∙ rw (e));
    bytes-room = λ e k t. written ∙ rw (k, t);
    bytes-length = left (λ x. length x ≡ length old) refl (λ t. length-painted old (word_by t) (is_valid_cell (shape_of h) mask));
    bytes_ok = bytes_ok;
    bytes-result = bytes-result;
    bytes_inside = λ end d. let (c, i, z) = accepted end d in let (_, _, _, _, x, y) = image-symbols cut h mode i in rw (z) (y, x);
    bytes_small = small;
    bytes-valid = λ e k wide end d i v. let (c, a, _) = accepted end d in
        let (t, w, _) = now-is e k wide c a in
        let o : i < length old = omega (arith, valid-below (shape_of h) mask i v, room e k wide) in
        rw (w, painted-cell old (word_by t) (is_valid_cell (shape_of h) mask) i o, v) (byte_small (shape_of h) h.kind delta mask (symbol_no cut t 0) i v);
    bytes_rest = rest;
  }

-- ---- a read

-- OUR BODY
pub huffman-is : (s : List ℕ) (h : Header) → Shaped (shape_of h) → (mask image : List ℕ) → cells (shape_of h) ≤ length image → valid_below (pixels (shape_of h)) mask ≡ h.valid
    → (mode : ℕ) (delta : Bool) → decoded s h mask (mode + 1) delta image ≡ said (bodied h mask image) (huffman_body s h delta mode)
unfolding huffman_body image_at cell_word
huffman-is s h g mask image room counts mode delta = bytes-is s h g mask (mode + 1) delta image room ∙ rw (counts) (go (coded_at s (mode + 1) (h.valid * h.depth)))
  where
    go : (m : Res Coded) → said (imaged h mask delta image) m ≡ said (bodied h mask image) (marked mode m >>= λ c. ok (huffman delta c.symbols c.end))
    go (ok c) = refl
    go (fail q) = refl

module _ (s : List ℕ) (h : Header) (mode : ℕ) (delta : Bool) (force : Res MaskTold) (mask : List ℕ) (a : Res Staged) (old new : List ℕ) (ready : Ready s h mask) (image : cells (shape_of h) ≤ length old)
    (promise : BodyRead (huffman_body s h delta mode) h force mask a old new) where
  same_bytes : decoded s h mask (mode + 1) delta old ≡ said (bodied h mask old) (huffman_body s h delta mode)
  same_bytes = huffman-is s h (held-shaped h (length s) ready.header) mask old image ready.counts mode delta

  inside : (c : Body) → huffman_body s h delta mode ≡ ok c → (mode + 1 < end_of c) × (end_of c ≤ length s)
  unfolding huffman_body
  inside c e =
      let (x, i, e) = bind_is (image_at s h mode) _ e in
      let (_, _, _, _, u, v) = image-symbols s h mode i in
      rw (← ok-is e) (v, u)

  unwritten : (q : Refusal) → a ≡ fail q → (m : Res Body) → huffman_body s h delta mode ≡ m → new ≡ old
  unwritten q e (ok c) d = absurd (let z : ◌≡◌ {A = Res Staged} (fail q) (ok (staged_body h force c)) = sym e ∙ promise.says ∙ rw (d) in let o : ◌≡◌ {A = ℕ} 0 1 = cc in omega arith)
  unwritten q e (fail r) d = promise.image ∙ rw (d)

  pub read-bytes-clauses : ReadBytesClauses s h mask mode delta a old new
  read-bytes-clauses = record {
    read-bytes-ok = linear-ok (huffman_body s h delta mode) h force mask a old new promise (decoded s h mask (mode + 1) delta old) same_bytes;
    read-bytes-result = linear-result (huffman_body s h delta mode) h force mask a old new promise (decoded s h mask (mode + 1) delta old) same_bytes;
    read-bytes-inside = λ w e. let (c, d, p, _) = read-body (huffman_body s h delta mode) h force mask a old new promise w e (huffman_body s h delta mode) refl in
        rw (p) (inside c d);
    read-bytes-kept = λ q e. unwritten q e (huffman_body s h delta mode) refl;
  }
