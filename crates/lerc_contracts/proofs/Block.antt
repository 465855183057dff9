-- lerc_block.rs: its clauses from ours. "THE BLOCK" says that upstream's mode and cells are our block over its own sum, but for the
-- number of a refusal.
-- Assumes nothing.
use mathlib.Core.Path.{◌≡◌, refl, sym, ap, ◌∙◌}
use mathlib.Core.Bool.{Bool, true, false, cond, ◌||◌}
use mathlib.Core.List.{List}
use mathlib.Core.Logic.{◌⊎◌, inl, inr}
use mathlib.Core.Option.{Option, none, some}
use Prim.Native.Nat.{ℕ, zero, suc, ◌+◌, ◌-◌, ◌*◌, ◌/◌, ◌%◌, ◌≤◌, ◌<◌}
use native.Mathlib.Omega.{arith}
use native.Mathlib.Nat.{suc-mul, zero-mul, add-zero, mul-le-mul_right}
use native.Mathlib.Numerals.{add-one}
use native.Mathlib.Decide.{dec_lt, dec_le}
use borrow.Author.Tests.{le-leb, lt-leb, eq-eqb, ne_eqb, eqb-true, eqb-false}
use lib.Dec.{eqb}
use lib.ListN.{length, get_or, replicate, length-replicate, get_or-replicate}
use Rattle.lerc_words.specs.declared.Refusal.{Refusal}
use Rattle.lerc_words.specs.Res.{Res, ok, fail, ◌>>=◌, require, little, each}
use Rattle.lerc_words.specs.Lists.{tabulate}
use Rattle.lerc_words.proofs.Little.{Bytes, word_at-no}
use Rattle.lerc_words.proofs.Tables.{get_d_tabulate}
use Rattle.lerc_words.proofs.Each.{each_at, each-not}
use Rattle.lerc_numeric.specs.Numeric.{finite, counted_sum, lesser}
use Rattle.lerc_numeric.specs.Kinds.{type_size}
use Rattle.lerc_samples.specs.Samples.{sample_at, stored, offset_kind}
use Rattle.lerc_header.specs.declared.Header.{Header}
use Rattle.lerc_header.specs.Header.{shape_of}
use Rattle.lerc_header.specs.Shape.{Shaped, cells, block_count}
use Rattle.lerc_bits.specs.Bits.{Counts, counts}
use Rattle.lerc_block.specs.Block.{Block, Offset, raw_words, level_block, offset_at, finite_offset, flag_at}
use Rattle.lerc_image.specs.declared.Tile.{Tile}
use Rattle.lerc_image.specs.Geometry.{tile_of}
use Rattle.lerc_image.specs.Paint.{scattered}
use Rattle.lerc_overflow.specs.By.{step_by, stepped_by, offset_by, formed_by, block_by}
use Rattle.lerc_overflow.proofs.Steps.{step_same}
use Rattle.lerc_contracts.specs.Outside.{said, on_some, length_max}
use Rattle.lerc_contracts.specs.Block.{Mode, mode, mode_offset, value, ResultModel, finished, finish, counts_of, block}
use Rattle.lerc_contracts.specs.Between.{valid_of, result}
use Rattle.lerc_contracts.specs.BlockClauses.{BlockIs, ValueCases, ModeCases, OffsetCases}
use Rattle.lerc_contracts.proofs.Bits.{byte-ok, decoded-is}
use Rattle.lerc_contracts.proofs.Walking.{run-all, run_none}

-- ---- `value`

module _ (s : List ℕ) (h : Header) (m : Mode) (q : List ℕ) (at index maximum : ℕ) where
  counted-word : m.flag ≡ 1 → index < length q → (w : ℕ) → stored h.kind (step_by counted_sum h.error maximum m.offset (get_or q index 0)) ≡ ok w → value s h m q at index maximum ≡ some (record { value = w; at = at; q = index + 1 })
  unfolding value step_by lesser
  counted-word f l w e = rw (ne_eqb m.flag 0 (λ e. omega arith), ne_eqb m.flag 2 (λ e. omega arith), ne_eqb m.flag 3 (λ e. omega arith), eq-eqb m.flag 1 f, lt-leb (length q) index l, e)

  counted_none : m.flag ≡ 1 → index < length q → (r : Refusal) → stored h.kind (step_by counted_sum h.error maximum m.offset (get_or q index 0)) ≡ fail r → value s h m q at index maximum ≡ none
  unfolding value step_by lesser
  counted_none f l r e = rw (ne_eqb m.flag 0 (λ e. omega arith), ne_eqb m.flag 2 (λ e. omega arith), ne_eqb m.flag 3 (λ e. omega arith), eq-eqb m.flag 1 f, lt-leb (length q) index l, e)

  pub value-cases : ValueCases s h m q at index maximum
  unfolding value
  value-cases = record {
    raw-past = λ f l. rw (eq-eqb m.flag 0 f, lt-leb (at + type_size h.kind) (length s) l);
    raw_word = λ f l. rw (eq-eqb m.flag 0 f, le-leb (at + type_size h.kind) (length s) l);
    zero_word = λ f. rw (ne_eqb m.flag 0 (λ e. omega arith), eq-eqb m.flag 2 f);
    level-word = λ f w e. rw (ne_eqb m.flag 0 (λ e. omega arith), ne_eqb m.flag 2 (λ e. omega arith), eq-eqb m.flag 3 f, ne_eqb m.flag 1 (λ e. omega arith), e);
    level-none = λ f r e. rw (ne_eqb m.flag 0 (λ e. omega arith), ne_eqb m.flag 2 (λ e. omega arith), eq-eqb m.flag 3 f, ne_eqb m.flag 1 (λ e. omega arith), e);
    step_past = λ f l. rw (ne_eqb m.flag 0 (λ e. omega arith), ne_eqb m.flag 2 (λ e. omega arith), eq-eqb m.flag 1 f, le-leb (length q) index l);
    counted-word = counted-word;
    counted_none = counted_none;
    step-word = λ f l o i w e. counted-word f l w (rw (step_same h.error maximum m.offset (get_or q index 0) o i) at e);
    step-none = λ f l o i r e. counted_none f l r (rw (step_same h.error maximum m.offset (get_or q index 0) o i) at e);
  }

-- ---- `mode`

module _ (s : List ℕ) (at : ℕ) (h : Header) (t : Tile) where
  -- an offset was read
  pub mode-offset : at < length s → eqb (get_or s at 0 / 4 % 16) (t.x / 8 % 16) ≡ true → (eqb (get_or s at 0 % 4) 0 || eqb (get_or s at 0 % 4) 2) ≡ false
      → (k : ℕ) → offset_kind h.kind (get_or s at 0 / 64) ≡ ok k → (v : ℕ) → sample_at k s (at + 1) ≡ ok v → mode s at h t ≡ mode_offset s at (get_or s at 0 % 4) k v
  unfolding mode
  mode-offset l c o k e v d = rw (lt-leb (length s) at l, c, o, e, d)

  pub mode-cases : ModeCases s at h t
  unfolding mode
  mode-cases = record {
    mode-past = λ l. rw (le-leb (length s) at l);
    mode-check = λ l c. rw (lt-leb (length s) at l, c);
    mode-free = λ l c o. rw (lt-leb (length s) at l, c, o);
    mode-kind = λ l c o r e. rw (lt-leb (length s) at l, c, o, e);
    mode-number = λ l c o k e r d. rw (lt-leb (length s) at l, c, o, e, d);
  }

module _ (s : List ℕ) (at f k v : ℕ) where
  pub offset-cases : OffsetCases s at f k v
  offset-cases = record {
    offset-wild = λ e. rw (e);
    offset-level = λ e d. rw (e, d);
    offset-none = λ e d y few r q. rw (e, d, decoded-is s (at + 1 + type_size k) y few, q);
    offset-steps = λ e d y few c q. rw (e, d, decoded-is s (at + 1 + type_size k) y few, q);
  }

-- flags

neither : (f : ℕ) → (eqb f 0 || eqb f 2) ≡ false → (f ≡ 0 → ⊥) × (f ≡ 2 → ⊥)
neither f o = go (eqb f 0) refl (eqb f 2) refl
  where
    go : (t : Bool) → eqb f 0 ≡ t → (u : Bool) → eqb f 2 ≡ u → (f ≡ 0 → ⊥) × (f ≡ 2 → ⊥)
    go false e false d = (eqb-false f 0 e, eqb-false f 2 d)
    go true e u d = absurd (let w = rw (e) at o in let z : ◌≡◌ {A = ℕ} 0 1 = cc in omega arith)
    go false e true d = absurd (let w = rw (e, d) at o in let z : ◌≡◌ {A = ℕ} 0 1 = cc in omega arith)

pub one : (f : ℕ) → f < 4 → (f ≡ 0 → ⊥) → (f ≡ 2 → ⊥) → (f ≡ 3 → ⊥) → f ≡ 1
one f l a b c = omega arith

-- ---- the four forms

module _ (h : Header) (mask : List ℕ) (n : ℕ) (start : List ℕ) (g : Shaped (shape_of h)) (below : n < block_count (shape_of h)) (room : cells (shape_of h) ≤ length start) where
  abbrev many : ℕ
  many = valid_of h mask n

  module _ (s : List ℕ) (m : Mode) (maximum : ℕ) where
    abbrev cells_of : List ℕ → Option ResultModel
    cells_of q = finish s h (tile_of (shape_of h) n) m q mask maximum 0 m.at 0 start 256

    finished-free : (q : List ℕ) (at index : ℕ) (out : List ℕ) → (m.flag ≡ 1 → ⊥) → finished m q at index out ≡ some (record { at = at; image = out })
    finished-free q at index out f = rw (ne_eqb m.flag 1 f)

    raw-is : (q : List ℕ) → m.flag ≡ 0 → m.at ≤ length s → cells_of q ≡ said (result h mask n start) (raw_words s m.at h.kind many)
    unfolding raw_words
    raw-is q f inside = go (dec_le (m.at + many * type_size h.kind) (length s))
      where
        z : ℕ
        z = type_size h.kind

        pos : ℕ → ℕ
        pos i = m.at + i * z

        next : (i : ℕ) → pos i + z ≡ pos (i + 1)
        next i = rw (add-one) (omega (arith, suc-mul i z))

        first : pos 0 ≡ m.at
        first = rw (zero-mul) (add-zero m.at)

        words : List ℕ
        words = tabulate many (λ k. little (type_size h.kind) s (m.at + k * type_size h.kind))

        goes : (i : ℕ) → pos i + z ≤ length s → value s h m q (pos i) 0 maximum ≡ some (record { value = little z s (pos i); at = pos (i + 1); q = 0 })
        goes i l = (value-cases s h m q (pos i) 0 maximum).raw_word f l ∙ rw (next i)

        step : (i : ℕ) → Dec (pos i + z ≤ length s)
            → (value s h m q (pos i) 0 maximum ≡ none) ⊎ ((w : ℕ) × (value s h m q (pos i) 0 maximum ≡ some (record { value = w; at = pos (i + 1); q = 0 })))
        step i (yes l) = inr (little z s (pos i), goes i l)
        step i (no l) = inl ((value-cases s h m q (pos i) 0 maximum).raw-past f (omega arith))

        go : Dec (m.at + many * type_size h.kind ≤ length s) → cells_of q ≡ said (result h mask n start) (raw_words s m.at h.kind many)
        go (yes l) =
            let each : (i : ℕ) → i < many → value s h m q (pos i) 0 maximum ≡ some (record { value = get_or words i 0; at = pos (i + 1); q = 0 }) =
            λ i k. rw (get_d_tabulate many (λ k. little (type_size h.kind) s (m.at + k * type_size h.kind)) i 0 k) (goes i (omega (arith, suc-mul i z, mul-le-mul_right z k))) in
            rw (le-leb (m.at + many * z) (length s) l)
            (run-all h mask n start g below room s m q maximum pos (λ i. 0) first refl words each ∙ finished-free q (pos many) 0 (scattered (shape_of h) mask n words start) (λ e. omega arith))
        go (no l) =
            let k : length s < m.at + many * z = omega arith in
            let o : 0 < many = positive many k in
            let e : pos (many - 1) + z ≡ m.at + many * z = next (many - 1) ∙ ap pos (let x : many - 1 + 1 ≡ many = omega arith in x) in
            rw (lt-leb (m.at + many * z) (length s) k)
            (run_none h mask n start g below room s m q maximum pos (λ i. 0) first refl (λ i _. step i (dec_le (pos i + z) (length s)))
            (inl (many - 1, omega arith, omega arith, (value-cases s h m q (pos (many - 1)) 0 maximum).raw-past f (rw (e) k))))
          where
            positive : (c : ℕ) → length s < m.at + c * z → 0 < c
            positive zero k = absurd (omega (arith, zero-mul z))
            positive (suc c) k = omega arith

    zero_is : (q : List ℕ) → m.flag ≡ 2 → cells_of q ≡ some (result h mask n start (record { words = replicate many 0; next = m.at }))
    zero_is q f =
        run-all h mask n start g below room s m q maximum (λ i. m.at) (λ i. 0) refl refl (replicate many 0) (λ i k. rw (get_or-replicate {A = ℕ} many i 0 0 k) ((value-cases s h m q m.at 0 maximum).zero_word f))
        ∙ finished-free q m.at 0 (scattered (shape_of h) mask n (replicate many 0) start) (λ e. omega arith)

    level-is : (q : List ℕ) → m.flag ≡ 3 → cells_of q ≡ said (result h mask n start) (level_block m.at h.kind m.offset many)
    unfolding level_block
    level-is q f = go (each (stored h.kind) (replicate many m.offset)) refl
      where
        here : (i : ℕ) → i < many → get_or (replicate many m.offset) i 0 ≡ m.offset
        here i k = get_or-replicate many i m.offset 0 k

        step : (w : Res ℕ) → stored h.kind m.offset ≡ w → (value s h m q m.at 0 maximum ≡ none) ⊎ ((w : ℕ) × (value s h m q m.at 0 maximum ≡ some (record { value = w; at = m.at; q = 0 })))
        step (ok w) e = inr (w, (value-cases s h m q m.at 0 maximum).level-word f w e)
        step (fail r) e = inl ((value-cases s h m q m.at 0 maximum).level-none f r e)

        go : (x : Res (List ℕ)) → each (stored h.kind) (replicate many m.offset) ≡ x → cells_of q ≡ said (result h mask n start) (level_block m.at h.kind m.offset many)
        go (ok words) e =
            let at : (i : ℕ) → i < many → stored h.kind m.offset ≡ ok (get_or words i 0) =
            λ i k. rw (← here i k) (each_at (stored h.kind) (replicate many m.offset) i 0 0 e (rw (length-replicate) k)) in
            rw (e)
            (run-all h mask n start g below room s m q maximum (λ i. m.at) (λ i. 0) refl refl words (λ i k. (value-cases s h m q m.at 0 maximum).level-word f (get_or words i 0) (at i k))
            ∙ finished-free q m.at 0 (scattered (shape_of h) mask n words start) (λ e. omega arith))
        go (fail r) e =
            let (i, k, d) = each-not (stored h.kind) (replicate many m.offset) 0 e in
            let k2 : i < many = rw (length-replicate) at k in
            let d2 : stored h.kind m.offset ≡ fail r = rw (here i k2) at d in
            rw (e)
            (run_none h mask n start g below room s m q maximum (λ i. m.at) (λ i. 0) refl refl (λ i _. step (stored h.kind m.offset) refl)
            (inl (i, omega arith, k2, (value-cases s h m q m.at 0 maximum).level-none f r d2)))

    -- the counts were read: their number, then each value
    abbrev told : List ℕ → Res Block
    told q = require (eqb (length q) many) 8 >>= λ _. each (λ c. stored h.kind (step_by counted_sum h.error maximum m.offset c)) q >>= λ words. ok (record { words = words; next = m.at })

    stepped-is : (q : List ℕ) → m.flag ≡ 1 → cells_of q ≡ said (result h mask n start) (told q)
    stepped-is q f = go (eqb (length q) many) refl
      where
        to : ℕ → Res ℕ
        to c = stored h.kind (step_by counted_sum h.error maximum m.offset c)

        step : (i : ℕ) → (value s h m q m.at i maximum ≡ none) ⊎ ((w : ℕ) × (value s h m q m.at i maximum ≡ some (record { value = w; at = m.at; q = i + 1 })))
        step i = here (dec_lt i (length q))
          where
            judged : i < length q → (w : Res ℕ) → to (get_or q i 0) ≡ w → (value s h m q m.at i maximum ≡ none) ⊎ ((w : ℕ) × (value s h m q m.at i maximum ≡ some (record { value = w; at = m.at; q = i + 1 })))
            judged l (ok w) e = inr (w, (value-cases s h m q m.at i maximum).counted-word f l w e)
            judged l (fail r) e = inl ((value-cases s h m q m.at i maximum).counted_none f l r e)

            here : Dec (i < length q) → (value s h m q m.at i maximum ≡ none) ⊎ ((w : ℕ) × (value s h m q m.at i maximum ≡ some (record { value = w; at = m.at; q = i + 1 })))
            here (yes l) = judged l (to (get_or q i 0)) refl
            here (no l) = inl ((value-cases s h m q m.at i maximum).step_past f (omega arith))

        right : length q ≡ many → (x : Res (List ℕ)) → each to q ≡ x → cells_of q ≡ said (result h mask n start) (x >>= λ words. ok (record { words = words; next = m.at }))
        right e (ok words) d =
            run-all h mask n start g below room s m q maximum (λ i. m.at) (λ i. i) refl refl words
            (λ i k. (value-cases s h m q m.at i maximum).counted-word f (omega arith) (get_or words i 0) (each_at to q i 0 0 d (omega arith)))
            ∙ rw (eq-eqb m.flag 1 f, eq-eqb many (length q) (sym e))
        right e (fail r) d =
            let (j, k, b) = each-not to q 0 d in
            run_none h mask n start g below room s m q maximum (λ i. m.at) (λ i. i) refl refl (λ i _. step i)
            (inl (j, omega arith, omega arith, (value-cases s h m q m.at j maximum).counted_none f k r b))

        wrong : (length q ≡ many → ⊥) → Dec (length q < many) → cells_of q ≡ none
        wrong d (yes l) = run_none h mask n start g below room s m q maximum (λ i. m.at) (λ i. i) refl refl (λ i _. step i)
            (inl (length q, omega arith, l, (value-cases s h m q m.at (length q) maximum).step_past f (omega arith)))
        wrong d (no l) = run_none h mask n start g below room s m q maximum (λ i. m.at) (λ i. i) refl refl (λ i _. step i)
            (inr (λ o. rw (eq-eqb m.flag 1 f, ne_eqb many (length q) (λ e. d (sym e)))))

        go : (t : Bool) → eqb (length q) many ≡ t → cells_of q ≡ said (result h mask n start) (told q)
        go true e = rw (e) (right (eqb-true _ _ e) (each to q) refl)
        go false e = rw (e) (wrong (eqb-false _ _ e) (dec_lt (length q) many))

  -- ---- THE BLOCK

  module _ (s : List ℕ) (y : Bytes s) (few : length s ≤ length_max) (maximum at : ℕ) where
    -- what is left of a block whose mode is m
    abbrev rest : Mode → Option ResultModel
    rest m = finish s h (tile_of (shape_of h) n) m (counts_of s m) mask maximum 0 m.at 0 start 256

    steps-rest : (f k v : ℕ) → f ≡ 1 → finite v ≡ true → eqb f 3 ≡ false
        → on_some (mode_offset s at f k v) rest ≡ said (result h mask n start) (stepped_by counted_sum s (at + 1 + type_size k) h.kind h.error maximum v many)
    unfolding stepped_by
    steps-rest f k v o e d = go (counts s (at + 1 + type_size k)) refl
      where
        go : (c : Res Counts) → counts s (at + 1 + type_size k) ≡ c → on_some (mode_offset s at f k v) rest ≡ said (result h mask n start) (stepped_by counted_sum s (at + 1 + type_size k) h.kind h.error maximum v many)
        go (ok c) q =
            rw ((offset-cases s at f k v).offset-steps e d y few c q, q, eq-eqb f 1 o, decoded-is s (at + 1 + type_size k) y few, q)
            (stepped-is s (record { at = c.next; flag = f; offset = v; quant = at + 1 + type_size k; next = c.next }) maximum c.values o)
        go (fail r) q = rw ((offset-cases s at f k v).offset-none e d y few r q, q)

    -- what is left of a block whose offset is v
    abbrev left : ℕ → ℕ → ℕ → Res Block
    left f k v =
        let o : Offset = record { value = v; next = at + 1 + type_size k } in
        (require (finite v) 8 >>= λ _. ok o) >>= λ o. cond (eqb f 3) (level_block o.next h.kind o.value many) (stepped_by counted_sum s o.next h.kind h.error maximum o.value many)

    offset-rest : (f k v : ℕ) → f < 4 → (eqb f 0 || eqb f 2) ≡ false → on_some (mode_offset s at f k v) rest
        ≡ said (result h mask n start) (left f k v)
    offset-rest f k v l o = go (finite v) refl (eqb f 3) refl
      where
        go : (t : Bool) → finite v ≡ t → (u : Bool) → eqb f 3 ≡ u → on_some (mode_offset s at f k v) rest
            ≡ said (result h mask n start) (left f k v)
        go false e u d = rw (e)
        go true e true d =
            let f3 = eqb-true f 3 d in
            let m : Mode = record { at = at + 1 + type_size k; flag = f; offset = v; quant = 0; next = at + 1 + type_size k } in
            rw ((offset-cases s at f k v).offset-level e d, e, d) (level-is s m maximum (counts_of s m) f3)
        go true e false d =
            let a = neither f o in
            let b : f ≡ 3 → ⊥ = eqb-false f 3 d in
            let f1 : f ≡ 1 = one f l a.0 a.1 b in
            rw (e, d) (rw (e, d) at (steps-rest f k v f1 e d))

    pub block-is : BlockIs h mask n start s maximum at
    unfolding block block_by flag_at formed_by offset_by finite_offset offset_at
    block-is = within (dec_lt at (length s))
      where
        t : Tile
        t = tile_of (shape_of h) n

        flag : ℕ
        flag = get_or s at 0

        free_mode : Mode
        free_mode = record { at = at + 1; flag = flag % 4; offset = 0; quant = 0; next = at + 1 }

        numbers : at < length s → eqb (flag / 4 % 16) (t.x / 8 % 16) ≡ true → (eqb (flag % 4) 0 || eqb (flag % 4) 2) ≡ false → (k : ℕ) → offset_kind h.kind (flag / 64) ≡ ok k → (v : Res ℕ) → sample_at k s (at + 1) ≡ v
            → block s h t mask maximum at start ≡ said (result h mask n start) (offset_by counted_sum s (at + 1) h.kind h.error maximum flag many)
        numbers l c o k e (ok v) d = rw (mode-offset s at h t l c o k e v d, e, d) (offset-rest (flag % 4) k v (omega arith) o)
        numbers l c o k e (fail r) d = rw ((mode-cases s at h t).mode-number l c o k e r d, e, d)

        kinds : at < length s → eqb (flag / 4 % 16) (t.x / 8 % 16) ≡ true → (eqb (flag % 4) 0 || eqb (flag % 4) 2) ≡ false → (k : Res ℕ) → offset_kind h.kind (flag / 64) ≡ k
            → block s h t mask maximum at start ≡ said (result h mask n start) (offset_by counted_sum s (at + 1) h.kind h.error maximum flag many)
        kinds l c o (ok k) e = numbers l c o k e (sample_at k s (at + 1)) refl
        kinds l c o (fail r) e = rw ((mode-cases s at h t).mode-kind l c o r e, e)

        free : at < length s → eqb (flag / 4 % 16) (t.x / 8 % 16) ≡ true → (u : Bool) → eqb (flag % 4) 0 ≡ u → (w : Bool) → eqb (flag % 4) 2 ≡ w
            → block s h t mask maximum at start ≡ said (result h mask n start) (formed_by counted_sum s (at + 1) h.kind h.error maximum flag many)
        free l c true e w d = rw ((mode-cases s at h t).mode-free l c (rw (e)), e) (raw-is s free_mode maximum (counts_of s free_mode) (eqb-true _ _ e) (omega arith))
        free l c false e true d = rw ((mode-cases s at h t).mode-free l c (rw (e, d)), e, d) (zero_is s free_mode maximum (counts_of s free_mode) (eqb-true _ _ d))
        free l c false e false d = rw (e, d) (kinds l c (rw (e, d)) (offset_kind h.kind (flag / 64)) refl)

        checked : at < length s → (c : Bool) → eqb (flag / 4 % 16) (t.x / 8 % 16) ≡ c → block s h t mask maximum at start ≡ said (result h mask n start) (block_by counted_sum s at h.kind h.error maximum t.x many)
        checked l false c = rw ((mode-cases s at h t).mode-check l c, byte-ok s at l, c)
        checked l true c = rw (byte-ok s at l, c) (free l c (eqb (flag % 4) 0) refl (eqb (flag % 4) 2) refl)

        within : Dec (at < length s) → block s h t mask maximum at start ≡ said (result h mask n start) (block_by counted_sum s at h.kind h.error maximum t.x many)
        within (yes l) = checked l (eqb (flag / 4 % 16) (t.x / 8 % 16)) refl
        within (no l) = rw ((mode-cases s at h t).mode-past (omega arith), word_at-no 1 s at (omega arith))
