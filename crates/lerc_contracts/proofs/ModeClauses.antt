-- lerc_block.rs: `read_mode`, clause by clause, from the promises of `lerc_block::inspect_block` and `lerc_bits::decode_plan`.
-- "THE MODE" says that upstream's mode is the plan of a block whose counts are accepted, but for the number of a refusal.
-- Assumes nothing.
use Prim.{Unit, tt}
use mathlib.Core.Path.{◌≡◌, refl, sym, ap, ◌∙◌}
use mathlib.Core.Bool.{Bool, true, false, ◌||◌}
use mathlib.Core.List.{List}
use mathlib.Core.Option.{Option, none, some}
use Prim.Native.Nat.{ℕ, ◌+◌, ◌*◌, ◌/◌, ◌%◌, ◌≤◌, ◌<◌}
use native.Mathlib.Omega.{arith}
use native.Mathlib.Nat.{zero-mul}
use native.Mathlib.Decide.{dec_lt}
use borrow.Author.Tests.{le-leb, eqb-true, eqb-false}
use lib.Dec.{leb, eqb}
use lib.ListN.{length, get_or, take}
use Rattle.lerc_words.specs.declared.Refusal.{Refusal}
use Rattle.lerc_words.specs.Res.{Res, ok, fail, ◌>>=◌, marked, require, word_at, accepts}
use Rattle.lerc_words.proofs.Binding.{bind_is, ok-is, cond-elim}
use Rattle.lerc_words.proofs.Marking.{marked-is}
use Rattle.lerc_words.proofs.Little.{Bytes, word_at-no}
use Rattle.lerc_numeric.specs.Numeric.{finite}
use Rattle.lerc_numeric.specs.Kinds.{type_size, value_of}
use Rattle.lerc_samples.specs.Samples.{sample_at, offset_kind}
use Rattle.lerc_samples.proofs.Reading.{sample-is}
use Rattle.lerc_header.specs.declared.Header.{Header}
use Rattle.lerc_bits.specs.declared.Plan.{Plan}
use Rattle.lerc_bits.specs.Bits.{Span, Counts, plan, counts, counts_by, spanned, CountsDecoded}
use Rattle.lerc_bits.proofs.Returns.{counts-no}
use Rattle.lerc_bits.proofs.Plans.{counts-by-plan}
use Rattle.lerc_bits.proofs.Values.{counts-plan, counts-ends, counts-few}
use Rattle.lerc_block.specs.declared.plan.Steps.{Steps}
use Rattle.lerc_block.specs.declared.plan.Form.{Form}
use Rattle.lerc_block.specs.declared.plan.Form.TheVariants as coded
use Rattle.lerc_block.specs.declared.plan.BlockPlan.{BlockPlan}
use Rattle.lerc_block.specs.Block.{flag_at}
use Rattle.lerc_block.specs.Plan.{raw_plan, finite_word, stepped_plan, offset_plan, form_plan, plan_at, plan_says}
use Rattle.lerc_block.specs.Check.{read_flag}
use Rattle.lerc_block.proofs.Planning.{plan-flagged}
use Rattle.lerc_image.specs.declared.Tile.{Tile}
use Rattle.lerc_contracts.specs.Outside.{said, is_some, length_max}
use Rattle.lerc_contracts.specs.Bits.{decoded}
use Rattle.lerc_contracts.specs.Block.{Mode, mode, mode_offset}
use Rattle.lerc_contracts.specs.ReadMode.{mode_of_form, mode_of, CountsCalled, SecondCall, counts_taken, mode_taken, counts_number}
use Rattle.lerc_contracts.specs.Between.{counted_form, counted_plan, items}
use Rattle.lerc_contracts.specs.BlockClauses.{ReadModeClauses}
use Rattle.lerc_contracts.proofs.Bits.{byte-ok, decoded-is, accepted-marked, decode-clauses}
use Rattle.lerc_contracts.proofs.Block.{mode-cases, mode-offset, offset-cases, one}

module _ (s : List ℕ) (y : Bytes s) (few : length s ≤ length_max) (at : ℕ) (h : Header) (t : Tile) where
  abbrev flag : ℕ
  flag = get_or s at 0

  abbrev Same : Type 0
  Same = mode s at h t ≡ said (mode_of at) (plan_says s at h.kind t.x 0 >>= counted_plan s)

  past_same : length s ≤ at → Same
  unfolding plan_says plan_at flag_at
  past_same l = rw ((mode-cases s at h t).mode-past l, word_at-no 1 s at (omega arith))

  module _ (l : at < length s) where
    check-same : eqb (flag / 4 % 16) (t.x / 8 % 16) ≡ false → Same
    unfolding plan_says plan_at flag_at
    check-same c = rw ((mode-cases s at h t).mode-check l c, byte-ok s at l, c)

    module _ (c : eqb (flag / 4 % 16) (t.x / 8 % 16) ≡ true) where
      raw_same : eqb (flag % 4) 0 ≡ true → Same
      unfolding plan_says plan_at flag_at form_plan raw_plan
      raw_same e =
          let z : at + 1 + 0 * type_size h.kind ≤ length s = omega (arith, zero-mul (type_size h.kind)) in
          rw ((mode-cases s at h t).mode-free l c (rw (e)), byte-ok s at l, c, e, le-leb _ _ z, eqb-true (flag % 4) 0 e)

      zero_same : eqb (flag % 4) 0 ≡ false → eqb (flag % 4) 2 ≡ true → Same
      unfolding plan_says plan_at flag_at form_plan
      zero_same e d = rw ((mode-cases s at h t).mode-free l c (rw (e, d)), byte-ok s at l, c, e, d, eqb-true (flag % 4) 2 d)

      module _ (e : eqb (flag % 4) 0 ≡ false) (d : eqb (flag % 4) 2 ≡ false) where
        kind-same : (r : Refusal) → offset_kind h.kind (flag / 64) ≡ fail r → Same
        unfolding plan_says plan_at flag_at form_plan offset_plan
        kind-same r o = rw ((mode-cases s at h t).mode-kind l c (rw (e, d)) r o, byte-ok s at l, c, e, d, o)

        module _ (k : ℕ) (o : offset_kind h.kind (flag / 64) ≡ ok k) where
          word_same : (r : Refusal) → word_at (type_size k) s (at + 1) ≡ fail r → Same
          unfolding plan_says plan_at flag_at form_plan offset_plan finite_word sample_at
          word_same r v = rw ((mode-cases s at h t).mode-number l c (rw (e, d)) k o r (rw (v)), byte-ok s at l, c, e, d, o, v)

          module _ (w : ℕ) (v : word_at (type_size k) s (at + 1) ≡ ok w) where
            abbrev to : ℕ
            to = at + 1 + type_size k

            behind : mode s at h t ≡ mode_offset s at (flag % 4) k (value_of k w)
            unfolding sample_at
            behind = mode-offset s at h t l c (rw (e, d)) k o (value_of k w) (rw (v))

            wild-same : finite (value_of k w) ≡ false → Same
            unfolding plan_says plan_at flag_at form_plan offset_plan finite_word
            wild-same f = rw (behind, (offset-cases s at (flag % 4) k (value_of k w)).offset-wild f, byte-ok s at l, c, e, d, o, v, f)

            module _ (f : finite (value_of k w) ≡ true) where
              level-same : eqb (flag % 4) 3 ≡ true → Same
              unfolding plan_says plan_at flag_at form_plan offset_plan finite_word
              level-same b = rw (behind, (offset-cases s at (flag % 4) k (value_of k w)).offset-level f b, byte-ok s at l, c, e, d, o, v, f, b, eqb-true (flag % 4) 3 b)

              module _ (b : eqb (flag % 4) 3 ≡ false) where
                low : flag % 4 ≡ 1
                low = one (flag % 4) (omega arith) (eqb-false _ _ e) (eqb-false _ _ d) (eqb-false _ _ b)

                unplanned-same : (r : Refusal) → plan s to ≡ fail r → Same
                unfolding plan_says plan_at flag_at form_plan offset_plan finite_word stepped_plan
                unplanned-same r q = rw (behind, (offset-cases s at (flag % 4) k (value_of k w)).offset-none f b y few r (counts-no s to q), byte-ok s at l, c, e, d, o, v, f, b, q)

                module _ (p : Plan) (q : plan s to ≡ ok p) where
                  by : counts s to ≡ counts_by s p
                  by = counts-by-plan s to y q

                  refused-same : (r : Refusal) → counts_by s p ≡ fail r → Same
                  unfolding plan_says plan_at flag_at form_plan offset_plan finite_word stepped_plan
                  refused-same r n = rw (behind, (offset-cases s at (flag % 4) k (value_of k w)).offset-none f b y few r (by ∙ n), byte-ok s at l, c, e, d, o, v, f, b, q, n)

                  counted_same : (m : Counts) → counts_by s p ≡ ok m → Same
                  unfolding plan_says plan_at flag_at form_plan offset_plan finite_word stepped_plan
                  counted_same m n =
                      rw (behind, (offset-cases s at (flag % 4) k (value_of k w)).offset-steps f b y few m (by ∙ n), byte-ok s at l, c, e, d, o, v, f, b, q, n, low, (counts-plan s to q (by ∙ n)).1)

                  steps-same : Same
                  steps-same = go (counts_by s p) refl
                    where
                      go : (m : Res Counts) → counts_by s p ≡ m → Same
                      go (ok m) n = counted_same m n
                      go (fail r) n = refused-same r n

                stepped_same : Same
                stepped_same = go (plan s to) refl
                  where
                    go : (m : Res Plan) → plan s to ≡ m → Same
                    go (ok p) q = steps-same p q
                    go (fail r) q = unplanned-same r q

              finite-same : Same
              finite-same = go (eqb (flag % 4) 3) refl
                where
                  go : (b : Bool) → eqb (flag % 4) 3 ≡ b → Same
                  go true b = level-same b
                  go false b = stepped_same b

            number_same : Same
            number_same = go (finite (value_of k w)) refl
              where
                go : (f : Bool) → finite (value_of k w) ≡ f → Same
                go true f = finite-same f
                go false f = wild-same f

          named-same : Same
          named-same = go (word_at (type_size k) s (at + 1)) refl
            where
              go : (m : Res ℕ) → word_at (type_size k) s (at + 1) ≡ m → Same
              go (ok w) v = number_same w v
              go (fail r) v = word_same r v

        offset-same : Same
        offset-same = go (offset_kind h.kind (flag / 64)) refl
          where
            go : (m : Res ℕ) → offset_kind h.kind (flag / 64) ≡ m → Same
            go (ok k) o = named-same k o
            go (fail r) o = kind-same r o

      formed-same : Same
      formed-same = go (eqb (flag % 4) 0) refl (eqb (flag % 4) 2) refl
        where
          go : (u : Bool) → eqb (flag % 4) 0 ≡ u → (w : Bool) → eqb (flag % 4) 2 ≡ w → Same
          go true e w d = raw_same e
          go false e true d = zero_same e d
          go false e false d = offset-same e d

    flagged-same : Same
    flagged-same = go (eqb (flag / 4 % 16) (t.x / 8 % 16)) refl
      where
        go : (u : Bool) → eqb (flag / 4 % 16) (t.x / 8 % 16) ≡ u → Same
        go true c = formed-same c
        go false c = check-same c

  -- THE MODE
  pub mode-is : mode s at h t ≡ said (mode_of at) (plan_says s at h.kind t.x 0 >>= counted_plan s)
  mode-is = go (dec_lt at (length s))
    where
      go : Dec (at < length s) → Same
      go (yes l) = flagged-same l
      go (no l) = past_same (omega arith)

-- ---- counts are planned behind the offset

abbrev Placed : List ℕ → ℕ → Form → Type 0
Placed s at (coded.Raw place) = Unit {0}
Placed s at coded.Zero = Unit {0}
Placed s at (coded.Level o) = Unit {0}
Placed s at (coded.Stepped steps) = plan s (at + 1 + type_size steps.offset.kind) ≡ ok steps.counts

module _ (s : List ℕ) (at kind : ℕ) {p : BlockPlan} where
  given-placed : (q : BlockPlan) → Placed s at q.form → ok q ≡ ok p → Placed s at p.form
  given-placed q g e = rw (← ok-is e) g

  steps-placed : (w k : ℕ) → stepped_plan s (at + 1 + type_size k) (record { word = w; kind = k }) ≡ ok p → Placed s at p.form
  unfolding stepped_plan
  steps-placed w k e =
      let (c, q, e) = bind_is (plan s (at + 1 + type_size k)) _ e in
      given-placed _ q e

  offset-placed : (flag : ℕ) → offset_plan s (at + 1) kind flag ≡ ok p → Placed s at p.form
  unfolding offset_plan
  offset-placed flag e =
      let (k, q, e) = bind_is (offset_kind kind (flag / 64)) _ e in
      let (w, v, e) = bind_is (finite_word k s (at + 1)) _ e in
      cond-elim (λ (m : Res BlockPlan). m ≡ ok p → Placed s at p.form) (eqb (flag % 4) 3)
      (λ z. given-placed (record { form = coded.Level (record { word = w; kind = k }); next = at + 1 + type_size k }) tt) (λ z. steps-placed w k) e

  raw-placed : (n : ℕ) → raw_plan (length s) (at + 1) kind n ≡ ok p → Placed s at p.form
  unfolding raw_plan
  raw-placed n e = let (b, q, e) = bind_is (require (leb (at + 1 + n * type_size kind) (length s)) 1) _ e in given-placed _ tt e

  form-placed : (n flag : ℕ) → form_plan s (at + 1) kind flag n ≡ ok p → Placed s at p.form
  unfolding form_plan
  form-placed n flag =
      cond-elim (λ (m : Res BlockPlan). m ≡ ok p → Placed s at p.form) (eqb (flag % 4) 0)
      (λ z. raw-placed n)
      (λ z. cond-elim (λ (m : Res BlockPlan). m ≡ ok p → Placed s at p.form) (eqb (flag % 4) 2) (λ u. given-placed (record { form = coded.Zero; next = at + 1 }) tt) (λ u. offset-placed flag))

  plan-placed : (x n : ℕ) → plan_says s at kind x n ≡ ok p → Placed s at p.form
  plan-placed x n e =
      let (flag, q, e) = bind_is (read_flag s at x n) _ (sym (plan-flagged s at kind x n) ∙ e) in
      form-placed n flag e

-- ---- what an accepted mode keeps to: its place and flag; where the flag is 1, its counts

record ModeKept (s : List ℕ) (at : ℕ) (m : Mode) : Type 0 where
  behind : at < m.at
  inside : m.at ≤ length s
  flag : m.flag < 4
  counted : m.flag ≡ 1 → (q : List ℕ) × (decoded s m.quant ≡ some (record { end = m.at; values = q })) × (length q ≤ 256)

abbrev Keeps : List ℕ → ℕ → Option Mode → Type 0
Keeps s at none = Unit
Keeps s at (some m) = ModeKept s at m

module _ (s : List ℕ) (y : Bytes s) (few : length s ≤ length_max) (at : ℕ) (h : Header) (t : Tile) where
  free-kept : at < length s → (f : ℕ) → (eqb f 0 || eqb f 2) ≡ true → f < 4 → ModeKept s at (record { at = at + 1; flag = f; offset = 0; quant = 0; next = at + 1 })
  free-kept l f o b = record { behind = omega arith; inside = omega arith; flag = b; counted = λ e. absurd (let w : (eqb f 0 || eqb f 2) ≡ false = rw (e) in let z : ◌≡◌ {A = ℕ} 0 1 = cc in omega arith) }

  offset-kept : (f k v : ℕ) → f < 4 → at + 1 + type_size k ≤ length s → Keeps s at (mode_offset s at f k v)
  offset-kept f k v b l = go (finite v) refl (eqb f 3) refl
    where
      many : finite v ≡ true → eqb f 3 ≡ false → (c : Res Counts) → counts s (at + 1 + type_size k) ≡ c → Keeps s at (mode_offset s at f k v)
      many e d (fail r) q = rw ((offset-cases s at f k v).offset-none e d y few r q) tt
      many e d (ok c) q =
          let z = counts-ends s (at + 1 + type_size k) q in
          rw ((offset-cases s at f k v).offset-steps e d y few c q) (record {
            behind = omega arith;
            inside = z.1;
            flag = b;
            counted = λ _. (c.values, decoded-is s (at + 1 + type_size k) y few ∙ ap (said items) q, counts-few s (at + 1 + type_size k) q);
          })

      go : (u : Bool) → finite v ≡ u → (w : Bool) → eqb f 3 ≡ w → Keeps s at (mode_offset s at f k v)
      go false e w d = rw ((offset-cases s at f k v).offset-wild e) tt
      go true e true d = rw ((offset-cases s at f k v).offset-level e d) (record { behind = omega arith; inside = l; flag = b; counted = λ z. absurd (let x = eqb-true f 3 d in omega arith) })
      go true e false d = many e d (counts s (at + 1 + type_size k)) refl

  mode-keeps : Keeps s at (mode s at h t)
  mode-keeps = within (dec_lt at (length s))
    where
      flag : ℕ
      flag = get_or s at 0

      numbers : (l : at < length s) (c : eqb (flag / 4 % 16) (t.x / 8 % 16) ≡ true) (o : (eqb (flag % 4) 0 || eqb (flag % 4) 2) ≡ false) (k : ℕ) → offset_kind h.kind (flag / 64) ≡ ok k → (v : Res ℕ) → sample_at k s (at + 1) ≡ v → Keeps s at (mode s at h t)
      numbers l c o k e (ok v) d = rw (mode-offset s at h t l c o k e v d) (offset-kept (flag % 4) k v (omega arith) (sample-is k s (at + 1) v d).inside)
      numbers l c o k e (fail r) d = rw ((mode-cases s at h t).mode-number l c o k e r d) tt

      kinds : (l : at < length s) (c : eqb (flag / 4 % 16) (t.x / 8 % 16) ≡ true) (o : (eqb (flag % 4) 0 || eqb (flag % 4) 2) ≡ false) (k : Res ℕ) → offset_kind h.kind (flag / 64) ≡ k → Keeps s at (mode s at h t)
      kinds l c o (ok k) e = numbers l c o k e (sample_at k s (at + 1)) refl
      kinds l c o (fail r) e = rw ((mode-cases s at h t).mode-kind l c o r e) tt

      forms : (l : at < length s) (c : eqb (flag / 4 % 16) (t.x / 8 % 16) ≡ true) (u : Bool) → (eqb (flag % 4) 0 || eqb (flag % 4) 2) ≡ u → Keeps s at (mode s at h t)
      forms l c true o = rw ((mode-cases s at h t).mode-free l c o) (free-kept l (flag % 4) o (omega arith))
      forms l c false o = kinds l c o (offset_kind h.kind (flag / 64)) refl

      checked : (l : at < length s) (u : Bool) → eqb (flag / 4 % 16) (t.x / 8 % 16) ≡ u → Keeps s at (mode s at h t)
      checked l true c = forms l c (eqb (flag % 4) 0 || eqb (flag % 4) 2) refl
      checked l false c = rw ((mode-cases s at h t).mode-check l c) tt

      within : Dec (at < length s) → Keeps s at (mode s at h t)
      within (yes l) = checked l (eqb (flag / 4 % 16) (t.x / 8 % 16)) refl
      within (no l) = rw ((mode-cases s at h t).mode-past (omega arith)) tt

  mode-kept : (m : Mode) → mode s at h t ≡ some m → ModeKept s at m
  mode-kept m e = rw (e) at mode-keeps

-- ---- `read_mode`

module _ (s : List ℕ) (y : Bytes s) (few : length s ≤ length_max) (at : ℕ) (h : Header) (t : Tile) (r : Res BlockPlan) (inspected : r ≡ marked at (plan_says s at h.kind t.x 0))
    (a : Res Span) (old new : List ℕ) (second : SecondCall s r a old new) where
  form-taken : (p : BlockPlan) (f : Form) → CountsCalled s f a old new → counts_taken a f ≡ is_some (said (mode_of at) (counted_form s p f))
  form-taken p (coded.Raw place) c = refl
  form-taken p coded.Zero c = refl
  form-taken p (coded.Level o) c = refl
  form-taken p (coded.Stepped steps) c = rw c.says (go (counts_by s steps.counts))
    where
      go : (m : Res Counts) → accepts (spanned m) ≡ is_some (said (mode_of at) (m >>= λ c. ok p))
      go (ok c) = refl
      go (fail q) = refl

  answer-taken : (x : Res BlockPlan) → SecondCall s x a old new → mode_taken a x ≡ is_some (said (mode_of at) (x >>= counted_plan s))
  answer-taken (ok p) c = form-taken p p.form c
  answer-taken (fail q) c = refl

  plan-called : {p : BlockPlan} (x : Res BlockPlan) → x ≡ ok p → SecondCall s x a old new → CountsCalled s p.form a old new
  plan-called (ok p) e c = rw (← ok-is e) c
  plan-called (fail q) e c = absurd (let z : ◌≡◌ {A = ℕ} 0 1 = cc in omega arith)

  free-none : (next : ℕ) (f : Form) → ((mode_of_form at next f).flag ≡ 1 → ⊥) → counts_number a f ≡ 0
  free-none next (coded.Raw place) n = refl
  free-none next coded.Zero n = refl
  free-none next (coded.Level o) n = refl
  free-none next (coded.Stepped steps) n = absurd (n refl)

  taken-marked : (m : Res BlockPlan) → said (mode_of at) (marked at m >>= counted_plan s) ≡ said (mode_of at) (m >>= counted_plan s)
  taken-marked (ok p) = refl
  taken-marked (fail q) = refl

  module _ (p : BlockPlan) (e : r ≡ ok p) (accepted : counts_taken a p.form ≡ true) where
    found : plan_says s at h.kind t.x 0 ≡ ok p
    found = marked-is at (plan_says s at h.kind t.x 0) (sym inspected ∙ e)

    pub read-mode-is : mode s at h t ≡ some (mode_of at p)
    read-mode-is = mode-is s y few at h t ∙ rw (found) (go p.form (sym (form-taken p p.form (plan-called r e second)) ∙ accepted))
      where
        counted : (m : Res Counts) → is_some (said (mode_of at) (m >>= λ c. ok p)) ≡ true → said (mode_of at) (m >>= λ c. ok p) ≡ some (mode_of at p)
        counted (ok c) a = refl
        counted (fail q) a = absurd (let z : ◌≡◌ {A = ℕ} 0 1 = cc in omega arith)

        go : (f : Form) → is_some (said (mode_of at) (counted_form s p f)) ≡ true → said (mode_of at) (counted_form s p f) ≡ some (mode_of at p)
        go (coded.Raw place) a = refl
        go coded.Zero a = refl
        go (coded.Level o) a = refl
        go (coded.Stepped steps) a = counted (counts_by s steps.counts) a

    kept : ModeKept s at (mode_of at p)
    kept = mode-kept s y few at h t (mode_of at p) read-mode-is

    -- the counts that `decode_plan` read are those that upstream has
    abbrev Read : Form → Type 0
    Read f = (counts_number a f ≤ 256) × ((mode_of_form at p.next f).flag ≡ 1 → decoded s (mode_of_form at p.next f).quant ≡ some (record { end = (mode_of_form at p.next f).at; values = take (counts_number a f) new }))

    steps-read : (steps : Steps) → p.form ≡ coded.Stepped steps → Read (coded.Stepped steps)
    steps-read steps d = go a refl
      where
        to : ℕ
        to = at + 1 + type_size steps.offset.kind

        placed : plan s to ≡ ok steps.counts
        placed = rw (d) at (plan-placed s at h.kind t.x 0 found)

        called : CountsDecoded (counts_by s steps.counts) a old new
        called = rw (d) at (plan-called r e second)

        promise : CountsDecoded (counts s to) a old new
        promise = rw (counts-by-plan s to y placed) called

        go : (x : Res Span) → a ≡ x → Read (coded.Stepped steps)
        go (ok c) b =
            let k : ModeKept s at (mode_of_form at p.next (coded.Stepped steps)) = rw (d) at kept in
            let (q, z, l) = k.counted refl in
            let found = decode-clauses s to y few a old new (accepted-marked to (counts s to) b promise) in
            rw (b) (
              (found.decode-end c.n c.next _ b z).1,
              λ _. z ∙ ap (λ (v : List ℕ). some (record { end = p.next; values = v })) (sym (found.decode-values c.n c.next _ b z)),
            )
        go (fail q) b = absurd (let x = rw (d, b) at accepted in let z : ◌≡◌ {A = ℕ} 0 1 = cc in omega arith)

    form-read : (f : Form) → p.form ≡ f → Read f
    form-read (coded.Raw place) d = (omega arith, λ z. absurd (omega arith))
    form-read coded.Zero d = (omega arith, λ z. absurd (omega arith))
    form-read (coded.Level o) d = (omega arith, λ z. absurd (omega arith))
    form-read (coded.Stepped steps) d = steps-read steps d

  pub read-mode-clauses : ReadModeClauses s at h t r a new
  read-mode-clauses = record {
    read-mode-ok = rw (mode-is s y few at h t, ← taken-marked (plan_says s at h.kind t.x 0), ← inspected) (answer-taken r second);
    read-mode-is = read-mode-is;
    read-mode-inside = λ p e c. let k = kept p e c in (k.behind, k.inside, k.flag, (form-read p e c p.form refl).0);
    read-mode-free = λ p e c. free-none p.next p.form;
    read-mode-counts = λ p e c. (form-read p e c p.form refl).1;
  }
