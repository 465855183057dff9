-- The plan of a block: what each way of reading gives, one law for each place where the code returns.
-- Assumes nothing.
use mathlib.Core.Path.{◌≡◌, ◌∙◌, sym, refl}
use mathlib.Core.Bool.{Bool, true, false}
use mathlib.Core.List.{List}
use Prim.Native.Nat.{ℕ, ◌+◌, ◌*◌, ◌/◌, ◌%◌, ◌≤◌, ◌<◌}
use borrow.Author.Tests.{le-leb, lt-leb, eq-eqb, ne_eqb}
use lib.Dec.{leb}
use lib.ListN.{length}
use Rattle.lerc_words.specs.declared.Refusal.{Refusal}
use Rattle.lerc_words.specs.Res.{ok, fail, ◌>>=◌, refuse, require, word_at}
use Rattle.lerc_words.proofs.Binding.{bind_is, bind_ok, bind-no, require-is, ok-is}
use Rattle.lerc_numeric.specs.Numeric.{finite}
use Rattle.lerc_numeric.specs.Kinds.{type_size, value_of}
use Rattle.lerc_samples.specs.Samples.{offset_kind}
use Rattle.lerc_bits.specs.declared.Plan.{Plan}
use Rattle.lerc_bits.specs.Bits.{plan}
use Rattle.lerc_block.specs.declared.plan.StoredOffset.{StoredOffset}
use Rattle.lerc_block.specs.declared.plan.Form.TheVariants as coded
use Rattle.lerc_block.specs.Block.{flag_at, tile_limit}
use Rattle.lerc_block.specs.Plan.{raw_plan, finite_word, stepped_plan, offset_plan, form_plan, plan_at, plan_says}
use Rattle.lerc_block.specs.Check.{read_flag}

-- ---- low bits 0: the size is the kind's, by whatever name

module _ (len at kind n size : ℕ) (z : size ≡ type_size kind) where
  pub raw-ok : at + n * size ≤ len → ok (record { form = coded.Raw at; next = at + n * size }) ≡ raw_plan len at kind n
  unfolding raw_plan
  raw-ok h = rw (← z, le-leb _ _ h)

  pub raw-no : len < at + n * size → fail (refuse 1) ≡ raw_plan len at kind n
  unfolding raw_plan
  raw-no h = rw (← z, lt-leb _ _ h)

-- ---- an offset's word

module _ (kind : ℕ) (s : List ℕ) (at : ℕ) where
  pub word-no : {r : Refusal} → word_at (type_size kind) s at ≡ fail r → fail r ≡ finite_word kind s at
  unfolding finite_word
  word-no e = rw e

  module _ {w : ℕ} (e : word_at (type_size kind) s at ≡ ok w) where
    pub word-endless : finite (value_of kind w) ≡ false → fail (refuse 8) ≡ finite_word kind s at
    unfolding finite_word
    word-endless f = rw (e, f)

    pub word_ok : finite (value_of kind w) ≡ true → ok w ≡ finite_word kind s at
    unfolding finite_word
    word_ok f = rw (e, f)

  -- one that was read
  pub word-is : {w : ℕ} → finite_word kind s at ≡ ok w → (word_at (type_size kind) s at ≡ ok w) × (finite (value_of kind w) ≡ true)
  unfolding finite_word
  word-is e =
      let (v, p, e) = bind_is (word_at (type_size kind) s at) _ e in
      let (t, q, e) = bind_is (require (finite (value_of kind v)) 8) _ e in
      rw (← ok-is e) (p, require-is _ 8 q)

-- ---- low bits 1 and 3

module _ (s : List ℕ) (at : ℕ) (o : StoredOffset) where
  pub steps-no : {r : Refusal} → plan s at ≡ fail r → fail r ≡ stepped_plan s at o
  unfolding stepped_plan
  steps-no e = rw e

  pub steps-ok : {p : Plan} → plan s at ≡ ok p → ok (record { form = coded.Stepped (record { offset = o; counts = p }); next = p.next }) ≡ stepped_plan s at o
  unfolding stepped_plan
  steps-ok e = rw e

module _ (s : List ℕ) (at kind flag : ℕ) where
  pub offset-no-kind : {r : Refusal} → offset_kind kind (flag / 64) ≡ fail r → fail r ≡ offset_plan s at kind flag
  unfolding offset_plan
  offset-no-kind e = rw e

  module _ {k : ℕ} (e : offset_kind kind (flag / 64) ≡ ok k) where
    pub offset-no-word : {r : Refusal} → finite_word k s at ≡ fail r → fail r ≡ offset_plan s at kind flag
    unfolding offset_plan
    offset-no-word d = rw (e, d)

    module _ {w size : ℕ} (d : finite_word k s at ≡ ok w) (z : size ≡ type_size k) where
      pub offset-level : flag % 4 ≡ 3 → ok (record { form = coded.Level (record { word = w; kind = k }); next = at + size }) ≡ offset_plan s at kind flag
      unfolding offset_plan
      offset-level f = rw (e, d, z, eq-eqb _ _ f)

      pub offset-steps : (flag % 4 ≡ 3 → ⊥) → stepped_plan s (at + size) (record { word = w; kind = k }) ≡ offset_plan s at kind flag
      unfolding offset_plan
      offset-steps f = rw (e, d, z, ne_eqb _ _ f)

-- ---- the block

module _ (s : List ℕ) (at kind x n : ℕ) where
  pub plan-flagged : plan_says s at kind x n ≡ (read_flag s at x n >>= λ flag. form_plan s (at + 1) kind flag n)
  unfolding plan_says plan_at read_flag
  plan-flagged = go (leb n tile_limit)
    where
      go : (t : Bool)
          → (require t 8 >>= λ _. flag_at s at x >>= λ flag. form_plan s (at + 1) kind flag n)
          ≡ ((require t 8 >>= λ _. flag_at s at x) >>= λ flag. form_plan s (at + 1) kind flag n)
      go true = refl
      go false = refl

  pub plan-no : {r : Refusal} → read_flag s at x n ≡ fail r → fail r ≡ plan_says s at kind x n
  plan-no e = sym (plan-flagged ∙ bind-no _ e)

  module _ {flag : ℕ} (e : read_flag s at x n ≡ ok flag) where
    plan-formed : form_plan s (at + 1) kind flag n ≡ plan_says s at kind x n
    plan-formed = sym (plan-flagged ∙ bind_ok _ e)

    pub plan-raw : flag % 4 ≡ 0 → raw_plan (length s) (at + 1) kind n ≡ plan_says s at kind x n
    unfolding form_plan
    plan-raw d = rw (eq-eqb _ _ d) at plan-formed

    pub plan-zero : flag % 4 ≡ 2 → ok (record { form = coded.Zero; next = at + 1 }) ≡ plan_says s at kind x n
    unfolding form_plan
    plan-zero d = rw (d) at plan-formed

    pub plan-offset : (flag % 4 ≡ 0 → ⊥) → (flag % 4 ≡ 2 → ⊥) → offset_plan s (at + 1) kind flag ≡ plan_says s at kind x n
    unfolding form_plan
    plan-offset d f = rw (ne_eqb _ _ d, ne_eqb _ _ f) at plan-formed
