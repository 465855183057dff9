-- A block is what its plan leads to; so an accepted block ends where its plan does. What a plan keeps to.
-- Assumes nothing.
use mathlib.Core.Path.{◌≡◌, ◌∙◌, sym, ap, refl}
use mathlib.Core.Bool.{Bool, true, false, cond}
use mathlib.Core.List.{List}
use Prim.Native.Nat.{ℕ, ◌+◌, ◌*◌, ◌/◌, ◌%◌, ◌≤◌}
use borrow.Author.Tests.{leb-true, le-leb, ne_eqb}
use lib.Dec.{leb, eqb}
use lib.ListN.{length}
use Rattle.lerc_words.specs.declared.Refusal.{Refusal}
use Rattle.lerc_words.specs.Res.{Res, ok, fail, ◌>>=◌, refuse, require, little, word_at, each, accepts}
use Rattle.lerc_words.proofs.Binding.{bind_ok, bind-no, bind_is, require-is, ok-is, cond-elim}
use Rattle.lerc_words.proofs.Little.{Bytes, word_at-is}
use Rattle.lerc_numeric.specs.Numeric.{finite}
use Rattle.lerc_numeric.specs.Kinds.{type_size, value_of}
use Rattle.lerc_samples.specs.Samples.{sample_at, offset_kind}
use Rattle.lerc_samples.proofs.Storable.{offset-storable}
use Rattle.lerc_bits.specs.declared.Plan.{Plan}
use Rattle.lerc_bits.specs.Bits.{Counts, plan, unpacked}
use Rattle.lerc_bits.proofs.Returns.{counts-no, counts-by}
use Rattle.lerc_bits.proofs.Plans.{plan-kept}
use Rattle.lerc_bits.proofs.Values.{unpacked-is, unpacked-eight}
use Rattle.lerc_block.specs.declared.plan.StoredOffset.{StoredOffset}
use Rattle.lerc_block.specs.declared.plan.Form.TheVariants as coded
use Rattle.lerc_block.specs.declared.plan.BlockPlan.{BlockPlan}
use Rattle.lerc_block.specs.Block.{Block, raw_words, level_block, stepped_block, offset_at, finite_offset, offset_block, formed, flag_at, block_says, tile_limit, read_block_says}
use Rattle.lerc_block.specs.Plan.{raw_plan, finite_word, stepped_plan, offset_plan, form_plan, plan_at, plan_says, offset_value, stepped_words, form_words, ended, planned_block, plan_end}
use Rattle.lerc_block.specs.Steps.{step_word}
use Rattle.lerc_block.specs.Check.{read_flag, OffsetHeld, Sound}
use Rattle.lerc_block.proofs.Returns.{read-flag-is, flag_is}
use Rattle.lerc_block.proofs.Planning.{plan-flagged}

-- ---- raw words

require-leads : (t : Bool) (p : BlockPlan) (k : BlockPlan → Res Block) → (require t 1 >>= λ _. k p) ≡ ((require t 1 >>= λ _. ok p) >>= k)
require-leads true p k = refl
require-leads false p k = refl

raw-leads : (s : List ℕ) (at kind error top n : ℕ) → raw_words s at kind n ≡ (raw_plan (length s) at kind n >>= planned_block s kind error top n)
unfolding raw_words raw_plan planned_block form_words
raw-leads s at kind error top n = require-leads (leb (at + n * type_size kind) (length s)) _ _

-- ---- counts: the number is compared before the indices are looked at, but both are 8

numbered : (m : Res Counts) (many next n : ℕ) (f : ℕ → Res ℕ) → ((c : Counts) → m ≡ ok c → (length c.values ≡ many) × (c.next ≡ next)) → ((r : Refusal) → m ≡ fail r → r ≡ refuse 8)
    → (m >>= λ c. require (eqb (length c.values) n) 8 >>= λ _. each f c.values >>= λ ws. ok (record { words = ws; next = c.next }))
    ≡ ended next (require (eqb many n) 8 >>= λ _. m >>= λ c. each f c.values)
numbered (ok c) many next n f p q = let (l, e) = p c refl in rw (l, e) (go (eqb many n))
  where
    go : (t : Bool) → (require t 8 >>= λ _. each f c.values >>= λ ws. ok (record { words = ws; next = next })) ≡ ended next (require t 8 >>= λ _. each f c.values)
    go true = refl
    go false = refl
numbered (fail r) many next n f p q = go (eqb many n)
  where
    go : (t : Bool) → fail r ≡ ended next (require t 8 >>= λ _. fail r)
    go true = refl
    go false = ap fail (q r refl)

module _ (s : List ℕ) (at kind error top n : ℕ) (o : StoredOffset) where
  stepped-none : {r : Refusal} → plan s at ≡ fail r → stepped_block s at kind error top (offset_value o) n ≡ (stepped_plan s at o >>= planned_block s kind error top n)
  unfolding stepped_block stepped_plan
  stepped-none e = rw (counts-no s at e, e)

  stepped-some : {p : Plan} → plan s at ≡ ok p → stepped_block s at kind error top (offset_value o) n ≡ (stepped_plan s at o >>= planned_block s kind error top n)
  unfolding stepped_block stepped_plan planned_block form_words stepped_words
  stepped-some {p} e =
      rw (counts-by s at e, e)
      (numbered (unpacked s p) p.n p.next n (step_word kind error top (offset_value o)) (λ c d. unpacked-is s p d) (λ r d. unpacked-eight s p d))

  stepped-leads : stepped_block s at kind error top (offset_value o) n ≡ (stepped_plan s at o >>= planned_block s kind error top n)
  stepped-leads = go (plan s at) refl
    where
      go : (m : Res Plan) → plan s at ≡ m → stepped_block s at kind error top (offset_value o) n ≡ (stepped_plan s at o >>= planned_block s kind error top n)
      go (ok p) e = stepped-some e
      go (fail r) e = stepped-none e

-- ---- an offset

cond-leads : (t : Bool) (u v : Res BlockPlan) {x y : Res Block} (k : BlockPlan → Res Block) → x ≡ (u >>= k) → y ≡ (v >>= k) → cond t x y ≡ (cond t u v >>= k)
cond-leads true u v k p q = p
cond-leads false u v k p q = q

module _ (s : List ℕ) (at kind error top flag n : ℕ) where
  OffsetLeads : Type 0
  OffsetLeads = offset_block s at kind error top flag n ≡ (offset_plan s at kind flag >>= planned_block s kind error top n)

  no-kind-leads : {r : Refusal} → offset_kind kind (flag / 64) ≡ fail r → OffsetLeads
  unfolding OffsetLeads offset_block finite_offset offset_at offset_plan
  no-kind-leads e = rw (e)

  module _ {k : ℕ} (e : offset_kind kind (flag / 64) ≡ ok k) where
    no-word-leads : {r : Refusal} → word_at (type_size k) s at ≡ fail r → OffsetLeads
    unfolding OffsetLeads offset_block finite_offset offset_at sample_at offset_plan finite_word
    no-word-leads d = rw (e, d)

    module _ {w : ℕ} (d : word_at (type_size k) s at ≡ ok w) where
      endless-leads : finite (value_of k w) ≡ false → OffsetLeads
      unfolding OffsetLeads offset_block finite_offset offset_at sample_at offset_plan finite_word
      endless-leads f = rw (e, d, f)

      finite-leads : finite (value_of k w) ≡ true → OffsetLeads
      unfolding OffsetLeads offset_block finite_offset offset_at sample_at offset_plan finite_word level_block planned_block form_words
      finite-leads f =
          let o : StoredOffset = record { word = w; kind = k } in
          let to = at + type_size k in
          rw (e, d, f)
          (cond-leads (eqb (flag % 4) 3) (ok (record { form = coded.Level o; next = to })) (stepped_plan s to o) (planned_block s kind error top n) refl (stepped-leads s to kind error top n o))

  offset-leads : OffsetLeads
  offset-leads = kinds (offset_kind kind (flag / 64)) refl
    where
      judged : {k w : ℕ} → offset_kind kind (flag / 64) ≡ ok k → word_at (type_size k) s at ≡ ok w → (t : Bool) → finite (value_of k w) ≡ t → OffsetLeads
      judged e d true f = finite-leads e d f
      judged e d false f = endless-leads e d f

      words : {k : ℕ} → offset_kind kind (flag / 64) ≡ ok k → (m : Res ℕ) → word_at (type_size k) s at ≡ m → OffsetLeads
      words {k} e (ok w) d = judged e d (finite (value_of k w)) refl
      words e (fail r) d = no-word-leads e d

      kinds : (m : Res ℕ) → offset_kind kind (flag / 64) ≡ m → OffsetLeads
      kinds (ok k) e = words e (word_at (type_size k) s at) refl
      kinds (fail r) e = no-kind-leads e

-- ---- the block

formed-leads : (s : List ℕ) (at kind error top flag n : ℕ) → formed s at kind error top flag n ≡ (form_plan s at kind flag n >>= planned_block s kind error top n)
unfolding formed form_plan planned_block form_words OffsetLeads
formed-leads s at kind error top flag n =
    let zeros : Res BlockPlan = ok (record { form = coded.Zero; next = at }) in
    let offset = offset_plan s at kind flag in
    cond-leads (eqb (flag % 4) 0) (raw_plan (length s) at kind n) (cond (eqb (flag % 4) 2) zeros offset) (planned_block s kind error top n) (raw-leads s at kind error top n)
    (cond-leads (eqb (flag % 4) 2) zeros offset (planned_block s kind error top n) refl (offset-leads s at kind error top flag n))

module _ (s : List ℕ) (at kind error top x n : ℕ) where
  pub block-planned : block_says s at kind error top x n ≡ (plan_at s at kind x n >>= planned_block s kind error top n)
  unfolding block_says plan_at
  block-planned = go (flag_at s at x)
    where
      go : (m : Res ℕ) → (m >>= λ flag. formed s (at + 1) kind error top flag n) ≡ ((m >>= λ flag. form_plan s (at + 1) kind flag n) >>= planned_block s kind error top n)
      go (ok flag) = formed-leads s (at + 1) kind error top flag n
      go (fail r) = refl

  pub read-planned : read_block_says s at kind error top x n ≡ (plan_says s at kind x n >>= planned_block s kind error top n)
  unfolding read_block_says plan_says
  read-planned = go (leb n tile_limit)
    where
      go : (t : Bool) → (require t 8 >>= λ _. block_says s at kind error top x n) ≡ ((require t 8 >>= λ _. plan_at s at kind x n) >>= planned_block s kind error top n)
      go true = block-planned
      go false = refl

-- ---- where it ends

planned-next : (s : List ℕ) (kind error top n : ℕ) (p : BlockPlan) {b : Block} → planned_block s kind error top n p ≡ ok b → p.next ≡ b.next
unfolding planned_block
planned-next s kind error top n p e =
    let (ws, d, e) = bind_is (form_words s kind error top n p.form) _ e in
    ap (λ (b : Block). b.next) (ok-is e)

pub plan-ends : (s : List ℕ) (at kind error top x n : ℕ) {b : Block} → block_says s at kind error top x n ≡ ok b → plan_end (plan_at s at kind x n) ≡ ok b.next
plan-ends s at kind error top x n e =
    let (p, d, e) = bind_is (plan_at s at kind x n) _ (sym (block-planned s at kind error top x n) ∙ e) in
    rw (d) (ap ok (planned-next s kind error top n p e))

-- a tile has at most 256 pixels
pub plan-few : (s : List ℕ) (at kind x n : ℕ) → n ≤ 256 → plan_says s at kind x n ≡ plan_at s at kind x n
unfolding plan_says
plan-few s at kind x n h = rw (le-leb _ _ h)

-- a block that is not raw has one plan, however many pixels of its tile are valid
pub plan-any : (s : List ℕ) (at kind x n m : ℕ) → (little 1 s at % 4 ≡ 0 → ⊥) → plan_at s at kind x n ≡ plan_at s at kind x m
unfolding plan_at form_plan
plan-any s at kind x n m d = go (flag_at s at x) refl
  where
    go : (w : Res ℕ) → flag_at s at x ≡ w → (w >>= λ flag. form_plan s (at + 1) kind flag n) ≡ (w >>= λ flag. form_plan s (at + 1) kind flag m)
    go (fail r) e = refl
    go (ok flag) e =
        let v : flag ≡ little 1 s at = (word_at-is 1 s at flag (flag_is s at x e).0).value in
        rw (v, ne_eqb (little 1 s at % 4) 0 d)

-- ---- what every plan keeps to

module _ (s : List ℕ) (y : Bytes s) (kind n : ℕ) {p : BlockPlan} where
  given-sound : (q : BlockPlan) → Sound s kind n q.form → ok q ≡ ok p → Sound s kind n p.form
  given-sound q h e = rw (← ok-is e) h

  raw-sound : (at : ℕ) → raw_plan (length s) at kind n ≡ ok p → Sound s kind n p.form
  unfolding raw_plan
  raw-sound at e =
      let (t, q, e) = bind_is (require (leb (at + n * type_size kind) (length s)) 1) _ e in
      given-sound _ (leb-true _ _ (require-is _ 1 q)) e

  steps-sound : (at : ℕ) (o : StoredOffset) → OffsetHeld kind o → stepped_plan s at o ≡ ok p → Sound s kind n p.form
  unfolding stepped_plan
  steps-sound at o h e =
      let (c, q, e) = bind_is (plan s at) _ e in
      given-sound _ (h, plan-kept s at y q) e

  offset-sound : (at flag : ℕ) → offset_plan s at kind flag ≡ ok p → Sound s kind n p.form
  unfolding offset_plan
  offset-sound at flag e =
      let (k, q, e) = bind_is (offset_kind kind (flag / 64)) _ e in
      let (w, r, e) = bind_is (finite_word k s at) _ e in
      let h = ap accepts (offset-storable kind (flag / 64) k w q).1 in
      let o : StoredOffset = record { word = w; kind = k } in
      cond-elim (λ (m : Res BlockPlan). m ≡ ok p → Sound s kind n p.form) (eqb (flag % 4) 3)
      (λ z. given-sound (record { form = coded.Level o; next = at + type_size k }) h) (λ z. steps-sound (at + type_size k) o h) e

  form-sound : (at flag : ℕ) → form_plan s at kind flag n ≡ ok p → Sound s kind n p.form
  unfolding form_plan
  form-sound at flag =
      cond-elim (λ (m : Res BlockPlan). m ≡ ok p → Sound s kind n p.form) (eqb (flag % 4) 0)
      (λ z. raw-sound at)
      (λ z. cond-elim (λ (m : Res BlockPlan). m ≡ ok p → Sound s kind n p.form) (eqb (flag % 4) 2) (λ u. given-sound (record { form = coded.Zero; next = at }) tt) (λ u. offset-sound at flag))

  pub plan-sound : (at x : ℕ) → plan_says s at kind x n ≡ ok p → (n ≤ 256) × Sound s kind n p.form
  plan-sound at x e =
      let (flag, q, e) = bind_is (read_flag s at x n) _ (sym (plan-flagged s at kind x n) ∙ e) in
      ((read-flag-is s at x n q).few, form-sound (at + 1) flag e)

-- ---- what an answer of `inspect_block` says of the block

module _ (s : List ℕ) (at kind x n : ℕ) {r : Res BlockPlan} (e : r ≡ plan_says s at kind x n) where
  module _ {p : BlockPlan} (d : r ≡ ok p) where
    pub answered-words : (error top : ℕ) → read_block_says s at kind error top x n ≡ planned_block s kind error top n p
    answered-words error top = read-planned s at kind error top x n ∙ bind_ok _ (sym e ∙ d)

    pub answered-sound : Bytes s → (n ≤ 256) × Sound s kind n p.form
    answered-sound y = plan-sound s y kind n at x (sym e ∙ d)

  pub answered-no : (error top : ℕ) {why : Refusal} → r ≡ fail why → read_block_says s at kind error top x n ≡ fail why
  answered-no error top d = read-planned s at kind error top x n ∙ bind-no _ (sym e ∙ d)
