-- A usual head, read at once, tells the plan that the rules give.
-- Assumes nothing.
use mathlib.Core.Path.{◌≡◌, ◌∙◌, sym, ap, refl}
use mathlib.Core.Bool.{true}
use mathlib.Core.List.{List}
use Prim.Native.Nat.{ℕ, ◌+◌, ◌-◌, ◌*◌, ◌/◌, ◌%◌, ◌^◌, ◌≤◌, ◌<◌}
use native.Mathlib.Nat.{mul-le-mul}
use native.Mathlib.Numerals.{add-one, add-two, add-three, add-four}
use native.Mathlib.Omega.{arith}
use lib.ListN.{length, get_or}
use Rattle.std.proofs.Common.{Some}
use Rattle.lerc_words.specs.Res.{ok, little, word_at}
use Rattle.lerc_words.proofs.Little.{Bytes, little-low, byte_pow, unit, word_at-ok, word_at-is}
use Rattle.lerc_words.proofs.Binding.{bind_ok}
use Rattle.lerc_numeric.specs.Numeric.{finite}
use Rattle.lerc_numeric.specs.Kinds.{type_size, value_of}
use Rattle.lerc_samples.specs.Samples.{offset_kind}
use Rattle.lerc_bits.specs.Bits.{run_bytes, count_bytes, plain_plan, plan, PlanKept}
use Rattle.lerc_bits.proofs.Returns.{Headed, plan-plain, fits-ok, unpacked-plain}
use Rattle.lerc_block.specs.declared.heads.Head.{Head}
use Rattle.lerc_block.specs.declared.plan.StoredOffset.{StoredOffset}
use Rattle.lerc_block.specs.Block.{read_block_says, next_block}
use Rattle.lerc_block.specs.Plan.{stepped_plan, plan_at, plan_says, form_words, stepped_words, ended, planned_block}
use Rattle.lerc_block.specs.Check.{OffsetHeld, steps_fit, head_steps, head_plan}
use Rattle.lerc_block.proofs.Returns.{flag_ok}
use Rattle.lerc_block.proofs.Planning.{word_ok, steps-ok, offset-steps, plan-offset}
use Rattle.lerc_block.proofs.Leads.{read-planned, plan-few, plan-any, plan-sound}
use Rattle.lerc_block.proofs.Fitting.{steps_next}

-- what an answer holds
pub some-is : {A : Type 0} {a b : A} → Some a ≡ Some b → b ≡ a
some-is e = cc

-- the bits of the counts are few
pub bits-few : (n h : ℕ) → n < 256 → n * (h % 32) ≤ 7905
bits-few n h l =
    let a : n ≤ 255 = omega arith in
    let b : h % 32 ≤ 31 = omega arith in
    mul-le-mul a b

-- an offset of at most four bytes, as the code adds the four behind the flag and cuts them
quad_is : (s : List ℕ) (at : ℕ) → little 4 s (at + 1) ≡ get_or s (at + 1) 0 + 256 * (get_or s (at + 2) 0 + 256 * (get_or s (at + 3) 0 + 256 * get_or s (at + 4) 0))
unfolding little
quad_is s at = rw (add-one, add-two, add-three, add-four) (omega arith)

pub few_bytes : (s : List ℕ) (at size : ℕ) → Bytes s → size ≤ 4 → {v : ℕ} → v ≡ get_or s (at + 1) 0 + 256 * (get_or s (at + 2) 0 + 256 * (get_or s (at + 3) 0 + 256 * get_or s (at + 4) 0))
    → v % ((1 * 2 ^ (8 * size)) % 2 ^ 64) ≡ little size s (at + 1)
few_bytes s at size bytes l e =
    let z : size + (4 - size) ≡ 4 = omega arith in
    let h : little 4 s (at + 1) % 256 ^ size ≡ little size s (at + 1) = rw (z) at (little-low size (4 - size) s (at + 1) bytes) in
    rw (unit (8 * size) (omega arith), e, ← quad_is s at, ← byte_pow size) h

pub byte-is : (s : List ℕ) (at : ℕ) → at < length s → word_at 1 s at ≡ ok (get_or s at 0)
unfolding little
byte-is s at l = word_at-ok 1 s at (omega arith) ∙ ap (λ (v : ℕ). ok v) (let z : get_or s at 0 + 0 ≡ get_or s at 0 = omega arith in z)

module _ (s : List ℕ) (at : ℕ) (room : at + 2 ≤ length s) (h n : ℕ) (first : word_at 1 s at ≡ ok h) (second : word_at 1 s (at + 1) ≡ ok n) (usual : h / 32 ≡ 4) (few : n < 256) where
  one_byte : count_bytes h ≡ 1
  one_byte = let e : h / 64 ≡ 2 = omega arith in rw (e)

  headed : Headed s at h n
  headed = record { first = first; known = omega arith; second = rw (one_byte) second }

  pub usual-plan : at + 2 + run_bytes n (h % 32) ≤ length s → plan s at ≡ ok (plain_plan n (h % 32) (at + 2))
  usual-plan l =
      let e : at + 1 + count_bytes h ≡ at + 2 = rw (one_byte) (omega arith) in
      plan-plain s at h n headed (omega arith) (omega arith) ∙ rw (e) (fits-ok (length s) (plain_plan n (h % 32) (at + 2)) l)

  -- behind an offset
  pub usual-steps : (o : StoredOffset) (r : Head) → r ≡ record { offset = o; n = n; bits = h % 32; at = at + 2; end = at + 2 + run_bytes n (h % 32) } → r.end ≤ length s → stepped_plan s at o ≡ ok (head_plan r)
  usual-steps o r e l = rw (e) (sym (steps-ok s at o (usual-plan (rw (e) at l))))

-- behind the flag
module _ (s : List ℕ) (at kind x : ℕ) (flag : ℕ) (first : word_at 1 s at ≡ ok flag) (stepped : flag % 4 ≡ 1) (mark : flag / 4 % 16 ≡ x / 8 % 16) where
  pub usual-block : {k w : ℕ} {r : Head} → offset_kind kind (flag / 64) ≡ ok k → word_at (type_size k) s (at + 1) ≡ ok w → finite (value_of k w) ≡ true
      → stepped_plan s (at + 1 + type_size k) (record { word = w; kind = k }) ≡ ok (head_plan r) → (n : ℕ) → plan_at s at kind x n ≡ ok (head_plan r)
  usual-block {k} {w} named found fine steps n =
      let raw : little 1 s at % 4 ≡ 0 → ⊥ = λ z. omega (arith, (word_at-is 1 s at flag first).value) in
      plan-any s at kind x n 0 raw
      ∙ sym (plan-few s at kind x 0 (omega arith))
      ∙ sym (plan-offset s at kind x 0 (sym (flag_ok s at x 0 (omega arith) flag first mark)) (λ z. omega arith) (λ z. omega arith))
      ∙ sym (offset-steps s (at + 1) kind flag named (sym (word_ok k s (at + 1) found fine)) refl (λ z. omega arith))
      ∙ steps

-- ---- what callers need of a head that was found

module _ (s : List ℕ) (at kind x : ℕ) {r : Head} (found : (n : ℕ) → plan_at s at kind x n ≡ ok (head_plan r)) where
  pub found-plan : (n : ℕ) → n ≤ 256 → plan_says s at kind x n ≡ ok (head_plan r)
  found-plan n h = plan-few s at kind x n h ∙ found n

  module _ (bytes : Bytes s) where
    pub found-sound : OffsetHeld kind r.offset × PlanKept (length s) (head_steps r).counts
    found-sound = (plan-sound s bytes kind 0 at x (found-plan 0 (omega arith))).1

    pub found-few : (n : ℕ) → r.n ≡ n → n ≤ 256
    found-few n e = omega (arith, found-sound.1.few)

    -- the words are those of its counts
    pub found-words : (error top n : ℕ) → r.n ≡ n → read_block_says s at kind error top x n ≡ ended r.end (stepped_words s kind error top n (head_steps r))
    unfolding planned_block form_words
    found-words error top n e = read-planned s at kind error top x n ∙ bind_ok _ (found-plan n (found-few n e))

    -- where every step fits, nothing of it is refused
    pub found-next : (error top n : ℕ) → steps_fit kind error top ≡ true → r.n ≡ n → ok r.end ≡ next_block (read_block_says s at kind error top x n)
    found-next error top n fit e =
        steps_next s kind error top n (head_steps r) r.end fit found-sound.0 e (unpacked-plain s (head_steps r).counts refl) ∙ sym (ap next_block (found-words error top n e))
