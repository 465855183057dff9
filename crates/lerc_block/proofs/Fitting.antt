-- A block judged without its values: where they all fit, only its counts can be refused.
-- Assumes nothing.
use mathlib.Core.Path.{◌≡◌, ap, refl}
use mathlib.Core.Bool.{Bool, true, false, not, ◌&&◌, ◌||◌}
use mathlib.Core.List.{List, [], ◌∷◌}
use Prim.Native.Nat.{ℕ, ◌/◌, ◌≤◌, ◌<◌}
use native.Mathlib.Omega.{arith}
use borrow.Author.Tests.{leb-true, le-leb, lt-leb}
use lib.Dec.{leb}
use Rattle.lerc_words.specs.declared.Refusal.{Refusal}
use Rattle.lerc_words.specs.Res.{Res, ok, fail, each, accepts, little}
use Rattle.lerc_words.proofs.Binding.{and_is, accepts-is}
use Rattle.lerc_numeric.specs.Numeric.{negative}
use Rattle.lerc_numeric.specs.Kinds.{type_size}
use Rattle.lerc_numeric.specs.Steps.{step_of}
use Rattle.lerc_samples.specs.Samples.{stored}
use Rattle.lerc_samples.proofs.Storable.{Storable, storable-float, storable-clamped, offset-storable}
use Rattle.lerc_samples.proofs.Reading.{sample-is}
use Rattle.lerc_bits.specs.Bits.{Counts, unpacked}
use Rattle.lerc_block.specs.declared.plan.Steps.{Steps}
use Rattle.lerc_block.specs.declared.plan.StoredOffset.{StoredOffset}
use Rattle.lerc_block.specs.Block.{Block, Offset, level_block, finite_offset, next_block}
use Rattle.lerc_block.specs.Plan.{offset_value, stepped_words, ended}
use Rattle.lerc_block.specs.Steps.{step_word}
use Rattle.lerc_block.specs.Check.{steps_fit, OffsetHeld}
use Rattle.lerc_block.proofs.Returns.{level-ok, offset-is, finite-is}
use Rattle.lerc_block.proofs.StepWords.{steps-by}

-- ---- when every step fits

module _ (kind error top : ℕ) where
  pub fit-float : 6 ≤ kind → steps_fit kind error top ≡ true
  unfolding steps_fit
  fit-float h = rw (le-leb 6 kind h)

  module _ (h : kind < 6) where
    pub fit-negative : negative error ≡ true → steps_fit kind error top ≡ false
    unfolding steps_fit
    fit-negative e = rw (lt-leb 6 kind h, e)

    pub fit-maximum : negative error ≡ false → steps_fit kind error top ≡ accepts (stored kind top)
    unfolding steps_fit
    fit-maximum e = rw (lt-leb 6 kind h, e)

  pub fit-storable : Storable kind top → negative error ≡ false → steps_fit kind error top ≡ true
  unfolding steps_fit
  fit-storable v e = go (leb 6 kind)
    where
      go : (t : Bool) → (t || (not (negative error) && accepts (stored kind top))) ≡ true
      go true = refl
      go false = rw (e, v.1)

  module _ (fit : steps_fit kind error top ≡ true) (offset : ℕ) (held : Storable kind offset) where
    pub step_fits : (q : ℕ) → Storable kind (step_of offset error top q)
    unfolding step_of steps_fit
    step_fits q = go (leb 6 kind) refl fit
      where
        minus : (t : Bool) → not t ≡ true → t ≡ false
        minus true e = absurd (let z : ◌≡◌ {A = ℕ} 0 1 = cc in omega arith)
        minus false e = refl

        go : (t : Bool) → leb 6 kind ≡ t → (t || (not (negative error) && accepts (stored kind top))) ≡ true → Storable kind (step_of offset error top q)
        go true e d = storable-float kind _ (leb-true 6 kind e)
        go false e d =
            let b = and_is (not (negative error)) (accepts (stored kind top)) d in
            storable-clamped kind offset error q top held (accepts-is (stored kind top) b.1) (minus (negative error) b.0)

-- an offset that was read can be stored
pub offset-held : (s : List ℕ) (at kind flag : ℕ) {o : Offset} → finite_offset s at kind flag ≡ ok o → Storable kind o.value
offset-held s at kind flag {o} e =
    let f = offset-is s at kind flag (finite-is s at kind flag e).0 in
    rw (sample-is f.k s at o.value f.sampled).value (offset-storable kind (flag / 64) f.k (little (type_size f.k) s at) f.named)

-- ---- the forms of a block

pub next-no : {m : Res Block} {r : Refusal} → m ≡ fail r → fail r ≡ next_block m
next-no e = rw e

pub level-next : (next kind n : ℕ) (o : StoredOffset) → OffsetHeld kind o → next_block (level_block next kind (offset_value o) n) ≡ ok next
level-next next kind n o h =
    let (w, e) = accepts-is (stored kind (offset_value o)) h in
    ap next_block (level-ok next kind (offset_value o) n w e)

each_fits : (f : ℕ → Res ℕ) → ((x : ℕ) → (y : ℕ) × (f x ≡ ok y)) → (xs : List ℕ) → (ys : List ℕ) × (each f xs ≡ ok ys)
unfolding each
each_fits f p [] = ([], refl)
each_fits f p (x ∷ xs) =
    let v = p x in
    let vs = each_fits f p xs in
    (v.0 ∷ vs.0, rw (v.1, vs.1))

-- where every step fits, the counts decide
pub steps_next : (s : List ℕ) (kind error top n : ℕ) (steps : Steps) (next : ℕ) → steps_fit kind error top ≡ true → OffsetHeld kind steps.offset → steps.counts.n ≡ n
    → {c : Counts} → unpacked s steps.counts ≡ ok c → ok next ≡ next_block (ended next (stepped_words s kind error top n steps))
steps_next s kind error top n steps next fit h d {c} e =
    let offset = offset_value steps.offset in
    let held = accepts-is (stored kind offset) h in
    let (ws, f) = each_fits (step_word kind error top offset) (step_fits kind error top fit offset held) c.values in
    rw (steps-by s kind error top n steps d e, f)
