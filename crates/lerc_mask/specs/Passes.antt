-- What private functions promise; not part of the rules.
-- Bits of bytes, and the two passes over the runs of a section, run by run.
-- Assumes nothing.
use Prim.{Unit}
use Rattle.std.specs.Prelude.{ℕ, ◌+◌, ◌-◌, ◌*◌, ◌/◌, ◌%◌, ◌^◌, ◌≤◌, ◌<◌, ◌≡◌, Bool, true, false, cond, Option, None, Some, List, [], ◌∷◌, length, get_or, take, drop}
use Rattle.std.specs.declared.ops.ControlFlow.{ControlFlow}
use Rattle.std.specs.declared.ops.ControlFlow.TheVariants.{Continue, Break}
use Rattle.std.specs.Int.Count.{ones}
use Rattle.std.proofs.Math.Seq.{paste}
use Rattle.lerc_slices.specs.Slices.{begins_with}
use Rattle.lerc_mask.specs.declared.Step.{Step}
use Rattle.lerc_mask.specs.declared.Step.TheVariants.{Copy, Repeat, End, Wrong}
use Rattle.lerc_mask.specs.declared.Walk.{Walk}
use Rattle.lerc_mask.specs.declared.seek.RunPlace.{RunPlace}
use Rattle.lerc_mask.specs.Mask.{step_at, on_step}

-- n bits of a byte as a number, those behind its first `skip`
unfoldable pub bits_of : ℕ → ℕ → ℕ → ℕ
bits_of x skip n = x / 2 ^ (8 - skip - n) % 2 ^ n

-- the set bits of a list of bytes
unfoldable pub ones_all : List ℕ → ℕ
ones_all [] = 0
ones_all (b ∷ bs) = ones b + ones_all bs

-- what a run that is not wrong keeps to: it gives something, lies within the section and within the mask
abbrev pub StepFits : ℕ → ℕ → ℕ → Step → Type 0
StepFits len at left (Copy n) = (1 ≤ n) × (at + 2 + n ≤ len) × (n ≤ left)
StepFits len at left (Repeat n) = (1 ≤ n) × (at + 3 ≤ len) × (n ≤ left)
StepFits len at left End = (at + 2 ≡ len) × (left ≡ 0)
StepFits len at left Wrong = Unit

-- the set bits of the bytes still to come can be added to those that came
abbrev pub Countable : Walk → Type 0
Countable w = w.total + ones w.last + 8 * w.left < 2 ^ 64 + 8

-- first pass, behind a run that gives `out`: the set bits of all bytes but the last, and the last
abbrev pub walked : Walk → ℕ → List ℕ → Walk
walked w next out = record {
  at = next;
  left = w.left - length out;
  total = w.total + ones w.last + ones_all (take (length out - 1) out);
  last = get_or out (length out - 1) 0;
}

-- go on, or end: as the runs must, or not
abbrev pub Went : Type 0
Went = ControlFlow Bool Walk

pattern abbrev pub on_with : Walk → Went
on_with w = Continue w

pattern abbrev pub ended : Bool → Went
ended right = Break right

unfoldable pub go_on : List ℕ → Walk → Went
go_on s w = on_step s w.at (step_at s w.at w.left) (ended true) (ended false) (λ next out. on_with (walked w next out))

-- second pass: the bytes go to the mask, behind the `made` that are there
unfoldable pub put_on : List ℕ → ℕ → ℕ → ℕ → Option RunPlace
put_on s at made left = on_step s at (step_at s at left) None None (λ next out. Some (record { at = next; made = made + length out }))

unfoldable pub put_out : List ℕ → ℕ → ℕ → ℕ → List ℕ → List ℕ
put_out s at made left old = on_step s at (step_at s at left) old old (λ next out. paste old made out (length out))

-- the same pass where the bytes are compared with those that are held: one run that differs decides
abbrev pub Met : Type 0
Met = ControlFlow Bool RunPlace

pattern abbrev pub met_on : RunPlace → Met
met_on p = Continue p

pattern abbrev pub met_all : Bool → Met
met_all same = Break same

unfoldable pub meet_on : List ℕ → ℕ → ℕ → ℕ → List ℕ → Met
meet_on s at made left held =
    on_step s at (step_at s at left) (met_all true) (met_all false)
    (λ next out. cond (begins_with out (drop made held)) (met_on (record { at = next; made = made + length out })) (met_all false))
