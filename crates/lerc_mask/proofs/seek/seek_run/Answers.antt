use mathlib.Core.Path.{◌≡◌, ◌∙◌, sym}
use native.Mathlib.Omega.{arith}
use lib.ListN.{length}
use Rattle.lerc_mask.specs.declared.Step.TheVariants.{Copy, Repeat}
use Rattle.lerc_mask.specs.Mask.{step_at}
use Rattle.lerc_mask.specs.Passes.{StepFits}
use Rattle.lerc_mask.proofs.Seeking.{copy-here, copy-behind, repeat-here, repeat-behind, seek-end, seek-wrong}
use Rattle.lerc_mask.proofs.seek.seek_run.Goals as goal
use Rattle.lerc_mask.proofs.seek.seek_run.Goals.{In-Copy, In-Repeat}

-- the run that was read, one that copies
copied : (c : In-Copy) →
    let a = c.args in
    let n = c.in-Copy.n in
    (step_at a.s.now a.at a.left ≡ Copy n) × StepFits (length a.s.now) a.at a.left (Copy n)
copied c =
    let r = c.read_step-run in
    let told = c.in-Copy.is in
    (sym r.ensures.0 ∙ told, rw (told) at r.ensures.1)

-- or one that repeats
repeats : (c : In-Repeat) →
    let a = c.args in
    let n = c.in-Repeat.n in
    (step_at a.s.now a.at a.left ≡ Repeat n) × StepFits (length a.s.now) a.at a.left (Repeat n)
repeats c =
    let r = c.read_step-run in
    let told = c.in-Repeat.is in
    (sym r.ensures.0 ∙ told, rw (told) at r.ensures.1)

pub overflow_add-from : goal.overflow_add-from
overflow_add-from c = omega (arith, (copied c).1.1)

pub overflow_add-result : goal.overflow_add-result
overflow_add-result c = omega (arith, (copied (goal.at.overflow_add-result c).In-Copy).1.1)

pub bounds-s-from : goal.bounds-s-from
bounds-s-from c = omega (arith, (copied (goal.at.bounds-s-from c).In-Copy).1.1)

pub returns-then-k-n : goal.returns-then-k-n
returns-then-k-n c = let (e, fits) = copied (goal.at.returns-then-k-n c).In-Copy in sym (copy-here _ _ _ _ _ e fits.1 c.if-k-n.true)

pub overflow_add-result-in-Copy : goal.overflow_add-result-in-Copy
overflow_add-result-in-Copy c = omega (arith, (copied (goal.at.overflow_add-result-in-Copy c).In-Copy).1.1)

pub overflow_add-result-then-k-n-2 : goal.overflow_add-result-then-k-n-2
overflow_add-result-then-k-n-2 c = omega (arith, (repeats (goal.at.overflow_add-result-then-k-n-2 c).In-Repeat).1.1)

pub bounds-s-at : goal.bounds-s-at
bounds-s-at c = omega (arith, (repeats (goal.at.bounds-s-at c).In-Repeat).1.1)

pub returns-then-k-n-2 : goal.returns-then-k-n-2
returns-then-k-n-2 c = let (e, fits) = repeats (goal.at.returns-then-k-n-2 c).In-Repeat in sym (repeat-here _ _ _ _ _ e c.if-k-n-2.true)

pub overflow_add-result-in-Repeat : goal.overflow_add-result-in-Repeat
overflow_add-result-in-Repeat c = omega (arith, (repeats (goal.at.overflow_add-result-in-Repeat c).In-Repeat).1.1)

pub returns-else-k-n : goal.returns-else-k-n
returns-else-k-n c = let (e, fits) = copied (goal.at.returns-else-k-n c).In-Copy in sym (copy-behind _ _ _ _ _ e fits.1 c.if-k-n.false)

pub returns-else-k-n-2 : goal.returns-else-k-n-2
returns-else-k-n-2 c = let (e, fits) = repeats (goal.at.returns-else-k-n-2 c).In-Repeat in sym (repeat-behind _ _ _ _ _ e c.if-k-n-2.false)

pub returns-in-End : goal.returns-in-End
returns-in-End c = sym (seek-end _ _ _ _ (sym c.read_step-run.ensures.0 ∙ c.in-End.is))

pub returns-in-Wrong : goal.returns-in-Wrong
returns-in-Wrong c = sym (seek-wrong _ _ _ _ (sym c.read_step-run.ensures.0 ∙ c.in-Wrong.is))
