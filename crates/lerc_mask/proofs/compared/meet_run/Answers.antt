use mathlib.Core.Bool.{true, false}
use mathlib.Core.Path.{◌∙◌, sym}
use native.Mathlib.Omega.{arith}
use lib.ListN.{length}
use Rattle.lerc_mask.specs.declared.Step.TheVariants.{Copy, Repeat}
use Rattle.lerc_mask.specs.Passes.{StepFits}
use Rattle.lerc_mask.proofs.Meeting.{meet-copy, meet-repeat, meet-end, meet-wrong}
use Rattle.lerc_mask.proofs.compared.meet_run.Goals as goal
use Rattle.lerc_mask.proofs.compared.meet_run.Goals.{In-Copy, In-Repeat}

-- a run of either kind lies within the section and within the mask
copied : (c : In-Copy) → StepFits (length c.args.s.now) c.args.at c.args.left (Copy c.in-Copy.n)
copied c = rw c.in-Copy.is at c.read_step-run.ensures.1

repeated : (c : In-Repeat) → StepFits (length c.args.s.now) c.args.at c.args.left (Repeat c.in-Repeat.n)
repeated c = rw c.in-Repeat.is at c.read_step-run.ensures.1

pub overflow_add-from : goal.overflow_add-from
overflow_add-from c = omega (arith, copied c)

pub overflow_add-next : goal.overflow_add-next
overflow_add-next c = omega (arith, copied c)

pub overflow_add-end : goal.overflow_add-end
overflow_add-end c = omega (arith, copied c)

pub slice_bounds-begins_with-end : goal.slice_bounds-begins_with-end
slice_bounds-begins_with-end c = omega (arith, copied c)

pub slice_bounds-begins_with-end-in-Copy : goal.slice_bounds-begins_with-end-in-Copy
slice_bounds-begins_with-end-in-Copy c = omega (arith, copied (goal.at.slice_bounds-begins_with-end-in-Copy c).In-Copy)

pub returns-then-not-begins_with : goal.returns-then-not-begins_with
returns-then-not-begins_with c =
    let k = (goal.at.returns-then-not-begins_with c).In-Copy in
    let a = c.args in
    meet-copy a.s.now a.at a.made a.left a.held.now _ (sym c.read_step-run.ensures.0 ∙ c.in-Copy.is) (copied k).1 false (sym c.if-not-begins_with.true ∙ c.begins_with.ensures)

pub overflow_add-end-in-Repeat : goal.overflow_add-end-in-Repeat
overflow_add-end-in-Repeat c = omega (arith, repeated c)

pub overflow_add-at : goal.overflow_add-at
overflow_add-at c = omega (arith, repeated c)

pub bounds-s-at : goal.bounds-s-at
bounds-s-at c = omega (arith, repeated (goal.at.bounds-s-at c).In-Repeat)

pub slice_bounds-all_bytes-end : goal.slice_bounds-all_bytes-end
slice_bounds-all_bytes-end c = omega (arith, repeated (goal.at.slice_bounds-all_bytes-end c).In-Repeat)

pub returns-then-not-all_bytes : goal.returns-then-not-all_bytes
returns-then-not-all_bytes c =
    let k = (goal.at.returns-then-not-all_bytes c).In-Repeat in
    let a = c.args in
    meet-repeat a.s.now a.at a.made a.left a.held.now _ (sym c.read_step-run.ensures.0 ∙ c.in-Repeat.is) (omega (arith, repeated k)) false (sym c.if-not-all_bytes.true ∙ c.all_bytes.ensures)

pub overflow_add-result : goal.overflow_add-result
overflow_add-result c = omega (arith, repeated (goal.at.overflow_add-result c).In-Repeat)

pub returns-else-not-begins_with : goal.returns-else-not-begins_with
returns-else-not-begins_with c =
    let k = (goal.at.returns-else-not-begins_with c).In-Copy in
    let a = c.args in
    meet-copy a.s.now a.at a.made a.left a.held.now _ (sym c.read_step-run.ensures.0 ∙ c.in-Copy.is) (copied k).1 true (sym c.if-not-begins_with.false ∙ c.begins_with.ensures)

pub returns-else-not-all_bytes : goal.returns-else-not-all_bytes
returns-else-not-all_bytes c =
    let k = (goal.at.returns-else-not-all_bytes c).In-Repeat in
    let a = c.args in
    meet-repeat a.s.now a.at a.made a.left a.held.now _ (sym c.read_step-run.ensures.0 ∙ c.in-Repeat.is) (omega (arith, repeated k)) true (sym c.if-not-all_bytes.false ∙ c.all_bytes.ensures)

pub returns-in-End : goal.returns-in-End
returns-in-End c =
    let a = c.args in
    meet-end a.s.now a.at a.made a.left a.held.now (sym c.read_step-run.ensures.0 ∙ c.in-End.is)

pub returns-in-Wrong : goal.returns-in-Wrong
returns-in-Wrong c =
    let a = c.args in
    meet-wrong a.s.now a.at a.made a.left a.held.now (sym c.read_step-run.ensures.0 ∙ c.in-Wrong.is)
