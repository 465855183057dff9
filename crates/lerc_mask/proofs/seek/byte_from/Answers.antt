use mathlib.Core.Path.{◌∙◌, ap}
use native.Mathlib.Omega.{arith}
use Rattle.lerc_mask.specs.Seek.{sought_from}
use Rattle.lerc_mask.proofs.Seeking.{Said, seeking-start, seeking-said}
use Rattle.lerc_mask.proofs.seek.byte_from.Goals as goal
use Rattle.lerc_mask.proofs.seek.byte_from.Goals.{After-seek_run-run}

-- what the answer of one turn means
told : (c : After-seek_run-run) →
    let a = c.args in
    Said a.section.now a.want a.i c.begin_at-place.result c.loop-byte.place c.seek_run-run.result
told c = seeking-said c.loop-byte.invariant c.seek_run-run.ensures

pub loop-byte-init : goal.loop-byte-init
loop-byte-init c = let a = c.args in rw c.begin_at-place.ensures (seeking-start a.section.now a.want a.i a.from)

pub overflow_sub-want : goal.overflow_sub-want
overflow_sub-want c = c.loop-byte.invariant.few

pub overflow_sub-i : goal.overflow_sub-i
overflow_sub-i c = c.loop-byte.invariant.before

pub returns-in-Byte : goal.returns-in-Byte
returns-in-Byte c =
    let t = (goal.at.returns-in-Byte c).After-seek_run-run in
    (rw c.in-Byte.is at (told t)) ∙ ap (sought_from _ _ _ _) c.begin_at-place.ensures

pub overflow_add-place : goal.overflow_add-place
overflow_add-place c =
    let x = rw c.in-Behind.is at (told (goal.at.overflow_add-place c).After-seek_run-run) in
    omega (arith, x.0.few)

pub loop-byte-smaller : goal.loop-byte-smaller
loop-byte-smaller c =
    let x = rw c.in-Behind.is at (told (goal.at.loop-byte-smaller c).After-seek_run-run) in
    omega (arith, x.1, x.2)

pub loop-byte-preserved : goal.loop-byte-preserved
loop-byte-preserved c = (rw c.in-Behind.is at (told (goal.at.loop-byte-preserved c).After-seek_run-run)).0

pub returns-in-Nowhere : goal.returns-in-Nowhere
returns-in-Nowhere c =
    let t = (goal.at.returns-in-Nowhere c).After-seek_run-run in
    (rw c.in-Nowhere.is at (told t)) ∙ ap (sought_from _ _ _ _) c.begin_at-place.ensures
