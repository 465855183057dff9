use native.Mathlib.Omega.{arith}
use Rattle.lerc_words.proofs.Little.{Bytes}
use Rattle.lerc_mask.proofs.Meeting.{Says, meeting-start, meeting-told}
use Rattle.lerc_mask.proofs.compared.is_held.Goals as goal
use Rattle.lerc_mask.proofs.compared.is_held.Goals.{After-meet_run}

-- what the answer of one turn means
told : (c : After-meet_run)
    → Says c.args.s.now c.args.want c.args.held.now c.loop-next.place.at c.meet_run.result
told c =
    let a = c.args in
    let l = c.loop-next in
    let b : Bytes a.s.now = λ k. omega (arith, c.type_inv.s k) in
    rw c.meet_run.ensures (meeting-told a.s.now a.want a.held.now l.place.at l.place.made l.invariant b)

pub loop-next-init : goal.loop-next-init
loop-next-init c =
    let a = c.args in
    meeting-start a.s.now a.want a.held.now

pub overflow_sub-want : goal.overflow_sub-want
overflow_sub-want c = c.loop-next.invariant.few

pub meet_run-requires : goal.meet_run-requires
meet_run-requires c = let f = c.loop-next.invariant.few in omega arith

pub loop-next-smaller : goal.loop-next-smaller
loop-next-smaller c =
    let x = rw c.in-Continue.is at (told (goal.at.loop-next-smaller c).After-meet_run) in
    let q = x.1 in
    let y = x.0.inside in
    omega arith

pub loop-next-preserved : goal.loop-next-preserved
loop-next-preserved c = (rw c.in-Continue.is at (told (goal.at.loop-next-preserved c).After-meet_run)).0

pub returns-in-Break : goal.returns-in-Break
returns-in-Break c = rw c.in-Break.is at (told (goal.at.returns-in-Break c).After-meet_run)
