use Prim.Native.Nat.{◌-◌}
use mathlib.Core.Path.{◌≡◌}
use native.Mathlib.Omega.{arith}
use lib.ListN.{length}
use Rattle.lerc_words.proofs.Little.{Bytes}
use Rattle.lerc_mask.specs.Passes.{put_out}
use Rattle.lerc_mask.proofs.Passes.{Wrote, putting-start, putting-told, putting-length}
use Rattle.lerc_mask.proofs.write.Goals as goal
use Rattle.lerc_mask.proofs.write.Goals.{After-put_run, At-loop-next}

-- what the answer of one turn means
told : (c : After-put_run)
    → Wrote c.args.s.now c.args.want c.args.out.now c.loop-next.place.at
    (put_out c.args.s.now c.loop-next.place.at c.loop-next.place.made (c.args.want - c.loop-next.place.made) c.loop-next.out)
    c.put_run.result
told c =
    let a = c.args in
    let l = c.loop-next in
    let b : Bytes a.s.now = λ k. omega (arith, c.type_inv.s k) in
    rw c.put_run.ensures.0 (putting-told a.s.now a.want a.out.now l.place.at l.place.made l.out l.invariant b)

-- the length of the mask stays
same : (c : At-loop-next) → length c.loop-next.out ≡ length c.args.out.now
same c =
    let a = c.args in
    putting-length a.s.now a.want a.out.now c.loop-next.place.at c.loop-next.place.made c.loop-next.out c.loop-next.invariant (omega arith)

pub loop-next-init : goal.loop-next-init
loop-next-init c =
    let a = c.args in
    putting-start a.s.now a.want a.out.now

pub overflow_sub-want : goal.overflow_sub-want
overflow_sub-want c = c.loop-next.invariant.few

pub put_run-requires : goal.put_run-requires
put_run-requires c =
    let f = c.loop-next.invariant.few in
    omega (arith, same (goal.at.put_run-requires c).At-loop-next)

pub returns : goal.returns
returns c = λ m r. rw c.put_run.ensures.1 ((rw c.in_default.is at (told (goal.at.returns c).After-put_run)) m r)

pub loop-next-smaller : goal.loop-next-smaller
loop-next-smaller c =
    let x = rw c.in-Some.is at (told (goal.at.loop-next-smaller c).After-put_run) in
    let q = x.1 in
    let y = x.0.inside in
    omega arith

pub loop-next-preserved : goal.loop-next-preserved
loop-next-preserved c = rw c.put_run.ensures.1 (rw c.in-Some.is at (told (goal.at.loop-next-preserved c).After-put_run)).0
