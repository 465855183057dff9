use Prim.Native.Nat.{ℕ, ◌≤◌}
use mathlib.Core.Path.{ap, refl}
use mathlib.Core.List.{List}
use native.Mathlib.Omega.{arith}
use lib.ListN.{length, replicate, length-take}
use Rattle.lerc_words.proofs.Marking.{exits}
use Rattle.lerc_bits.specs.Bits.{unpacked}
use Rattle.lerc_bits.proofs.Plans.{by-kept}
use Rattle.lerc_bits.proofs.Returns.{CountsGiven, decode-ok, decode_no}
use Rattle.lerc_block.specs.Plan.{ended}
use Rattle.lerc_block.proofs.Returns.{refused, likewise}
use Rattle.lerc_block.proofs.StepWords.{steps-other, steps-no, counts-room, steps-each, counts-few}
use Rattle.lerc_block.proofs.read_steps.Goals as goal
use Rattle.lerc_block.proofs.read_steps.Goals.{After-value_bits-bits, Else-plan-n, In_ok-decode_plan}

pub returns-then-plan-n : goal.returns-then-plan-n
returns-then-plan-n c =
    let a = c.args in
    refused refl (ap (ended a.next) (steps-other a.s.now a.kind a.error a.top a.n a.steps c.if-plan-n.true))

-- ---- after the counts were read
read : (k : In_ok-decode_plan) →
    let a = k.args in
    CountsGiven (unpacked a.s.now a.steps.counts) k.in_ok-decode_plan.field-0.n k.in_ok-decode_plan.field-0.next (replicate 256 0) k.decode_plan.new.out
read k = decode-ok _ (rw (by-kept k.args.s.now k.args.steps.counts k.requires.2.1) at k.in_ok-decode_plan.ensures) refl

-- ---- after the width of the values was computed
abbrev counts : (c : After-value_bits-bits) → List ℕ
counts k = k.decode_plan.new.out

room : (k : After-value_bits-bits) →
    let a = k.args in
    a.n ≤ length (counts k)
room k =
    let a = k.args in
    counts-room a.s.now a.kind a.error a.top a.n a.steps k.if-plan-n.false (read (goal.at.After-value_bits-bits k).In_ok-decode_plan)

pub returns-in_err-decode_plan : goal.returns-in_err-decode_plan
returns-in_err-decode_plan c =
    let a = c.args in
    let e = rw (by-kept a.s.now a.steps.counts c.requires.2.1) at c.in_err-decode_plan.ensures in
    refused (exits _ c.from_residual.ensures.1) (ap (ended a.next) (steps-no a.s.now a.kind a.error a.top a.n a.steps c.if-plan-n.false (decode_no _ e refl).0))

pub slice_bounds-counts-end : goal.slice_bounds-counts-end
slice_bounds-counts-end c = room (goal.at.slice_bounds-counts-end c).After-value_bits-bits

pub slice_bounds-convert_counts-end : goal.slice_bounds-convert_counts-end
slice_bounds-convert_counts-end c = simp length-take (omega (arith, room (goal.at.slice_bounds-convert_counts-end c).After-value_bits-bits))

pub convert_counts-requires : goal.convert_counts-requires
convert_counts-requires c =
    let k = (goal.at.convert_counts-requires c).After-value_bits-bits in
    let a = c.args in (
      simp length-take (omega (arith, room k, c.requires.0)),
      simp length-take (omega (arith, room k, c.requires.1)),
      c.requires.2.0,
      rw c.value_bits-bits.ensures (counts-few a.s.now a.kind a.error a.top a.n a.steps c.if-plan-n.false (read (goal.at.convert_counts-requires c).In_ok-decode_plan) c.requires.2.1),
    )

pub returns : goal.returns
returns c =
    let a = c.args in
    likewise (ap (ended a.next) (steps-each a.s.now a.kind a.error a.top a.n a.steps c.if-plan-n.false (read (goal.at.returns c).In_ok-decode_plan) refl)) c.convert_counts.ensures
