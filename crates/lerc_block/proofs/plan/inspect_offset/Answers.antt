use Prim.Native.Nat.{◌≤◌, ◌+◌, ◌/◌}
use mathlib.Core.Path.{◌≡◌, ◌∙◌, sym}
use native.Mathlib.Omega.{arith}
use lib.ListN.{length}
use Rattle.lerc_words.specs.Res.{ok}
use Rattle.lerc_words.proofs.Little.{word_at-is}
use Rattle.lerc_words.proofs.Marking.{exits}
use Rattle.lerc_samples.specs.Samples.{offset_kind}
use Rattle.lerc_block.specs.Plan.{finite_word}
use Rattle.lerc_block.proofs.Planning.{word-is, offset-no-kind, offset-no-word, offset-level, offset-steps}
use Rattle.lerc_block.proofs.plan.inspect_offset.Goals as goal
use Rattle.lerc_block.proofs.plan.inspect_offset.Goals.{In_ok-k, In_ok-word}

named : (k : In_ok-k) → let a = k.args in offset_kind a.kind (a.flag / 64) ≡ ok k.in_ok-k.k
named k = sym k.in_ok-k.ensures

read : (k : In_ok-word) →
    let a = k.args in
    finite_word k.in_ok-k.k a.s.now a.at ≡ ok k.in_ok-word.word
read k = sym k.in_ok-word.ensures

pub returns-in_err-k : goal.returns-in_err-k
returns-in_err-k c =
    let a = c.args in
    exits _ c.from_residual.ensures.1 ∙ offset-no-kind a.s.now a.at a.kind a.flag (sym c.in_err-k.ensures)

pub returns-in_err-word : goal.returns-in_err-word
returns-in_err-word c =
    let j = (goal.at.returns-in_err-word c).In_ok-k in
    let a = c.args in
    exits _ c.from_residual-in_err-word.ensures.1 ∙ offset-no-word a.s.now a.at a.kind a.flag (named j) (sym c.in_err-word.ensures)

pub overflow_add-next : goal.overflow_add-next
overflow_add-next c =
    let k = (goal.at.overflow_add-next c).In_ok-word in
    let w = (word-is _ c.args.s.now c.args.at (read k)).0 in
    let h : c.args.at + c.size.result ≤ length c.args.s.now = rw c.size.ensures (word_at-is _ c.args.s.now c.args.at _ w).inside in
    omega (arith, c.well_formed, h)

pub returns-then-flag-eq3 : goal.returns-then-flag-eq3
returns-then-flag-eq3 c =
    let k = (goal.at.returns-then-flag-eq3 c).In_ok-word in
    let j = (goal.at.returns-then-flag-eq3 c).In_ok-k in
    let a = c.args in
    offset-level a.s.now a.at a.kind a.flag (named j) (read k) c.size.ensures c.if-flag-eq3.true

pub returns : goal.returns
returns c =
    let k = (goal.at.returns c).In_ok-word in
    let j = (goal.at.returns c).In_ok-k in
    let a = c.args in
    c.inspect_steps.ensures ∙ offset-steps a.s.now a.at a.kind a.flag (named j) (read k) c.size.ensures c.if-flag-eq3.false
