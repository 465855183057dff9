use Prim.Native.Nat.{ℕ}
use mathlib.Core.Path.{◌≡◌, ◌∙◌, sym}
use native.Mathlib.Omega.{arith}
use Rattle.lerc_words.specs.Res.{ok}
use Rattle.lerc_words.proofs.Marking.{exits}
use Rattle.lerc_block.specs.Check.{read_flag}
use Rattle.lerc_block.proofs.Returns.{Flagged, read-flag-is}
use Rattle.lerc_block.proofs.Planning.{plan-no, plan-raw, plan-zero, plan-offset}
use Rattle.lerc_block.proofs.plan.plan_block.Goals as goal
use Rattle.lerc_block.proofs.plan.plan_block.Goals.{In_ok-flag}

abbrev flag : (c : In_ok-flag) → ℕ
flag k = k.in_ok-flag.flag

read : (k : In_ok-flag) → let a = k.args in read_flag a.s.now a.at a.x a.n ≡ ok (flag k)
read k = sym k.in_ok-flag.ensures

flagged : (k : In_ok-flag) → let a = k.args in Flagged a.s.now a.at a.n (flag k)
flagged k = let a = k.args in read-flag-is a.s.now a.at a.x a.n (read k)

pub returns-in_err-flag : goal.returns-in_err-flag
returns-in_err-flag c =
    let a = c.args in
    exits _ c.from_residual.ensures.1 ∙ plan-no a.s.now a.at a.kind a.x a.n (sym c.in_err-flag.ensures)

pub overflow_add-at : goal.overflow_add-at
overflow_add-at c = let k = (goal.at.overflow_add-at c).In_ok-flag in omega (arith, c.well_formed, (flagged k).inside)

pub inspect_raw-requires : goal.inspect_raw-requires
inspect_raw-requires c = let f = flagged (goal.at.inspect_raw-requires c).In_ok-flag in (f.few, f.inside)

pub returns-then-flag-eq0 : goal.returns-then-flag-eq0
returns-then-flag-eq0 c =
    let k = (goal.at.returns-then-flag-eq0 c).In_ok-flag in
    let a = c.args in
    c.inspect_raw.ensures ∙ plan-raw a.s.now a.at a.kind a.x a.n (read k) c.if-flag-eq0.true

pub overflow_add-result : goal.overflow_add-result
overflow_add-result c = let k = (goal.at.overflow_add-result c).In_ok-flag in omega (arith, c.well_formed, (flagged k).inside)

pub returns-then-flag-eq2 : goal.returns-then-flag-eq2
returns-then-flag-eq2 c =
    let k = (goal.at.returns-then-flag-eq2 c).In_ok-flag in
    let a = c.args in
    plan-zero a.s.now a.at a.kind a.x a.n (read k) c.if-flag-eq2.true

pub overflow_add-at-2 : goal.overflow_add-at-2
overflow_add-at-2 c = let k = (goal.at.overflow_add-at-2 c).In_ok-flag in omega (arith, c.well_formed, (flagged k).inside)

pub overflow_cast-flag : goal.overflow_cast-flag
overflow_cast-flag c =
    let k = (goal.at.overflow_cast-flag c).In_ok-flag in
    omega (arith, (flagged k).byte (λ i. omega (arith, c.type_inv.s i)))

pub returns : goal.returns
returns c =
    let k = (goal.at.returns c).In_ok-flag in
    let a = c.args in
    c.inspect_offset.ensures ∙ plan-offset a.s.now a.at a.kind a.x a.n (read k) c.if-flag-eq0.false c.if-flag-eq2.false
