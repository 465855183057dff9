use Prim.Native.Nat.{ℕ}
use mathlib.Core.Path.{◌≡◌, ◌∙◌, sym}
use native.Mathlib.Omega.{arith}
use Rattle.lerc_words.specs.Res.{ok, word_at}
use Rattle.lerc_words.proofs.Marking.{exits}
use Rattle.lerc_bits.proofs.Returns.{read-bare}
use Rattle.lerc_block.proofs.Returns.{flag-many, flag-no, flag-strange, flag_ok}
use Rattle.lerc_block.proofs.plan.flag_at.Goals as goal
use Rattle.lerc_block.proofs.plan.flag_at.Goals.{In_ok-flag}

abbrev flag : (c : In_ok-flag) → ℕ
flag k = k.in_ok-flag.flag

read : (k : In_ok-flag) → word_at 1 k.args.s.now k.args.at ≡ ok (flag k)
read k =
    let a = k.args in
    sym (k.in_ok-flag.ensures ∙ read-bare a.s.now a.at 1 (omega arith) k.word.ensures)

pub returns-then-n-gt256 : goal.returns-then-n-gt256
returns-then-n-gt256 c = let a = c.args in flag-many a.s.now a.at a.x a.n c.if-n-gt256.true

pub returns-in_err-flag : goal.returns-in_err-flag
returns-in_err-flag c =
    let a = c.args in
    exits _ c.from_residual.ensures.1
    ∙ flag-no a.s.now a.at a.x a.n c.if-n-gt256.false (sym (c.in_err-flag.ensures ∙ read-bare a.s.now a.at 1 (omega arith) c.word.ensures))

pub returns-then-flag-x : goal.returns-then-flag-x
returns-then-flag-x c =
    let k = (goal.at.returns-then-flag-x c).In_ok-flag in
    let a = c.args in
    flag-strange a.s.now a.at a.x a.n c.if-n-gt256.false (flag k) (read k) c.if-flag-x.true

pub returns : goal.returns
returns c =
    let k = (goal.at.returns c).In_ok-flag in
    let a = c.args in
    flag_ok a.s.now a.at a.x a.n c.if-n-gt256.false (flag k) (read k) c.if-flag-x.false
