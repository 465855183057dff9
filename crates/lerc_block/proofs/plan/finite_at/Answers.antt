use mathlib.Core.Path.{◌≡◌, ◌∙◌, sym}
use Prim.Native.Nat.{◌≤◌}
use Rattle.lerc_words.specs.Res.{ok, word_at}
use Rattle.lerc_words.proofs.Marking.{exits}
use Rattle.lerc_numeric.specs.Kinds.{type_size}
use Rattle.lerc_numeric.proofs.Integers.{size-le}
use Rattle.lerc_bits.proofs.Returns.{read-bare}
use Rattle.lerc_block.proofs.Planning.{word-no, word-endless, word_ok}
use Rattle.lerc_block.proofs.plan.finite_at.Goals as goal
use Rattle.lerc_block.proofs.plan.finite_at.Goals.{After-size, In_ok-word}

small : (k : After-size) → k.size.result ≤ 8
small k = rw k.size.ensures (size-le k.args.kind)

read : (k : In_ok-word) →
    let a = k.args in
    word_at (type_size a.kind) a.s.now a.at ≡ ok k.in_ok-word.word
read k =
    let a = k.args in
    let z = (goal.at.In_ok-word k).After-size in
    rw (← k.size.ensures) (sym (k.in_ok-word.ensures ∙ read-bare a.s.now a.at k.size.result (small z) k.word.ensures))

pub returns-in_err-word : goal.returns-in_err-word
returns-in_err-word c =
    let z = (goal.at.returns-in_err-word c).After-size in
    let a = c.args in
    let w = sym (c.in_err-word.ensures ∙ read-bare a.s.now a.at c.size.result (small z) c.word.ensures) in
    exits _ c.from_residual.ensures.1 ∙ word-no a.kind a.s.now a.at (rw c.size.ensures at w)

pub returns-then-finite_word : goal.returns-then-finite_word
returns-then-finite_word c =
    let k = (goal.at.returns-then-finite_word c).In_ok-word in
    let a = c.args in
    word_ok a.kind a.s.now a.at (read k) (sym c.finite_word.ensures ∙ c.if-finite_word.true)

pub returns : goal.returns
returns c =
    let k = (goal.at.returns c).In_ok-word in
    let a = c.args in
    word-endless a.kind a.s.now a.at (read k) (sym c.finite_word.ensures ∙ c.if-finite_word.false)
