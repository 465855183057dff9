use borrow.Author.Tests.{le-leb, lt-leb}
use mathlib.Core.Path.{◌∙◌, sym, ap}
use Prim.Native.Nat.{◌^◌}
use native.Mathlib.Omega.{arith}
use Rattle.lerc_words.specs.Res.{accepts}
use Rattle.lerc_block.proofs.Fitting.{fit-float, fit-negative, fit-maximum}
use Rattle.lerc_block.proofs.checks.steps_fit.Goals as goal

pub returns-then-kind-ge6 : goal.returns-then-kind-ge6
returns-then-kind-ge6 c = let a = c.args in sym (fit-float a.kind a.error a.top c.if-kind-ge6.true)

pub returns-then-error-ge9223372036854775808 : goal.returns-then-error-ge9223372036854775808
returns-then-error-ge9223372036854775808 c = let a = c.args in sym (fit-negative a.kind a.error a.top (omega arith) (le-leb _ _ c.if-error-ge9223372036854775808.true))

-- past both tests the maximum decides
pub returns : goal.returns
returns c =
    let a = c.args in
    c.is_ok.ensures.value ∙ ap accepts c.stored.ensures ∙ sym (fit-maximum a.kind a.error a.top (omega arith) (lt-leb (2 ^ 63) a.error (omega arith)))
