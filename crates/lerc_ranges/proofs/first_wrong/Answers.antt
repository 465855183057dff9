use mathlib.Core.Path.{◌≡◌, ◌∙◌, sym}
use native.Mathlib.Omega.{arith}
use Rattle.lerc_ranges.proofs.ByDepth.{pairs-none, pairs-more}
use Rattle.lerc_ranges.proofs.Wrong.{first-wrong-is, first-wrong-none}
use Rattle.lerc_ranges.proofs.first_wrong.Goals as goal

pub loop-i-init : goal.loop-i-init
loop-i-init c = pairs-none _

pub returns-then-not-pair_right : goal.returns-then-not-pair_right
returns-then-not-pair_right c =
    sym (first-wrong-is _ c.loop-i.i _ (omega arith) c.loop-i.invariant (sym c.pair_right.ensures ∙ c.if-not-pair_right.true))

pub loop-i-preserved : goal.loop-i-preserved
loop-i-preserved c =
    rw (pairs-more, c.loop-i.invariant, sym c.pair_right.ensures ∙ c.if-not-pair_right.false)

pub returns : goal.returns
returns c =
    let e : c.loop-i.i ≡ c.args.depth = omega arith in
    sym (first-wrong-none _ _ (rw (e) at c.loop-i.invariant))
