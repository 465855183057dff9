use mathlib.Core.Path.{sym, ap, refl}
use Rattle.lerc_words.proofs.Marking.{marked-ok}
use Rattle.lerc_block.specs.Plan.{plan_end}
use Rattle.lerc_block.proofs.Usual.{found-plan}
use Rattle.lerc_block.proofs.plan.block_end.Goals as goal

pub returns-in-Some : goal.returns-in-Some
returns-in-Some c =
    let a = c.args in
    sym (ap plan_end (marked-ok a.at (found-plan a.s.now a.at a.kind a.x (c.in-Some.ensures _ refl) a.n c.if-n-le256.true)))
