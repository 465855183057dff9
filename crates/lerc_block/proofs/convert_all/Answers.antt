use Prim.Native.Nat.{ℕ}
use Rattle.lerc_numeric.specs.Kinds.{narrowed}
use Rattle.lerc_block.specs.Plan.{offset_value}
use Rattle.lerc_block.proofs.StepWords.{tried-all}
use Rattle.lerc_block.proofs.FloatWords.{stored-single, stored-double, mapped-put}
use Rattle.lerc_block.proofs.convert_all.Goals as goal

pub returns-then-kind-eq6 : goal.returns-then-kind-eq6
returns-then-kind-eq6 c =
    let a = c.args in
    tried-all
    (mapped-put a.kind a.error a.top (offset_value a.offset) a.bits narrowed (λ w. stored-single a.kind w c.if-kind-eq6.true) a.counts.now c.requires.2 c.requires.0
    c.number-value.ensures c.single_steps.ensures)

pub returns-else-kind-eq6 : goal.returns-else-kind-eq6
returns-else-kind-eq6 c =
    let a = c.args in
    tried-all
    (mapped-put a.kind a.error a.top (offset_value a.offset) a.bits (λ (w : ℕ). w) (λ w. stored-double a.kind w c.if-kind-lt6.false c.if-kind-eq6.false) a.counts.now c.requires.2
    c.requires.0 c.number-value.ensures c.steps.ensures)
