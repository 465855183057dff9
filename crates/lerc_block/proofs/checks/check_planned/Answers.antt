use mathlib.Core.Path.{sym}
use Rattle.lerc_block.specs.Plan.{planned_block, form_words}
use Rattle.lerc_block.specs.Block.{level_block}
use Rattle.lerc_block.proofs.Fitting.{level-next}
use Rattle.lerc_block.proofs.checks.check_planned.Goals as goal

pub check_steps-requires : goal.check_steps-requires
check_steps-requires c =
    (c.requires.0, rw c.in-Stepped.is at c.requires.1)

pub returns-in-Raw : goal.returns-in-Raw
unfolding planned_block form_words
returns-in-Raw c = rw c.in-Raw.is

pub returns-in-Zero : goal.returns-in-Zero
unfolding planned_block form_words
returns-in-Zero c = rw c.in-Zero.is

pub returns-in-Level : goal.returns-in-Level
unfolding planned_block form_words level_block
returns-in-Level c =
    rw c.in-Level.is (sym (level-next c.args.p.next c.args.kind c.args.n c.in-Level._offset (rw c.in-Level.is at c.requires.1)))

pub returns-in-Stepped : goal.returns-in-Stepped
unfolding planned_block form_words
returns-in-Stepped c = rw c.in-Stepped.is c.check_steps.ensures
