use Rattle.lerc_numeric.specs.Steps.{step_of}
use Rattle.lerc_block.proofs.step.Goals as goal

pub returns : goal.returns
unfolding step_of
returns c = rw (c.stored.ensures, c.step.ensures)
