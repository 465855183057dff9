use Rattle.lerc_numeric.proofs.clamp.step.Goals as goal

pub step-requires : goal.step-requires
step-requires c = c.takes_step.ensures c.if-takes_step.true

pub returns-then-takes_step : goal.returns-then-takes_step
returns-then-takes_step c = c.step.ensures

pub returns-else-takes_step : goal.returns-else-takes_step
returns-else-takes_step c = c.step_words.ensures
