use Rattle.lerc_numeric.proofs.times.scale.Goals as goal

pub scale-requires : goal.scale-requires
scale-requires c = c.takes.ensures c.if-takes.true

pub returns-then-takes : goal.returns-then-takes
returns-then-takes c = c.scale.ensures

pub returns-else-takes : goal.returns-else-takes
returns-else-takes c = c.scale_words.ensures
