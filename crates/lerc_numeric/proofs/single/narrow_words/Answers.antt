use Rattle.lerc_numeric.proofs.single.narrow_words.Goals as goal

pub narrow_normal-requires : goal.narrow_normal-requires
narrow_normal-requires c = c.each_normal.ensures c.if-each_normal.true
