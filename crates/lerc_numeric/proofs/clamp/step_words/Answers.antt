use Rattle.lerc_numeric.proofs.clamp.step_words.Goals as goal

pub returns : goal.returns
returns c = rw (c.minimum.ensures, c.plus_words.ensures, c.scale_words.ensures)
