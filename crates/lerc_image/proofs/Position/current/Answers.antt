use Rattle.lerc_image.proofs.Position.current.Goals as goal

pub returns : goal.returns
returns c = rw (c.lesser.ensures, c.lesser-2.ensures)
