use Rattle.lerc_checksum.proofs.fold_both.Goals as goal

pub returns : goal.returns
returns c = rw (c.fold.ensures, c.fold-2.ensures)
