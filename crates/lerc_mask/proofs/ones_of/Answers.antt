use Rattle.lerc_mask.proofs.Cut.{bits-whole}
use Rattle.lerc_mask.proofs.ones_of.Goals as goal

pub returns : goal.returns
returns c = rw (bits-whole c.args.x c.ranges.x.fits) at c.ones_cut.ensures
