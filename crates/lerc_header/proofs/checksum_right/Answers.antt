use Rattle.lerc_header.specs.Header as Rules
use Rattle.lerc_header.proofs.checksum_right.Goals as goal

pub returns : goal.returns
unfolding Rules.checksum_right
returns c = rw (c.quad.ensures, c.checksum.ensures)
