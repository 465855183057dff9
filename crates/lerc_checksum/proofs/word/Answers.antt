use Rattle.lerc_checksum.specs.Checksum as Rule
use Rattle.lerc_checksum.proofs.word.Goals as goal

pub returns : goal.returns
unfolding Rule.word
returns c = c.pair.ensures
