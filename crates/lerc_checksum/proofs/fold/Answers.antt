use mathlib.Core.Path.{refl}
use Rattle.lerc_checksum.specs.Checksum as Rule
use Rattle.lerc_checksum.proofs.fold.Goals as goal

pub returns : goal.returns
unfolding Rule.fold
returns c = refl
