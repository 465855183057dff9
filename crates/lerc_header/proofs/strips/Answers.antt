use mathlib.Core.Path.{refl}
use Rattle.lerc_header.specs.Shape.{strips}
use Rattle.lerc_header.proofs.strips.Goals as goal

pub returns : goal.returns
unfolding strips
returns c = refl
