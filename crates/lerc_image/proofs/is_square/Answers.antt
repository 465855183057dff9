use mathlib.Core.Path.{refl}
use Rattle.lerc_image.specs.Parts.{is_square}
use Rattle.lerc_image.proofs.is_square.Goals as goal

pub returns : goal.returns
unfolding is_square
returns c = refl
