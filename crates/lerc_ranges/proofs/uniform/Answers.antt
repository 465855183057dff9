use mathlib.Core.Path.{refl}
use Rattle.lerc_ranges.specs.Ranges.{uniform_ranges}
use Rattle.lerc_ranges.proofs.uniform.Goals as goal

pub returns : goal.returns
unfolding uniform_ranges
returns c = refl
