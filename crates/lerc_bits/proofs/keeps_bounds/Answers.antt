use mathlib.Core.Path.{refl}
use Rattle.lerc_bits.specs.Bits.{keeps}
use Rattle.lerc_bits.proofs.keeps_bounds.Goals as goal

pub returns : goal.returns
unfolding keeps
returns c = refl
