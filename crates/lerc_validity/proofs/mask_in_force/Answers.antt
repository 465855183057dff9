use mathlib.Core.Path.{refl}
use Rattle.lerc_validity.specs.Validity.{in_force}
use Rattle.lerc_validity.proofs.mask_in_force.Goals as goal

pub returns-in-Ok-Kept : goal.returns-in-Ok-Kept
unfolding in_force
returns-in-Ok-Kept c = let k = c.in-Ok-Kept in rw (k.is, rw k.is at k.field-0-is) c.first_of.ensures

pub returns-in-Ok-Spare : goal.returns-in-Ok-Spare
unfolding in_force
returns-in-Ok-Spare c = let k = c.in-Ok-Spare in rw (k.is, rw k.is at k.field-0-is) c.first_of-in-Ok-Spare.ensures

pub returns-in-Err : goal.returns-in-Err
unfolding in_force
returns-in-Err c = rw c.in-Err.is (refl, refl)
