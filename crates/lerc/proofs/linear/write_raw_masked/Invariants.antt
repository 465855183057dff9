use mathlib.Core.Path.{◌≡◌}
use Prim.Native.Nat.{◌+◌, ◌*◌}
use Rattle.lerc_mask.specs.Mask.{valid_below}
use Rattle.lerc_image.specs.Paint.{painted}
use Rattle.lerc_image.specs.Cells.{valid_upto}
use Rattle.lerc.specs.Linear.{raw_word}
use Rattle.lerc.proofs.linear.write_raw_masked.Given as goal

abbrev pub invariant-loop-p : goal.invariant-loop-p
invariant-loop-p l = (l.base ≡ l.p * l.h.depth) × (l.from ≡ l.at + valid_below l.p l.mask * l.h.depth * l.size) × (l.image ≡ painted l.initial.image (valid_upto l.h l.mask (l.p * l.h.depth)) (raw_word l.s l.at l.size l.h l.mask))
