use mathlib.Core.Path.{◌≡◌}
use Prim.Native.Nat.{◌*◌}
use Rattle.lerc_image.specs.Paint.{painted}
use Rattle.lerc_image.specs.Cells.{valid_upto}
use Rattle.lerc.specs.Linear.{depth_word}
use Rattle.lerc.proofs.linear.write_constant.Given as goal

abbrev pub invariant-loop-p : goal.invariant-loop-p
invariant-loop-p l = (l.base ≡ l.p * l.h.depth) × (l.image ≡ painted l.initial.image (valid_upto l.h l.mask (l.p * l.h.depth)) (depth_word l.h l.words))
