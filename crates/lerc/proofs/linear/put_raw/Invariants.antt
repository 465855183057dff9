use Prim.Native.Nat.{◌-◌}
use mathlib.Core.Path.{◌≡◌}
use Prim.Native.Nat.{◌+◌, ◌*◌}
use Rattle.lerc_words.specs.Res.{little}
use Rattle.lerc_image.specs.Paint.{painted}
use Rattle.lerc_image.specs.Cells.{within}
use Rattle.lerc.proofs.linear.put_raw.Given as goal

abbrev pub invariant-loop-d : goal.invariant-loop-d
invariant-loop-d l = (l.from ≡ l.at + l.d * l.size) × (l.image ≡ painted l.initial.image (within l.base l.d) (λ c. little l.size l.s (l.at + (c - l.base) * l.size)))
