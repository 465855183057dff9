use mathlib.Core.Path.{sym}
use native.Mathlib.Nat.{div-zero}
use Rattle.lerc_text.proofs.pixel_of.Goals as goal

pub returns-then-depth-eq0 : goal.returns-then-depth-eq0
returns-then-depth-eq0 c = rw c.if-depth-eq0.true (sym (div-zero _))
