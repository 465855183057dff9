use mathlib.Core.Path.{sym, ap}
use mathlib.Core.Bool.{Bool, cond}
use Rattle.lerc_mask.specs.Seek.{front, begin_at}
use Rattle.lerc_mask.proofs.seek.begin_at.Goals as goal

pub returns-then-from-i : goal.returns-then-from-i
unfolding begin_at
returns-then-from-i c = sym (ap (λ (t : Bool). cond t c.args.from front) c.if-from-i.true)

pub returns : goal.returns
unfolding begin_at
returns c = sym (ap (λ (t : Bool). cond t c.args.from front) c.if-from-i.false)
