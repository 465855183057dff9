use Rattle.lerc_numeric.specs.Numeric.{less, lesser}
use mathlib.Core.Path.{◌≡◌, sym, ◌∙◌}
use mathlib.Core.Bool.{true, false}
use Rattle.lerc_numeric.proofs.order.minimum.Goals as goal

pub returns-then-less : goal.returns-then-less
unfolding lesser
returns-then-less c = let a = c.args in let t : less a.a a.b ≡ true = sym c.less.ensures ∙ c.if-less.true in rw (t)

pub returns-else-less : goal.returns-else-less
unfolding lesser
returns-else-less c = let a = c.args in let t : less a.a a.b ≡ false = sym c.less.ensures ∙ c.if-less.false in rw (t)
