use mathlib.Core.Path.{sym, ◌∙◌}
use borrow.Author.Tests.{ltb-true}
use borrow.Author.Rules.{rules}
use Rattle.lerc_numeric.proofs.machine.takes.Goals as goal

pub returns-then-this : goal.returns-then-this
returns-then-this c e = ltb-true _ _ (sym c.is_finite.ensures ∙ e)

pub returns-else-this : goal.returns-else-this
returns-else-this c e = absurd (search rules)
