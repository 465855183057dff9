use mathlib.Core.Path.{◌∙◌, sym}
use Rattle.lerc_ranges.specs.Ranges.{pairs_says}
use Rattle.lerc_ranges.proofs.pairs.Goals as goal

pub returns-then-pairs_right : goal.returns-then-pairs_right
unfolding pairs_says
returns-then-pairs_right c = rw (← c.within.ensures, sym c.pairs_right.ensures ∙ c.if-pairs_right.true)

pub returns-else-pairs_right : goal.returns-else-pairs_right
unfolding pairs_says
returns-else-pairs_right c = rw (← c.within.ensures, sym c.pairs_right.ensures ∙ c.if-pairs_right.false)
