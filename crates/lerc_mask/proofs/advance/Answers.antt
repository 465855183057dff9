use mathlib.Core.Path.{◌∙◌, sym}
use Rattle.lerc_mask.specs.Passes.{go_on}
use Rattle.lerc_mask.proofs.advance.Goals as goal

pub copied-requires : goal.copied-requires
copied-requires c = (rw c.in-Copy.is at c.read_step-run.ensures.1, c.requires)

pub repeated-requires : goal.repeated-requires
repeated-requires c = (rw c.in-Repeat.is at c.read_step-run.ensures.1, c.requires)

pub returns-in-Copy : goal.returns-in-Copy
unfolding go_on
returns-in-Copy c = rw (sym c.read_step-run.ensures.0 ∙ c.in-Copy.is, c.copied.ensures)

pub returns-in-Repeat : goal.returns-in-Repeat
unfolding go_on
returns-in-Repeat c = rw (sym c.read_step-run.ensures.0 ∙ c.in-Repeat.is, c.repeated.ensures)

pub returns-in-End : goal.returns-in-End
unfolding go_on
returns-in-End c = rw (sym c.read_step-run.ensures.0 ∙ c.in-End.is)

pub returns-in-Wrong : goal.returns-in-Wrong
unfolding go_on
returns-in-Wrong c = rw (sym c.read_step-run.ensures.0 ∙ c.in-Wrong.is)
