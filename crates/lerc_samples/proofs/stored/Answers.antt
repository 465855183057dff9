use mathlib.Core.Path.{◌∙◌}
use Rattle.lerc_words.proofs.Marking.{exits}
use Rattle.lerc_samples.proofs.Words.{stored_cut, stored-six, stored_last}
use Rattle.lerc_samples.proofs.stored.Goals as goal

pub returns-in_err-w : goal.returns-in_err-w
returns-in_err-w c = exits _ c.from_residual.ensures.1 ∙ stored_cut _ _ c.if-kind-lt6.true c.in_err-w.ensures

pub returns-then-kind-lt6 : goal.returns-then-kind-lt6
returns-then-kind-lt6 c = stored_cut _ _ c.if-kind-lt6.true c.in_ok-w.ensures

pub returns-then-kind-eq6 : goal.returns-then-kind-eq6
returns-then-kind-eq6 c = stored-six _ _ _ c.if-kind-eq6.true c.narrow.ensures

pub returns-else-kind-eq6 : goal.returns-else-kind-eq6
returns-else-kind-eq6 c = stored_last _ _ c.if-kind-lt6.false c.if-kind-eq6.false
