use mathlib.Core.Path.{◌∙◌}
use Rattle.lerc_words.proofs.Marking.{exits}
use Rattle.lerc_validity.proofs.Preparing.{from_runs-is}
use Rattle.lerc_validity.proofs.from_runs.Goals as goal

pub returns-in_err-n : goal.returns-in_err-n
returns-in_err-n c = exits _ c.from_residual.ensures.1 ∙ from_runs-is c.args.answer c.in_err-n.ensures

pub returns : goal.returns
returns c = from_runs-is c.args.answer c.in_ok-n.ensures
