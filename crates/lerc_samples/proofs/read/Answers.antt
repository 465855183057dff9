use mathlib.Core.Path.{refl, ◌∙◌}
use Rattle.lerc_words.proofs.Marking.{exits}
use Rattle.lerc_samples.proofs.Words.{sample-ok, sample-no}
use Rattle.lerc_samples.proofs.read.Goals as goal

pub returns-in_err-w : goal.returns-in_err-w
returns-in_err-w c =
    let a = c.args in
    exits _ c.from_residual.ensures.1 ∙ sample-no a.kind _ a.s.now a.at c.size.ensures c.in_err-w.ensures _ refl

pub returns : goal.returns
returns c =
    let a = c.args in
    sample-ok a.kind _ a.s.now a.at c.size.ensures c.in_ok-w.ensures _ _ refl c.number.ensures
