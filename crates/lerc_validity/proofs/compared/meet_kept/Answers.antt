use Rattle.lerc_words.proofs.Marking.{exits}
use Rattle.lerc_validity.proofs.Preparing.{prepared-no}
use Rattle.lerc_validity.proofs.Comparing.{compared-no, kept-compared}
use Rattle.lerc_validity.proofs.compared.meet_kept.Goals as goal

pub returns-in_err-mask : goal.returns-in_err-mask
returns-in_err-mask c = λ spare. rw (exits _ c.from_residual.ensures.1) (compared-no (prepared-no _ (c.in_err-mask.ensures spare)))

pub returns : goal.returns
returns c =
    let a = c.args in
    λ spare. kept-compared a.h a.reuse a.kept.now spare (c.in_ok-mask.ensures spare)
