use Rattle.lerc_words.proofs.Marking.{exits}
use Rattle.lerc.specs.Parts.{mask_by}
use Rattle.lerc.proofs.Checking.{blocks-no, blocks-found}
use Rattle.lerc.proofs.body.check_blocks.Goals as goal

pub returns-in_err-walked : goal.returns-in_err-walked
returns-in_err-walked c =
    let a = c.args in
    rw (exits _ c.from_residual.ensures.1) (blocks-no a.s.now a.h a.maxima.now (mask_by a.s.now a.h a.lent a.mask.now) a.at c.in_err-walked.ensures)

pub returns : goal.returns
returns c =
    let a = c.args in
    blocks-found a.s.now a.h a.maxima.now (mask_by a.s.now a.h a.lent a.mask.now) a.at c.in_ok-walked.ensures
