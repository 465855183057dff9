use Rattle.lerc_words.specs.Res.{ok}
use Rattle.lerc_words.proofs.Marking.{exits}
use Rattle.lerc.proofs.Endings.{to_write}
use Rattle.lerc.proofs.Staging.{staged-left, staged-listed}
use Rattle.lerc.proofs.stage_behind.Goals as goal

pub check_body-requires : goal.check_body-requires
check_body-requires c =
    rw c.mask_in_force-mask.ensures.0 c.requires.0

pub returns-in_err-body : goal.returns-in_err-body
returns-in_err-body c =
    let t = rw c.mask_in_force-mask.ensures.0 at c.in_err-body.ensures in
    rw (exits _ c.from_residual.ensures.1) (staged-left t (ok c.args.said))

pub list_body-requires : goal.list_body-requires
list_body-requires c =
    (to_write c.in_ok-body.ensures (ok c.args.said) (rw c.mask_in_force-mask.ensures.0 c.requires.0), c.requires.1)

pub returns : goal.returns
returns c =
    let d = rw c.mask_in_force-mask.ensures.0 at (staged-listed c.in_ok-body.ensures (ok c.args.said) c.list_body.ensures) in
    rw c.answer.ensures d
