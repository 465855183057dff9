use mathlib.Core.Path.{◌∙◌, sym, ap}
use Rattle.lerc_words.specs.Res.{fail, refuse}
use Rattle.lerc.specs.Parts.{not_held}
use Rattle.lerc_image.specs.Own.{own_mask}
use Rattle.lerc.proofs.Endings.{checked-no, checked-ok, body-none}
use Rattle.lerc.proofs.refuse_changed.Goals as goal

pub returns-then-h-eq0 : goal.returns-then-h-eq0
returns-then-h-eq0 c =
    let a = c.args in
    ap fail c.not_given.ensures ∙ ap not_held (sym (body-none a.s.now a.h (own_mask a.s.now a.h) c.if-h-eq0.true))

pub check_body-requires : goal.check_body-requires
check_body-requires c = c.requires c.if-h-eq0.false

pub returns-in-Ok : goal.returns-in-Ok
returns-in-Ok c =
    let t = rw c.in-Ok.is at c.check_body.ensures in
    let (_, e, _) = checked-ok t (fail (refuse 0)) in
    ap fail c.not_given-in-Ok.ensures ∙ ap not_held (sym e)

pub returns-in-Err : goal.returns-in-Err
returns-in-Err c =
    let t = rw c.in-Err.is at c.check_body.ensures in
    ap not_held (sym (checked-no t))
