use mathlib.Core.Path.{◌∙◌, ap}
use Rattle.lerc_image.specs.Walk.{walk_of}
use Rattle.lerc.proofs.Checking.{tiles-are, own-are}
use Rattle.lerc.proofs.body.judge_blocks.Goals as goal

pub returns-then-lent : goal.returns-then-lent
returns-then-lent c =
    let a = c.args in
    let t = c.if-lent.true in
    rw (t) (c.check_tiles.ensures ∙ ap (walk_of a.h) (tiles-are a.s.now a.h a.maxima.now a.mask.now a.at (rw (t) at c.requires)))

pub returns : goal.returns
returns c =
    let a = c.args in
    let t = c.if-lent.false in
    rw (t) (c.check_own_tiles.ensures ∙ ap (walk_of a.h) (own-are a.s.now a.h a.maxima.now a.at (rw (t) at c.requires)))
