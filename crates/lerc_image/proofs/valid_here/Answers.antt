use mathlib.Core.Path.{sym}
use Rattle.lerc_image.proofs.Rows.{tile-full}
use Rattle.lerc_image.proofs.valid_here.Goals as goal

pub returns-then-t-gt0 : goal.returns-then-t-gt0
returns-then-t-gt0 c = c.requires.same c.if-t-gt0.true

pub returns-then-full : goal.returns-then-full
returns-then-full c =
    sym (tile-full c.args.h c.args.t c.requires.tile c.args.mask.now (c.requires.all c.if-full.true))
