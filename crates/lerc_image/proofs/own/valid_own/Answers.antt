use mathlib.Core.Path.{◌∙◌, sym, ap}
use mathlib.Core.Bool.{Bool}
use Rattle.lerc_image.specs.Geometry.{valid_in_tile}
use Rattle.lerc_image.specs.Own.{mask_by}
use Rattle.lerc_image.proofs.Rows.{tile-full}
use Rattle.lerc_image.proofs.own.valid_own.Goals as goal

pub returns-then-t-gt0 : goal.returns-then-t-gt0
returns-then-t-gt0 c = let p = c.requires in (p.asked.same c.if-t-gt0.true, p.rows)

pub returns-then-full : goal.returns-then-full
returns-then-full c =
    (sym (tile-full c.args.h c.args.t c.requires.asked.tile _ (c.requires.asked.all c.if-full.true)), c.requires.rows)

pub count_tile-requires : goal.count_tile-requires
count_tile-requires c = let p = c.requires in (p.asked.tile, p.side, p.rows)

pub returns : goal.returns
returns c =
    let a = c.args in
    let none = ap (λ (full : Bool). valid_in_tile a.h (mask_by full a.want a.section.now) a.t) c.if-full.false in
    (c.count_tile.ensures.0 ∙ sym none, c.count_tile.ensures.1)
