use mathlib.Core.Path.{ap, refl}
use lib.ListN.{length}
use Rattle.lerc_block.specs.Plan.{ended}
use Rattle.lerc_block.proofs.Returns.{given}
use Rattle.lerc_block.proofs.convert_counts.Goals as goal

pub convert_all-requires : goal.convert_all-requires
convert_all-requires c = (c.requires.1, c.requires.2, c.requires.3)

pub returns-then-convert_all : goal.returns-then-convert_all
returns-then-convert_all c =
    let a = c.args in
    let w = c.convert_all.ensures.put c.if-convert_all.true in
    given w.words (length w.words) (ap (ended a.next) w.is) refl w.front

pub convert_aside-requires : goal.convert_aside-requires
convert_aside-requires c =
    (c.requires.0, rw (c.convert_all.ensures.left c.if-convert_all.false) c.requires.1)

pub returns : goal.returns
returns c =
    rw (c.convert_all.ensures.left c.if-convert_all.false, c.number-value.ensures) at c.convert_aside.ensures
