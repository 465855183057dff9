use Rattle.std.proofs.Common.{sym, ◌∙◌, arith}
use Rattle.lerc_image.proofs.Pixels.{pixels-few}
use Rattle.lerc_byte_image.specs.Parts.{table_by}
use Rattle.lerc_byte_image.proofs.PlainCells.{all-run}
use Rattle.lerc_byte_image.proofs.image.write_plain.Goals as goal

pub overflow_mul-pixels : goal.overflow_mul-pixels
overflow_mul-pixels c = omega (arith, pixels-few c.args.h c.requires.shaped)

pub returns-then-count-pixels : goal.returns-then-count-pixels
returns-then-count-pixels c =
    let a = c.args in
    c.put_plain.ensures.image_after
    ∙ all-run a.h a.mask.now c.requires.shaped (sym c.count.ensures ∙ c.if-count-pixels.true) a.s.now (table_by a.by.range a.by.start a.lengths.now a.codes.now) a.by.kind a.image.now
