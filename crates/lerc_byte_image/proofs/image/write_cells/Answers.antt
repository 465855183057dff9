use Rattle.lerc_byte_image.specs.Parts.{table_by}
use Rattle.lerc_byte_image.proofs.FirstBits.{quick-none}
use Rattle.lerc_byte_image.proofs.image.write_cells.Goals as goal

pub make_quick-requires : goal.make_quick-requires
make_quick-requires c =
    let a = c.args in
    (c.requires.1.kept, quick-none (table_by a.by.range a.by.start a.lengths.now a.codes.now))

pub returns-then-delta : goal.returns-then-delta
returns-then-delta c = rw c.if-delta.true c.write_delta.ensures

pub returns-else-delta : goal.returns-else-delta
returns-else-delta c = rw c.if-delta.false c.write_plain.ensures
