use Rattle.std.proofs.Common.{◌∙◌}
use Rattle.lerc_byte_image.specs.Parts.{table_by}
use Rattle.lerc_byte_image.proofs.Entries.{glance-entry}
use Rattle.lerc_byte_image.proofs.symbols.entry.Goals as goal

pub glance-e-requires : goal.glance-e-requires
glance-e-requires c =
    let h = c.requires.0.behind in
    (h.inside, h.short, c.requires.1, c.requires.0.quick.wide)

pub returns-then-e-ge256 : goal.returns-then-e-ge256
returns-then-e-ge256 c =
    let a = c.args in
    let h = c.requires.0 in
    let g = c.glance-e.ensures in
    g ∙ glance-entry a.s.now (table_by a.range a.start a.lengths.now a.codes.now) a.p h.behind.kept a.quick.now h.quick (rw (g) at c.if-e-ge256.true)
