use Rattle.std.proofs.Common.{sym, ◌∙◌}
use Rattle.lerc_byte_image.specs.Parts.{table_by}
use Rattle.lerc_byte_image.proofs.Entries.{symbol-none, missing-part}
use Rattle.lerc_byte_image.proofs.symbols.missing.Goals as goal

pub returns-then-k-range : goal.returns-then-k-range
returns-then-k-range c =
    let a = c.args in
    symbol-none a.s.now (table_by a.range a.start a.lengths.now a.codes.now) a.p (sym c.seek-k.ensures ∙ c.if-k-range.true)

pub returns : goal.returns
returns c =
    let a = c.args in
    missing-part a.s.now (table_by a.range a.start a.lengths.now a.codes.now) a.p c.requires.behind.kept c.requires.p_value
    (λ e. c.if-k-range.false (c.seek-k.ensures ∙ e))
