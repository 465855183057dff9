use Rattle.std.proofs.Common.{◌-◌}
use Rattle.lerc_byte_image.specs.Parts.{table_by}
use Rattle.lerc_byte_image.specs.SymbolParts.{Counted}
use Rattle.lerc_byte_image.proofs.symbols.count_bits.Given as goal

abbrev pub invariant-loop : goal.invariant-loop
invariant-loop l = Counted l.s (table_by l.range l.start l.lengths l.codes) l.n (l.n - l.counter) l.p
