use Rattle.lerc_byte_image.specs.Parts.{table_by, Quick}
use Rattle.lerc_byte_image.proofs.symbols.make_quick.Given as goal

abbrev pub invariant-loop-k : goal.invariant-loop-k
invariant-loop-k l = Quick (table_by l.range l.start l.lengths l.codes) l.quick
