use Rattle.lerc_byte_image.specs.SymbolParts.{NoneBegun}
use Rattle.lerc_byte_image.proofs.symbols.seek.Given as goal

abbrev pub invariant-loop-k : goal.invariant-loop-k
invariant-loop-k l = NoneBegun l.w l.there l.lengths l.codes l.k
