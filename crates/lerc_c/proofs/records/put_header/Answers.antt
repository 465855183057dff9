use native.Mathlib.Omega.{arith}
use Rattle.lerc_c.proofs.records.put_header.Goals as goal

pub overflow_cast-words-8 : goal.overflow_cast-words-8
overflow_cast-words-8 c = record { fits = omega (arith, c.struct_known-8-1.given) }
