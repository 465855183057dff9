use native.Mathlib.Omega.{arith}
use Rattle.lerc_words.proofs.Little.{little-high}
use Rattle.lerc_pack.proofs.table.count_of.Goals as goal

pub returns : goal.returns
returns c = rw c.peek.ensures (little-high 4 4 c.args.pack.now 0 (λ i. omega (arith, c.type_inv.pack i)))
