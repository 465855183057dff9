use native.Mathlib.Omega.{arith}
use Rattle.lerc_words.proofs.Little.{little-word}
use Rattle.lerc_pack_writer.proofs.parts.quad.Goals as goal

pub returns : goal.returns
returns c =
    let a = c.args in
    rw c.peek.ensures (little-word 4 a.b.now a.at (λ i. omega (arith, c.type_inv.b i)) (omega arith))
