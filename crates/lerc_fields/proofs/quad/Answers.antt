use Prim.Native.Nat.{◌≤◌, ◌%◌}
use mathlib.Core.Path.{◌∙◌, ap}
use native.Mathlib.Omega.{arith}
use Rattle.lerc_words.proofs.Little.{Bytes, little-word}
use Rattle.lerc_fields.proofs.quad.Goals as goal

pub returns : goal.returns
returns c =
    let s = c.args.s.now in
    let b : Bytes s = λ i. omega (arith, c.type_inv.s i) in
    ap (λ v. v % 4294967296) c.peek.ensures ∙ little-word 4 s c.args.at b (omega arith)
