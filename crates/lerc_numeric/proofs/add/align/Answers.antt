use mathlib.Core.Path.{◌∙◌}
use Rattle.lerc_numeric.proofs.Align.{align-near, align-far}
use Rattle.lerc_numeric.proofs.Magnitude.{sig-lt}
use Rattle.lerc_numeric.proofs.add.align.Goals as goal

pub returns-then-d-le10 : goal.returns-then-d-le10
returns-then-d-le10 c =
    let z = align-near _ _ _ _ _ _ _ _ c.significand-m.ensures c.significand-s.ensures c.exponent.ensures c.exponent-e.ensures (sig-lt c.args.a) c.if-d-le10.true in
    (z.0, c.jam.ensures ∙ z.1, z.2)

pub returns-else-d-le10 : goal.returns-else-d-le10
returns-else-d-le10 c =
    let z = align-far _ _ _ _ _ _ _ _ c.significand-m.ensures c.significand-s.ensures c.exponent.ensures c.exponent-e.ensures (sig-lt c.args.a) c.if-d-le10.false in
    (z.0, c.jam-else-d-le10.ensures ∙ z.1, z.2)
