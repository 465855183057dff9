use mathlib.Core.Path.{◌∙◌, sym, refl}
use native.Mathlib.Omega.{arith}
use Rattle.lerc_words.proofs.Little.{Bytes}
use Rattle.lerc_block.proofs.Usual.{found-next}
use Rattle.lerc_block.proofs.checks.check_words.Goals as goal

pub returns-then-usual-n : goal.returns-then-usual-n
returns-then-usual-n c =
    let bytes : Bytes c.args.s.now = λ j. omega (arith, c.type_inv.s j) in
    found-next c.args.s.now c.args.at c.args.kind c.args.x (c.in-Some.ensures _ refl) bytes c.args.error c.args.maximum c.args.n
    (sym c.steps_fit.ensures ∙ c.if-steps_fit.true) c.if-usual-n.true
