use mathlib.Core.Path.{sym, ap, ◌∙◌}
use native.Mathlib.Omega.{arith}
use Rattle.lerc_numeric.specs.Kinds.{narrowed}
use Rattle.lerc_numeric.proofs.Mapping.{mapping-none, mapping-more, mapping-next}
use Rattle.lerc_numeric.proofs.single.narrow_each.Goals as goal
use Rattle.lerc_numeric.proofs.single.narrow_each.Goals.{then-is_normal, else-is_normal}

pub loop-word-init : goal.loop-word-init
loop-word-init c = let a = c.args in mapping-none narrowed a.words.now a.words.now _ (omega arith)

pub round_signed-requires : goal.round_signed-requires
round_signed-requires c = sym c.is_normal.ensures ∙ c.if-is_normal.true

pub loop-word-preserved : goal.loop-word-preserved
loop-word-preserved c =
    let t = c.loop-word-test.true in
    let next = ap narrowed (mapping-next c.loop-word.invariant t) in
    mapping-more c.loop-word.invariant _ t
    (elim c.if-is_normal.branch [
      | then-is_normal w ↦ w.word-is ∙ w.round_signed.ensures ∙ next
      | else-is_normal w ↦ w.word-is ∙ w.narrow_any.ensures ∙ next
    ])
