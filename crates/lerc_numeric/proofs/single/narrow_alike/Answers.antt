use mathlib.Core.Path.{ap, ◌∙◌}
use native.Mathlib.Omega.{arith}
use Rattle.lerc_numeric.specs.Kinds.{narrowed}
use Rattle.lerc_numeric.proofs.Mapping.{mapping-none, mapping-more, mapping-next}
use Rattle.lerc_numeric.proofs.single.narrow_alike.Goals as goal

pub loop-word-init : goal.loop-word-init
loop-word-init c = let a = c.args in mapping-none narrowed a.words.now a.words.now _ (omega arith)

pub round_normal-requires : goal.round_normal-requires
round_normal-requires c =
    let t = c.loop-word-test.true in
    rw (mapping-next c.loop-word.invariant t) (c.requires _ t)

pub loop-word-preserved : goal.loop-word-preserved
loop-word-preserved c =
    let t = c.loop-word-test.true in
    mapping-more c.loop-word.invariant _ t (c.round_normal.ensures ∙ ap narrowed (mapping-next c.loop-word.invariant t))
