use mathlib.Core.Path.{ap, ◌∙◌}
use native.Mathlib.Omega.{arith}
use Rattle.lerc_numeric.specs.Kinds.{narrowed}
use Rattle.lerc_numeric.proofs.Mapping.{mapping-none, mapping-more, mapping-next}
use Rattle.lerc_numeric.proofs.single.narrow_normal.Goals as goal

pub loop-word-init : goal.loop-word-init
loop-word-init c = let a = c.args in mapping-none narrowed a.words.now a.words.now _ (omega arith)

pub round_signed-requires : goal.round_signed-requires
round_signed-requires c =
    let t = c.loop-word-test.true in
    rw (mapping-next c.loop-word.invariant t) (c.requires _ t)

pub loop-word-preserved : goal.loop-word-preserved
loop-word-preserved c =
    let t = c.loop-word-test.true in
    mapping-more c.loop-word.invariant _ t (c.round_signed.ensures ∙ ap narrowed (mapping-next c.loop-word.invariant t))
