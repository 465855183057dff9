use mathlib.Core.Path.{◌≡◌}
use mathlib.Core.Bool.{true}
use Prim.Native.Nat.{◌%◌, ◌^◌}
use native.Mathlib.Omega.{arith}
use lib.ListN.{get_or, length-take}
use Rattle.lerc_numeric.specs.Inside.{normal32, sign_of}
use Rattle.lerc_numeric.specs.Kinds.{narrowed}
use Rattle.lerc_numeric.specs.Steps.{step_of}
use Rattle.lerc_numeric.proofs.Counts.{lowest-le}
use Rattle.lerc_numeric.proofs.Mapping.{front-each, front-mapped}
use Rattle.lerc_numeric.proofs.block.single_steps.Goals as goal

pub slice_bounds-narrow_alike-end-then-sign-lt2 : goal.slice_bounds-narrow_alike-end-then-sign-lt2
slice_bounds-narrow_alike-end-then-sign-lt2 c = simp length-take (omega (arith, c.min-n.ensures))

pub narrow_alike-requires : goal.narrow_alike-requires
narrow_alike-requires c =
    let a = c.args in
    front-each (λ x. step_of a.offset a.error a.top (x % 2 ^ a.bits)) a.counts.now a.out.now c.min-n.result c.steps.ensures (omega (arith, c.min-n.ensures)) (λ w. (normal32 w ≡ true) × (c.normal_sign-sign.result ≡ sign_of w))
    (λ i. c.normal_sign-sign.ensures c.if-sign-lt2.true (get_or a.counts.now i 0 % 2 ^ a.bits)
    (lowest-le (get_or a.counts.now i 0) a.bits _ c.largest.ensures (omega (arith, c.type_inv.counts i))))

pub slice_bounds-narrow_words-end-else-sign-lt2 : goal.slice_bounds-narrow_words-end-else-sign-lt2
slice_bounds-narrow_words-end-else-sign-lt2 c = simp length-take (omega (arith, c.min-n.ensures))

pub returns-then-sign-lt2 : goal.returns-then-sign-lt2
returns-then-sign-lt2 c =
    let a = c.args in
    front-mapped (λ x. step_of a.offset a.error a.top (x % 2 ^ a.bits)) a.counts.now a.out.now c.min-n.result c.steps.ensures (omega (arith, c.min-n.ensures)) narrowed
    c.narrow_alike.ensures

pub returns-else-sign-lt2 : goal.returns-else-sign-lt2
returns-else-sign-lt2 c =
    let a = c.args in
    front-mapped (λ x. step_of a.offset a.error a.top (x % 2 ^ a.bits)) a.counts.now a.out.now c.min-n.result c.steps.ensures (omega (arith, c.min-n.ensures)) narrowed
    c.narrow_words.ensures
