use Prim.Native.Nat.{◌+◌}
use mathlib.Core.Path.{◌≡◌}
use native.Mathlib.Omega.{arith}
use Rattle.lerc_words.proofs.Little.{Bytes}
use Rattle.lerc_mask.specs.Mask.{valid_below, mask_bytes}
use Rattle.lerc_mask.proofs.Pixels.{valid-le}
use Rattle.lerc_mask.proofs.Tally.{valid-last}
use Rattle.lerc_mask.proofs.Passes.{Told, going_start, going-told, going-room, accepts-made, accepts-wrong}
use Rattle.lerc_mask.proofs.check.Goals as goal
use Rattle.lerc_mask.proofs.check.Goals.{After-advance, After-ones_cut}

-- what the answer of one turn means
told : (c : After-advance)
    → Told c.args.s.now (mask_bytes c.args.pixels) c.loop-next.w.at c.loop-next.invariant.made c.advance.result
told c =
    let a = c.args in
    let b : Bytes a.s.now = λ k. omega (arith, c.type_inv.s k) in
    rw c.advance.ensures (going-told a.s.now (mask_bytes a.pixels) c.loop-next.w c.loop-next.invariant b)

-- all bytes but the last, and the pixels of the last
counted : (c : After-ones_cut)
    → c.loop-next.w.total + c.ones_cut.result ≡ valid_below c.args.pixels c.loop-next.invariant.made
counted c =
    let a = c.args in
    let w = c.loop-next.w in
    let i = c.loop-next.invariant in
    let x = rw (c.in-Break-true.is, c.in-Break-true.field-0-test) at (told (goal.at.After-ones_cut c).After-advance) in
    rw c.ones_cut.ensures.0 (valid-last i.made a.pixels w.total w.last i.bytes x.1 i.sum i.last)

pub loop-next-init : goal.loop-next-init
loop-next-init c = rw c.bytes_for.ensures (going_start c.args.s.now (mask_bytes c.args.pixels))

pub advance-requires : goal.advance-requires
advance-requires c =
    let a = c.args in
    going-room a.s.now a.pixels c.loop-next.w c.loop-next.invariant c.ranges.pixels.fits

pub loop-next-smaller : goal.loop-next-smaller
loop-next-smaller c =
    let x = rw c.in-Continue.is at (told (goal.at.loop-next-smaller c).After-advance) in
    let p = x.1 in
    let q = x.0.inside in
    omega arith

pub loop-next-preserved : goal.loop-next-preserved
loop-next-preserved c = (rw c.in-Continue.is at (told (goal.at.loop-next-preserved c).After-advance)).0

pub overflow_add-result : goal.overflow_add-result
overflow_add-result c = omega (arith, counted (goal.at.overflow_add-result c).After-ones_cut, valid-le c.args.pixels c.loop-next.invariant.made)

pub returns-in-Break-true : goal.returns-in-Break-true
returns-in-Break-true c =
    let a = c.args in
    let x = rw (c.in-Break-true.is, c.in-Break-true.field-0-test) at (told (goal.at.returns-in-Break-true c).After-advance) in
    rw (counted (goal.at.returns-in-Break-true c).After-ones_cut) (accepts-made a.s.now a.pixels a.valid c.loop-next.invariant.made x.0)

pub returns-in-Break-false : goal.returns-in-Break-false
returns-in-Break-false c =
    let a = c.args in
    accepts-wrong a.s.now a.pixels a.valid (rw (c.in-Break-false.is, c.in-Break-false.field-0-test) at (told (goal.at.returns-in-Break-false c).After-advance))
