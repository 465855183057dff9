use Prim.Native.Nat.{◌<◌}
use Rattle.lerc_words.proofs.Little.{Bytes}
use Rattle.lerc_header.specs.Limits.{depth_limit}
use mathlib.Core.Path.{◌≡◌}
use native.Mathlib.Omega.{arith}
use Rattle.lerc_ranges.specs.Ranges.{number_at}
use Rattle.lerc_ranges.proofs.ByDepth.{by-depth-none, by-depth-more, number-peek, steps-small}
use Rattle.lerc_ranges.proofs.numbers.Goals as goal

pub loop-i-init : goal.loop-i-init
loop-i-init c = by-depth-none _ _

pub overflow_mul-i : goal.overflow_mul-i
overflow_mul-i c =
    let m = steps-small c.loop-i.i c.args.kind (omega arith) in
    rw c.size-step.ensures (omega arith)

pub overflow_add-at : goal.overflow_add-at
overflow_add-at c =
    let m = steps-small c.loop-i.i c.args.kind (omega arith) in
    rw c.size-step.ensures (omega arith)

pub loop-i-preserved : goal.loop-i-preserved
loop-i-preserved c =
    let a = c.args in
    let s = a.s.now in
    let b : Bytes s = λ i. omega (arith, c.type_inv.s i) in
    let e : c.number.result ≡ number_at a.kind s a.at c.loop-i.i = rw (c.number.ensures, c.peek.ensures, c.size-step.ensures) (number-peek a.kind s a.at c.loop-i.i b) in
    let h : c.loop-i.i < depth_limit = omega arith in
    rw (c.loop-i.invariant, e) (by-depth-more c.loop-i.i (number_at a.kind s a.at) a.rest h)

pub returns : goal.returns
returns c =
    let e : c.loop-i.i ≡ c.args.depth = omega arith in
    rw (c.loop-i.invariant, e)
