use Prim.Native.Nat.{suc, ◌<◌, ◌-◌, ◌^◌}
use mathlib.Core.Path.{◌≡◌, ◌∙◌}
use native.Mathlib.Omega.{arith}
use lib.ListN.{length}
use Rattle.lerc_words.specs.Res.{little}
use Rattle.lerc_words.proofs.Little.{Bytes, little-suc, little-room, little-tail}
use Rattle.lerc_words.proofs.tail.Goals as goal
use Rattle.lerc_words.proofs.tail.Goals.{In-loop-k}

-- there is room for the turn's byte
room : (c : In-loop-k) → c.loop-k.v < 2 ^ 56
room c =
    let a = c.args in
    let s = a.s.now in
    let k = c.loop-k.k in
    let b : Bytes s = λ i. omega (arith, c.type_inv.s i) in
    rw c.loop-k.invariant.2 (little-room (length s - k) s k b (omega arith))

pub loop-k-init : goal.loop-k-init
unfolding little
loop-k-init c =
    let s = c.args.s.now in
    let e : length s - length s ≡ 0 = omega arith in
    (omega arith, omega arith, rw (e))

pub overflow_mul-v : goal.overflow_mul-v
overflow_mul-v c =
    omega (arith, room c)

pub overflow_add-v : goal.overflow_add-v
overflow_add-v c =
    omega (arith, room (goal.at.overflow_add-v c).In-loop-k, c.from.ensures, c.type_inv.s (c.loop-k.k - 1))

pub loop-k-preserved : goal.loop-k-preserved
loop-k-preserved c =
    let a = c.args in
    let s = a.s.now in
    let k = c.loop-k.k in
    let e : length s - (k - 1) ≡ suc (length s - k) = omega arith in
    let d : suc (k - 1) ≡ k = omega arith in
    (omega arith, omega arith, rw (c.from.ensures, c.loop-k.invariant.2, e, little-suc, d) (omega arith))

pub returns : goal.returns
returns c =
    let a = c.args in
    let s = a.s.now in
    c.loop-k.invariant.2 ∙ little-tail s a.at c.loop-k.k c.requires c.loop-k.invariant.0 c.loop-k.invariant.1 c.loop-k-test.false
