use Prim.Native.Nat.{◌+◌, ◌-◌, ◌*◌}
use mathlib.Core.Path.{◌≡◌, sym}
use native.Mathlib.Omega.{arith}
use Rattle.lerc_checksum.proofs.Quads.{lanes-none}
use Rattle.lerc_checksum.proofs.count_quads.Goals as goal

pub loop-i-init : goal.loop-i-init
loop-i-init c = (omega arith, sym (lanes-none _ _))

pub add_quad-requires : goal.add_quad-requires
add_quad-requires c = (omega arith, omega arith, c.loop-i.invariant.1)

pub add_quad-lanes-requires : goal.add_quad-lanes-requires
add_quad-lanes-requires c = (omega arith, omega arith, c.add_quad.ensures)

pub loop-i-preserved : goal.loop-i-preserved
loop-i-preserved c =
    let i = c.loop-i.i in
    let e : 2 * (i + 1) ≡ 2 * i + 1 + 1 = omega arith in
    (omega arith, rw (e) c.add_quad-lanes.ensures)

-- an even number of quads
pub returns-then-m-eq0 : goal.returns-then-m-eq0
returns-then-m-eq0 c =
    let l = c.loop-i in
    let e : 2 * l.i ≡ c.args.m = omega arith in
    rw (← e) l.invariant.1

pub add_quad-requires-2 : goal.add_quad-requires-2
add_quad-requires-2 c =
    let l = c.loop-i in
    let m = c.args.m in
    let e : m - 1 ≡ 2 * l.i = omega arith in
    (omega arith, omega arith, rw (e) l.invariant.1)

pub returns : goal.returns
returns c =
    let m = c.args.m in
    let e : m - 1 + 1 ≡ m = omega arith in
    rw (e) at c.add_quad-2.ensures
