use Prim.Native.Nat.{◌+◌, ◌-◌, ◌≤◌, ◌<◌}
use native.Mathlib.Omega.{arith}
use Rattle.lerc_numeric.proofs.Bits.{pack-zero, digits_le, pack-fits, pack-cut, pack-cut-inf, fill-lt, pack-low, pack-up, pack-up-inf}
use Rattle.lerc_numeric.proofs.round.pack.Goals as goal

pub returns-then-m-eq0 : goal.returns-then-m-eq0
returns-then-m-eq0 c = pack-zero c.args.m c.args.e c.if-m-eq0.true

pub overflow_add-d : goal.overflow_add-d
overflow_add-d c = record { fits = omega (arith, digits_le _ c.args.e _ c.digits-s.ensures c.ranges.m.fits) }

pub nearest-requires : goal.nearest-requires
nearest-requires c = omega (arith, digits_le _ c.args.e _ c.digits-s.ensures c.ranges.m.fits)

pub overflow_add-result-else-d-e-ge2046 : goal.overflow_add-result-else-d-e-ge2046
overflow_add-result-else-d-e-ge2046 c = record { fits = omega (arith, pack-fits _ c.args.e _ c.digits-s.ensures _ c.nearest.ensures) }

pub overflow_add-result-else-e-room-ge2046 : goal.overflow_add-result-else-e-room-ge2046
overflow_add-result-else-e-room-ge2046 c =
    record { fits = omega (arith, fill-lt _ c.args.e _ c.digits-s.ensures (53 - c.digits-s.result) (omega arith)) }

pub returns-then-d-e-ge2046 : goal.returns-then-d-e-ge2046
returns-then-d-e-ge2046 c =
    let h : 2046 ≤ c.digits-s.result - 53 + c.args.e = omega arith in
    pack-cut-inf _ _ _ c.digits-s.ensures c.if-s-gt53.true h

pub returns-else-d-e-ge2046 : goal.returns-else-d-e-ge2046
returns-else-d-e-ge2046 c =
    let h : c.digits-s.result - 53 + c.args.e < 2046 = omega arith in
    pack-cut _ _ _ c.digits-s.ensures _ c.nearest.ensures c.if-s-gt53.true h

pub returns-then-e-room : goal.returns-then-e-room
returns-then-e-room c = pack-low _ c.args.e _ c.digits-s.ensures c.if-s-gt53.false c.if-e-room.true

pub returns-then-e-room-ge2046 : goal.returns-then-e-room-ge2046
returns-then-e-room-ge2046 c =
    pack-up-inf _ c.args.e _ c.digits-s.ensures c.if-s-gt53.false c.if-e-room.false (omega (arith, c.if-m-eq0.false)) c.if-e-room-ge2046.true

pub returns-else-e-room-ge2046 : goal.returns-else-e-room-ge2046
returns-else-e-room-ge2046 c =
    pack-up _ c.args.e _ c.digits-s.ensures c.if-s-gt53.false c.if-e-room.false (omega (arith, c.if-m-eq0.false)) c.if-e-room-ge2046.false
