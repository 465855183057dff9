use Prim.Native.Nat.{◌%◌, ◌^◌, ◌<◌}
use native.Mathlib.Omega.{arith}
use lib.Pow.{pow_pos}
use Rattle.lerc_words.proofs.Little.{unit}
use Rattle.lerc_numeric.proofs.Closest.{near_down, near_up, near-tie}
use Rattle.lerc_numeric.proofs.Shift.{low-lt, quot-lt}
use Rattle.lerc_numeric.proofs.round.nearest.Goals as goal

pub overflow_mul-twice : goal.overflow_mul-twice
overflow_mul-twice c = record { fits = omega (arith, low-lt c.args.m c.args.d c.requires) }

pub overflow_add-result : goal.overflow_add-result
overflow_add-result c =
    let p : 0 < c.args.m % 2 ^ c.args.d = omega (arith, c.low-twice.ensures) in
    record { fits = omega (arith, quot-lt c.args.m c.args.d p) }

pub overflow_add-result-else-unit-twice : goal.overflow_add-result-else-unit-twice
overflow_add-result-else-unit-twice c =
    let p : 0 < c.args.m % 2 ^ c.args.d = omega (arith, c.low-twice.ensures, unit c.args.d c.requires, pow_pos c.args.d) in
    record { fits = omega (arith, quot-lt c.args.m c.args.d p) }

pub returns-then-twice-unit : goal.returns-then-twice-unit
returns-then-twice-unit c = near_down _ _ _ _ c.low-twice.ensures (unit _ c.requires) c.if-twice-unit.true

pub returns-then-unit-twice : goal.returns-then-unit-twice
returns-then-unit-twice c = near_up _ _ _ _ c.low-twice.ensures (unit _ c.requires) c.if-unit-twice.true

pub returns-else-unit-twice : goal.returns-else-unit-twice
returns-else-unit-twice c = near-tie _ _ _ _ c.low-twice.ensures (unit _ c.requires) c.if-twice-unit.false c.if-unit-twice.false
