use mathlib.Core.Path.{◌≡◌, sym, ◌∙◌}
use mathlib.Core.Bool.{true}
use Prim.Native.Nat.{ℕ, ◌*◌, ◌/◌, ◌%◌, ◌^◌}
use native.Mathlib.Nat.{zero-add}
use native.Mathlib.Omega.{arith}
use Rattle.lerc_numeric.specs.Inside.{unsigned32, normal32}
use Rattle.lerc_numeric.specs.Kinds.{narrowed}
use Rattle.lerc_numeric.proofs.Binary32.{unsigned-lt, narrow-is}
use Rattle.lerc_numeric.proofs.Normal.{normal-is}
use Rattle.lerc_numeric.proofs.OneSum.{low_alike}
use Rattle.lerc_numeric.proofs.single.round_signed.Goals as goal

pub round_normal-requires : goal.round_normal-requires
round_normal-requires c =
    let low : c.args.v % 2 ^ 63 % 2 ^ 63 ≡ c.args.v % 2 ^ 63 = omega arith in
    (rw (low) c.requires, omega arith)

-- without its sign
unsigned : (v : ℕ) → normal32 v ≡ true → narrowed (v % 2 ^ 63) ≡ unsigned32 v
unsigned v h =
    let n = normal-is v h in
    let none : v % 2 ^ 63 / 2 ^ 63 * 2 ^ 31 ≡ 0 = omega arith in
    sym (narrow-is (v % 2 ^ 63) (omega arith)) ∙ rw (none, zero-add) (low_alike v n.0 n.1)

pub overflow_add-result : goal.overflow_add-result
overflow_add-result c =
    record { fits = omega (arith, c.round_normal.ensures ∙ unsigned c.args.v c.requires, unsigned-lt c.args.v, c.ranges.v.fits) }

pub returns : goal.returns
returns c =
    rw (c.round_normal.ensures, unsigned c.args.v c.requires) (narrow-is c.args.v c.ranges.v.fits)
