use Prim.Native.Nat.{◌*◌, ◌≤◌}
use mathlib.Core.Path.{◌∙◌, sym}
use native.Mathlib.Omega.{arith}
use Rattle.lerc_header.specs.Limits.{depth_limit}
use Rattle.lerc_ranges.specs.Ranges.{wrong_number_at}
use Rattle.lerc_ranges.proofs.ByDepth.{steps-small}
use Rattle.lerc_ranges.proofs.Wrong.{first-wrong}
use Rattle.lerc_ranges.proofs.wrong_number.Goals as goal
use Rattle.lerc_ranges.proofs.wrong_number.Goals.{After-size}

-- a pair is wrong, so the first wrong one has an entry in the arrays
pub bounds-r-i : goal.bounds-r-i
bounds-r-i c =
    let l = (first-wrong c.args.h.depth c.args.r c.requires.1).0 in
    rw c.first_wrong-i.ensures (omega (arith, l, c.requires.0))

small : (c : After-size) → c.first_wrong-i.result * c.size.result ≤ depth_limit * 8
small c =
    let l = bounds-r-i c in
    rw c.size.ensures (steps-small c.first_wrong-i.result c.args.h.kind (omega arith))

pub overflow_mul-minimum : goal.overflow_mul-minimum
overflow_mul-minimum c = omega (arith, small c)

pub overflow_add-minimum-2 : goal.overflow_add-minimum-2
overflow_add-minimum-2 c = omega (arith, small c, c.struct_known-2-1.given)

pub offset_bounds-r-i : goal.offset_bounds-r-i
offset_bounds-r-i c = omega (arith, bounds-r-i c)

pub overflow_add-result : goal.overflow_add-result
overflow_add-result c =
    let z = (goal.at.overflow_add-result c).After-size in
    omega (arith, small z, c.struct_known-2-1.given, c.width.ensures.1)

pub returns-then-is_finite : goal.returns-then-is_finite
unfolding wrong_number_at
returns-then-is_finite c =
    rw (
      ← c.first_wrong-i.ensures,
      sym c.is_finite.ensures ∙ c.if-is_finite.true,
      c.size.ensures,
      c.width.ensures.0,
    )
    (omega arith)

pub returns : goal.returns
unfolding wrong_number_at
returns c =
    rw (← c.first_wrong-i.ensures, sym c.is_finite.ensures ∙ c.if-is_finite.false, c.size.ensures)
