use Prim.Native.Nat.{ℕ, ◌≤◌, ◌<◌, ◌+◌, ◌*◌, ◌%◌, ◌^◌}
use mathlib.Core.Path.{◌≡◌, ◌∙◌, sym, refl}
use native.Mathlib.Nat.{one-mul}
use native.Mathlib.Omega.{arith}
use lib.Count.{ones}
use lib.Pow.{pow_pos, shl_exact}
use Rattle.lerc_mask.specs.Passes.{bits_of}
use Rattle.lerc_mask.proofs.Cut.{bits-all, bits_none, bits-few}
use Rattle.lerc_mask.proofs.ones_cut.Goals as goal

-- 1 moved up
unit : (skip n : ℕ) → skip + n ≤ 8 → 1 * 2 ^ n % 2 ^ 32 ≡ 2 ^ n
unit skip n h =
    let one : 1 < 2 ^ 1 = omega arith in
    let few : 1 + n ≤ 32 = omega arith in
    shl_exact 1 n 32 one few ∙ one-mul (2 ^ n)

pub returns-then-x-eq255 : goal.returns-then-x-eq255
returns-then-x-eq255 c =
    let a = c.args in
    let all = bits-all a.skip a.n c.requires in
    (rw c.if-x-eq255.true (sym all), omega arith)

pub returns-then-x-eq0 : goal.returns-then-x-eq0
returns-then-x-eq0 c = let a = c.args in (rw c.if-x-eq0.true (sym (bits_none a.skip a.n)), omega arith)

pub nonzero_rem-result : goal.nonzero_rem-result
nonzero_rem-result c = rw (unit c.args.skip c.args.n c.requires) (pow_pos c.args.n)

pub overflow_cast-result-3 : goal.overflow_cast-result-3
unfolding bits_of
overflow_cast-result-3 c =
    let few : ones (bits_of c.args.x c.args.skip c.args.n) ≤ c.args.n = bits-few c.args.x c.args.skip c.args.n in
    rw (unit c.args.skip c.args.n c.requires) (omega (arith, few, c.requires))

pub returns : goal.returns
unfolding bits_of
returns c =
    rw (unit c.args.skip c.args.n c.requires) (refl, bits-few c.args.x c.args.skip c.args.n)
