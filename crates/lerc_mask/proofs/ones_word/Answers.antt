use Prim.Native.Nat.{◌≤◌}
use mathlib.Core.Path.{sym, refl}
use native.Mathlib.Omega.{arith}
use lib.Count.{ones, ones-ones, ones-le}
use Rattle.lerc_mask.proofs.Cut.{zero-ones}
use Rattle.lerc_mask.proofs.ones_word.Goals as goal

pub returns-then-x-eq18446744073709551615 : goal.returns-then-x-eq18446744073709551615
returns-then-x-eq18446744073709551615 c = rw c.if-x-eq18446744073709551615.true (sym (ones-ones 64))

pub returns-then-x-eq0 : goal.returns-then-x-eq0
returns-then-x-eq0 c = rw c.if-x-eq0.true (sym zero-ones)

pub overflow_cast-result : goal.overflow_cast-result
overflow_cast-result c =
    let few : ones c.args.x ≤ 64 = ones-le 64 c.args.x c.ranges.x.fits in
    omega arith

pub returns : goal.returns
returns c = refl
