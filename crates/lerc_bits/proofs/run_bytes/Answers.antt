use Prim.Native.Nat.{◌*◌, ◌≤◌}
use mathlib.Core.Path.{refl}
use native.Mathlib.Omega.{arith}
use Rattle.lerc_bits.proofs.Run.{small_product}
use Rattle.lerc_bits.proofs.run_bytes.Goals as goal
use Rattle.lerc_bits.proofs.run_bytes.Goals.{Start}

small : (c : Start) → c.args.n * c.args.bits ≤ 7936
small c = small_product c.args.n c.args.bits c.requires.0 c.requires.1

pub returns : goal.returns
returns c = (refl, omega (arith, small c))

pub overflow_mul-result : goal.overflow_mul-result
overflow_mul-result c = omega (arith, small c)

pub overflow_add-result : goal.overflow_add-result
overflow_add-result c = omega (arith, small c)
