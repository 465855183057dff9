use native.Mathlib.Omega.{arith}
use Prim.Native.Nat.{◌*◌}
use Rattle.lerc_numeric.proofs.Rounds.{no-nan-bits}
use Rattle.lerc_numeric.proofs.ByMachine.{count_fits, machine-scaled, scaled-no-nan}
use Rattle.lerc_numeric.proofs.machine.scale.Goals as goal

pub float_from_bits-result : goal.float_from_bits-result
float_from_bits-result c = no-nan-bits c.args.a (omega arith)

pub int_to_float-result : goal.int_to_float-result
int_to_float-result c = count_fits (2 * c.args.q) (omega arith)

pub float_to_bits-result : goal.float_to_bits-result
float_to_bits-result c = scaled-no-nan c.args.a c.args.q (omega arith) (omega arith)

pub returns : goal.returns
returns c = machine-scaled c.args.a c.args.q (omega arith) (omega arith)
