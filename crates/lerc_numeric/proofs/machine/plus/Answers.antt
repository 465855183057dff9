use native.Mathlib.Omega.{arith}
use Rattle.lerc_numeric.proofs.Rounds.{no-nan-bits}
use Rattle.lerc_numeric.proofs.ByMachine.{machine-sum, sum-no-nan}
use Rattle.lerc_numeric.proofs.machine.plus.Goals as goal

pub float_from_bits-result : goal.float_from_bits-result
float_from_bits-result c = no-nan-bits c.args.a (omega arith)

pub float_from_bits-result-2 : goal.float_from_bits-result-2
float_from_bits-result-2 c = no-nan-bits c.args.b (omega arith)

pub float_to_bits-result : goal.float_to_bits-result
float_to_bits-result c = sum-no-nan c.args.a c.args.b (omega arith) (omega arith)

pub returns : goal.returns
returns c = machine-sum c.args.a c.args.b (omega arith) (omega arith)
