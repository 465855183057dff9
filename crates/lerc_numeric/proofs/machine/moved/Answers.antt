use mathlib.Core.Path.{ap}
use native.Mathlib.Omega.{arith}
use lib.Ieee as Ieee
use lib.Ieee.{binary64, of_bits}
use Rattle.lerc_numeric.proofs.Rounds.{no-nan-bits}
use Rattle.lerc_numeric.proofs.Stepping.{doubled}
use Rattle.lerc_numeric.proofs.machine.moved.Goals as goal

pub float_from_bits-e : goal.float_from_bits-e
float_from_bits-e c = no-nan-bits c.args.error (omega arith)

pub float_from_bits-result : goal.float_from_bits-result
float_from_bits-result c = no-nan-bits c.args.offset (omega arith)

pub returns : goal.returns
returns c =
    ap (Ieee.add binary64 (of_bits binary64 c.args.offset)) (doubled c.args.error (omega arith) c.args.q c.ranges.q.fits)
