use Prim.Native.Nat.{◌-◌}
use native.Mathlib.Omega.{arith}
use lib.Count.{leading_le}
use Rattle.lerc_bits.proofs.IndexWidth.{size-leading, width_small}
use Rattle.lerc_bits.proofs.index_width.Goals as goal

pub overflow_sub-result-2 : goal.overflow_sub-result-2
overflow_sub-result-2 c = leading_le 64 _

pub returns : goal.returns
returns c =
    let w = size-leading (c.args.entries - 1) (omega arith) in
    (w, width_small c.args.entries _ w (omega arith) (omega arith))
