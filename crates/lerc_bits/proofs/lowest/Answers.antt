use Prim.Native.Nat.{ℕ, ◌*◌, ◌%◌, ◌^◌, ◌≤◌}
use mathlib.Core.Path.{◌≡◌}
use native.Mathlib.Omega.{arith}
use lib.Pow.{pow_pos}
use Rattle.lerc_words.proofs.Little.{unit}
use Rattle.lerc_bits.proofs.Run.{value-fits}
use Rattle.lerc_bits.proofs.lowest.Goals as goal

base : (bits : ℕ) → bits ≤ 31 → (1 * 2 ^ bits) % 2 ^ 64 ≡ 2 ^ bits
base bits h = unit bits (omega arith)

pub nonzero_rem-result : goal.nonzero_rem-result
nonzero_rem-result c = rw (base c.args.bits (omega arith)) (pow_pos c.args.bits)

pub overflow_cast-result : goal.overflow_cast-result
overflow_cast-result c = rw (base c.args.bits (omega arith)) (record { fits = value-fits _ c.args.bits (omega arith) })

pub returns : goal.returns
returns c = rw (base c.args.bits (omega arith))
