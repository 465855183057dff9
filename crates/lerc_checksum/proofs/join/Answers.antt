use Prim.Native.Nat.{ℕ, ◌*◌, ◌%◌, ◌^◌}
use mathlib.Core.Path.{◌≡◌}
use native.Mathlib.Omega.{arith}
use Rattle.lerc_checksum.specs.Checksum as Rule
use Rattle.lerc_checksum.proofs.join.Goals as goal

-- what is shifted out of 32 bits is what stands above the low sixteen
high_half : (x : ℕ) → x % 65536 * 65536 ≡ x * 65536 % 2 ^ 32
high_half x = omega arith

pub returns : goal.returns
unfolding Rule.joined
returns c = rw (high_half)
