use Prim.Native.Nat.{ℕ, ◌/◌, ◌%◌, ◌<◌}
use mathlib.Core.Path.{ap}
use native.Mathlib.Omega.{arith}
use native.Mathlib.Nat.{zero-div, mod-lt}
use lib.ListN.{get_or, get_or-eq_default}
use lib.Dec.{eqb}
use Rattle.lerc_mask.specs.Mask.{pixel_valid}
use Rattle.lerc_mask.proofs.Cut.{moved_up}
use Rattle.lerc_mask.proofs.is_valid.Goals as goal

pub returns-then-mask-pixel : goal.returns-then-mask-pixel
unfolding pixel_valid
returns-then-mask-pixel c =
    let a = c.args in
    rw (get_or-eq_default a.mask.now 0 c.if-mask-pixel.true, zero-div)

pub returns : goal.returns
unfolding pixel_valid
returns c =
    let a = c.args in
    let byte : get_or a.mask.now (a.pixel / 8) 0 < 256 = omega (arith, c.type_inv.mask (a.pixel / 8)) in
    let up = moved_up (get_or a.mask.now (a.pixel / 8) 0) (a.pixel % 8) byte (mod-lt a.pixel (omega arith)) in
    rw c.from.ensures (ap (λ (n : ℕ). eqb (n % 2) 1) up)
