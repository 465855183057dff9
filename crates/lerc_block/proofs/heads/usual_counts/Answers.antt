use mathlib.Core.Path.{refl}
use Prim.Native.Nat.{◌+◌, ◌*◌, ◌%◌, ◌≤◌, ◌<◌}
use native.Mathlib.Omega.{arith}
use lib.ListN.{get_or}
use Rattle.lerc_block.proofs.Usual.{some-is, bits-few, byte-is, usual-steps}
use Rattle.lerc_block.proofs.heads.usual_counts.Goals as goal
use Rattle.lerc_block.proofs.heads.usual_counts.Goals.{Else-h-ne4}

pub overflow_cast-h : goal.overflow_cast-h
overflow_cast-h c = let a = c.args in omega (arith, c.type_inv.s a.at)

pub overflow_cast-n : goal.overflow_cast-n
overflow_cast-n c = let a = c.args in omega (arith, c.type_inv.s (a.at + 1))

-- n is a byte
byte : (c : Else-h-ne4) → let a = c.args in get_or a.s.now (a.at + 1) 0 < 256
byte c = let a = c.args in omega (arith, c.type_inv.s (a.at + 1))

small : (c : Else-h-ne4) → let a = c.args in get_or a.s.now (a.at + 1) 0 * (get_or a.s.now a.at 0 % 32) ≤ 7905
small c = bits-few _ _ (byte c)

pub overflow_mul-end : goal.overflow_mul-end
overflow_mul-end c = omega (arith, small (goal.at.overflow_mul-end c).Else-h-ne4)

pub overflow_add-end : goal.overflow_add-end
overflow_add-end c = omega (arith, small (goal.at.overflow_add-end c).Else-h-ne4)

pub overflow_add-end-2 : goal.overflow_add-end-2
overflow_add-end-2 c = omega (arith, small (goal.at.overflow_add-end-2 c).Else-h-ne4, c.requires, c.well_formed)

pub returns : goal.returns
returns c h e =
    let k = (goal.at.returns c).Else-h-ne4 in
    let s = c.args.s.now in
    let at = c.args.at in
    rw (some-is e) (usual-steps s at c.requires _ _ (byte-is s at (omega (arith, c.requires))) (byte-is s (at + 1) (omega (arith, c.requires))) c.if-h-ne4.false (byte k) c.args.offset _ refl (omega (arith, c.if-s-end.false)))
