use Prim.Native.Nat.{◌+◌, ◌/◌}
use native.Mathlib.Omega.{arith}
use Rattle.lerc_mask.proofs.Given.{Finds, finds}
use Rattle.lerc_image.proofs.RunRows.{row-none, row_small, row_next, row-all}
use Rattle.lerc_image.proofs.own.count_row.Goals as goal
use Rattle.lerc_image.proofs.own.count_row.Goals.{After-byte_from-got}

-- the byte of pixel k
byte : (c : After-byte_from-got) →
    let a = c.args in
    Finds a.want a.section.now ((a.first + c.loop-k.k) / 8) c.byte_from-got.result
byte c =
    let a = c.args in
    rw c.byte_from-got.ensures (finds a.want a.section.now c.loop-k.place ((a.first + c.loop-k.k) / 8) c.loop-k.invariant.way)

pub loop-k-init : goal.loop-k-init
loop-k-init c = row-none _ _ c.requires.0

pub overflow_add-pixel : goal.overflow_add-pixel
overflow_add-pixel c = omega (arith, c.requires.1, c.loop-k-test.true)

pub overflow_add-found : goal.overflow_add-found
overflow_add-found c = omega (arith, c.bit_of-found.ensures, row_small c.loop-k.invariant, c.requires.1, c.loop-k-test.true)

pub loop-k-preserved : goal.loop-k-preserved
loop-k-preserved c =
    let b = (goal.at.loop-k-preserved c).After-byte_from-got in
    row_next c.loop-k.invariant c.loop-k-test.true (byte b) c.bit_of-found.ensures

pub returns : goal.returns
returns c = row-all c.loop-k.invariant c.loop-k-test.false
