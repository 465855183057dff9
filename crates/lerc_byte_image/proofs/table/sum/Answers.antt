use Rattle.std.proofs.Common.{◌≡◌, length, get_or, arith}
use Rattle.lerc_words.proofs.Counts.{total-zero, total-more}
use Rattle.lerc_byte_image.proofs.Codes.{short-each, bits-le}
use Rattle.lerc_byte_image.proofs.table.sum.Goals as goal

pub loop-len-init : goal.loop-len-init
loop-len-init c = total-zero (λ i. get_or c.args.lengths.now i 0)

pub overflow_cast-bits : goal.overflow_cast-bits
overflow_cast-bits c =
    omega (arith, short-each c.args.lengths.now c.requires.1 c.loop-len.len-index)

pub overflow_add-bits : goal.overflow_add-bits
overflow_add-bits c =
    omega (arith, short-each c.args.lengths.now c.requires.1 c.loop-len.len-index, bits-le c.args.lengths.now c.requires.1 c.loop-len.len-index)

pub loop-len-preserved : goal.loop-len-preserved
loop-len-preserved c =
    rw c.loop-len.invariant (total-more c.loop-len.len-index (λ i. get_or c.args.lengths.now i 0))

pub returns : goal.returns
returns c =
    let e : c.loop-len.len-index ≡ length c.args.lengths.now = omega arith in
    rw (e) at c.loop-len.invariant
