use Rattle.std.proofs.Common.{◌+◌, ◌*◌, ◌/◌, arith}
use Rattle.lerc_words.proofs.Little.{Bytes}
use Rattle.lerc_byte_image.proofs.BitLaws.{swap_is, swap-lt, twelve-is, bits-lt}
use Rattle.lerc_byte_image.proofs.bits.twelve.Goals as goal

pub overflow_add-w : goal.overflow_add-w
overflow_add-w c =
    let a = c.args in
    let b : Bytes a.s.now = λ i. omega (arith, c.type_inv.s i) in
    record { fits = swap-lt a.s.now (a.start + a.p / 32 * 4) b c.eight-v.ensures }

pub returns : goal.returns
returns c =
    let a = c.args in
    let s = a.s.now in
    let b : Bytes s = λ i. omega (arith, c.type_inv.s i) in
    let e = twelve-is s a.start a.p (swap_is s (a.start + a.p / 32 * 4) b c.eight-v.ensures) in
    (e, rw (e) (bits-lt s a.start a.p 12))
