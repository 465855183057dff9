use Rattle.std.proofs.Common.{arith}
use Rattle.lerc_words.proofs.Little.{Bytes}
use Rattle.lerc_byte_image.proofs.BitLaws.{swap_is, swap-lt}
use Rattle.lerc_byte_image.proofs.bits.two_words.Goals as goal

pub overflow_add-result : goal.overflow_add-result
overflow_add-result c =
    let a = c.args in
    let b : Bytes a.s.now = λ i. omega (arith, c.type_inv.s i) in
    record { fits = swap-lt a.s.now a.at b c.peek-v.ensures }

pub returns : goal.returns
returns c =
    let a = c.args in
    let b : Bytes a.s.now = λ i. omega (arith, c.type_inv.s i) in
    swap_is a.s.now a.at b c.peek-v.ensures
