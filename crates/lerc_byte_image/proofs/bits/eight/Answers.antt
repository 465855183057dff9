use Rattle.std.proofs.Common.{◌+◌, sym, arith}
use Rattle.lerc_words.proofs.Little.{little-quads}
use Rattle.lerc_byte_image.proofs.bits.eight.Goals as goal

pub overflow_mul-result : goal.overflow_mul-result
overflow_mul-result c =
    let a = c.args in
    let b = c.type_inv.s in
    omega (arith, c.quad-2.ensures, c.quad.ensures, b a.at, b (a.at + 1), b (a.at + 2), b (a.at + 3), b (a.at + 4), b (a.at + 5), b (a.at + 6), b (a.at + 7))

pub overflow_add-result : goal.overflow_add-result
overflow_add-result c =
    let a = c.args in
    let b = c.type_inv.s in
    omega (arith, c.quad-2.ensures, c.quad.ensures, b a.at, b (a.at + 1), b (a.at + 2), b (a.at + 3), b (a.at + 4), b (a.at + 5), b (a.at + 6), b (a.at + 7))

pub returns : goal.returns
returns c =
    let a = c.args in
    rw (c.quad-2.ensures, c.quad.ensures) (sym (little-quads a.s.now a.at))
