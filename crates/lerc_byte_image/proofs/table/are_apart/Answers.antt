use Rattle.std.proofs.Common.{◌<◌, sym, arith}
use Rattle.lerc_byte_image.proofs.Codes.{apart_none, none_apart, apart-up, apart-down}
use Rattle.lerc_byte_image.proofs.table.are_apart.Goals as goal

pub returns-then-len-eq0 : goal.returns-then-len-eq0
returns-then-len-eq0 c = let a = c.args in rw c.if-len-eq0.true (sym (apart_none a.code a.len2 a.code2))

pub returns-then-len2-eq0 : goal.returns-then-len2-eq0
returns-then-len2-eq0 c = let a = c.args in rw c.if-len2-eq0.true (sym (none_apart a.len a.code a.code2))

pub returns-then-len-len2 : goal.returns-then-len-len2
returns-then-len-len2 c =
    let a = c.args in
    let h : 0 < a.len = omega (arith, c.if-len-eq0.false) in
    let k : 0 < a.len2 = omega (arith, c.if-len2-eq0.false) in
    sym (apart-up a.len a.code a.len2 a.code2 h k c.if-len-len2.true)

pub returns : goal.returns
returns c =
    let a = c.args in
    let h : 0 < a.len = omega (arith, c.if-len-eq0.false) in
    let k : 0 < a.len2 = omega (arith, c.if-len2-eq0.false) in
    sym (apart-down a.len a.code a.len2 a.code2 h k c.if-len-len2.false)
