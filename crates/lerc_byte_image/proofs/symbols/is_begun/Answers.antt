use Rattle.std.proofs.Common.{◌≡◌, min, arith, lt-ltb}
use Rattle.lerc_byte_image.specs.SymbolParts.{begun}
use Rattle.lerc_byte_image.proofs.symbols.is_begun.Goals as goal
use Rattle.lerc_byte_image.proofs.symbols.is_begun.Goals.{Joined-len-there, then-len-there, else-len-there}

pub returns-then-len-eq0 : goal.returns-then-len-eq0
unfolding begun
returns-then-len-eq0 c = rw c.if-len-eq0.true

-- the bits that count
few : (c : Joined-len-there) → let a = c.args in c.if-len-there.n ≡ min a.len a.there
few c = elim c.if-len-there.branch [ then-len-there w ↦ omega (arith, w.if-len-there.true, w.n-is) | else-len-there w ↦ omega (arith, w.if-len-there.false, w.n-is) ]

pub overflow_sub-result : goal.overflow_sub-result
overflow_sub-result c = omega (arith, few (goal.at.overflow_sub-result c).Joined-len-there)

pub overflow_sub-result-2 : goal.overflow_sub-result-2
overflow_sub-result-2 c = omega (arith, few (goal.at.overflow_sub-result-2 c).Joined-len-there)

pub returns : goal.returns
unfolding begun
returns c =
    let a = c.args in
    rw (few (goal.at.returns c).Joined-len-there, lt-ltb 0 a.len (omega (arith, c.if-len-eq0.false)))
