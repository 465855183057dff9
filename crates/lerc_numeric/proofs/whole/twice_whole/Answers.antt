use mathlib.Core.Path.{refl}
use Rattle.lerc_numeric.proofs.WholeNumbers.{twice-negative, twice-low, twice-high, twice-over, twice-exact, twice-broken}
use Rattle.lerc_numeric.proofs.whole.twice_whole.Goals as goal

pub returns-then-w-ge9223372036854775808 : goal.returns-then-w-ge9223372036854775808
returns-then-w-ge9223372036854775808 c = twice-negative _ c.if-w-ge9223372036854775808.true

pub returns-then-e-lt1021 : goal.returns-then-e-lt1021
returns-then-e-lt1021 c = twice-low _ _ c.exponent-e.ensures c.if-e-lt1021.true

pub returns-then-e-gt1073 : goal.returns-then-e-gt1073
returns-then-e-gt1073 c = twice-high _ _ c.exponent-e.ensures c.if-e-gt1073.true

pub returns-then-q-gt1048576 : goal.returns-then-q-gt1048576
returns-then-q-gt1048576 c =
    let x = c.exponent-e in
    twice-over _ _ x.ensures _ _ c.significand-m.ensures refl c.if-e-gt1073.false c.if-q-gt1048576.true

pub returns-then-q-d : goal.returns-then-q-d
returns-then-q-d c =
    let x = c.exponent-e in
    twice-exact _ _ x.ensures _ _ c.significand-m.ensures refl c.if-e-gt1073.false c.if-w-ge9223372036854775808.false c.if-q-gt1048576.false c.if-q-d.true

pub returns-else-q-d : goal.returns-else-q-d
returns-else-q-d c =
    let x = c.exponent-e in
    twice-broken _ _ x.ensures _ _ c.significand-m.ensures refl c.if-e-gt1073.false c.if-q-d.false
