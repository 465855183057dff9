use native.Mathlib.Omega.{arith}
use Rattle.lerc_header.proofs.Shorter.{pair-plain, pair-zeros, pair-endless, pair-across, pair-signs}
use Rattle.lerc_header.proofs.pair_right.Goals as goal

pub returns-then-high-lt-INFINITE : goal.returns-then-high-lt-INFINITE
returns-then-high-lt-INFINITE c = let a = c.args in pair-plain a.low a.high c.if-low-lt-SIGN.true c.if-high-lt-INFINITE.true

pub returns-then-low-lt-SIGN : goal.returns-then-low-lt-SIGN
returns-then-low-lt-SIGN c = let a = c.args in pair-zeros a.low a.high c.if-low-lt-SIGN.true c.if-high-lt-INFINITE.false (omega arith)

pub returns-then-low : goal.returns-then-low
returns-then-low c = let a = c.args in pair-endless a.low a.high c.if-low.true (omega arith)

pub returns-then-high-lt-INFINITE-2 : goal.returns-then-high-lt-INFINITE-2
returns-then-high-lt-INFINITE-2 c = let a = c.args in pair-across a.low a.high c.if-low-lt-SIGN.false c.if-low.false c.if-high-lt-INFINITE-2.true

pub returns : goal.returns
returns c = let a = c.args in pair-signs a.low a.high c.if-low-lt-SIGN.false c.if-low.false c.if-high-lt-INFINITE-2.false (omega arith)
