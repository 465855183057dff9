use Prim.Native.Nat.{◌≤◌, ◌<◌, ◌+◌}
use native.Mathlib.Omega.{arith}
use borrow.Author.Tests.{lt-ltb, le-leb, lt-leb}
use Rattle.lerc_mask.specs.Mask.{copy_at}
use Rattle.lerc_mask.proofs.copy_at.Goals as goal

pub returns-then-n-eq0 : goal.returns-then-n-eq0
unfolding copy_at
returns-then-n-eq0 c =
    rw c.if-n-eq0.true

pub returns-then-len-at : goal.returns-then-len-at
unfolding copy_at
returns-then-len-at c =
    let a = c.args in
    let p : 0 < a.n = omega arith in
    let q : a.len < a.at + a.n = omega arith in
    rw (lt-ltb 0 a.n p, lt-leb (a.at + a.n) a.len q)

pub returns-then-left-n : goal.returns-then-left-n
unfolding copy_at
returns-then-left-n c =
    let a = c.args in
    let p : 0 < a.n = omega arith in
    let q : a.at + a.n ≤ a.len = omega arith in
    rw (lt-ltb 0 a.n p, le-leb (a.at + a.n) a.len q, lt-leb a.n a.left c.if-left-n.true)

pub returns : goal.returns
unfolding copy_at
returns c =
    let a = c.args in
    let p : 0 < a.n = omega arith in
    let q : a.at + a.n ≤ a.len = omega arith in
    rw (lt-ltb 0 a.n p, le-leb (a.at + a.n) a.len q, le-leb a.n a.left c.if-left-n.false)
