use mathlib.Core.Path.{refl}
use native.Mathlib.Omega.{arith}
use Rattle.lerc_words.proofs.Little.{Bytes}
use Rattle.lerc_block.proofs.Returns.{likewise}
use Rattle.lerc_block.proofs.Usual.{found-sound, found-few, found-words}
use Rattle.lerc_block.proofs.read_words.Goals as goal
use Rattle.lerc_block.proofs.read_words.Goals.{Then-usual-n}

bytes : (k : Then-usual-n) → Bytes k.args.s.now
bytes k j = omega (arith, k.type_inv.s j)

pub read_steps-requires : goal.read_steps-requires
read_steps-requires c =
    let k = (goal.at.read_steps-requires c).Then-usual-n in
    let a = c.args in
    let found = c.in-Some.ensures _ refl in
    let n = found-few a.s.now a.at a.kind a.x found (bytes k) a.n c.if-usual-n.true in
    (n, omega (arith, n), rw c.steps.ensures (found-sound a.s.now a.at a.kind a.x found (bytes k)))

pub returns-then-usual-n : goal.returns-then-usual-n
returns-then-usual-n c =
    let k = (goal.at.returns-then-usual-n c).Then-usual-n in
    let a = c.args in
    likewise (found-words a.s.now a.at a.kind a.x (c.in-Some.ensures _ refl) (bytes k) a.error a.maximum a.n c.if-usual-n.true)
    (rw c.steps.ensures at c.read_steps.ensures)
