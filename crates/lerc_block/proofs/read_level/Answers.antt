use mathlib.Core.Path.{refl, sym}
use mathlib.Core.List.{[]}
use native.Mathlib.Omega.{arith}
use lib.ListN.{replicate, length-replicate, length-take}
use Rattle.lerc_words.proofs.Marking.{exits}
use Rattle.lerc_block.specs.Plan.{offset_value}
use Rattle.lerc_block.proofs.Returns.{refused, given, level-none, level-no, level-ok}
use Rattle.lerc_slices.proofs.Parts.{front-filled}
use Rattle.lerc_block.proofs.read_level.Goals as goal

pub returns-then-n-eq0 : goal.returns-then-n-eq0
returns-then-n-eq0 c =
    let a = c.args in
    given [] 0 (level-none a.next a.kind (offset_value a.offset) a.n c.if-n-eq0.true) refl refl

pub returns-in_err-v : goal.returns-in_err-v
returns-in_err-v c =
    let a = c.args in
    let w = sym (rw c.number.ensures at c.in_err-v.ensures) in
    refused (exits _ c.from_residual.ensures.1) (level-no a.next a.kind (offset_value a.offset) a.n (omega arith) w)

pub slice_bounds-fill-end-2 : goal.slice_bounds-fill-end-2
slice_bounds-fill-end-2 c = simp length-take (omega arith)

pub returns : goal.returns
returns c =
    let a = c.args in
    let v = c.in_ok-v.v in
    let held = sym (rw c.number.ensures at c.in_ok-v.ensures) in
    given (replicate a.n v) a.n (level-ok a.next a.kind (offset_value a.offset) a.n v held) (length-replicate a.n v) (front-filled v a.n a.words.now (omega arith) c.fill.ensures)
