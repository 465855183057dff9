use Prim.Native.Nat.{◌+◌, ◌*◌}
use mathlib.Core.Path.{refl}
use native.Mathlib.Omega.{arith}
use lib.ListN.{replicate, length-replicate, length-take}
use Rattle.lerc_words.specs.Res.{little}
use Rattle.lerc_words.specs.Lists.{tabulate}
use Rattle.lerc_words.proofs.Tables.{length-tabulate}
use Rattle.lerc_words.proofs.Row.{row-front}
use Rattle.lerc_numeric.specs.Kinds.{type_size}
use Rattle.lerc_numeric.proofs.Integers.{size-le}
use Rattle.lerc_block.specs.Block.{level_block}
use Rattle.lerc_block.specs.Plan.{planned_block, form_words}
use Rattle.lerc_block.proofs.Returns.{given}
use Rattle.lerc_slices.proofs.Parts.{front-filled}
use Rattle.lerc_block.proofs.read_planned.Goals as goal

pub slice_bounds-words-end-in-Raw : goal.slice_bounds-words-end-in-Raw
slice_bounds-words-end-in-Raw c = simp length-take (omega arith)

pub slice_bounds-fill-end-in-Zero : goal.slice_bounds-fill-end-in-Zero
slice_bounds-fill-end-in-Zero c = simp length-take (omega arith)

pub read_steps-requires : goal.read_steps-requires
read_steps-requires c =
    (c.requires.0, c.requires.1, rw c.in-Stepped.is at c.requires.2)

pub returns-in-Raw : goal.returns-in-Raw
unfolding planned_block form_words
returns-in-Raw c =
    let a = c.args in
    rw c.in-Raw.is
    (given (tabulate a.n (λ k. little (type_size a.kind) a.s.now (c.in-Raw.at + k * type_size a.kind))) a.n refl (length-tabulate a.n _)
    (row-front a.s.now c.in-Raw.at (type_size a.kind) a.n a.words.now (size-le a.kind) (omega arith) (rw c.size.ensures at c.words.ensures)))

pub returns-in-Zero : goal.returns-in-Zero
unfolding planned_block form_words
returns-in-Zero c =
    let a = c.args in
    rw c.in-Zero.is
    (given (replicate a.n 0) a.n refl (length-replicate a.n 0) (front-filled 0 a.n a.words.now (omega arith) c.fill.ensures))

pub returns-in-Level : goal.returns-in-Level
unfolding planned_block form_words level_block
returns-in-Level c = rw c.in-Level.is c.read_level.ensures

pub returns-in-Stepped : goal.returns-in-Stepped
unfolding planned_block form_words
returns-in-Stepped c = rw c.in-Stepped.is c.read_steps.ensures
