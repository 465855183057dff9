pub mod Turn
use mathlib.Core.Path.{◌∙◌, ap}
use native.Mathlib.Omega.{arith}
use lib.ListN.{length, length-set}
use Rattle.lerc_image.specs.Parts.{BlockTile}
use Rattle.lerc_image.proofs.Rows.{Carried, carried_none}
use Rattle.lerc_image.proofs.Standing.{here-carried, standing-within, standing-tile, standing-count, standing-few}
use Rattle.lerc_image.proofs.decode.write_blocks.Invariants.Turn.{Writing, writing-none, writing-room, writing-all, kept, writing-no, writing-next}
use borrow.Author.Rules.{rules}
use Rattle.lerc_image.proofs.decode.write_blocks.Given as goal

abbrev pub invariant-loop-n : goal.invariant-loop-n
invariant-loop-n l =
    Writing l.s l.h l.maxima l.mask l.at l.fn.e l.initial.list l.initial.image l.list l.image l.p l.n l.next × Carried l.fn.e.shape l.mask l.n l.valid
