pub mod Order
pub mod Turn
use native.Mathlib.Omega.{arith}
use borrow.Author.Rules.{rules}
use Rattle.lerc_image.specs.Parts.{BlockTile}
use Rattle.lerc_image.proofs.Rows.{Carried, carried_none}
use Rattle.lerc_image.proofs.Standing.{here-carried, Standing, standing-none, standing-within, standing-tile, standing-count, standing-few, standing-next}
use Rattle.lerc_image.proofs.decode.fill_listed.Invariants.Turn.{Filling, filling-none, filling-length, filling-room, filling-more, filling-all}
use Rattle.lerc_image.proofs.decode.fill_listed.Given as goal

abbrev pub invariant-loop-n : goal.invariant-loop-n
invariant-loop-n l =
    Standing l.h l.fn.e l.p l.n × Filling l.s l.h l.maxima l.mask l.list l.initial.image l.image l.n × Carried l.fn.e.shape l.mask l.n l.valid
