pub mod Turn
use native.Mathlib.Omega.{arith}
use borrow.Author.Rules.{rules}
use Rattle.lerc_words.proofs.Little.{Bytes}
use Rattle.lerc_image.proofs.Cursors.{corner-fits}
use Rattle.lerc_image.proofs.Standing.{asked_in}
use Rattle.lerc_image.proofs.Squares.{start_fits}
use Rattle.lerc_image.proofs.RowTurns.{start-in, row_step}
use Rattle.lerc_image.proofs.put.scatter_square.Invariants.Turn.{SquareRows, squares-none, squares-all, in-tile, squares-in, squares-on, squares-row, squares-next}
use Rattle.lerc_image.proofs.put.scatter_square.Given as goal

abbrev pub invariant-loop : goal.invariant-loop
invariant-loop l = SquareRows l.h l.number l.mask l.words l.initial.image l.image l.k l.first l.counter l.used
