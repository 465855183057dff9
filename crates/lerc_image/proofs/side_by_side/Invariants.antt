use Rattle.lerc_image.proofs.Squares.{BytesJoined}
use Rattle.lerc_image.proofs.side_by_side.Given as goal

abbrev pub invariant-loop : goal.invariant-loop
invariant-loop l = BytesJoined l.mask l.at l.step l.bits l.k l.counter
