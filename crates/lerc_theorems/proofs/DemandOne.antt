-- Demand 1, proved.
-- Assumes nothing.
use Rattle.lerc_theorems.specs.DemandOne.{DemandOne}
use Rattle.lerc_theorems.proofs.Determined.{no_room}
use Rattle.lerc_theorems.proofs.Refusals.{refusals-keep, refusals-empty, handed-back, whole-keeps}
use Rattle.lerc_theorems.proofs.Numbers.{numbers-exactly, places-exactly, numbers-only}
use Rattle.lerc_theorems.proofs.Writes.{writes-only, whole-writes}

pub demand-one : DemandOne
demand-one = record {
  no_room = no_room;
  numbers-exactly = numbers-exactly;
  places-exactly = places-exactly;
  numbers-only = numbers-only;
  refusal-keeps = refusals-keep;
  whole-keeps = λ k a x why p. whole-keeps _ _ _ _ why p;
  refusal-empty = refusals-empty;
  handed-back = handed-back;
  writes-only = writes-only;
  whole-writes = λ k a x h n end p. whole-writes _ _ _ _ h n end p;
}
