-- The claims on the reader for C, proved.
-- Assumes nothing.
use Rattle.lerc_c_theorems.specs.InC.{DemandsInC}
use Rattle.lerc_c_theorems.proofs.Determined.{no-room-in-c}
use Rattle.lerc_c_theorems.proofs.Refusals.{refusals-keep-in-c}
use Rattle.lerc_c_theorems.proofs.SameReader.{same-reader}
use Rattle.lerc_c_theorems.proofs.Numbers.{numbers-exactly-in-c, places-exactly-in-c, numbers-only-in-c}
use Rattle.lerc_c_theorems.proofs.DemandTwo.{demand-two-in-c}
use Rattle.lerc_c_theorems.proofs.DemandThree.{demand-three-in-c}
use Rattle.lerc_c_theorems.proofs.Unread.{unread-in-c}
use Rattle.lerc_c_theorems.proofs.Staged.{staged-in-c}

pub demands-in-c : DemandsInC
demands-in-c = record {
  no-room-in-c = no-room-in-c;
  keeps-in-c = refusals-keep-in-c;
  same-reader = same-reader;
  numbers-exactly-in-c = numbers-exactly-in-c;
  places-exactly-in-c = places-exactly-in-c;
  numbers-only-in-c = numbers-only-in-c;
  two-in-c = demand-two-in-c;
  three-in-c = demand-three-in-c;
  unread-in-c = unread-in-c;
  staged-in-c = staged-in-c;
}
