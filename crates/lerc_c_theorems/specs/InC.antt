-- What is claimed of the reader for C, in one record.
-- Assumes nothing.
use Rattle.lerc_c_theorems.specs.Promises.{NoRoomInC}
use Rattle.lerc_c_theorems.specs.Refusals.{RefusalsKeepInC}
use Rattle.lerc_c_theorems.specs.SameReader.{SameReader}
use Rattle.lerc_c_theorems.specs.Numbers.{NumbersExactlyInC, PlacesExactlyInC, NumbersOnlyInC}
use Rattle.lerc_c_theorems.specs.DemandTwo.{DemandTwoInC}
use Rattle.lerc_c_theorems.specs.DemandThree.{DemandThreeInC}
use Rattle.lerc_c_theorems.specs.Unread.{UnreadInC}
use Rattle.lerc_c_theorems.specs.Staged.{StagedInC}

pub record DemandsInC : Type 0 where
  -- "For every input a public function's promise leaves no room": number, and every lent byte, the records and the place included
  pub no-room-in-c : NoRoomInC
  -- a number other than 0 leaves every record and every slice but that of the place; the slices of a whole read as the reader leaves them
  pub keeps-in-c : RefusalsKeepInC
  -- each entry is the reader's function, on what its records hold
  pub same-reader : SameReader
  -- "given when": each number of each entry exactly
  pub numbers-exactly-in-c : NumbersExactlyInC
  -- "a place with each number": each place of each entry exactly, and where it is written
  pub places-exactly-in-c : PlacesExactlyInC
  -- which numbers each entry can return at all
  pub numbers-only-in-c : NumbersOnlyInC
  -- "exact acceptance, exact cells"
  pub two-in-c : DemandTwoInC
  -- "Fills in any order"
  pub three-in-c : DemandThreeInC
  -- "Bytes after size .. are never looked at"
  pub unread-in-c : UnreadInC
  -- staging, then publishing, is a whole read
  pub staged-in-c : StagedInC
