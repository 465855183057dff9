-- All that is claimed, proved.
-- Assumes nothing.
use Rattle.lerc_theorems.specs.Cases.{cases, infinities}
use Rattle.lerc_theorems.proofs.DemandOne.{demand-one}
use Rattle.lerc_theorems.proofs.DemandTwo.{demand-two}
use Rattle.lerc_theorems.proofs.DemandThree.{demand-three}
use Rattle.lerc_c_theorems.proofs.InC.{demands-in-c}
use Rattle.lerc_overflow.proofs.Changes.{changes}
use Rattle.lerc_places.proofs.Unplaced.{unplaced}
use Rattle.lerc_summed.proofs.Summed.{claims as summed}
use Rattle.lerc_staged.proofs.Staged.{claims as staged}
use Rattle.lerc_pack_theorems.proofs.Packs.{pack-claims}
use Rattle.lerc_byte_theorems.proofs.Images.{byte-claims}
use Rattle.lerc_contracts.proofs.Upstream.{upstream}
use Rattle.lerc_program.proofs.Example.{computed}
use Rattle.lerc_claims.specs.Claims.{Claims}
use Rattle.lerc_claims.proofs.Arithmetic.{arithmetic}
use Rattle.lerc_claims.proofs.Program.{program}

pub claims : Claims
claims = record {
  one = demand-one;
  two = demand-two;
  three = demand-three;
  in_c = demands-in-c;
  arithmetic = arithmetic;
  changes = changes;
  unplaced = unplaced;
  summed = summed;
  staged = staged;
  packs = pack-claims;
  bytes = byte-claims;
  upstream = upstream;
  program = program;
  worked = cases;
  infinities = infinities;
  printed = computed;
}
