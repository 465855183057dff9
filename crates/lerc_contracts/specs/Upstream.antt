-- Upstream's contracts in one record: the laws that docs/CONTRACTS.md names, by upstream's file and by its rows there.
-- Assumes nothing.
use Rattle.lerc_contracts.specs.NumericClauses.{NumericClauses}
use Rattle.lerc_contracts.specs.BitsClauses.{BitsClauses}
use Rattle.lerc_contracts.specs.PlanesClauses.{PlanesClauses}
use Rattle.lerc_contracts.specs.BlockClauses.{BlockClauses}
use Rattle.lerc_contracts.specs.ImageClauses.{ImageClauses}
use Rattle.lerc_contracts.specs.ByteClauses.{ByteClauses}
use Rattle.lerc_contracts.specs.NativeClauses.{NativeClauses}

pub record Upstream : Type 0 where
  -- lerc_numeric.rs: sections 0 and 1
  pub numeric : NumericClauses
  -- lerc_bits.rs: section 2
  pub bits : BitsClauses
  -- lerc_planes.rs, and the header: section 3
  pub planes : PlanesClauses
  -- lerc_block.rs: section 4
  pub block : BlockClauses
  -- lerc_image.rs: section 5
  pub image : ImageClauses
  -- lerc_byte_image.rs: section 6
  pub bytes : ByteClauses
  -- native_lerc.rs: section 9
  pub native : NativeClauses
