-- All that is claimed, in one record: what is lost of it fails the check. docs/SPEC.md goes through its fields.
-- Assumes nothing.
use Rattle.std.specs.Prelude.{◌≡◌, map}
use Rattle.lerc_theorems.specs.Cases as cases
use Rattle.lerc_theorems.specs.DemandOne.{DemandOne}
use Rattle.lerc_theorems.specs.DemandTwo.{DemandTwo}
use Rattle.lerc_theorems.specs.DemandThree.{DemandThree}
use Rattle.lerc_c_theorems.specs.InC.{DemandsInC}
use Rattle.lerc_overflow.specs.Changes.{Changes}
use Rattle.lerc_places.specs.Unplaced.{Unplaced}
use Rattle.lerc_summed.specs.Summed.{Summed}
use Rattle.lerc_staged.specs.Staged.{StagedClaims}
use Rattle.lerc_pack_theorems.specs.Packs.{PackClaims}
use Rattle.lerc_byte_theorems.specs.Images.{ByteClaims}
use Rattle.lerc_contracts.specs.Upstream.{Upstream}
use Rattle.lerc_program.proofs.Example.{Computed}
use Rattle.lerc_claims.specs.Arithmetic.{Arithmetic}
use Rattle.lerc_claims.specs.Program.{ProgramClaims}

pub record Claims : Type 2 where
  -- any bytes and any buffers get an answer
  pub one : DemandOne
  -- "exact acceptance, exact cells"
  pub two : DemandTwo
  -- fills in any order
  pub three : DemandThree
  -- the same of the reader for C
  pub in_c : DemandsInC
  -- rounding, sums, products, order and conversions
  pub arithmetic : Arithmetic
  -- what "finite plus infinity, either way round, is that infinity" changes, and what not
  pub changes : Changes
  -- "a place with each number" changes nothing else: what is said and left is what it was without places
  pub unplaced : Unplaced
  -- "Refusal 13": where it is given, what it finds out, and that nothing else changed
  pub summed : Summed
  -- "one after the other they equal the old read": stage and publish, what each refuses and leaves, and fills between them
  pub staged : StagedClaims
  -- "A field is many tiles": packs and contents, one to one; what is refused, handed out and written
  pub packs : PackClaims
  -- "Huffman byte images": one code at a place, one image, its prediction cell by cell
  pub bytes : ByteClaims
  -- upstream's contracts, clause by clause
  pub upstream : Upstream
  -- the program's text
  pub program : ProgramClaims
  -- "These twelve stand in a single table with a single claim."
  pub worked : map (λ (c : cases.Case). c.got) cases.table ≡ map (λ (c : cases.Case). c.want) cases.table
  -- offset -2^1023, error 2^1000, count 2^30; and an infinity with a finite number, both ways round
  pub infinities : map (λ (c : cases.Case). c.got) cases.infinity_table ≡ map (λ (c : cases.Case). c.want) cases.infinity_table
  -- the text that the rules print, and three more, as the checker computes them
  pub printed : Computed
