use borrow.Author.Rules.{rules}
use native.Mathlib.Nat.{sub-le}
use Rattle.lerc_bits.specs.Unpacking.{begun}
use Rattle.lerc_bits.proofs.Begun.{begun-none, begun-there, begun-whole}
use Rattle.lerc_bits.proofs.unpack.Goals as goal

pub returns-then-bits-gt16 : goal.returns-then-bits-gt16
unfolding begun
returns-then-bits-gt16 c = c.unpack_from.ensures

pub unpack_from-requires-then-bits-gt8 : goal.unpack_from-requires-then-bits-gt8
unpack_from-requires-then-bits-gt8 c = record { first_le_n = search rules; out_value = begun-there _ _ _ _ _ _ c.unpack_fours.ensures }

pub returns-then-bits-gt8 : goal.returns-then-bits-gt8
returns-then-bits-gt8 c = begun-whole _ _ _ _ _ _ (sub-le _ _) c.unpack_fours.ensures c.unpack_from-then-bits-gt8.ensures

pub unpack_from-requires-2 : goal.unpack_from-requires-2
unpack_from-requires-2 c = record { first_le_n = search rules; out_value = begun-there _ _ _ _ _ _ c.unpack_eights.ensures }

pub returns : goal.returns
returns c = begun-whole _ _ _ _ _ _ (sub-le _ _) c.unpack_eights.ensures c.unpack_from-2.ensures

pub unpack_from-requires : goal.unpack_from-requires
unpack_from-requires c = record { first_le_n = search rules; out_value = begun-none _ _ _ _ _ }
