use native.Mathlib.Omega.{arith}
use native.Mathlib.Numerals.{add-one, add-two, add-three}
use lib.ListN.{length-set}
use Rattle.lerc_bits.proofs.Run.{digits-four}
use Rattle.lerc_bits.proofs.put_four.Goals as goal

pub returns : goal.returns
returns c =
    rw (
      c.lowest.ensures,
      c.lowest-2.ensures,
      c.lowest-3.ensures,
      c.lowest-4.ensures,
      digits-four,
      add-one,
      add-two,
      add-three,
    )

pub bounds-out-k-2 : goal.bounds-out-k-2
bounds-out-k-2 c = simp length-set (omega arith)

pub bounds-out-k-3 : goal.bounds-out-k-3
bounds-out-k-3 c = simp length-set (omega arith)

pub bounds-out-k-4 : goal.bounds-out-k-4
bounds-out-k-4 c = simp length-set (omega arith)
