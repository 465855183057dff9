use mathlib.Core.Path.{refl}
use native.Mathlib.Omega.{arith}
use lib.ListN.{length}
use Rattle.lerc_slices.proofs.Parts.{part-copied}
use Rattle.lerc_c.proofs.records.put.Goals as goal

pub returns : goal.returns
returns c =
    let a = c.args in
    rw c.copy.ensures (part-copied a.out.now a.words.now a.at (length a.words.now) (omega arith) refl)
