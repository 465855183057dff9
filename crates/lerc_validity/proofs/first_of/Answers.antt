use mathlib.Core.Path.{refl}
use lib.ListN.{length, length-take}
use borrow.Author.Tests.{le-leb, lt-leb}
use native.Mathlib.Omega.{arith}
use Rattle.lerc_validity.proofs.first_of.Goals as goal

pub slice_bounds-result-end : goal.slice_bounds-result-end
slice_bounds-result-end c = simp length-take (omega arith)

pub returns-then-n-s : goal.returns-then-n-s
returns-then-n-s c = (let a = c.args in rw (le-leb a.n (length a.s.now) (omega arith)), refl)

pub returns-else-n-s : goal.returns-else-n-s
returns-else-n-s c = (let a = c.args in rw (lt-leb a.n (length a.s.now) (omega arith)), refl)
