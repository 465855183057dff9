use mathlib.Core.Path.{refl}
use native.Mathlib.Omega.{arith}
use Rattle.lerc_bits.specs.Bits.{counts_by}
use Rattle.lerc_bits.proofs.Plans.{counts-by-plan}
use Rattle.lerc_bits.proofs.Returns.{uncounted, inspect-ok, inspect-at, counts-no-at, spanned-at}
use Rattle.lerc_bits.proofs.checks.check.Goals as goal

pub returns-in-Err : goal.returns-in-Err
returns-in-Err c =
    let a = c.args in
    uncounted (counts-no-at a.s.now a.start a.start (inspect-at a.s.now a.start c.in-Err.ensures refl))

pub returns : goal.returns
returns c =
    let a = c.args in
    let e = inspect-ok a.s.now a.start c.in-Ok.ensures refl in
    rw (counts-by-plan a.s.now a.start (λ i. omega (arith, c.type_inv.s i)) e) (spanned-at (counts_by a.s.now _) c.check_plan-got.result c.marked.result a.start c.check_plan-got.ensures c.marked.ensures)
