use mathlib.Core.Path.{refl, ◌∙◌}
use Rattle.lerc_words.proofs.Marking.{exits}
use native.Mathlib.Omega.{arith}
use borrow.Author.Tests.{lt-ltb, le-ltb, eq-eqb, ne_eqb}
use Rattle.lerc_words.proofs.Little.{read_ok, read-cut, read-why, word_at-is}
use Rattle.lerc_sweep.specs.Sweep.{swept, sweep_byte}
use Rattle.lerc_sweep.proofs.read_sweep.Goals as goal

pub returns-in_err-sweep : goal.returns-in_err-sweep
unfolding swept sweep_byte
returns-in_err-sweep c =
    let a = c.args in
    let e = c.in_err-sweep.ensures in
    exits _ c.from_residual.ensures.1 ∙ rw (read-why a.s.now a.at 1 (omega arith) e refl, read-cut a.s.now a.at 1 (omega arith) e refl)

pub returns-then-sweep-ge2 : goal.returns-then-sweep-ge2
unfolding swept sweep_byte
returns-then-sweep-ge2 c =
    let a = c.args in
    rw (read_ok a.s.now a.at 1 (omega arith) c.in_ok-sweep.ensures refl, le-ltb _ 2 c.if-sweep-ge2.true)

pub overflow_add-result : goal.overflow_add-result
overflow_add-result c =
    let a = c.args in
    let w = (word_at-is 1 a.s.now a.at _ (read_ok a.s.now a.at 1 (omega arith) c.in_ok-sweep.ensures refl)).inside in
    omega (arith, c.well_formed)

pub returns-then-sweep-eq1 : goal.returns-then-sweep-eq1
unfolding swept sweep_byte
returns-then-sweep-eq1 c =
    let a = c.args in
    rw (read_ok a.s.now a.at 1 (omega arith) c.in_ok-sweep.ensures refl, lt-ltb _ 2 c.if-sweep-ge2.false, eq-eqb _ 1 c.if-sweep-eq1.true)

pub overflow_add-at : goal.overflow_add-at
overflow_add-at c =
    let a = c.args in
    let w = (word_at-is 1 a.s.now a.at _ (read_ok a.s.now a.at 1 (omega arith) c.in_ok-sweep.ensures refl)).inside in
    omega (arith, c.well_formed)

pub returns : goal.returns
unfolding swept sweep_byte
returns c =
    let a = c.args in
    rw (read_ok a.s.now a.at 1 (omega arith) c.in_ok-sweep.ensures refl, lt-ltb _ 2 c.if-sweep-ge2.false, ne_eqb _ 1 c.if-sweep-eq1.false) c.after_sweep.ensures
