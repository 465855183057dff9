use mathlib.Core.Path.{refl, ◌∙◌}
use Rattle.lerc_words.proofs.Marking.{exits}
use native.Mathlib.Omega.{arith}
use borrow.Author.Tests.{lt-ltb, le-ltb, eq-eqb, ne_eqb}
use Rattle.lerc_words.proofs.Little.{read_ok, read-cut, read-why, word_at-is}
use Rattle.lerc_sweep.specs.Sweep.{mode_byte}
use Rattle.lerc_sweep.proofs.read_mode.Goals as goal

pub returns-in_err-mode : goal.returns-in_err-mode
unfolding mode_byte
returns-in_err-mode c =
    let a = c.args in
    let e = c.in_err-mode.ensures in
    exits _ c.from_residual.ensures.1 ∙ rw (read-why a.s.now a.at 1 (omega arith) e refl, read-cut a.s.now a.at 1 (omega arith) e refl)

pub returns-then-mode-ge3 : goal.returns-then-mode-ge3
unfolding mode_byte
returns-then-mode-ge3 c =
    let a = c.args in
    rw (read_ok a.s.now a.at 1 (omega arith) c.in_ok-mode.ensures refl, le-ltb _ 3 c.if-mode-ge3.true)

pub overflow_add-result : goal.overflow_add-result
overflow_add-result c =
    let a = c.args in
    let w = (word_at-is 1 a.s.now a.at _ (read_ok a.s.now a.at 1 (omega arith) c.in_ok-mode.ensures refl)).inside in
    omega (arith, c.well_formed)

pub returns-then-mode-eq0 : goal.returns-then-mode-eq0
unfolding mode_byte
returns-then-mode-eq0 c =
    let a = c.args in
    rw (read_ok a.s.now a.at 1 (omega arith) c.in_ok-mode.ensures refl, lt-ltb _ 3 c.if-mode-ge3.false, eq-eqb _ 0 c.if-mode-eq0.true)

pub returns : goal.returns
unfolding mode_byte
returns c =
    let a = c.args in
    rw (read_ok a.s.now a.at 1 (omega arith) c.in_ok-mode.ensures refl, lt-ltb _ 3 c.if-mode-ge3.false, ne_eqb _ 0 c.if-mode-eq0.false)
