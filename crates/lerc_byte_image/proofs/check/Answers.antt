use Rattle.std.proofs.Common.{◌≡◌, length, sym, ◌∙◌, arith, length-take}
use Rattle.lerc_words.specs.Res.{ok}
use Rattle.lerc_header.specs.Header.{held}
use Rattle.lerc_words.proofs.Marking.{exits}
use Rattle.lerc_byte_image.proofs.Checking.{check-no, inside, short, few, check-is, check-past}
use Rattle.lerc_byte_image.proofs.check.Goals as goal
use Rattle.lerc_byte_image.proofs.check.Goals.{In_ok-e}

pub returns-in_err-e : goal.returns-in_err-e
returns-in_err-e c =
    let a = c.args in
    exits _ c.from_residual.ensures.1 ∙ check-no a.blob.now a.h a.mode (sym c.in_err-e.ensures)

kept : (c : In_ok-e) → let a = c.args in held a.h (length a.blob.now) ≡ ok c.in_ok-e.e
kept c = sym c.in_ok-e.ensures

pub returns-then-e-mode : goal.returns-then-e-mode
returns-then-e-mode c =
    let k = (goal.at.returns-then-e-mode c).In_ok-e in
    let a = c.args in
    check-past a.blob.now a.h a.mode (kept k) c.if-e-mode.true

pub overflow_mul-n : goal.overflow_mul-n
overflow_mul-n c =
    let k = (goal.at.overflow_mul-n c).In_ok-e in
    let a = c.args in
    record { fits = omega (arith, few a.blob.now a.h a.mode (kept k)) }

pub slice_bounds-check_symbols-end : goal.slice_bounds-check_symbols-end
slice_bounds-check_symbols-end c =
    let k = (goal.at.slice_bounds-check_symbols-end c).In_ok-e in
    let a = c.args in
    let l = inside a.blob.now a.h a.mode (kept k) in
    simp length-take (omega (arith, l))

pub check_symbols-found-requires : goal.check_symbols-found-requires
check_symbols-found-requires c =
    let k = (goal.at.check_symbols-found-requires c).In_ok-e in
    let a = c.args in
    let l = inside a.blob.now a.h a.mode (kept k) in
    (short a.blob.now a.h a.mode (kept k), simp length-take (omega (arith, l, c.if-e-mode.false)))

pub returns : goal.returns
returns c =
    let k = (goal.at.returns c).In_ok-e in
    let a = c.args in
    c.marked.ensures ∙ check-is a.blob.now a.h a.mode (kept k) c.check_symbols-found.ensures
