use mathlib.Core.Path.{◌∙◌}
use mathlib.Core.Bool.{true, false}
use native.Mathlib.Omega.{arith}
use Rattle.lerc_header.proofs.Sizes.{product-fits}
use Rattle.lerc_header.proofs.Shorter.{fields-judged}
use Rattle.lerc_header.proofs.fields_right.Goals as goal

pub overflow_mul-right : goal.overflow_mul-right
overflow_mul-right c =
    let a = c.args in
    record { fits = product-fits a.h.rows a.h.columns (omega arith) (omega arith) }

pub overflow_cast-right-4 : goal.overflow_cast-right-4
overflow_cast-right-4 c = omega (arith, c.struct_known-9-1.given)

pub overflow_add-right : goal.overflow_add-right
overflow_add-right c = omega (arith, c.struct_known-9-1.given)

pub returns-then-right : goal.returns-then-right
returns-then-right c =
    let h = c.args.h in
    c.pair_right.ensures ∙ fields-judged h true (rw c.error_right.ensures at c.if-right.true)

pub returns-else-right : goal.returns-else-right
returns-else-right c =
    let h = c.args.h in
    fields-judged h false (rw c.error_right.ensures at c.if-right.false)
