use mathlib.Core.Path.{sym}
use native.Mathlib.Omega.{arith}
use Rattle.lerc_image.proofs.Cursors.{corner-fits, cursor-first}
use Rattle.lerc_image.proofs.Cursor.first.Goals as goal

pub overflow_mul-result : goal.overflow_mul-result
overflow_mul-result c = omega (arith, corner-fits c.args.h c.args.t c.requires)

pub overflow_add-result : goal.overflow_add-result
overflow_add-result c = omega (arith, corner-fits c.args.h c.args.t c.requires)

pub returns : goal.returns
returns c = sym (cursor-first c.args.h c.args.t c.requires)
