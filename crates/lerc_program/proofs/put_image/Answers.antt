use native.Mathlib.Omega.{arith}
use Rattle.lerc_header.proofs.Sizes.{product-fits}
use Rattle.lerc_text.proofs.Putting.{put_then}
use Rattle.lerc_program.specs.Program.{image_text}
use Rattle.lerc_program.proofs.put_image.Goals as goal

pub overflow_mul-cells : goal.overflow_mul-cells
overflow_mul-cells c =
    let a = c.args in
    record { fits = product-fits a.h.rows a.h.columns (omega arith) (omega arith) }

pub returns : goal.returns
unfolding image_text
returns c =
    put_then (put_then (put_then c.put_shape-p.ensures c.put_line-p.ensures) c.put_cells-p.ensures) c.put_line.ensures
