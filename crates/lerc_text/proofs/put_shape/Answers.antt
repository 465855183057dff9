use Rattle.lerc_text.specs.Text.{shape_line}
use Rattle.lerc_text.proofs.Putting.{put_then}
use Rattle.lerc_text.proofs.put_shape.Goals as goal

pub returns : goal.returns
unfolding shape_line
returns c =
    put_then (put_then (put_then (put_then (put_then c.put_field-p.ensures c.put_field-p-2.ensures) c.put_field-p-3.ensures) c.put_field-p-4.ensures) c.put_field-p-5.ensures) c.put_byte.ensures
