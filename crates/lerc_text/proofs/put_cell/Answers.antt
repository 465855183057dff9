use Rattle.lerc_text.specs.Text.{cell_line}
use Rattle.lerc_text.proofs.Putting.{put_then}
use Rattle.lerc_text.proofs.put_cell.Goals as goal

pub returns-then-valid : goal.returns-then-valid
unfolding cell_line
returns-then-valid c =
    rw c.if-valid.true
    (put_then (put_then (put_then c.put_field-p.ensures c.put_byte-p.ensures) c.put_number-p.ensures) c.put_byte.ensures)

pub returns : goal.returns
unfolding cell_line
returns c =
    rw c.if-valid.false
    (put_then (put_then (put_then c.put_field-p.ensures c.put_byte-p.ensures) c.put_byte-p-2.ensures) c.put_byte-2.ensures)
