use Rattle.lerc_text.specs.Text.{line}
use Rattle.lerc_text.proofs.Putting.{put_then}
use Rattle.lerc_text.proofs.put_line.Goals as goal

pub returns : goal.returns
unfolding line
returns c = put_then c.put_field-p.ensures c.put_byte.ensures
