use Rattle.lerc_text.proofs.Putting.{put_then}
use Rattle.lerc_text.proofs.put_field.Goals as goal

pub returns : goal.returns
returns c = put_then c.put_text-p.ensures c.put_number.ensures
