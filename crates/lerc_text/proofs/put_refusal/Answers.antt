use Rattle.lerc_text.specs.Text.{refusal_line}
use Rattle.lerc_text.proofs.Putting.{put_then}
use Rattle.lerc_text.proofs.put_refusal.Goals as goal

pub returns : goal.returns
unfolding refusal_line
returns c = put_then c.put_field-p.ensures c.put_line.ensures
