use Rattle.lerc_words.proofs.Marking.{exits}
use Rattle.lerc_image.proofs.Stages.{listed-no, listed_ok}
use Rattle.lerc_image.proofs.walk_blocks.Goals as goal

pub returns-in_err-checked : goal.returns-in_err-checked
returns-in_err-checked c = rw (exits c.from_residual.result c.from_residual.ensures.1) (listed-no _ _ c.in_err-checked.ensures)

pub returns : goal.returns
returns c = listed_ok _ c.requires.0 _ _ _ c.in_ok-checked.ensures c.list_starts.ensures
