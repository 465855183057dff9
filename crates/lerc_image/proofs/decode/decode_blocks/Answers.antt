use Rattle.lerc_words.proofs.Marking.{exits}
use Rattle.lerc_image.proofs.Stages.{tiled-no, tiled-ok}
use Rattle.lerc_image.proofs.decode.decode_blocks.Goals as goal

pub returns-in_err-checked : goal.returns-in_err-checked
returns-in_err-checked c = rw (exits c.from_residual.result c.from_residual.ensures.1) (tiled-no _ _ c.in_err-checked.ensures)

pub returns : goal.returns
returns c =
    let w = c.write_blocks.ensures in
    tiled-ok _ c.requires.0 _ _ _ c.in_ok-checked.ensures w.list_after w.image_after
