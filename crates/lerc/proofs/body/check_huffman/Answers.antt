use mathlib.Core.Path.{◌∙◌, ap}
use Rattle.lerc_words.proofs.Marking.{exits}
use Rattle.lerc_byte_image.specs.Image.{ended}
use Rattle.lerc_byte_image.proofs.Written.{checked-are}
use Rattle.lerc.proofs.Checking.{huffman-no, huffman-found}
use Rattle.lerc.proofs.body.check_huffman.Goals as goal

pub returns-in_err-end : goal.returns-in_err-end
returns-in_err-end c =
    let a = c.args in
    λ m words. rw (exits _ c.from_residual.ensures.1) (huffman-no a.s.now a.h a.delta a.mode m words (c.in_err-end.ensures ∙ ap ended (checked-are a.s.now a.h a.mode c.requires.0 c.requires.1)))

pub returns : goal.returns
returns c =
    let a = c.args in
    λ m words. huffman-found a.s.now a.h a.delta a.mode m words (c.in_ok-end.ensures ∙ ap ended (checked-are a.s.now a.h a.mode c.requires.0 c.requires.1))
