mod Sweep
use mathlib.Core.Path.{◌∙◌, sym, ap}
use Rattle.lerc_words.specs.Res.{ok}
use Rattle.lerc_words.proofs.Marking.{exits}
use Rattle.lerc_image.proofs.walk_body.Answers.Sweep.{body-raw, body-huffman, body-no, body-blocks}
use borrow.Author.Rules.{rules}
use Rattle.lerc_image.proofs.walk_body.Goals as goal

pub returns-in_err-way : goal.returns-in_err-way
returns-in_err-way c = rw (exits c.from_residual.result c.from_residual.ensures.1) (body-no _ _ _ _ _ (sym c.in_err-way.ensures))

pub returns-in-Raw : goal.returns-in-Raw
returns-in-Raw c = body-raw _ _ _ _ _ (sym c.in_ok-way.ensures ∙ ap ok c.in-Raw.is)

pub returns-in-Blocks : goal.returns-in-Blocks
returns-in-Blocks c =
    body-blocks _ _ _ _ _ (sym c.in_ok-way.ensures ∙ ap ok c.in-Blocks.is) c.walk_blocks.ensures

pub returns-in-Huffman : goal.returns-in-Huffman
returns-in-Huffman c = body-huffman _ _ _ _ _ (sym c.in_ok-way.ensures ∙ ap ok c.in-Huffman.is)
