use mathlib.Core.Path.{◌∙◌, sym}
use native.Mathlib.Omega.{arith}
use lib.ListN.{length-take}
use Rattle.lerc_words.proofs.Row.{row-front}
use Rattle.lerc_header.specs.Shape.{cells}
use Rattle.lerc_image.proofs.Pixels.{pixels-few}
use Rattle.lerc.proofs.RawWords.{full-painted}
use Rattle.lerc.proofs.linear.write_raw.Goals as goal

pub overflow_mul-pixels : goal.overflow_mul-pixels
overflow_mul-pixels c = omega (arith, pixels-few c.args.h c.requires.shaped)

pub slice_bounds-words-end-then-count-pixels : goal.slice_bounds-words-end-then-count-pixels
slice_bounds-words-end-then-count-pixels c = simp length-take (omega (arith, c.requires.room))

pub returns-then-count-pixels : goal.returns-then-count-pixels
returns-then-count-pixels c =
    let a = c.args in
    row-front a.s.now a.at a.size (cells a.h) a.image.now c.requires.small c.requires.room c.words.ensures
    ∙ full-painted a.h a.mask.now c.requires.shaped (sym c.count.ensures ∙ c.if-count-pixels.true) a.s.now a.at a.size a.image.now c.requires.room
