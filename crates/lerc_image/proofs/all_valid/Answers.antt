use mathlib.Core.Path.{◌≡◌}
use mathlib.Core.Bool.{false}
use lib.Dec.{eqb}
use borrow.Author.Tests.{eq-eqb, ne_eqb}
use Rattle.lerc_image.specs.Parts.{all_valid}
use Rattle.lerc_image.proofs.all_valid.Goals as goal

pub returns-then-valid-pixels : goal.returns-then-valid-pixels
unfolding all_valid
returns-then-valid-pixels c =
    let a = c.args in
    let not : eqb a.valid a.pixels ≡ false = ne_eqb _ _ c.if-valid-pixels.true in
    rw (not)

pub returns : goal.returns
unfolding all_valid
returns c = rw (eq-eqb _ _ c.if-valid-pixels.false, c.count.ensures)
