mod Number
use mathlib.Core.Path.{◌∙◌, ap, refl}
use native.Mathlib.Omega.{arith}
use Rattle.lerc_words.proofs.Marking.{exits}
use Rattle.lerc_image.specs.Geometry.{valid_in_tile}
use Rattle.lerc_image.proofs.Reading.{filled-refused, filled-accepted}
use lib.ListN.{length-take}
use Rattle.lerc_image.proofs.fill_number.Answers.Number.{number-below, number-within, number-tile, number-room}
use Rattle.lerc_image.specs.Parts.{BlockTile}
use Rattle.lerc_image.proofs.Standing.{here_in}
use borrow.Author.Rules.{rules}
use Rattle.lerc_image.proofs.fill_number.Goals as goal
use Rattle.lerc_image.proofs.fill_number.Goals.{After-current-t}

pub slice_bounds-s-end : goal.slice_bounds-s-end
slice_bounds-s-end c = let l = c.requires.size in simp length-take (omega (arith, l))

pub of-p-requires : goal.of-p-requires
of-p-requires c = let a = c.requires in record { shaped = a.body.shaped; n_bound = number-below a }

pub current-t-requires : goal.current-t-requires
current-t-requires c =
    let a = c.requires in
    record { shaped = a.body.shaped; has_tile = number-within a c.of-p.ensures }

-- the block and its tile
tile : (c : After-current-t) → let a = c.args in BlockTile a.h a.e.shape a.n c.current-t.result
tile c =
    number-tile c.requires c.of-p.ensures c.current-t.ensures

pub count_valid-valid-requires : goal.count_valid-valid-requires
count_valid-valid-requires c = here_in (tile c)

pub put_at-requires : goal.put_at-requires
put_at-requires c =
    let t = (goal.at.put_at-requires c).After-current-t in
    let a = c.requires in
    (tile t, c.count_valid-valid.ensures, number-room a)

pub returns-in_err-put_at : goal.returns-in_err-put_at
returns-in_err-put_at c = rw (exits c.from_residual.result c.from_residual.ensures.1) (filled-refused c.in_err-put_at.ensures refl)

pub returns : goal.returns
returns c =
    filled-accepted c.in_ok-put_at.ensures refl (c.count_valid-valid.ensures ∙ ap (valid_in_tile _ _) (tile (goal.at.returns c).After-current-t).tile)
