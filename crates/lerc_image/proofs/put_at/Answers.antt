use mathlib.Core.Path.{refl}
use Rattle.lerc_words.proofs.Marking.{exits}
use native.Mathlib.Omega.{arith}
use Rattle.lerc_image.proofs.Standing.{here-depth, here-asked, here-told, here-words}
use Rattle.lerc_image.proofs.Reading.{put_refused, put-accepted}
use Rattle.lerc_image.proofs.put_at.Goals as goal

pub offset_bounds-maxima-depth : goal.offset_bounds-maxima-depth
offset_bounds-maxima-depth c = omega (arith, here-depth c.requires.0)

pub bounds-maxima-depth : goal.bounds-maxima-depth
bounds-maxima-depth c = omega (arith, here-depth c.requires.0)

pub returns-in_err-next : goal.returns-in_err-next
returns-in_err-next c =
    let a = c.args in
    let read = here-told c.requires.0 a.s.now a.at a.maxima.now a.mask.now c.requires.1 c.in_err-next.ensures in
    rw (exits c.from_residual.result c.from_residual.ensures.1) (put_refused read _ _ _ refl)

pub put_tile-requires : goal.put_tile-requires
put_tile-requires c =
    (here-asked c.requires.0 c.requires.2, c.requires.1)

pub returns : goal.returns
returns c =
    let a = c.args in
    let t = c.requires.0 in
    let read = here-told t a.s.now a.at a.maxima.now a.mask.now c.requires.1 c.in_ok-next.ensures in
    put-accepted read a.shape t.shaped a.mask.now a.n t.below refl (here-words t a.s.now a.at a.maxima.now a.mask.now)
    c.put_tile.ensures
