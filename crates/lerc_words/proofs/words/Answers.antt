use Prim.Native.Nat.{◌+◌, ◌*◌, ◌<◌, ◌^◌, min}
use native.Mathlib.Omega.{arith}
use lib.ListN.{length-take}
use Rattle.lerc_words.proofs.Row.{row-end, row-parts}
use Rattle.lerc_words.proofs.words.Goals as goal
use Rattle.lerc_words.proofs.words.Goals.{After-slice_known-2-1}

pub slice_bounds-words_inside-end-2 : goal.slice_bounds-words_inside-end-2
slice_bounds-words_inside-end-2 c = simp length-take (omega (arith, c.inside-few.ensures.0))

pub words_inside-requires : goal.words_inside-requires
words_inside-requires c k l = c.inside-few.ensures.1 k (omega (arith, simp length-take at l))

-- the second part begins at a place
rest : (c : After-slice_known-2-1) → let a = c.args in a.at + c.inside-few.result * a.size < 2 ^ 64
rest c =
    let a = c.args in
    row-end c.inside-few.result a.at a.size _ (2 ^ 64) c.inside-few.ensures.1 c.ranges.at.fits (omega (arith, c.well_formed))

pub overflow_mul-few : goal.overflow_mul-few
overflow_mul-few c = omega (arith, rest c)

pub overflow_add-at : goal.overflow_add-at
overflow_add-at c = omega (arith, rest c)

pub returns : goal.returns
returns c =
    let a = c.args in
    row-parts (min a.size 8) a.s.now a.at a.size c.inside-few.result a.out.now _ _ c.inside-few.ensures.0 c.words_inside.ensures c.words_rest.ensures
