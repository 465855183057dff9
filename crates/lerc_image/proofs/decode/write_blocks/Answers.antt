use mathlib.Core.Path.{◌∙◌, ap}
use native.Mathlib.Omega.{arith}
use lib.ListN.{length, length-set}
use Rattle.lerc_image.specs.Parts.{BlockTile}
use Rattle.lerc_image.proofs.Rows.{carried_none}
use Rattle.lerc_image.proofs.Standing.{here-carried, standing-within, standing-tile, standing-count}
use Rattle.lerc_image.proofs.decode.write_blocks.Invariants.Turn.{writing-none, writing-room, writing-all, kept, writing-no, writing-next}
use Rattle.lerc_image.proofs.decode.write_blocks.Goals as goal
use Rattle.lerc_image.proofs.decode.write_blocks.Goals.{After-current-t}

-- block n and its tile
tile : (c : After-current-t) →
    let a = c.args in
    BlockTile a.h a.e.shape c.loop-n.n c.current-t.result
tile c = standing-tile c.loop-n.invariant.0.stands c.loop-n-test.true c.current-t.ensures

pub loop-n-init : goal.loop-n-init
loop-n-init c =
    let p = c.requires in
    (rw c.start-p.ensures (writing-none _ _ _ _ p.0 p.1), carried_none _ _ _)

pub bounds-list-n : goal.bounds-list-n
bounds-list-n c = let i = c.loop-n.invariant.0.listing in omega (arith, i.room, i.long, c.loop-n-test.true)

pub current-t-requires : goal.current-t-requires
current-t-requires c = let w = c.loop-n.invariant.0.stands in record { shaped = w.asked.shaped; has_tile = standing-within w c.loop-n-test.true }

pub valid_here-valid-requires : goal.valid_here-valid-requires
valid_here-valid-requires c =
    standing-count c.loop-n.invariant.0.stands c.loop-n-test.true c.current-t.ensures c.all_valid-full.ensures c.loop-n.invariant.1

pub put_at-got-requires : goal.put_at-got-requires
put_at-got-requires c =
    let p = c.requires in
    (tile (goal.at.put_at-got-requires c).After-current-t, c.valid_here-valid.ensures, writing-room c.loop-n.invariant.0 p.2)

pub shape_of-list-in_default : goal.shape_of-list-in_default
shape_of-list-in_default c = simp length-set c.loop-n.invariant.0.listing.long

pub shape_of-image-in_default : goal.shape_of-image-in_default
shape_of-image-in_default c =
    let w = c.loop-n.invariant.0 in
    ap length (kept w c.loop-n-test.true c.put_at-got.ensures c.in_default.is) ∙ w.long

pub returns-in_default : goal.returns-in_default
returns-in_default c =
    let p = writing-no c.loop-n.invariant.0 c.loop-n-test.true c.put_at-got.ensures c.in_default.is in
    record { list_after = p.0; image_after = p.1 }

pub advance-p-requires : goal.advance-p-requires
advance-p-requires c =
    let w = c.loop-n.invariant.0.stands in
    record { shaped = w.asked.shaped; has_tile = standing-within w c.loop-n-test.true }

pub loop-n-preserved : goal.loop-n-preserved
loop-n-preserved c = (
  rw c.advance-p.ensures (writing-next c.loop-n.invariant.0 c.loop-n-test.true c.put_at-got.ensures c.in-Ok.is),
  here-carried (tile (goal.at.loop-n-preserved c).After-current-t) _ c.valid_here-valid.ensures,
)

pub shape_of-list : goal.shape_of-list
shape_of-list c = c.loop-n.invariant.0.listing.long

pub shape_of-image : goal.shape_of-image
shape_of-image c = c.loop-n.invariant.0.long

pub returns : goal.returns
returns c =
    let p = writing-all c.loop-n.invariant.0 c.loop-n-test.false in
    record { list_after = p.0; image_after = p.1 }
