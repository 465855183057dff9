use Rattle.lerc_image.specs.Parts.{BlockTile}
use Rattle.lerc_image.proofs.Rows.{carried_none}
use Rattle.lerc_image.proofs.Standing.{here-carried, standing-none, standing-within, standing-tile, standing-count, standing-next}
use Rattle.lerc_image.proofs.decode.fill_listed.Invariants.Turn.{filling-none, filling-length, filling-room, filling-more, filling-all}
use Rattle.lerc_image.proofs.decode.fill_listed.Goals as goal
use Rattle.lerc_image.proofs.decode.fill_listed.Goals.{After-current-t}

-- block n and its tile
tile : (c : After-current-t) →
    let a = c.args in
    BlockTile a.h a.e.shape c.loop-n.n c.current-t.result
tile c = standing-tile c.loop-n.invariant.0 c.loop-n-test.true c.current-t.ensures

pub loop-n-init : goal.loop-n-init
loop-n-init c =
    let p = c.requires in
    (rw c.start-p.ensures (standing-none p.0), filling-none _ p.0 _ _ _ _, carried_none _ _ _)

pub current-t-requires : goal.current-t-requires
current-t-requires c = let w = c.loop-n.invariant.0 in record { shaped = w.asked.shaped; has_tile = standing-within w c.loop-n-test.true }

pub valid_here-valid-requires : goal.valid_here-valid-requires
valid_here-valid-requires c =
    standing-count c.loop-n.invariant.0 c.loop-n-test.true c.current-t.ensures c.all_valid-full.ensures c.loop-n.invariant.2

pub put_at-put-requires : goal.put_at-put-requires
put_at-put-requires c =
    let i = c.loop-n.invariant in
    let p = c.requires in
    (tile (goal.at.put_at-put-requires c).After-current-t, c.valid_here-valid.ensures, filling-room i.1 i.0.asked p.2)

pub advance-p-requires : goal.advance-p-requires
advance-p-requires c =
    let w = c.loop-n.invariant.0 in
    record { shaped = w.asked.shaped; has_tile = standing-within w c.loop-n-test.true }

pub loop-n-preserved : goal.loop-n-preserved
loop-n-preserved c =
    let i = c.loop-n.invariant in
    let l = c.loop-n-test.true in (
      rw c.advance-p.ensures (standing-next i.0 l),
      filling-more i.1 i.0.asked l c.put_at-put.ensures,
      here-carried (tile (goal.at.loop-n-preserved c).After-current-t) _ c.valid_here-valid.ensures,
    )

pub shape_of-image : goal.shape_of-image
shape_of-image c = filling-length c.loop-n.invariant.1

pub returns : goal.returns
returns c = let i = c.loop-n.invariant in filling-all i.1 i.0.asked c.loop-n-test.false i.0.few
