use mathlib.Core.Path.{◌∙◌, ap, refl}
use Rattle.lerc_words.proofs.Marking.{exits}
use Rattle.lerc_block.specs.Block.{next_block}
use Rattle.lerc_image.specs.Parts.{BlockTile}
use Rattle.lerc_image.proofs.Reading.{said-refused}
use Rattle.lerc_image.proofs.Rows.{carried_none}
use Rattle.lerc_image.proofs.Standing.{here-depth, here-read, here-carried, standing-within, standing-tile, standing-count}
use Rattle.lerc_image.proofs.Walking.{walking-none, walking-all, walking-no, walking-next}
use Rattle.lerc_image.proofs.check_blocks.Goals as goal
use Rattle.lerc_image.proofs.check_blocks.Goals.{After-current-t}

-- block n and its tile
tile : (c : After-current-t) →
    let a = c.args in
    BlockTile a.h a.e.shape c.loop.counter c.current-t.result
tile c = standing-tile c.loop.invariant.0.stands c.loop-test.true c.current-t.ensures

pub loop-init : goal.loop-init
loop-init c = (rw c.start-p.ensures (walking-none _ _ _ _ c.requires), carried_none _ _ _)

pub current-t-requires : goal.current-t-requires
current-t-requires c = let w = c.loop.invariant.0.stands in record { shaped = w.asked.shaped; has_tile = standing-within w c.loop-test.true }

pub valid_here-valid-requires : goal.valid_here-valid-requires
valid_here-valid-requires c =
    standing-count c.loop.invariant.0.stands c.loop-test.true c.current-t.ensures c.all_valid-full.ensures c.loop.invariant.1

pub check_at-requires : goal.check_at-requires
check_at-requires c = here-depth (tile (goal.at.check_at-requires c).After-current-t)

pub returns-in_err-next : goal.returns-in_err-next
returns-in_err-next c =
    let t = tile (goal.at.returns-in_err-next c).After-current-t in
    let judged = c.in_err-next.ensures ∙ ap next_block (here-read t _ _ _ _ c.valid_here-valid.ensures) in
    exits _ c.from_residual.ensures.1 ∙ walking-no c.loop.invariant.0 c.loop-test.true (said-refused judged refl)

pub advance-p-requires : goal.advance-p-requires
advance-p-requires c =
    let w = c.loop.invariant.0.stands in
    record { shaped = w.asked.shaped; has_tile = standing-within w c.loop-test.true }

pub loop-preserved : goal.loop-preserved
loop-preserved c =
    let t = tile (goal.at.loop-preserved c).After-current-t in
    let judged = c.in_ok-next.ensures ∙ ap next_block (here-read t _ _ _ _ c.valid_here-valid.ensures) in (
      rw c.advance-p.ensures (walking-next c.loop.invariant.0 c.loop-test.true judged refl),
      here-carried t _ c.valid_here-valid.ensures,
    )

pub returns : goal.returns
returns c = walking-all c.loop.invariant.0 c.loop-test.false
