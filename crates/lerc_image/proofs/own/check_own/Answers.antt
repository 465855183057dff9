use mathlib.Core.Path.{◌∙◌, ap, refl}
use Rattle.lerc_words.proofs.Marking.{exits}
use Rattle.lerc_block.specs.Block.{next_block}
use Rattle.lerc_image.specs.Parts.{BlockTile}
use Rattle.lerc_image.proofs.Reading.{said-refused}
use Rattle.lerc_image.proofs.Rows.{carried_none}
use Rattle.lerc_image.proofs.Standing.{here-depth, here-read, here-carried, standing-within, standing-tile}
use Rattle.lerc_image.proofs.RunRows.{rows-front, own-asked}
use Rattle.lerc_image.proofs.Walking.{walking-none, walking-all, walking-no, walking-next}
use Rattle.lerc_image.proofs.own.check_own.Goals as goal
use Rattle.lerc_image.proofs.own.check_own.Goals.{After-current-t}

-- block n and its tile
tile : (c : After-current-t) →
    let a = c.args in
    BlockTile a.h a.e.shape c.loop.counter c.current-t.result
tile c = standing-tile c.loop.invariant.0.stands c.loop-test.true c.current-t.ensures

pub loop-init : goal.loop-init
loop-init c =
    (rw c.start-p.ensures (walking-none _ _ _ _ c.requires), carried_none _ _ _, rows-front _ _)

pub current-t-requires : goal.current-t-requires
current-t-requires c = let w = c.loop.invariant.0.stands in record { shaped = w.asked.shaped; has_tile = standing-within w c.loop-test.true }

pub valid_own-valid-requires : goal.valid_own-valid-requires
valid_own-valid-requires c =
    let i = c.loop.invariant in
    own-asked i.0.stands c.loop-test.true c.current-t.ensures i.1 i.2

pub judge_at-requires : goal.judge_at-requires
judge_at-requires c = here-depth (tile (goal.at.judge_at-requires c).After-current-t)

pub returns-in_err-next : goal.returns-in_err-next
returns-in_err-next c =
    let t = tile (goal.at.returns-in_err-next c).After-current-t in
    let judged = c.in_err-next.ensures ∙ ap next_block (here-read t _ _ _ _ c.valid_own-valid.ensures.0) in
    exits _ c.from_residual.ensures.1 ∙ walking-no c.loop.invariant.0 c.loop-test.true (said-refused judged refl)

pub advance-p-requires : goal.advance-p-requires
advance-p-requires c =
    let w = c.loop.invariant.0.stands in
    record { shaped = w.asked.shaped; has_tile = standing-within w c.loop-test.true }

pub loop-preserved : goal.loop-preserved
loop-preserved c =
    let t = tile (goal.at.loop-preserved c).After-current-t in
    let judged = c.in_ok-next.ensures ∙ ap next_block (here-read t _ _ _ _ c.valid_own-valid.ensures.0) in (
      rw c.advance-p.ensures (walking-next c.loop.invariant.0 c.loop-test.true judged refl),
      here-carried t _ c.valid_own-valid.ensures.0,
      c.valid_own-valid.ensures.1,
    )

pub returns : goal.returns
returns c = walking-all c.loop.invariant.0 c.loop-test.false
