use mathlib.Core.Path.{◌∙◌, sym}
use native.Mathlib.Omega.{arith}
use Rattle.lerc_words.proofs.Marking.{marked-is, marked-fails}
use Rattle.lerc_image.specs.Parts.{BlockTile}
use Rattle.lerc_image.proofs.Standing.{here_in, here_end, standing-none, standing-tile, standing-within, standing-next}
use Rattle.lerc_image.proofs.decode.starts_listed.Invariants.Turn.{found_none, found_all, found-other, found-last, found-next}
use Rattle.lerc_image.proofs.decode.starts_listed.Goals as goal
use Rattle.lerc_image.proofs.decode.starts_listed.Goals.{After-current-t}

-- block k and its tile
tile : (c : After-current-t) →
    let a = c.args in
    BlockTile a.h a.e.shape c.loop-k.k c.current-t.result
tile c =
    standing-tile c.loop-k.invariant.0 c.loop-k-test.true c.current-t.ensures

pub loop-k-init : goal.loop-k-init
loop-k-init c =
    (rw c.start-p.ensures (standing-none c.requires.0), found_none _ _ _ _ _ _ c.requires.1)

pub bounds-list-k : goal.bounds-list-k
bounds-list-k c = omega (arith, c.loop-k.invariant.1.room, c.loop-k-test.true)

pub returns-then-list-k : goal.returns-then-list-k
returns-then-list-k c =
    found-other c.loop-k.invariant.1 c.loop-k-test.true c.if-list-k.true

pub current-t-requires : goal.current-t-requires
current-t-requires c =
    let w = c.loop-k.invariant.0 in
    record { shaped = w.asked.shaped; has_tile = standing-within w c.loop-k-test.true }

pub end_at-requires : goal.end_at-requires
end_at-requires c = here_in (tile c)

pub returns-in_default : goal.returns-in_default
returns-in_default c =
    let told = c.end_at.ensures ∙ here_end (tile (goal.at.returns-in_default c).After-current-t) _ _ _ in
    let (_, d, _) = marked-fails _ _ (sym told ∙ c.in_default.is) in
    found-last c.loop-k.invariant.1 c.loop-k-test.true c.if-list-k.false d

pub advance-p-requires : goal.advance-p-requires
advance-p-requires c =
    let w = c.loop-k.invariant.0 in
    record { shaped = w.asked.shaped; has_tile = standing-within w c.loop-k-test.true }

pub loop-k-preserved : goal.loop-k-preserved
loop-k-preserved c =
    let told = c.in-Ok.ensures ∙ here_end (tile (goal.at.loop-k-preserved c).After-current-t) _ _ _ in
    let i = c.loop-k.invariant in
    let l = c.loop-k-test.true in (
      rw c.advance-p.ensures (standing-next i.0 l),
      found-next i.1 l c.if-list-k.false (marked-is _ _ (sym told)),
    )

pub returns : goal.returns
returns c = found_all c.loop-k.invariant.1 c.loop-k-test.false
