use mathlib.Core.Path.{◌∙◌, sym}
use native.Mathlib.Omega.{arith}
use lib.ListN.{length-set}
use Rattle.lerc_words.proofs.Marking.{marked-is, marked-fails}
use Rattle.lerc_image.proofs.Standing.{here_in, here_end, standing-none, standing-tile, standing-within, standing-next}
use Rattle.lerc_image.proofs.list_starts.Invariants.Turn.{heads-begin, heads-all, heads-no, heads-next}
use Rattle.lerc_image.proofs.list_starts.Goals as goal

pub loop-k-init : goal.loop-k-init
loop-k-init c =
    (rw c.start-p.ensures (standing-none c.requires.0), heads-begin _ _ _ _ _ _ c.requires.1)

pub bounds-list-k : goal.bounds-list-k
bounds-list-k c = let i = c.loop-k.invariant.1.listing in omega (arith, i.room, i.long, c.loop-k-test.true)

pub current-t-requires : goal.current-t-requires
current-t-requires c = let w = c.loop-k.invariant.0 in record { shaped = w.asked.shaped; has_tile = standing-within w c.loop-k-test.true }

pub end_at-requires : goal.end_at-requires
end_at-requires c = here_in (standing-tile c.loop-k.invariant.0 c.loop-k-test.true c.current-t.ensures)

pub shape_of-list-in_default : goal.shape_of-list-in_default
shape_of-list-in_default c = simp length-set c.loop-k.invariant.1.listing.long

pub returns-in_default : goal.returns-in_default
returns-in_default c =
    let i = c.loop-k.invariant in
    let told = c.end_at.ensures ∙ here_end (standing-tile i.0 c.loop-k-test.true c.current-t.ensures) _ _ _ in
    let (_, d, _) = marked-fails _ _ (sym told ∙ c.in_default.is) in
    heads-no i.1 c.loop-k-test.true d

pub advance-p-requires : goal.advance-p-requires
advance-p-requires c =
    let w = c.loop-k.invariant.0 in
    record { shaped = w.asked.shaped; has_tile = standing-within w c.loop-k-test.true }

pub loop-k-preserved : goal.loop-k-preserved
loop-k-preserved c =
    let i = c.loop-k.invariant in
    let l = c.loop-k-test.true in
    (rw c.advance-p.ensures (standing-next i.0 l), heads-next i.1 l (marked-is _ _ (sym (c.in-Ok.ensures ∙ here_end (standing-tile i.0 l c.current-t.ensures) _ _ _))))

pub shape_of-list : goal.shape_of-list
shape_of-list c = c.loop-k.invariant.1.listing.long

pub returns : goal.returns
returns c = let i = c.loop-k.invariant in heads-all i.1 c.loop-k-test.false
