-- `check_tiles`: each test's refusal, then the blocks.
-- Assumes nothing.
use mathlib.Core.Path.{◌≡◌, sym}
use mathlib.Core.List.{List}
use Prim.Native.Nat.{ℕ, ◌≤◌, ◌<◌}
use native.Mathlib.Omega.{arith}
use borrow.Author.Tests.{le-leb, lt-leb}
use lib.ListN.{length, take, length-take}
use Rattle.lerc_words.specs.Res.{Res, ok, fail, refuse}
use Rattle.lerc_header.specs.declared.Header.{Header}
use Rattle.lerc_header.specs.declared.Extent.{Extent}
use Rattle.lerc_header.specs.Header.{held}
use Rattle.lerc_words.proofs.Marking.{exits}
use Rattle.lerc_header.proofs.Kept.{held-is}
use Rattle.lerc_image.specs.Blocks.{all_blocks}
use Rattle.lerc_image.specs.Walk.{Walk, walk_of}
use Rattle.lerc_image.specs.Tiles.{checked_tiles}
use Rattle.lerc_image.proofs.Held.{held-asked, held-inside}
use Rattle.lerc_image.proofs.decode.check_tiles.Goals as goal
use Rattle.lerc_image.proofs.decode.check_tiles.Goals.{In_ok-e}

module _ (b : List ℕ) (h : Header) (m maxima : List ℕ) (at : ℕ) {e : Extent} (p : held h (length b) ≡ ok e) where
  no-mask : length m < e.mask → fail (refuse 5) ≡ walk_of h (checked_tiles b h m maxima at)
  unfolding checked_tiles
  no-mask l = rw (p, lt-leb _ _ l)

  -- over the extent that the code has
  checked : {said : Res Walk} → e.mask ≤ length m → said ≡ walk_of h (all_blocks (take e.size b) h maxima m at) → said ≡ walk_of h (checked_tiles b h m maxima at)
  unfolding checked_tiles
  checked l q = rw (p, le-leb _ _ l) (rw (held-is h (length b) p) at q)

kept : (c : In_ok-e) →
    let a = c.args in
    held a.h (length a.blob.now) ≡ ok c.in_ok-e.e
kept c = sym c.in_ok-e.ensures

pub returns-in_err-e : goal.returns-in_err-e
unfolding checked_tiles
returns-in_err-e c =
    rw (exits c.from_residual.result c.from_residual.ensures.1, sym c.in_err-e.ensures)

pub returns-then-mask-e : goal.returns-then-mask-e
returns-then-mask-e c = no-mask _ _ _ _ _ (kept (goal.at.returns-then-mask-e c).In_ok-e) c.if-mask-e.true

pub slice_bounds-check_blocks-end : goal.slice_bounds-check_blocks-end
slice_bounds-check_blocks-end c =
    let k = (goal.at.slice_bounds-check_blocks-end c).In_ok-e in
    let l = held-inside c.args.blob.now _ (kept k) in
    simp length-take (omega (arith, l))

pub check_blocks-requires : goal.check_blocks-requires
check_blocks-requires c =
    let k = (goal.at.check_blocks-requires c).In_ok-e in
    held-asked c.args.blob.now _ (kept k)

pub returns : goal.returns
returns c = checked _ _ _ _ _ (kept (goal.at.returns c).In_ok-e) c.if-mask-e.false c.check_blocks.ensures
