-- `check_own_tiles`: the header's refusals, then the blocks.
-- Assumes nothing.
use mathlib.Core.Path.{◌≡◌, sym}
use mathlib.Core.List.{List}
use Prim.Native.Nat.{ℕ, ◌+◌, ◌-◌, ◌≤◌}
use native.Mathlib.Omega.{arith}
use lib.Dec.{eqb}
use lib.ListN.{length, take, drop, length-take}
use Rattle.lerc_words.specs.Res.{Res, ok}
use Rattle.lerc_header.specs.declared.Header.{Header}
use Rattle.lerc_header.specs.declared.Extent.{Extent}
use Rattle.lerc_header.specs.Header.{header_bytes, held}
use Rattle.lerc_words.proofs.Marking.{exits}
use Rattle.lerc_header.proofs.Kept.{held-is, held-size}
use Rattle.lerc_image.specs.Blocks.{all_blocks}
use Rattle.lerc_image.specs.Walk.{Walk, walk_of}
use Rattle.lerc_image.specs.Own.{mask_by, own_mask, own_tiles}
use Rattle.lerc_image.proofs.Held.{held-asked, held-inside}
use Rattle.lerc_image.proofs.own.check_own_tiles.Goals as goal
use Rattle.lerc_image.proofs.own.check_own_tiles.Goals.{In_ok-e}

module _ (b : List ℕ) (h : Header) (maxima : List ℕ) (at : ℕ) {e : Extent} (p : held h (length b) ≡ ok e) where
  -- over the extent that the code has
  judged : {said : Res Walk}
      → said ≡ walk_of h (all_blocks (take e.size b) h maxima (mask_by (eqb h.valid e.pixels) e.mask (take (e.ranges - header_bytes) (drop header_bytes (take e.size b)))) at)
      → said ≡ walk_of h (own_tiles b h maxima at)
  unfolding own_tiles own_mask
  judged q =
      let z : header_bytes + h.mask - header_bytes ≡ h.mask = omega arith in
      rw (p) (rw (held-is h (length b) p, z) at q)

module _ (b : List ℕ) (h : Header) {e : Extent} (p : held h (length b) ≡ ok e) where
  -- the section lies behind the header, and within the blob
  section : (header_bytes ≤ e.ranges) × (e.ranges ≤ length (take e.size b))
  section =
      let size = held-size h (length b) p in
      rw (held-is h (length b) p) (omega arith, simp length-take (omega (arith, size.0, size.1)))

kept : (c : In_ok-e) →
    let a = c.args in
    held a.h (length a.blob.now) ≡ ok c.in_ok-e.e
kept c = sym c.in_ok-e.ensures

pub returns-in_err-e : goal.returns-in_err-e
unfolding own_tiles
returns-in_err-e c =
    rw (exits c.from_residual.result c.from_residual.ensures.1, sym c.in_err-e.ensures)

pub slice_bounds-s-end : goal.slice_bounds-s-end
slice_bounds-s-end c =
    let l = held-inside c.args.blob.now _ (kept c) in
    simp length-take (omega (arith, l))

-- where the section begins and ends
bounds : (c : In_ok-e) →
    let e = c.in_ok-e.e in
    (header_bytes ≤ e.ranges) × (e.ranges ≤ length (take e.size c.args.blob.now))
bounds c = section _ _ (kept c)

pub slice_bounds-check_own-count : goal.slice_bounds-check_own-count
slice_bounds-check_own-count c = (bounds (goal.at.slice_bounds-check_own-count c).In_ok-e).0

pub slice_bounds-check_own-start : goal.slice_bounds-check_own-start
slice_bounds-check_own-start c = (bounds (goal.at.slice_bounds-check_own-start c).In_ok-e).0

pub slice_bounds-check_own-end : goal.slice_bounds-check_own-end
slice_bounds-check_own-end c = (bounds (goal.at.slice_bounds-check_own-end c).In_ok-e).1

pub check_own-requires : goal.check_own-requires
check_own-requires c =
    let k = (goal.at.check_own-requires c).In_ok-e in
    held-asked c.args.blob.now _ (kept k)

pub returns : goal.returns
returns c = judged _ _ _ _ (kept (goal.at.returns c).In_ok-e) c.check_own.ensures
