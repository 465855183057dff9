-- The tests of `fill`: what each refuses, and what they leave.
-- Assumes nothing.
use mathlib.Core.Path.{◌≡◌, ◌∙◌, sym}
use mathlib.Core.Bool.{Bool, false}
use mathlib.Core.List.{List}
use Prim.Native.Nat.{ℕ, ◌≤◌, ◌<◌}
use lib.ListN.{length, get_or, take}
use borrow.Author.Tests.{lt-ltb, le-ltb}
use Rattle.lerc_words.specs.declared.Refusal.{Refusal}
use Rattle.lerc_words.specs.Res.{Res, ok, fail, refuse}
use Rattle.lerc_header.specs.declared.Header.{Header}
use Rattle.lerc_header.specs.declared.Extent.{Extent}
use Rattle.lerc_header.specs.Header.{held}
use Rattle.lerc_header.proofs.Kept.{held-is}
use Rattle.lerc_ranges.specs.declared.Ranges.{Ranges}
use Rattle.lerc_ranges.specs.Ranges.{pairs_says}
use Rattle.lerc_image.specs.Blocks.{block_at}
use Rattle.lerc_image.specs.Fill.{Filled, fill_says, fill_image}
use Rattle.lerc_image.specs.Parts.{FillAsked, BlockFilled, has_room}
use Rattle.lerc_image.proofs.Held.{pairs-are, Fillable, fillable-listable, fillable-room, listable-asked, listable-size, listable-room}

module _ {b : List ℕ} {h : Header} {ranges : Ranges} {m list : List ℕ} {n : ℕ} {image : List ℕ} where
  -- a refusal leaves the image
  refused : {why : Refusal} → fill_says b h ranges m list n (length image) ≡ fail why → Filled b h ranges m list n (fail why) image image
  unfolding fill_image
  refused e = record { says = rw (e); image = rw (e) }

  pub unheld : {why : Refusal} → held h (length b) ≡ fail why → Filled b h ranges m list n (fail why) image image
  unfolding fill_says
  unheld e = refused (rw (e))

  module _ {e : Extent} (p : held h (length b) ≡ ok e) where
    pub no_block : e.blocks ≤ n → Filled b h ranges m list n (fail (refuse 11)) image image
    unfolding fill_says
    no_block l = refused (rw (p, le-ltb _ _ l))

    pub no_room : n < e.blocks → has_room e (length m) (length list) (length image) ≡ false
        → Filled b h ranges m list n (fail (refuse 5)) image image
    unfolding fill_says
    no_room l r = refused (rw (p, lt-ltb _ _ l, r))

-- the header is held, the number is a block's, and there is room
pub record Passed (b : List ℕ) (h : Header) (m list : List ℕ) (n : ℕ) (image : List ℕ) (e : Extent) : Type 0 where
  pub ready : Fillable b h m list image e
  pub below : n < e.blocks

module _ {b : List ℕ} {h : Header} {m list : List ℕ} {n : ℕ} {image : List ℕ} {e : Extent} (p : Passed b h m list n image e) where
  pub passed-asked : FillAsked h e n b list image
  passed-asked =
      let l = fillable-listable p.ready in
      record { body = listable-asked l; size = listable-size l; below = p.below; listed = listable-room l; room = fillable-room p.ready }

  pub no_pairs : (ranges : Ranges) {why : Refusal} → pairs_says h.depth ranges ≡ fail why → Filled b h ranges m list n (fail why) image image
  unfolding fill_says
  no_pairs ranges q = refused (rw (p.ready.kept, lt-ltb _ _ p.below, p.ready.room, sym (pairs-are b h p.ready.kept ranges) ∙ q))

  passed-block : (ranges : Ranges) {t : Bool} → pairs_says h.depth ranges ≡ ok t
      → fill_says b h ranges m list n (length image) ≡ block_at (take h.size b) h ranges.max m n (get_or list n 0)
  unfolding fill_says
  passed-block ranges q = rw (p.ready.kept, lt-ltb _ _ p.below, p.ready.room, sym (pairs-are b h p.ready.kept ranges) ∙ q)

  pub filled-block : (ranges : Ranges) {u : Bool} {r : Res ℕ} {result : List ℕ} → pairs_says h.depth ranges ≡ ok u
      → BlockFilled e.shape m n (block_at (take e.size b) h ranges.max m n (get_or list n 0)) r image result → Filled b h ranges m list n r image result
  unfolding fill_image
  filled-block ranges q w =
      let v = rw (held-is h (length b) p.ready.kept) at w in
      record { says = rw (passed-block ranges q) v.says; image = rw (passed-block ranges q) v.image }
