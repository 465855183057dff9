-- What a header that is held gives, and what the tests for room leave.
-- Assumes nothing.
use mathlib.Core.Path.{◌≡◌, ap, refl}
use mathlib.Core.Bool.{Bool, true, ◌&&◌}
use mathlib.Core.List.{List}
use Prim.Native.Nat.{ℕ, ◌≤◌, min}
use native.Mathlib.Omega.{arith}
use lib.ListN.{length}
use lib.Dec.{leb}
use borrow.Author.Tests.{leb-true}
use Rattle.lerc_words.specs.declared.Refusal.{Refusal}
use Rattle.lerc_words.specs.Res.{Res, ok, fail, require}
use Rattle.lerc_words.proofs.Binding.{and_is}
use Rattle.lerc_header.specs.declared.Header.{Header}
use Rattle.lerc_header.specs.declared.Extent.{Extent}
use Rattle.lerc_header.specs.Limits.{depth_limit}
use Rattle.lerc_header.specs.Header.{held}
use Rattle.lerc_header.proofs.Kept.{held-is, held-shaped, held-size}
use Rattle.lerc_ranges.specs.declared.Ranges.{Ranges}
use Rattle.lerc_ranges.specs.Ranges.{pairs_right, pairs_says, pairs_said}
use Rattle.lerc_image.specs.Parts.{BodyAsked, has_room}

module _ (b : List ℕ) (h : Header) {e : Extent} (p : held h (length b) ≡ ok e) where
  pub held-asked : BodyAsked h e
  held-asked = let is = held-is h (length b) p in record { shaped = rw (is) (held-shaped h (length b) p); sizes = is }

  pub held-inside : e.size ≤ length b
  held-inside = rw (held-is h (length b) p) (held-size h (length b) p).1

  -- every depth has its pair
  pub pairs-are : (ranges : Ranges) → pairs_says h.depth ranges ≡ require (pairs_right h.depth ranges) 7
  unfolding pairs_says
  pairs-are ranges =
      let z : min h.depth depth_limit ≡ h.depth = omega (arith, (held-shaped h (length b) p).depth.1) in
      rw (z)

-- ---- room

-- mask and list are long enough
pub record Listable (b : List ℕ) (h : Header) (m list : List ℕ) (e : Extent) : Type 0 where
  pub kept : held h (length b) ≡ ok e
  pub room : (leb e.mask (length m) && leb e.blocks (length list)) ≡ true

module _ {b : List ℕ} {h : Header} {m list : List ℕ} {e : Extent} (p : Listable b h m list e) where
  pub listable-asked : BodyAsked h e
  listable-asked = held-asked b h p.kept

  pub listable-size : e.size ≤ length b
  listable-size = held-inside b h p.kept

  pub listable-room : e.blocks ≤ length list
  listable-room = leb-true _ _ (and_is (leb e.mask (length m)) (leb e.blocks (length list)) p.room).1

-- and the image
pub record Fillable (b : List ℕ) (h : Header) (m list image : List ℕ) (e : Extent) : Type 0 where
  pub kept : held h (length b) ≡ ok e
  pub room : has_room e (length m) (length list) (length image) ≡ true

module _ {b : List ℕ} {h : Header} {m list image : List ℕ} {e : Extent} (p : Fillable b h m list image e) where
  both : (leb e.mask (length m) && leb e.blocks (length list) ≡ true) × (leb e.cells (length image) ≡ true)
  both = and_is _ _ p.room

  pub fillable-listable : Listable b h m list e
  fillable-listable = record { kept = p.kept; room = both.0 }

  pub fillable-room : e.cells ≤ length image
  fillable-room = leb-true _ _ both.1

-- ---- what an answer of `pairs` says

pub pairs-no : (m : Res Bool) {why : Refusal} → fail why ≡ pairs_said m → m ≡ fail why
pairs-no (ok t) e = absurd (let z : ◌≡◌ {A = ℕ} 0 1 = cc in omega arith)
pairs-no (fail w) {why} e = let z : w ≡ why = cc in ap fail z

pub pairs-ok : (m : Res Bool) → ok tt ≡ pairs_said m → (t : Bool) × (m ≡ ok t)
pairs-ok (ok t) e = (t, refl)
pairs-ok (fail w) e = absurd (let z : ◌≡◌ {A = ℕ} 0 1 = cc in omega arith)
