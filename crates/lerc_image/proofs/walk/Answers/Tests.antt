-- The tests of `walk`: what each refuses, and what they leave.
-- Assumes nothing.
use mathlib.Core.Path.{◌≡◌, ◌∙◌, sym}
use mathlib.Core.Bool.{Bool, true, false, not, ◌&&◌}
use mathlib.Core.List.{List}
use Prim.Native.Nat.{ℕ}
use lib.ListN.{length, take}
use lib.Dec.{leb, ltb}
use Rattle.lerc_words.specs.declared.Refusal.{Refusal}
use Rattle.lerc_words.specs.Res.{Res, ok, fail, refuse}
use Rattle.lerc_header.specs.declared.Header.{Header}
use Rattle.lerc_header.specs.declared.Extent.{Extent}
use Rattle.lerc_header.specs.Header.{held}
use Rattle.lerc_header.proofs.Kept.{held-is}
use Rattle.lerc_ranges.specs.declared.Ranges.{Ranges}
use Rattle.lerc_ranges.specs.Ranges.{pairs_says}
use Rattle.lerc_image.specs.Walk.{Walk, body_walked, walk_says, walk_list, BlocksWalked}
use Rattle.lerc_image.specs.Parts.{BodyListed}
use Rattle.lerc_image.proofs.Held.{pairs-are, Listable}

module _ {b : List ℕ} {h : Header} {ranges : Ranges} {m list : List ℕ} where
  -- a refusal leaves the list
  refused : {why : Refusal} → walk_says b h ranges m (length list) ≡ fail why → BlocksWalked b h ranges m (fail why) list list
  unfolding walk_list
  refused e = record { says = rw (e); list = rw (e) }

  pub unheld : {why : Refusal} → held h (length b) ≡ fail why → BlocksWalked b h ranges m (fail why) list list
  unfolding walk_says
  unheld e = refused (rw (e))

  pub no_room : {e : Extent} → held h (length b) ≡ ok e → (leb e.mask (length m) && leb e.blocks (length list)) ≡ false → BlocksWalked b h ranges m (fail (refuse 5)) list list
  unfolding walk_says
  no_room p r = refused (rw (p, r))

module _ {b : List ℕ} {h : Header} {m list : List ℕ} {e : Extent} (p : Listable b h m list e) where
  pub no_pairs : (ranges : Ranges) {why : Refusal} → pairs_says h.depth ranges ≡ fail why → BlocksWalked b h ranges m (fail why) list list
  unfolding walk_says
  no_pairs ranges q = refused (rw (p.kept, p.room, sym (pairs-are b h p.kept ranges) ∙ q))

  module _ (ranges : Ranges) {t : Bool} (q : pairs_says h.depth ranges ≡ ok t) where
    pub no_body : (ltb 0 h.valid && not ranges.constant) ≡ false → BlocksWalked b h ranges m (fail (refuse 10)) list list
    unfolding walk_says
    no_body c = refused (rw (p.kept, p.room, sym (pairs-are b h p.kept ranges) ∙ q, c))

    pub walked-body : {r : Res Walk} {new : List ℕ} → (ltb 0 h.valid && not ranges.constant) ≡ true
        → BodyListed h (body_walked (take e.size b) h ranges.max m ranges.at) r list new → BlocksWalked b h ranges m r list new
    unfolding walk_list walk_says
    walked-body c l =
        let v = rw (held-is h (length b) p.kept) at l in
        let z = sym (pairs-are b h p.kept ranges) ∙ q in
        record { says = rw (p.kept, p.room, z, c) v.says; list = rw (p.kept, p.room, z, c) v.list }
