-- A blob as a tile: what `is_tile` says of a header that was read, and the tests it comes to.
-- Assumes nothing.
use Prim.Native.Nat.{ℕ, ◌≤◌}
use mathlib.Core.Path.{◌≡◌, ◌∙◌, sym, ap, refl}
use mathlib.Core.Bool.{Bool, true, false, ◌&&◌, and-true, and-false}
use mathlib.Core.List.{List}
use native.Mathlib.Omega.{arith}
use lib.ListN.{length}
use lib.Dec.{leb, eqb}
use borrow.Author.Tests.{le-leb, eqb-true}
use Rattle.lerc_words.specs.declared.Refusal.{Refusal}
use Rattle.lerc_words.specs.Res.{ok, fail, ◌>>=◌, require, accepts}
use Rattle.lerc_words.proofs.Binding.{and_is}
use Rattle.lerc_header.specs.declared.Header.{Header}
use Rattle.lerc_header.specs.declared.Extent.{Extent}
use Rattle.lerc_header.specs.Header.{header_bytes, extent_of, key_right, fields_right, within_ceilings, held, header_of, checksum_right, header_says, is_tile}
use Rattle.lerc_header.proofs.Kept.{header-held}

-- all tests hold or one does not, whatever the order
judged : (e : Extent) (h : Header) (t k w f c : Bool)
    → accepts (require t 1 >>= λ _. require k 2 >>= λ _. (require f 3 >>= λ _. require w 4 >>= λ _. require true 1 >>= λ _. ok e) >>= λ _. require c 13 >>= λ _. ok h)
    ≡ (t && true && k && w && f && c)
judged e h false k w f c = refl
judged e h true false w f c = refl
judged e h true true false false c = refl
judged e h true true false true c = refl
judged e h true true true false c = refl
judged e h true true true true false = refl
judged e h true true true true true = refl

refused : (t k w f c : Bool) → (t && false && k && w && f && c) ≡ false
refused true k w f c = refl
refused false k w f c = refl

apart : (a k d l : Bool) → (a && k && d && l) ≡ (a && (k && d && l))
apart true k d l = refl
apart false k d l = refl

module _ (b : List ℕ) (kind depth : ℕ) where
  -- a header that was read
  pub tile-read : {h : Header} → header_says b ≡ ok h → is_tile b kind depth ≡ (eqb kind h.kind && eqb depth h.depth && eqb (length b) h.size)
  unfolding is_tile
  tile-read {h} e = rw (e, (header-held b h e).0)

  -- and one that was refused
  pub tile-refused : {r : Refusal} → header_says b ≡ fail r → is_tile b kind depth ≡ false
  unfolding is_tile
  tile-refused e = rw (e)

  -- the tests of the code, in their order
  module _ (h : Header) (is : h ≡ header_of b) where
    accepted : length b ≡ h.size → accepts (header_says b) ≡ (leb header_bytes (length b) && true && key_right b && within_ceilings h && fields_right h && checksum_right b (length b))
    unfolding header_says held
    accepted e =
        let l : h.size ≤ length b = omega arith in
        rw (← is, le-leb h.size (length b) l, ← ap (checksum_right b) e) (judged (extent_of h) h (leb header_bytes (length b)) (key_right b) (within_ceilings h) (fields_right h) (checksum_right b (length b)))

    -- by what each test gives
    pub tile-judged : {t s k w f : Bool} → leb header_bytes (length b) ≡ t → (eqb kind h.kind && eqb depth h.depth && eqb (length b) h.size) ≡ s
        → key_right b ≡ k → within_ceilings h ≡ w → fields_right h ≡ f → is_tile b kind depth ≡ (t && s && k && w && f && checksum_right b (length b))
    unfolding is_tile
    tile-judged {t} {s} {k} {w} {f} te se ke we fe =
        rw (← is, ← te, ← ke, ← we, ← fe) (apart (accepts (header_says b)) (eqb kind h.kind) (eqb depth h.depth) (eqb (length b) h.size)
        ∙ ap (λ (x : Bool). accepts (header_says b) && x) se ∙ go s se)
      where
        go : (s : Bool) → (eqb kind h.kind && eqb depth h.depth && eqb (length b) h.size) ≡ s
            → (accepts (header_says b) && s) ≡ (leb header_bytes (length b) && s && key_right b && within_ceilings h && fields_right h && checksum_right b (length b))
        go true e = and-true (accepts (header_says b)) ∙ accepted (eqb-true (length b) h.size (and_is (eqb kind h.kind && eqb depth h.depth) (eqb (length b) h.size) e).1)
        go false e = and-false (accepts (header_says b)) ∙ sym (refused (leb header_bytes (length b)) (key_right b) (within_ceilings h) (fields_right h) (checksum_right b (length b)))
