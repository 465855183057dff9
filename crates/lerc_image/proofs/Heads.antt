-- The starts that the heads alone tell: those of an accepted chain.
-- Assumes nothing.
use mathlib.Core.Path.{◌≡◌, ◌∙◌, sym, ap, refl}
use mathlib.Core.List.{List, [], ◌∷◌}
use Prim.Native.Nat.{ℕ, zero, suc}
use Rattle.lerc_words.specs.declared.Refusal.{Refusal}
use Rattle.lerc_words.specs.Res.{ok, fail, after}
use Rattle.lerc_words.proofs.Binding.{ok-is}
use Rattle.lerc_words.proofs.Marking.{marked-is}
use Rattle.lerc_header.specs.declared.Header.{Header}
use Rattle.lerc_block.specs.Block.{Block}
use Rattle.lerc_block.proofs.Leads.{plan-ends}
use Rattle.lerc_image.specs.Blocks.{block_at, Chain, chain}
use Rattle.lerc_image.specs.Tiles.{block_end, head_starts}
use Rattle.lerc_image.proofs.Chain.{chain-none, chain-parts}

module _ (s : List ℕ) (h : Header) (m : List ℕ) where
  pub heads-none : (n at : ℕ) → head_starts s h m zero n at ≡ []
  unfolding head_starts
  heads-none n at = refl

  pub heads-first : (f n at : ℕ) → head_starts s h m (suc f) n at ≡ at ∷ after (block_end s h m n at) [] (λ to. head_starts s h m f (suc n) to)
  unfolding head_starts
  heads-first f n at = refl

  pub heads-more : (f n at : ℕ) {to : ℕ} → block_end s h m n at ≡ ok to → head_starts s h m (suc f) n at ≡ at ∷ head_starts s h m f (suc n) to
  unfolding head_starts
  heads-more f n at e = rw (e)

  pub heads-last : (f n at : ℕ) {why : Refusal} → block_end s h m n at ≡ fail why → head_starts s h m (suc f) n at ≡ at ∷ []
  unfolding head_starts
  heads-last f n at e = rw (e)

  -- an accepted block ends where its plan does
  pub block-ends : (maxima : List ℕ) (n at : ℕ) {b : Block} → block_at s h maxima m n at ≡ ok b → block_end s h m n at ≡ ok b.next
  unfolding block_at
  block-ends maxima n at e = plan-ends s at h.kind h.error _ _ _ (marked-is at _ e)

  pub heads-are : (maxima : List ℕ) (f n at : ℕ) (c : Chain) → chain s h maxima m f n at ≡ ok c → head_starts s h m f n at ≡ c.starts
  heads-are maxima zero n at c e = heads-none n at ∙ ap (λ (x : Chain). x.starts) (ok-is (sym (chain-none s h maxima m n at) ∙ e))
  heads-are maxima (suc f) n at c e =
      let p = chain-parts s h maxima m f n at c e in
      heads-more f n at (block-ends maxima n at p.first-is)
      ∙ ap (λ (x : List ℕ). at ∷ x) (heads-are maxima f (suc n) p.block.next p.others p.others-are)
      ∙ sym (ap (λ (x : Chain). x.starts) p.whole)
