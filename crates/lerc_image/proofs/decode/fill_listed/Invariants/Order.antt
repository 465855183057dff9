-- Blocks in order: those below a number, where they are accepted.
-- Assumes nothing.
use mathlib.Core.Path.{◌≡◌, ◌∙◌, sym, ap, refl}
use mathlib.Core.Bool.{Bool, true, false, ◌&&◌, ◌||◌, and-false}
use mathlib.Core.List.{List}
use Prim.Native.Nat.{ℕ, ◌+◌, ◌<◌}
use native.Mathlib.Decide.{dec_lt}
use native.Mathlib.Omega.{arith}
use lib.Dec.{ltb, eqb}
use borrow.Author.Tests.{lt-ltb, le-ltb, eq-eqb, ne_eqb}
use Rattle.lerc_header.specs.declared.Shape.{Shape}
use Rattle.lerc_header.specs.Shape.{block_count, Shaped}
use Rattle.lerc_image.specs.Geometry.{block_of, is_valid_cell}
use Rattle.lerc_image.specs.Paint.{painted, in_block, scattered, word_of, filled_block}
use Rattle.lerc_image.proofs.Partition.{block-lt}
use Rattle.lerc_image.proofs.Painting.{painted-none, painted_same, painted-twice}
use Rattle.lerc_image.proofs.Upto.{valid-below}
use Rattle.lerc_image.proofs.Fills.{filled_is}

-- the valid cells of the accepted blocks below n
abbrev pub is_below : Shape → List ℕ → (ℕ → Bool) → ℕ → ℕ → Bool
is_below h m right n c = is_valid_cell h m c && (ltb (block_of h c) n && right (block_of h c))

abbrev pub filled_below : Shape → List ℕ → (ℕ → List ℕ) → (ℕ → Bool) → ℕ → List ℕ → List ℕ
filled_below h m words right n image = painted image (is_below h m right n) (word_of h m words)

-- block n and those below it, where the test of block n is known
module _ (v : Bool) (b n : ℕ) {r : Bool} where
  one_more : (b ≡ n → r ≡ true) → ((v && eqb b n) || (v && (ltb b n && r))) ≡ (v && (ltb b (n + 1) && r))
  one_more f = go v (dec_lt b n) (dec_lt n b)
    where
      go : (v : Bool) → Dec (b < n) → Dec (n < b) → ((v && eqb b n) || (v && (ltb b n && r))) ≡ (v && (ltb b (n + 1) && r))
      go false p q = refl
      go true (yes p) q = rw (lt-ltb b n p, ne_eqb b n (λ e. let z : b ≡ n = e in absurd (omega arith)), lt-ltb b (n + 1) (omega arith))
      go true (no p) (yes q) = rw (le-ltb b n (omega arith), ne_eqb b n (λ e. let z : b ≡ n = e in absurd (omega arith)), le-ltb b (n + 1) (omega arith))
      go true (no p) (no q) = let z : b ≡ n = omega arith in rw (eq-eqb b n z, lt-ltb b (n + 1) (omega arith), f z)

  none_more : (b ≡ n → r ≡ false) → (v && (ltb b n && r)) ≡ (v && (ltb b (n + 1) && r))
  none_more f = go (dec_lt b n) (dec_lt n b)
    where
      go : Dec (b < n) → Dec (n < b) → (v && (ltb b n && r)) ≡ (v && (ltb b (n + 1) && r))
      go (yes p) q = rw (lt-ltb b n p, lt-ltb b (n + 1) (omega arith))
      go (no p) (yes q) = rw (le-ltb b n (omega arith), le-ltb b (n + 1) (omega arith))
      go (no p) (no q) = let z : b ≡ n = omega arith in rw (le-ltb b n (omega arith), lt-ltb b (n + 1) (omega arith), f z)

module _ (h : Shape) (s : Shaped h) (m : List ℕ) (words : ℕ → List ℕ) (right : ℕ → Bool) (start : List ℕ) where
  pub below_none : start ≡ filled_below h m words right 0 start
  below_none = painted-none start _ _ (λ c l. rw (le-ltb (block_of h c) 0 (omega arith)) (and-false (is_valid_cell h m c)))

  -- block n is accepted
  pub below_more : (n : ℕ) → n < block_count h → right n ≡ true
      → scattered h m n (words n) (filled_below h m words right n start) ≡ filled_below h m words right (n + 1) start
  unfolding in_block
  below_more n l t =
      let image = filled_below h m words right n start in
      let e : filled_block h m words n image ≡ scattered h m n (words n) image = rw (lt-ltb _ _ l) in
      sym e ∙ filled_is h s m words n image ∙ painted-twice start (word_of h m words) _ (in_block h m n)
      ∙ painted_same start _ _ _ (λ c q. one_more (is_valid_cell h m c) (block_of h c) n (λ z. ap right z ∙ t))

  -- it is refused
  pub below-skip : (n : ℕ) → right n ≡ false → filled_below h m words right n start ≡ filled_below h m words right (n + 1) start
  below-skip n t = painted_same start _ _ _ (λ c q. none_more (is_valid_cell h m c) (block_of h c) n (λ z. ap right z ∙ t))

  pub below_all : filled_below h m words right (block_count h) start ≡ painted start (λ c. is_valid_cell h m c && right (block_of h c)) (word_of h m words)
  below_all = painted_same start _ _ _ (λ c l. go c (is_valid_cell h m c) refl)
    where
      go : (c : ℕ) (b : Bool) → is_valid_cell h m c ≡ b → (b && (ltb (block_of h c) (block_count h) && right (block_of h c))) ≡ (b && right (block_of h c))
      go c true e = rw (lt-ltb _ _ (block-lt h s c (valid-below h m c e)))
      go c false e = refl
