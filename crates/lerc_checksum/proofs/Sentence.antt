-- The rule against the sentence: the same exactly where the sums before the last fold are none of four.
-- Assumes nothing.
use mathlib.Core.Path.{◌≡◌, ◌∙◌, ap, refl}
use mathlib.Core.Logic.{◌≢◌, ◌⊎◌, inl, inr, ⊎_elim}
use mathlib.Core.Bool.{Bool, true, false, not, ◌||◌}
use mathlib.Core.List.{List}
use Prim.Native.Nat.{ℕ, ◌+◌, ◌*◌, ◌/◌, ◌%◌, ◌^◌, ◌≤◌, ◌<◌}
use native.Mathlib.Omega.{arith}
use native.Mathlib.Decide.{dec_lt}
use borrow.Author.Tests.{eqb-true, eqb-false, eq-eqb, ne_eqb}
use lib.ListN.{length}
use lib.Dec.{eqb}
use lib.Bits.{or_mod, or_shr, or_zero_r, or_add_and, and_le_l}
use Rattle.lerc_words.proofs.Binding.{cond-elim}
use Rattle.lerc_checksum.specs.declared.Sums.{Sums}
use Rattle.lerc_checksum.specs.Checksum.{word_count, word_sum, running_sum, half, by_the_words, fold, folded, last_sums, joined, checksum, exceptional}
use Rattle.lerc_checksum.specs.Parts.{Small}
use Rattle.lerc_checksum.specs.Laws.{Bytes}
use Rattle.lerc_checksum.proofs.Bounds.{Last, last-le, last-small}
use Rattle.lerc_checksum.proofs.Congruence.{Modulo, last-modulo, fold-some}

-- ---- a half

-- a half is one of 1, .., 65,535 with the same remainder
pub half_is : (a : ℕ) → (0 < half a) × (half a ≤ 65535) × (half a % 65535 ≡ a % 65535)
unfolding half
half_is a =
    cond-elim (λ h. (0 < h) × (h ≤ 65535) × (h % 65535 ≡ a % 65535)) (eqb (a % 65535) 0)
    (λ e. let z : a % 65535 ≡ 0 = eqb-true _ _ e in (omega arith, omega arith, omega arith))
    (λ e. let z : a % 65535 ≢ 0 = eqb-false _ _ e in (omega arith, omega arith, omega arith))

-- numbers with the same remainder have the same half
pub half-same : (a b : ℕ) → a % 65535 ≡ b % 65535 → half a ≡ half b
half-same a b e =
    let (p, q, r) = half_is a in
    let (u, v, w) = half_is b in
    omega arith

-- a fold that fits 16 bits is the half
fold-right : (x a : ℕ) → 0 < x → x ≤ 261692 → x % 65535 ≡ a % 65535 → fold x ≤ 65535 → fold x ≡ half a
unfolding fold
fold-right x a p l e f = let (u, v, w) = half_is a in omega arith

-- one that does not is the fold of one of three
fold_over : (x : ℕ) → x ≤ 261692 → 65535 < fold x → (x ≡ 131071) ⊎ ((x ≡ 196606) ⊎ (x ≡ 196607))
unfolding fold
fold_over x l f = go (dec_lt x 131072) (dec_lt x 196607)
  where
    go : Dec (x < 131072) → Dec (x < 196607) → (x ≡ 131071) ⊎ ((x ≡ 196606) ⊎ (x ≡ 196607))
    go (yes p) d = inl (omega arith)
    go (no p) (yes q) = inr (inl (omega arith))
    go (no p) (no q) = inr (inr (omega arith))

-- and is off by one in its 16 bits
fold-wrong : (x a : ℕ) → x ≤ 261692 → x % 65535 ≡ a % 65535 → 65535 < fold x → fold x % 65536 + 1 ≡ half a
unfolding fold
fold-wrong x a l e f =
    let (u, v, w) = half_is a in
    ⊎_elim (λ z. rw (z) (omega arith)) (⊎_elim (λ z. rw (z) (omega arith)) (λ z. rw (z) (omega arith))) (fold_over x l f)

-- ---- joined sums

-- the low half is the first sum's 16 bits
pub joined-low : (t : Sums) → joined t % 65536 ≡ t.first % 65536
unfolding joined
joined-low t =
    let z : t.second * 65536 % 2 ^ 32 % 2 ^ 16 ≡ 0 = omega arith in
    or_mod (t.second * 65536 % 2 ^ 32) t.first 16 ∙ rw (z)

-- the high half is the second sum's, where the first has no more
joined-high : (t : Sums) → t.first ≤ 65535 → joined t / 65536 ≡ t.second % 65536
unfolding joined
joined-high t l =
    let z : t.first / 2 ^ 16 ≡ 0 = omega arith in
    let y : t.second * 65536 % 2 ^ 32 / 2 ^ 16 ≡ t.second % 65536 = omega arith in
    or_shr (t.second * 65536 % 2 ^ 32) t.first 16 ∙ rw (z, y) (or_zero_r (t.second % 65536))

-- no bit of the first sum is lost
joined-ge : (t : Sums) → t.first ≤ joined t
unfolding joined
joined-ge t =
    let a : ℕ = t.second * 65536 % 2 ^ 32 in
    omega (arith, or_add_and a t.first, and_le_l a t.first)

-- ---- the four

-- one of two tests holds
either : (a b : Bool) → (a || b) ≡ true → (a ≡ true) ⊎ (b ≡ true)
either true b e = inl refl
either false b e = inr e

-- none of two tests holds
neither : (a b : Bool) → (a || b) ≡ false → (a ≡ false) × (b ≡ false)
neither true b e = absurd (let z : ◌≡◌ {A = ℕ} 0 1 = cc in omega arith)
neither false b e = (refl, e)

-- none of the four: both folds fit 16 bits
four-not : (a b : ℕ) → a ≤ 131175 → b ≤ 261692 → (eqb a 131071 || eqb b 131071 || eqb b 196606 || eqb b 196607) ≡ false → (fold a ≤ 65535) × (fold b ≤ 65535)
unfolding fold
four-not a b l m e =
    let (e, p) = neither (eqb a 131071 || eqb b 131071 || eqb b 196606) _ e in
    let (e, q) = neither (eqb a 131071 || eqb b 131071) _ e in
    let (e, r) = neither (eqb a 131071) _ e in
    (first (eqb-false a 131071 e), second (eqb-false b 131071 r) (eqb-false b 196606 q) (eqb-false b 196607 p))
  where
    first : a ≢ 131071 → fold a ≤ 65535
    first h = omega arith

    second : b ≢ 131071 → b ≢ 196606 → b ≢ 196607 → fold b ≤ 65535
    second h i j = omega arith

-- one of the four: one of the folds does not
four_is : (a b : ℕ) → (eqb a 131071 || eqb b 131071 || eqb b 196606 || eqb b 196607) ≡ true → (65535 < fold a) ⊎ (65535 < fold b)
unfolding fold
four_is a b e = ⊎_elim three (second 196607 (omega arith)) (either (eqb a 131071 || eqb b 131071 || eqb b 196606) _ e)
  where
    second : (x : ℕ) → 65535 < fold x → eqb b x ≡ true → (65535 < fold a) ⊎ (65535 < fold b)
    second x h e = let z : b ≡ x = eqb-true b x e in inr (rw (z) h)

    one : eqb a 131071 ≡ true → (65535 < fold a) ⊎ (65535 < fold b)
    one e = let z : a ≡ 131071 = eqb-true a 131071 e in inl (omega arith)

    two : (eqb a 131071 || eqb b 131071) ≡ true → (65535 < fold a) ⊎ (65535 < fold b)
    two e = ⊎_elim one (second 131071 (omega arith)) (either (eqb a 131071) _ e)

    three : (eqb a 131071 || eqb b 131071 || eqb b 196606) ≡ true → (65535 < fold a) ⊎ (65535 < fold b)
    three e = ⊎_elim two (second 196606 (omega arith)) (either (eqb a 131071 || eqb b 131071) _ e)

-- ---- the laws

-- the checksum's low half
pub checksum-low : (s : List ℕ) → checksum s % 65536 ≡ fold (last_sums s).first % 65536
unfolding checksum
checksum-low s = joined-low (folded (last_sums s))

-- the sentence's low half
pub words-low : (s : List ℕ) → by_the_words s % 65536 ≡ half (word_sum s (word_count s))
unfolding by_the_words
words-low s = let (p, q, r) = half_is (word_sum s (word_count s)) in omega arith

-- and the high one
pub words-high : (s : List ℕ) → by_the_words s / 65536 ≡ half (running_sum s (word_count s))
unfolding by_the_words
words-high s = let (p, q, r) = half_is (word_sum s (word_count s)) in omega arith

module _ (s : List ℕ) (b : Bytes s) where
  -- where both folds fit 16 bits
  fits : fold (last_sums s).first ≤ 65535 → fold (last_sums s).second ≤ 65535 → checksum s ≡ by_the_words s
  unfolding checksum by_the_words
  fits l m =
      let t : Sums = last_sums s in
      let h : Last t = last-le s b in
      let g : Modulo t (word_sum s (word_count s)) (running_sum s (word_count s)) = last-modulo s in
      let p : fold t.first ≡ half (word_sum s (word_count s)) = fold-right _ _ g.some_first (omega arith) g.first l in
      let q : fold t.second ≡ half (running_sum s (word_count s)) = fold-right _ _ g.some-second (omega arith) g.second m in
      omega (arith, joined-low (folded t), joined-high (folded t) l)

  -- where the first does not, the low halves differ
  first-not : 65535 < fold (last_sums s).first → checksum s ≢ by_the_words s
  first-not l e =
      let t : Sums = last_sums s in
      let h : Last t = last-le s b in
      let p : fold t.first % 65536 + 1 ≡ half (word_sum s (word_count s)) = fold-wrong _ _ (omega arith) (last-modulo s).first l in
      omega (arith, checksum-low s, words-low s, ap (λ (x : ℕ). x % 65536) e)

  -- where only the second does not, the high halves differ
  second-not : fold (last_sums s).first ≤ 65535 → 65535 < fold (last_sums s).second → checksum s ≢ by_the_words s
  unfolding checksum
  second-not l m e =
      let t : Sums = last_sums s in
      let h : Last t = last-le s b in
      let p : fold t.second % 65536 + 1 ≡ half (running_sum s (word_count s)) = fold-wrong _ _ (omega arith) (last-modulo s).second m in
      omega (arith, joined-high (folded t) l, words-high s, ap (λ (x : ℕ). x / 65536) e)

  -- the rule is the sentence exactly where the sums before the last fold are none of four
  pub exactly : eqb (checksum s) (by_the_words s) ≡ not (exceptional s)
  unfolding exceptional
  exactly = go (exceptional s) refl
    where
      h : Last (last_sums s)
      h = last-le s b

      first : Dec (65535 < fold (last_sums s).first) → 65535 < fold (last_sums s).second → checksum s ≢ by_the_words s
      first (yes l) m = first-not l
      first (no l) m = second-not (omega arith) m

      go : (x : Bool) → exceptional s ≡ x → eqb (checksum s) (by_the_words s) ≡ not x
      go false e = let (l, m) = four-not _ _ h.first h.second e in eq-eqb _ _ (fits l m)
      go true e = ne_eqb _ _ (⊎_elim first-not (first (dec_lt _ _)) (four_is _ _ e))

  -- so it is where they are none of them
  pub exact : exceptional s ≡ false → checksum s ≡ by_the_words s
  exact e = eqb-true _ _ (exactly ∙ ap not e)

  -- of an even number of bytes it always is
  pub even : length s % 2 ≡ 0 → checksum s ≡ by_the_words s
  unfolding fold
  even e = let h : Small (last_sums s) = last-small s b e in fits (omega arith) (omega arith)

  -- "A stored 0 is never right"
  pub never-zero : checksum s ≢ 0
  unfolding checksum
  never-zero e = omega (arith, joined-ge (folded (last_sums s)), fold-some _ (last-modulo s).some_first)
