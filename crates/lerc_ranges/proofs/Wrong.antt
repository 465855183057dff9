-- The first depth whose pair is wrong.
-- Assumes nothing.
use Prim.Native.Nat.{ℕ, zero, suc, ◌+◌, ◌-◌, ◌≤◌, ◌<◌}
use mathlib.Core.Path.{◌≡◌, refl}
use mathlib.Core.Bool.{Bool, true, false}
use native.Mathlib.Omega.{arith}
use native.Mathlib.Numerals.{add-one}
use lib.ListN.{get_or}
use Rattle.lerc_words.proofs.Counts.{count-plus, count-all, count_none}
use Rattle.lerc_words.proofs.Tables.{all_true, all-each, all-fails}
use Rattle.lerc_header.specs.Header.{pair_right}
use Rattle.lerc_ranges.specs.declared.Ranges.{Ranges}
use Rattle.lerc_ranges.specs.Ranges.{pairs_right, first_wrong}
use Rattle.lerc_ranges.proofs.ByDepth.{pairs-none, pairs-more}

-- the pair of a depth
abbrev pub right_at : Ranges → ℕ → Bool
right_at r i = pair_right (get_or r.min i 0) (get_or r.max i 0)

-- right up to a depth: right up to each before it
pub pairs-fewer : (n k : ℕ) (r : Ranges) → k ≤ n → pairs_right n r ≡ true → pairs_right k r ≡ true
unfolding pairs_right
pairs-fewer n k r l h = all_true k _ (λ i m. all-each n i _ h (omega arith))

-- one wrong pair: wrong up to each depth behind it
pub pairs-wrong : (n i : ℕ) (r : Ranges) → i < n → right_at r i ≡ false → pairs_right n r ≡ false
unfolding pairs_right
pairs-wrong n i r l e = all-fails n i _ l e

pub first-wrong-none : (n : ℕ) (r : Ranges) → pairs_right n r ≡ true → first_wrong n r ≡ n
unfolding first_wrong
first-wrong-none n r h = count-all n _ (λ k l. pairs-fewer n (suc k) r l h)

-- each depth below i is counted, and none from i on
pub first-wrong-is : (n i : ℕ) (r : Ranges) → i < n → pairs_right i r ≡ true → right_at r i ≡ false → first_wrong n r ≡ i
unfolding first_wrong
first-wrong-is n i r l h e =
    let parts : n - i + i ≡ n = omega arith in
    let below = count-all i (λ k. pairs_right (suc k) r) (λ k m. pairs-fewer i (suc k) r m h) in
    let behind = count_none (n - i) (λ k. pairs_right (suc (k + i)) r) (λ k m. pairs-wrong (suc (k + i)) i r (omega arith) e) in
    omega (arith, rw (parts) at (count-plus i (n - i) (λ k. pairs_right (suc k) r)), below, behind)

-- i is the first depth below n whose pair is wrong
abbrev FirstAt : ℕ → Ranges → ℕ → Type 0
FirstAt n r i = (i < n) × (pairs_right i r ≡ true) × (right_at r i ≡ false)

-- where not all are right there is such a depth: the last, or one before it where those before it are not all right
some-wrong : (n : ℕ) (r : Ranges) → pairs_right n r ≡ false → (i : ℕ) × FirstAt n r i
some-wrong zero r e = let t = pairs-none r in absurd (let z : ◌≡◌ {A = ℕ} 0 1 = cc in omega arith)
some-wrong (suc n) r e = go (pairs_right n r) refl (some-wrong n r)
  where
    go : (t : Bool) → pairs_right n r ≡ t → (pairs_right n r ≡ false → (i : ℕ) × FirstAt n r i) → (i : ℕ) × FirstAt (suc n) r i
    go true h f = (n, (omega arith, h, rw (← add-one, pairs-more, h) at e))
    go false h f = let (i, w) = f h in let l = w.0 in (i, (omega arith, w.1, w.2))

pub first-wrong : (n : ℕ) (r : Ranges) → pairs_right n r ≡ false → (first_wrong n r < n) × (pairs_right (first_wrong n r) r ≡ true) × (right_at r (first_wrong n r) ≡ false)
first-wrong n r e = let (i, w) = some-wrong n r e in rw (first-wrong-is n i r w.0 w.1 w.2) w
