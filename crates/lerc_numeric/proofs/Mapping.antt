-- A list that a loop fills from the front, with f of an entry of xs in each turn, as many as both lists have.
-- Assumes nothing.
use mathlib.Core.Path.{◌≡◌, ap, ◌∙◌}
use mathlib.Core.List.{List, ◌++◌, append-nil}
use Prim.Native.Nat.{ℕ, suc, ◌+◌, ◌≤◌, ◌<◌, min}
use native.Mathlib.Omega.{arith}
use lib.ListN.{length, get_or, set, take, drop}
use lib.Seq.{drop-cons, get_or_at, take_at, drop_at, drop-length}
use Rattle.lerc_words.specs.Lists.{tabulate, over}
use Rattle.lerc_words.proofs.Filling.{Filling, filling-none, filling-length, filling-more, filling-done}
use Rattle.lerc_words.proofs.Tables.{length-table, length-tabulate, get_d_tabulate, tabulate-same, table-over}
use Rattle.lerc_numeric.specs.Steps.{mapped}

pub record Mapping (f : ℕ → ℕ) (xs old : List ℕ) (n k : ℕ) (now : List ℕ) : Type 0 where
  pub filling : Filling (λ j. f (get_or xs j 0)) n k old now
  pub all : n ≡ min (length xs) (length old)

pub mapping-none : (f : ℕ → ℕ) (xs old : List ℕ) (n : ℕ) → n ≡ min (length xs) (length old) → Mapping f xs old n 0 old
mapping-none f xs old n e = record { filling = filling-none (λ j. f (get_or xs j 0)) n old (omega arith); all = e }

module _ {f : ℕ → ℕ} {xs old : List ℕ} {n k : ℕ} {now : List ℕ} (t : Mapping f xs old n k now) where
  pub mapping-length : length now ≡ length old
  mapping-length = filling-length t.filling

  pub mapping-more : (v : ℕ) → k < n → v ≡ f (get_or xs k 0) → Mapping f xs old n (k + 1) (set now k v)
  mapping-more v h e = record { filling = filling-more t.filling v h e; all = t.all }

  -- what stands at k and after it has not changed
  pub mapping-next : k < n → get_or now k 0 ≡ get_or old k 0
  mapping-next h =
      let l : k < length old = omega (arith, t.all) in
      rw (t.filling.is, drop-cons old k 0 l) (get_or_at (tabulate k (λ j. f (get_or xs j 0))) (get_or old k 0) (drop (suc k) old) 0 k (length-tabulate k (λ j. f (get_or xs j 0))))

  pub mapping-done : n ≤ k → now ≡ mapped f xs old
  mapping-done h = rw (← t.all) (filling-done t.filling h ∙ table-over n (λ j. f (get_or xs j 0)) old)

-- the same entries, the same list
pub mapped-same : (f g : ℕ → ℕ) (xs old : List ℕ) → ((k : ℕ) → k < length xs → f (get_or xs k 0) ≡ g (get_or xs k 0)) → mapped f xs old ≡ mapped g xs old
mapped-same f g xs old h = ap (λ (l : List ℕ). over l old) (tabulate-same _ _ _ (λ k l. h k (omega arith)))

-- ---- the front that was filled, filled once more
mapped-own : (g : ℕ → ℕ) (xs : List ℕ) → mapped g xs xs ≡ tabulate (length xs) (λ k. g (get_or xs k 0))
mapped-own g xs =
    let m : min (length xs) (length xs) ≡ length xs = omega arith in
    rw (m, length-tabulate, drop-length, append-nil)

module _ {ys : List ℕ} (f : ℕ → ℕ) (xs old : List ℕ) (n : ℕ) (made : ys ≡ mapped f xs old) (all : n ≡ min (length xs) (length ys)) where
  abbrev front : List ℕ
  front = tabulate n (λ k. f (get_or xs k 0))

  least : min (length xs) (length old) ≡ n
  least =
      let l : length ys ≡ length old = rw (made, ← table-over (min (length xs) (length old)) (λ k. f (get_or xs k 0)) old) (length-table (min (length xs) (length old)) (λ k. f (get_or xs k 0)) old (omega arith)) in
      omega arith

  parts : ys ≡ front ++ drop n old
  parts = rw (table-over n (λ k. f (get_or xs k 0)) old) (rw (least) at made)

  wide : length front ≡ n
  wide = length-tabulate n (λ k. f (get_or xs k 0))

  front-is : take n ys ≡ front
  front-is = rw (parts) (take_at front (drop n old) n wide)

  pub front-each : (P : ℕ → Type 0) → ((k : ℕ) → P (f (get_or xs k 0))) → (k : ℕ) → k < length (take n ys) → P (get_or (take n ys) k 0)
  front-each P h k l =
      let i : k < n = rw (front-is, wide) at l in
      rw (front-is, get_d_tabulate n (λ j. f (get_or xs j 0)) k 0 i) (h k)

  pub front-mapped : {zs : List ℕ} (g : ℕ → ℕ) → zs ≡ mapped g (take n ys) (take n ys) → zs ++ drop n ys ≡ mapped (λ x. g (f x)) xs old
  front-mapped g e =
      let d : drop n ys ≡ drop n old = rw (parts) (drop_at front (drop n old) n wide) in
      let t : tabulate n (λ k. g (get_or front k 0)) ≡ tabulate n (λ k. g (f (get_or xs k 0))) =
      tabulate-same n _ _ (λ k l. ap g (get_d_tabulate n (λ j. f (get_or xs j 0)) k 0 l)) in
      rw (e, front-is, mapped-own g front, wide, d, t, least) (table-over n (λ k. g (f (get_or xs k 0))) old)
