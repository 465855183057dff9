-- The order of tiles by one number, and an entry within a slice.
-- Assumes nothing.
use mathlib.Core.Path.{◌≡◌, sym, refl}
use mathlib.Core.Bool.{Bool, true, false, ◌&&◌, ◌||◌}
use Prim.Native.Nat.{ℕ, zero, suc, ◌-◌, ◌/◌, ◌≤◌, ◌<◌}
use native.Mathlib.Omega.{arith}
use lib.Dec.{leb, ltb, eqb}
use borrow.Author.Tests.{ltb-true, ltb-false, leb-true, eqb-true, lt-ltb, le-leb, eq-eqb}
use Rattle.lerc_words.proofs.Binding.{and_is}
use Rattle.lerc_slices.proofs.Begins.{both_ways}
use Rattle.lerc_pack.specs.declared.Entry.{Entry}
use Rattle.lerc_pack.specs.Contents.{Tile, entry_place, before, rises_at}
use Rattle.lerc_pack.specs.Parts.{key_of, least_key}

-- of two entries whose rows and columns have two bytes
pub before-is : (e f : Entry) → e.column < 65536 → f.column < 65536 → before e f ≡ leb (suc (key_of e.row e.column)) (key_of f.row f.column)
unfolding before
before-is e f he hf = both_ways _ _ to from
  where
    to : (ltb e.row f.row || (eqb e.row f.row && ltb e.column f.column)) ≡ true → leb (suc (key_of e.row e.column)) (key_of f.row f.column) ≡ true
    to t = go (ltb e.row f.row) refl t
      where
        go : (l : Bool) → ltb e.row f.row ≡ l → (l || (eqb e.row f.row && ltb e.column f.column)) ≡ true → leb (suc (key_of e.row e.column)) (key_of f.row f.column) ≡ true
        go true l t =
            let less : e.row < f.row = ltb-true _ _ l in
            let h : suc (key_of e.row e.column) ≤ key_of f.row f.column = omega (arith, less, he, hf) in
            le-leb _ _ h
        go false l t =
            let (p, q) = and_is (eqb e.row f.row) (ltb e.column f.column) t in
            let same : e.row ≡ f.row = eqb-true _ _ p in
            let less : e.column < f.column = ltb-true _ _ q in
            let h : suc (key_of e.row e.column) ≤ key_of f.row f.column = omega (arith, same, less) in
            le-leb _ _ h

    from : leb (suc (key_of e.row e.column)) (key_of f.row f.column) ≡ true → (ltb e.row f.row || (eqb e.row f.row && ltb e.column f.column)) ≡ true
    from t = go (ltb e.row f.row) refl
      where
        h : suc (key_of e.row e.column) ≤ key_of f.row f.column
        h = leb-true _ _ t

        go : (l : Bool) → ltb e.row f.row ≡ l → (l || (eqb e.row f.row && ltb e.column f.column)) ≡ true
        go true l = refl
        go false l =
            let below : f.row ≤ e.row = ltb-false _ _ l in
            let same : e.row ≡ f.row = omega (arith, below, h, he, hf) in
            let less : e.column < f.column = omega (arith, below, h, he, hf) in
            rw (eq-eqb _ _ same, lt-ltb _ _ less)

-- tiles rise where each key is at least the least that may follow
pub rises-is : (tiles : ℕ → Tile) (key : ℕ → ℕ) (i : ℕ) → ((k : ℕ) → key k ≡ key_of (tiles k).entry.row (tiles k).entry.column) → ((k : ℕ) → (tiles k).entry.column < 65536)
    → rises_at tiles i ≡ leb (least_key key i) (key i)
rises-is tiles key zero e h = sym (le-leb 0 (key 0) (omega arith))
rises-is tiles key (suc i) e h = rw (e i, e (suc i)) (before-is (tiles i).entry (tiles (suc i)).entry (h i) (h (suc i)))

-- ---- an entry in a slice

pub holds-is : (n i : ℕ) → 8 ≤ n → ltb i ((n - 8) / 16) ≡ leb (entry_place (suc i)) n
holds-is n i h = both_ways _ _ to from
  where
    to : ltb i ((n - 8) / 16) ≡ true → leb (entry_place (suc i)) n ≡ true
    to t =
        let l : i < (n - 8) / 16 = ltb-true _ _ t in
        let g : entry_place (suc i) ≤ n = omega (arith, l, h) in
        le-leb _ _ g

    from : leb (entry_place (suc i)) n ≡ true → ltb i ((n - 8) / 16) ≡ true
    from t =
        let g : entry_place (suc i) ≤ n = leb-true _ _ t in
        let l : i < (n - 8) / 16 = omega (arith, g, h) in
        lt-ltb _ _ l
