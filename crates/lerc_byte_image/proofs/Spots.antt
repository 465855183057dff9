-- Symbols one behind the other: where each begins, and what the entry found there tells.
-- Assumes nothing.
use Rattle.std.proofs.Common.{◌≡◌, ℕ, zero, suc, ◌+◌, ◌/◌, ◌%◌, ◌≤◌, List, sym, refl, ap, add-zero, add-suc, add-one, arith}
use Rattle.lerc_byte_image.specs.Table.{Table}
use Rattle.lerc_byte_image.specs.Symbols.{Symbol}
use Rattle.lerc_byte_image.specs.Image.{symbol_on, spot, symbol_no}
use Rattle.lerc_byte_image.specs.Parts.{Kept, entry_of, Ready}
use Rattle.lerc_byte_image.proofs.Entries.{symbol-on}
use Rattle.lerc_byte_image.proofs.Coded.{spot-inside, behind-at}

module _ (s : List ℕ) (t : Table) (kept : Kept t) where
  -- the symbol of the entry at place i, and the place behind it
  pub spot-value : (p i e : ℕ) → e ≡ entry_of s t (spot s t p i) → e % 256 ≡ symbol_no s t p i
  unfolding symbol_no
  spot-value p i e q = rw (q) (ap (λ (x : Symbol). x.value) (sym (symbol-on s t (spot s t p i) kept)))

  pub spot-next : (p i e : ℕ) → e ≡ entry_of s t (spot s t p i) → spot s t p i + e / 256 ≡ spot s t p (i + 1)
  unfolding spot
  spot-next p i e q = rw (q, add-one) (ap (λ (x : Symbol). x.next) (sym (symbol-on s t (spot s t p i) kept)))

-- places from a place
pub spot-zero : (s : List ℕ) (t : Table) (p : ℕ) → spot s t p 0 ≡ p
unfolding spot
spot-zero s t p = refl

pub spot_on : (s : List ℕ) (t : Table) (p i j : ℕ) → spot s t (spot s t p i) j ≡ spot s t p (i + j)
unfolding spot
spot_on s t p i zero = rw (add-zero)
spot_on s t p i (suc j) = rw (add-suc) (ap (λ (q : ℕ). (symbol_on s t q).next) (spot_on s t p i j))

pub symbol-after : (s : List ℕ) (t : Table) (p i j : ℕ) → symbol_no s t (spot s t p i) j ≡ symbol_no s t p (i + j)
unfolding symbol_no
symbol-after s t p i j = ap (λ (q : ℕ). (symbol_on s t q).value) (spot_on s t p i j)

-- a symbol can be found at each of them
pub ready_on : (s : List ℕ) (t : Table) (q : List ℕ) (p n : ℕ) → Ready s t q p → Ready s t q (spot s t p n)
ready_on s t q p n r = record { behind = behind-at r.behind (spot-inside s t p n r.behind.at); quick = r.quick }

-- and the place behind it is a small number
pub spot-few : (s : List ℕ) (t : Table) (q : List ℕ) (p i e at : ℕ) → Ready s t q p → at ≡ spot s t p i → e ≡ entry_of s t at → at + e / 256 ≤ 134217728
spot-few s t q p i e at r a f =
    let b = r.behind in
    let n : spot s t p i + e / 256 ≡ spot s t p (i + 1) = spot-next s t b.kept p i e (rw (a) at f) in
    let l = spot-inside s t p (i + 1) b.at in
    omega (arith, b.short)
