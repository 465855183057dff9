-- Laws of the lengths and the codes of a table.
-- Assumes nothing.
use Rattle.std.proofs.Common.{◌≡◌, ℕ, zero, suc, ◌-◌, ◌*◌, ◌/◌, ◌^◌, ◌<◌, ◌≤◌, Bool, true, false, not, eqb, leb, List, length, get_or, sym, refl, div-one, arith, lt-ltb, eq-eqb, ne_eqb, eqb-true, le-leb, leb-true}
use mathlib.Core.Bool.{and-true, and-false, and_self}
use native.Mathlib.Nat.{sub_self, pow-zero}
use native.Mathlib.Decide.{dec_lt}
use lib.ListN.{get_or-eq_default}
use borrow.Author.Tests.{eqb-false, lt-leb}
use Rattle.lerc_words.specs.Lists.{total, all_to}
use Rattle.lerc_words.proofs.Tables.{all-each}
use Rattle.lerc_byte_image.specs.Table.{Table, begins, prefix_free}
use Rattle.lerc_byte_image.specs.TableParts.{bits_of, all_short, apart, clear}

-- ---- the lengths

-- each of them; past the end they are 0
pub short-each : (vs : List ℕ) → all_short vs ≡ true → (k : ℕ) → get_or vs k 0 ≤ 32
short-each vs e k = go (dec_lt k (length vs))
  where
    go : Dec (k < length vs) → get_or vs k 0 ≤ 32
    go (yes l) = leb-true _ _ (all-each (length vs) k (λ i. leb (get_or vs i 0) 32) e l)
    go (no l) = let h : length vs ≤ k = omega arith in rw (get_or-eq_default vs 0 h) (omega arith)

pub bits-le : (vs : List ℕ) → all_short vs ≡ true → (n : ℕ) → bits_of n vs ≤ n * 32
unfolding total
bits-le vs e zero = omega arith
bits-le vs e (suc n) = omega (arith, bits-le vs e n, short-each vs e n)

-- ---- whether one begins another

pub apart_none : (x b y : ℕ) → apart 0 x b y ≡ true
unfolding apart
apart_none x zero y = refl
apart_none x (suc b) y = let h : 0 < suc b = omega arith in rw (lt-leb (suc b) 0 h, and-false)

pub none_apart : (a x y : ℕ) → apart a x 0 y ≡ true
unfolding apart
none_apart zero x y = refl
none_apart (suc a) x y = let h : 0 < suc a = omega arith in rw (lt-leb (suc a) 0 h, and-false)

eqb_swap : (x y : ℕ) → eqb x y ≡ eqb y x
eqb_swap x y = go (eqb x y) refl
  where
    go : (t : Bool) → eqb x y ≡ t → t ≡ eqb y x
    go true e = sym (eq-eqb y x (sym (eqb-true x y e)))
    go false e = sym (ne_eqb y x (λ z. eqb-false x y e (sym z)))

-- of two codes of one length
apart-same : (a x y : ℕ) → 0 < a → apart a x a y ≡ not (eqb (y / 2 ^ (a - a)) x)
unfolding apart
apart-same a x y h = rw (lt-ltb 0 a h, le-leb a a (omega arith), sub_self, pow-zero, div-one, div-one, eqb_swap x y) (and_self (not (eqb y x)))

module _ (a x b y : ℕ) (h : 0 < a) (k : 0 < b) where
  apart-less : a < b → apart a x b y ≡ not (eqb (y / 2 ^ (b - a)) x)
  unfolding apart
  apart-less l = rw (lt-ltb 0 a h, lt-ltb 0 b k, le-leb a b (omega arith), lt-leb b a l) (and-true (not (eqb (y / 2 ^ (b - a)) x)))

  -- the bits that both have are alike
  pub apart-up : a ≤ b → apart a x b y ≡ not (eqb (y / 2 ^ (b - a)) x)
  apart-up l = go (dec_lt a b)
    where
      go : Dec (a < b) → apart a x b y ≡ not (eqb (y / 2 ^ (b - a)) x)
      go (yes p) = apart-less p
      go (no q) = let e : b ≡ a = omega arith in rw (e) (apart-same a x y h)

  pub apart-down : b < a → apart a x b y ≡ not (eqb (x / 2 ^ (a - b)) y)
  unfolding apart
  apart-down l = rw (lt-ltb 0 a h, lt-ltb 0 b k, le-leb b a (omega arith), lt-leb a b l)

-- as the code goes through them
pub clear-is : (t : Table) → prefix_free t ≡ all_to t.range.count (clear t.lengths t.codes)
unfolding prefix_free begins apart
clear-is t = refl
