-- Codes tried one after the other.
-- Assumes nothing.
use Rattle.std.proofs.Common.{◌≡◌, ℕ, ◌+◌, ◌-◌, ◌<◌, ◌≤◌, Bool, true, false, List, get_or, sym, ◌∙◌, arith}
use native.Mathlib.Decide.{dec_lt}
use Rattle.lerc_byte_image.specs.Table.{Table, bits_at, length_of, code_of}
use Rattle.lerc_byte_image.specs.Symbols.{first_of, bits_there, agrees}
use Rattle.lerc_byte_image.specs.Parts.{Kept}
use Rattle.lerc_byte_image.specs.SymbolParts.{begun, NoneBegun, Found, one, none}
use Rattle.lerc_byte_image.proofs.Finding.{first-is, first-none, first-has, first-le}
use Rattle.lerc_byte_image.proofs.OneCode.{begun-agrees}

pub none_more : {w there : ℕ} {lengths codes : List ℕ} {k : ℕ} → NoneBegun w there lengths codes k → begun w there (get_or lengths k 0) (get_or codes k 0) ≡ false → NoneBegun w there lengths codes (k + 1)
none_more {w} {there} {lengths} {codes} {k} f e = record { each = λ i l. go i l (dec_lt i k) }
  where
    go : (i : ℕ) → i < k + 1 → Dec (i < k) → begun w there (get_or lengths i 0) (get_or codes i 0) ≡ false
    go i l (yes d) = f.each i d
    go i l (no d) = let z : i ≡ k = omega arith in rw (z) e

module _ (s : List ℕ) (t : Table) (p : ℕ) (kept : Kept t) {w : ℕ} (e : w ≡ bits_at s t.start p 32) where
  abbrev tried : ℕ → Bool
  tried k = begun w (bits_there s t.start - p) (length_of t k) (code_of t k)

  same : (k : ℕ) → tried k ≡ agrees s t p k
  same k = rw (e) (begun-agrees s t p k kept)

  pub seek_is : (k : ℕ) → k < t.range.count → NoneBegun w (bits_there s t.start - p) t.lengths t.codes k → tried k ≡ true → k ≡ first_of t.range.count (agrees s t p)
  seek_is k h f g = sym (first-is t.range.count k (agrees s t p) h (sym (same k) ∙ g) (λ i l. sym (same i) ∙ f.each i l))

  pub seek-none : (k : ℕ) → t.range.count ≤ k → NoneBegun w (bits_there s t.start - p) t.lengths t.codes k → t.range.count ≡ first_of t.range.count (agrees s t p)
  seek-none k h f = sym (first-none t.range.count (agrees s t p) (λ i l. sym (same i) ∙ f.each i (omega arith)))

  pub found-one : (k : ℕ) → k < t.range.count → tried k ≡ true → Found s t p k
  found-one k h g = one h (sym (same k) ∙ g)

pub found_first : (s : List ℕ) (t : Table) (p : ℕ) {k : ℕ} → k ≡ first_of t.range.count (agrees s t p) → Found s t p k
found_first s t p {k} e = rw (e) (go (dec_lt first t.range.count))
  where
    first : ℕ
    first = first_of t.range.count (agrees s t p)

    go : Dec (first < t.range.count) → Found s t p first
    go (yes l) = one l (first-has t.range.count (agrees s t p) l)
    go (no l) =
        let z : first ≡ t.range.count = omega (arith, first-le t.range.count (agrees s t p)) in
        none z z
