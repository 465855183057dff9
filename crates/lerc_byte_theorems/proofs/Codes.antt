-- A symbol is the one code that begins the bits at its place, and an image has a code for each valid cell.
-- Assumes nothing.
use mathlib.Core.Path.{◌≡◌, ◌∙◌, sym, ap, refl}
use mathlib.Core.Bool.{true, false}
use mathlib.Core.List.{List, [], ◌∷◌}
use Prim.Native.Nat.{ℕ, zero, suc, ◌+◌, ◌-◌, ◌*◌, ◌/◌, ◌^◌, ◌≤◌, ◌<◌}
use native.Mathlib.Omega.{arith}
use native.Mathlib.Decide.{dec_lt}
use native.Mathlib.Nat.{div-one, zero-add}
use lib.Dec.{leb, ltb}
use borrow.Author.Tests.{lt-ltb, le-leb, eq-eqb, ltb-true, leb-true, not-true}
use Rattle.lerc_words.specs.Res.{ok, require}
use Rattle.lerc_words.specs.Lists.{total, tabulate, from}
use Rattle.lerc_words.proofs.Binding.{bind_is, require-is, ok-is, and_is}
use Rattle.lerc_words.proofs.Marking.{marked-is}
use Rattle.lerc_words.proofs.Counts.{total-zero}
use Rattle.lerc_words.proofs.Tables.{all-each, from-shift}
use Rattle.lerc_header.specs.declared.Header.{Header}
use Rattle.lerc_byte_image.specs.Table.{Table, table_at, length_of, code_of, symbol_of, begins, prefix_free}
use Rattle.lerc_byte_image.specs.Symbols.{first_of, bits_there, agrees, Symbol, symbol_at, Run, symbols_from, end_of, Coded, coded_at}
use Rattle.lerc_byte_image.specs.Image.{image_at}
use Rattle.lerc_byte_image.proofs.Finding.{first-lt, first-has}
use Rattle.lerc_byte_image.proofs.Kept.{table_kept}
use Rattle.lerc_byte_image.proofs.OneCode.{agrees-is, is-agrees, whole_code, one_code as one}
use Rattle.lerc_byte_image.proofs.Written.{image-parts}
use Rattle.lerc_byte_theorems.specs.Reader.{symbol_by}
use Rattle.lerc_byte_theorems.specs.Images.{PrefixFree, OneCode, Whole, SymbolIs, CodedBy, ImageIs}

-- ---- one code

free-below : (t : Table) (i k : ℕ) → prefix_free t ≡ true → i < k → k < t.range.count → (begins t i k ≡ false) × (begins t k i ≡ false)
unfolding prefix_free
free-below t i k e l h =
    let (a, b) = and_is _ _ (all-each k i _ (all-each t.range.count k _ e h) l) in
    (not-true _ a, not-true _ b)

begins-is : (t : Table) (i k : ℕ) → 0 < length_of t i → length_of t i ≤ length_of t k → code_of t k / 2 ^ (length_of t k - length_of t i) ≡ code_of t i → begins t i k ≡ true
unfolding begins
begins-is t i k some long same = rw (lt-ltb _ _ some, le-leb _ _ long, eq-eqb _ _ same)

pub prefix-free : PrefixFree
prefix-free s at t i k e h g d some long same = go (dec_lt i k) (dec_lt k i)
  where
    b : begins t i k ≡ true
    b = begins-is t i k some long same

    free : prefix_free t ≡ true
    free = (table_kept s at t e).0.free

    go : Dec (i < k) → Dec (k < i) → ⊥
    go (yes l) m = let u = b in let f = (free-below t i k free l g).0 in let z : ◌≡◌ {A = ℕ} 0 1 = cc in omega arith
    go (no l) (yes m) = let u = b in let f = (free-below t k i free m h).1 in let z : ◌≡◌ {A = ℕ} 0 1 = cc in omega arith
    go (no l) (no m) = d (omega arith)

pub one_code : OneCode
one_code s at t p i k e = one s t p i k (table_kept s at t e).0

-- ---- its symbol

pub whole-agrees : (s : List ℕ) (t : Table) (p k : ℕ) → Whole s t p k → agrees s t p k ≡ true
whole-agrees s t p k w =
    let z : length_of t k - length_of t k ≡ 0 = omega arith in
    is-agrees s t p k (record { n = length_of t k; is = omega (arith, w.inside); some = w.some; same = rw (z) (div-one (code_of t k) ∙ sym w.bits) })

pub code-symbol : (s : List ℕ) (at : ℕ) {t : Table} (p k : ℕ) → table_at s at ≡ ok t → Whole s t p k → symbol_at s t p ≡ ok (symbol_by t p k)
unfolding symbol_at
code-symbol s at {t} p k e w =
    let n = t.range.count in
    let a = whole-agrees s t p k w in
    let l = first-lt n k (agrees s t p) w.below a in
    let z = one s t p k (first_of n (agrees s t p)) (table_kept s at t e).0 w.below l a (first-has n (agrees s t p) l) w.inside in
    rw (sym z, lt-ltb k n w.below, le-leb (p + length_of t k) (bits_there s t.start) w.inside)

symbol-code : (s : List ℕ) (t : Table) (p : ℕ) {x : Symbol} → symbol_at s t p ≡ ok x → (k : ℕ) × Whole s t p k × (x ≡ symbol_by t p k)
unfolding symbol_at
symbol-code s t p e =
    let n = t.range.count in
    let k = first_of n (agrees s t p) in
    let (_, q, e) = bind_is (require (ltb k n) 8) _ e in
    let (_, r, e) = bind_is (require (leb (p + length_of t k) (bits_there s t.start)) 1) _ e in
    let l = ltb-true k n (require-is _ 8 q) in
    let i = leb-true (p + length_of t k) (bits_there s t.start) (require-is _ 1 r) in
    let a = agrees-is s t p k (first-has n (agrees s t p) l) in
    (k, record { below = l; some = a.some; inside = i; bits = sym (whole_code s t p k a i) }, sym (ok-is e))

pub symbol-is : SymbolIs
symbol-is s at t p x e = (symbol-code s t p, λ c. code-symbol s at p c.0 e c.1 ∙ ap ok (sym c.2))

-- ---- a code for each cell

-- the first one by itself
total-front : (n : ℕ) (f : ℕ → ℕ) → total (suc n) f ≡ f 0 + total n (λ i. f (suc i))
unfolding total
total-front zero f = omega arith
total-front (suc n) f = omega (arith, total-front n f)

tabulate-none : (f : ℕ → ℕ) → tabulate 0 f ≡ []
unfolding from
tabulate-none f = refl

tabulate-front : (n : ℕ) (f : ℕ → ℕ) → tabulate (suc n) f ≡ f 0 ∷ tabulate n (λ i. f (suc i))
unfolding from
tabulate-front n f = ap (λ (xs : List ℕ). f 0 ∷ xs) (from-shift n 0 f)

pair : {x y : ℕ} {xs ys : List ℕ} → x ≡ y → xs ≡ ys → x ∷ xs ≡ y ∷ ys
pair e f = rw (e, f)

-- one more in front
abbrev put : ℕ → (ℕ → ℕ) → ℕ → ℕ
put k f zero = k
put k f (suc i) = f i

module _ (s : List ℕ) (t : Table) where
  -- where code i begins, of those from bit p on
  abbrev place : (ℕ → ℕ) → ℕ → ℕ → ℕ
  place code p i = p + total i (λ j. length_of t (code j))

  place_none : (code : ℕ → ℕ) (p : ℕ) → place code p 0 ≡ p
  place_none code p = let z = total-zero (λ j. length_of t (code j)) in omega (arith, z)

  place-more : (code : ℕ → ℕ) (p q i : ℕ) → q ≡ p + length_of t (code 0) → place code p (suc i) ≡ place (λ j. code (suc j)) q i
  place-more code p q i e = omega (arith, total-front i (λ j. length_of t (code j)), e)

  record ByCodes (n p : ℕ) (r : Run) : Type 0 where
    code : ℕ → ℕ
    each : (i : ℕ) → i < n → Whole s t (place code p i) (code i)
    values : r.values ≡ tabulate n (λ i. symbol_of t.range (code i))
    bits : r.bits ≡ place code p n

  run-codes : (n p : ℕ) {r : Run} → symbols_from s t n p ≡ ok r → ByCodes n p r
  unfolding symbols_from from
  run-codes zero p e = record {
    code = λ i. 0;
    each = λ i l. absurd (omega arith);
    values = sym (ap (λ (r : Run). r.values) (ok-is e));
    bits = sym (ap (λ (r : Run). r.bits) (ok-is e)) ∙ sym (place_none (λ i. 0) p);
  }
  run-codes (suc n) p {r} e =
      let (x, a, e) = bind_is (symbol_at s t p) _ e in
      let (y, b, e) = bind_is (symbols_from s t n x.next) _ e in
      let (k, w, z) = symbol-code s t p a in
      let c = run-codes n x.next b in
      let next : x.next ≡ p + length_of t k = ap (λ (x : Symbol). x.next) z in
      let values : x.value ∷ y.values ≡ r.values = ap (λ (r : Run). r.values) (ok-is e) in
      let value : x.value ≡ symbol_of t.range k = ap (λ (x : Symbol). x.value) z in
      let bits : y.bits ≡ r.bits = ap (λ (r : Run). r.bits) (ok-is e) in
      record {
        code = put k c.code;
        each = parts k c.code p x.next n next w c.each;
        values = sym values ∙ pair value c.values ∙ sym (tabulate-front n (λ i. symbol_of t.range (put k c.code i)));
        bits = sym bits ∙ c.bits ∙ sym (place-more (put k c.code) p x.next n next);
      }
    where
      parts : (k : ℕ) (f : ℕ → ℕ) (p q n : ℕ) → q ≡ p + length_of t k → Whole s t p k → ((i : ℕ) → i < n → Whole s t (place f q i) (f i))
          → (i : ℕ) → i < suc n → Whole s t (place (put k f) p i) (put k f i)
      parts k f p q n e w g zero l = rw (place_none (put k f) p) w
      parts k f p q n e w g (suc i) l = rw (place-more (put k f) p q i e) (g i (omega arith))

  module _ (at : ℕ) (e : table_at s at ≡ ok t) where
    codes-run : (n p : ℕ) (code : ℕ → ℕ) → ((i : ℕ) → i < n → Whole s t (place code p i) (code i))
        → symbols_from s t n p ≡ ok (record { values = tabulate n (λ i. symbol_of t.range (code i)); bits = place code p n })
    unfolding symbols_from
    codes-run zero p code each = rw (place_none code p, tabulate-none)
    codes-run (suc n) p code each =
        let w = rw (place_none code p) at (each 0 (omega arith)) in
        let q = p + length_of t (code 0) in
        let rest = codes-run n q (λ i. code (suc i)) (λ i l. rw (place-more code p q i refl) at (each (suc i) (omega arith))) in
        rw (code-symbol s at p (code 0) e w, rest, tabulate-front n (λ i. symbol_of t.range (code i)), place-more code p q n refl)

-- ---- the image

to_codes : (s : List ℕ) (h : Header) (mode : ℕ) (x : Coded) → image_at s h mode ≡ ok x → CodedBy s h mode x
unfolding image_at
to_codes s h mode x e =
    let n = h.valid * h.depth in
    let g = image-parts s (mode + 1) n (marked-is mode _ e) in
    let c = run-codes s g.table n 0 g.run_is in
    let bits = c.bits ∙ zero-add _ in
    record {
      table = g.table;
      table_is = g.table_is;
      code = c.code;
      each = λ i l. rw (zero-add) at (c.each i l);
      symbols = sym (ap (λ (x : Coded). x.symbols) g.whole) ∙ c.values;
      end = sym g.end ∙ ap (end_of g.table.start) bits;
      inside = g.inside;
    }

from-codes : (s : List ℕ) (h : Header) (mode : ℕ) (x : Coded) → CodedBy s h mode x → image_at s h mode ≡ ok x
unfolding image_at coded_at
from-codes s h mode x c =
    let n = h.valid * h.depth in
    let run = codes-run s c.table (mode + 1) c.table_is n 0 c.code (λ i l. rw (← zero-add (total i (λ j. length_of c.table (c.code j)))) at (c.each i l)) in
    let bits = zero-add (total n (λ j. length_of c.table (c.code j))) in
    let fits = rw c.end at c.inside in
    rw (c.table_is, run, bits, le-leb _ _ fits, ← c.end, ← c.symbols)

pub image-is : ImageIs
image-is s h mode x = (to_codes s h mode x, from-codes s h mode x)
