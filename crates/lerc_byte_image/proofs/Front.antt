-- What is read of an image lies between its mode byte and its end: two slices that agree there have the same image.
-- Assumes nothing.
use Rattle.std.proofs.Common.{◌≡◌, ℕ, zero, suc, ◌+◌, ◌-◌, ◌*◌, ◌/◌, ◌<◌, ◌≤◌, min, Bool, true, ltb, leb, List, length, get_or, sym, refl, ap, ◌∙◌, arith, ltb-true, le-leb}
use native.Mathlib.Nat.{mod-one}
use Rattle.lerc_words.specs.Res.{ok, require, little, word_at}
use Rattle.lerc_words.specs.Lists.{total}
use Rattle.lerc_words.proofs.Binding.{bind_is, require-is, ok-is, and_is}
use Rattle.lerc_words.proofs.Marking.{marked-is}
use Rattle.lerc_words.proofs.Little.{Stays, little-same, word_at-ok}
use Rattle.lerc_words.proofs.Counts.{total-more, total-le}
use Rattle.lerc_words.proofs.Tables.{tabulate-same}
use Rattle.lerc_bits.specs.Bits.{Counts, counts}
use Rattle.lerc_bits.proofs.Values.{counts-ends}
use Rattle.lerc_bits.proofs.Local.{counts-stays}
use Rattle.lerc_header.specs.declared.Header.{Header}
use Rattle.lerc_byte_image.specs.Table.{Table, range_at, lengths_at, bits_at, codes_at, length_of, table_at}
use Rattle.lerc_byte_image.specs.Symbols.{first_of, bits_there, agrees, Symbol, symbol_at, Run, symbols_from, end_of, Coded, coded_at}
use Rattle.lerc_byte_image.specs.Image.{image_at}
use Rattle.lerc_byte_image.proofs.Finding.{first-has}
use Rattle.lerc_byte_image.proofs.Written.{lengths-are, table_of, table-parts, table-ends, image-parts}

-- ---- how far symbols reach

-- the first that has a property depends on those below the bound
first-same : (n : ℕ) (p q : ℕ → Bool) → ((k : ℕ) → k < n → p k ≡ q k) → first_of n p ≡ first_of n q
unfolding first_of
first-same zero p q f = refl
first-same (suc n) p q f = rw (first-same n p q (λ k l. f k (omega arith)), f n (omega arith))

module _ (s : List ℕ) (t : Table) where
  -- a code that agrees has a bit
  code-some : (p k : ℕ) → agrees s t p k ≡ true → 0 < length_of t k
  unfolding agrees
  code-some p k e = ltb-true _ _ (and_is (ltb 0 (length_of t k)) _ e).0

  symbol-on : (p : ℕ) {x : Symbol} → symbol_at s t p ≡ ok x → p < x.next
  unfolding symbol_at
  symbol-on p {x} e =
      let n = t.range.count in
      let k = first_of n (agrees s t p) in
      let (_, q, e) = bind_is (require (ltb k n) 8) _ e in
      let (_, _, e) = bind_is (require (leb (p + length_of t k) (bits_there s t.start)) 1) _ e in
      let z : p + length_of t k ≡ x.next = ap (λ (y : Symbol). y.next) (ok-is e) in
      let o = code-some p k (first-has n (agrees s t p) (ltb-true k n (require-is _ 8 q))) in
      omega (arith, z, o)

  symbols-on : (n p : ℕ) {r : Run} → symbols_from s t n p ≡ ok r → p ≤ r.bits
  unfolding symbols_from
  symbols-on zero p {r} e = let z : p ≡ r.bits = ap (λ (y : Run). y.bits) (ok-is e) in omega (arith, z)
  symbols-on (suc n) p {r} e =
      let (x, a, e) = bind_is (symbol_at s t p) _ e in
      let (y, b, e) = bind_is (symbols_from s t n x.next) _ e in
      let z : y.bits ≡ r.bits = ap (λ (y : Run). y.bits) (ok-is e) in
      omega (arith, symbol-on p a, symbols-on n x.next b, z)

-- ---- two slices that agree in the bytes from j up to k, and have them

module _ (s c : List ℕ) (j k : ℕ) (same : (i : ℕ) → j ≤ i → i < k → get_or s i 0 ≡ get_or c i 0) (long : k ≤ length s) (room : k ≤ length c) where
  little-front : (n at : ℕ) → j ≤ at → at + n ≤ k → little n s at ≡ little n c at
  little-front n at o l = little-same n s c at at (λ i r. same (at + i) (omega arith) (omega arith))

  word-front : (n at : ℕ) → j ≤ at → at + n ≤ k → word_at n s at ≡ word_at n c at
  word-front n at o l = word_at-ok n s at (omega arith) ∙ ap ok (little-front n at o l) ∙ sym (word_at-ok n c at (omega arith))

  range_front : (at : ℕ) → j ≤ at → at + 16 ≤ k → range_at s at ≡ range_at c at
  unfolding range_at
  range_front at o l =
      rw (word-front 4 at o (omega arith), word-front 4 (at + 4) (omega arith) (omega arith), word-front 4 (at + 8) (omega arith) (omega arith), word-front 4 (at + 12) (omega arith) (omega arith))

  lengths-front : (at n : ℕ) {d : Counts} → lengths_at s at n ≡ ok d → j ≤ at → d.next ≤ k → lengths_at c at n ≡ ok d
  unfolding lengths_at
  lengths-front at n {d} e o l =
      let (p, _) = lengths-are s at n e in
      let b = counts-ends s at p in
      let z : at + (d.next - at) ≡ d.next = omega (arith, b.0) in
      let m : Stays s at c at (d.next - at) = record { same = λ i r. same (at + i) (omega arith) (omega arith); room = omega (arith, z) } in
      let q : counts c at ≡ ok d = rw (z) at (counts-stays m p (sym z)) in
      rw (q) (rw (p) at e)

  -- the word of a bit of a run, and the word behind it, stand in front of the run's end and one word more
  bits-front : (at bits p n : ℕ) → j ≤ at → end_of at bits ≤ k → p < bits → bits_at s at p n ≡ bits_at c at p n
  unfolding bits_at
  bits-front at bits p n o l h = rw (little-front 4 (at + p / 32 * 4) (omega arith) (omega arith), little-front 4 (at + p / 32 * 4 + 4) (omega arith) (omega arith))

  -- no bits are the same everywhere
  bits_none : (at p : ℕ) → bits_at s at p 0 ≡ bits_at c at p 0
  unfolding bits_at
  bits_none at p = mod-one _ ∙ sym (mod-one _)

  codes-front : (at n : ℕ) (ls : List ℕ) → j ≤ at → end_of at (total n (λ i. get_or ls i 0)) ≤ k → codes_at s at n ls ≡ codes_at c at n ls
  codes-front at n ls o l = tabulate-same n _ _ (λ i h. go i h (get_or ls i 0) refl)
    where
      go : (i : ℕ) → i < n → (m : ℕ) → get_or ls i 0 ≡ m → bits_at s at (total i (λ i. get_or ls i 0)) m ≡ bits_at c at (total i (λ i. get_or ls i 0)) m
      go i h zero e = bits_none at _
      go i h (suc m) e =
          let f : ℕ → ℕ = λ i. get_or ls i 0 in
          let z : n - (i + 1) + (i + 1) ≡ n = omega arith in
          let y : total (i + 1) f ≤ total n f = rw (z) at (total-le f (i + 1) (n - (i + 1))) in
          bits-front at (total n f) (total i f) (suc m) o l (omega (arith, y, total-more i f, e))

  -- the word behind the codes is looked at with their last one
  table-front : (at : ℕ) {t : Table} → table_at s at ≡ ok t → j ≤ at → t.start + 4 ≤ k → table_at c at ≡ ok t
  unfolding table_at
  table-front at {t} e o l =
      let p = table-parts s at e in
      let n = p.range.count in
      let d = p.lengths in
      let z : (table_of s p.range d).start ≡ t.start = ap (λ (x : Table). x.start) p.whole in
      let i = (counts-ends s (at + 16) (lengths-are s (at + 16) n p.lengths-is).0).0 in
      rw (
        ← range_front at o (omega (arith, i, z)),
        p.range-is,
        lengths-front (at + 16) n p.lengths-is (omega arith) (omega (arith, z)),
        le-leb (table_of s p.range d).start (length c) (omega (arith, z)),
        ← codes-front d.next n d.values (omega (arith, i)) (omega (arith, z)),
        p.free,
      ) (ap ok p.whole)

  -- ---- the symbols, where no length is above 32 and the end of so many bits lies below k

  module _ (t : Table) (bits : ℕ) (narrow : (i : ℕ) → i < t.range.count → length_of t i ≤ 32) (behind : j ≤ t.start) (inside : end_of t.start bits ≤ k) where
    agrees-front : (p i : ℕ) → p < bits → i < t.range.count → agrees s t p i ≡ agrees c t p i
    unfolding agrees
    agrees-front p i h l =
        let m = narrow i l in
        let x : min (length_of t i) (bits_there s t.start - p) ≡ length_of t i = omega arith in
        let y : min (length_of t i) (bits_there c t.start - p) ≡ length_of t i = omega arith in
        rw (x, y, bits-front t.start bits p (length_of t i) behind inside h)

    symbol-front : (p : ℕ) {x : Symbol} → p < bits → symbol_at s t p ≡ ok x → symbol_at c t p ≡ ok x
    unfolding symbol_at
    symbol-front p {x} h e =
        let n = t.range.count in
        let k = first_of n (agrees s t p) in
        let (_, q, e) = bind_is (require (ltb k n) 8) _ e in
        let (_, _, e) = bind_is (require (leb (p + length_of t k) (bits_there s t.start)) 1) _ e in
        let m = narrow k (ltb-true k n (require-is _ 8 q)) in
        rw (
          ← first-same n (agrees s t p) (agrees c t p) (λ i l. agrees-front p i h l),
          require-is (ltb k n) 8 q,
          le-leb (p + length_of t k) (bits_there c t.start) (omega arith),
        ) e

    symbols-front : (n p : ℕ) {r : Run} → r.bits ≤ bits → symbols_from s t n p ≡ ok r → symbols_from c t n p ≡ ok r
    unfolding symbols_from
    symbols-front zero p h e = e
    symbols-front (suc n) p {r} h e =
        let (x, a, e) = bind_is (symbol_at s t p) _ e in
        let (y, b, e) = bind_is (symbols_from s t n x.next) _ e in
        let z : y.bits ≡ r.bits = ap (λ (y : Run). y.bits) (ok-is e) in
        let o = symbol-on s t p a in
        let l = symbols-on s t n x.next b in
        rw (symbol-front p (omega (arith, z)) a, symbols-front n x.next (omega (arith, z)) b) e

-- ---- the image

-- its lengths are at most 32
table-narrow : (s : List ℕ) (at : ℕ) {t : Table} → table_at s at ≡ ok t → (i : ℕ) → i < t.range.count → length_of t i ≤ 32
table-narrow s at e =
    let p = table-parts s at e in
    rw (← p.whole) (lengths-are s (at + 16) p.range.count p.lengths-is).1

-- from behind its mode byte on it takes more than 16 bytes, and it ends within
pub image-bounds : (s : List ℕ) (h : Header) (mode : ℕ) {x : Coded} → image_at s h mode ≡ ok x → (mode + 17 ≤ x.end) × (x.end ≤ length s)
unfolding image_at
image-bounds s h mode e =
    let g = image-parts s (mode + 1) (h.valid * h.depth) (marked-is mode _ e) in
    (omega (arith, (table-ends s (mode + 1) g.table_is).0, g.end), g.inside)

-- bytes in front of it and behind its end are not looked at, nor how many there are
pub image-front : (s c : List ℕ) (h : Header) (mode : ℕ) {x : Coded} → image_at s h mode ≡ ok x → ((i : ℕ) → mode + 1 ≤ i → i < x.end → get_or s i 0 ≡ get_or c i 0) → x.end ≤ length c
    → image_at c h mode ≡ ok x
unfolding image_at coded_at
image-front s c h mode {x} e same room =
    let n = h.valid * h.depth in
    let g = image-parts s (mode + 1) n (marked-is mode _ e) in
    let t = g.table in
    let b = (table-ends s (mode + 1) g.table_is).0 in
    let z = g.end in
    rw (
      table-front s c (mode + 1) x.end same g.inside room (mode + 1) g.table_is (omega arith) (omega (arith, z)),
      symbols-front s c (mode + 1) x.end same g.inside room t g.run.bits (table-narrow s (mode + 1) g.table_is) (omega (arith, b)) (omega (arith, z)) n 0 (omega arith) g.run_is,
      le-leb (end_of t.start g.run.bits) (length c) (omega (arith, z)),
    ) (ap ok g.whole)
