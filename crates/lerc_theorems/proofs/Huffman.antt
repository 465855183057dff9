-- When a Huffman image is refused: the table holds exactly.
-- Assumes nothing.
use mathlib.Core.Path.{◌≡◌, ap, refl}
use mathlib.Core.Logic.{◌↔◌, ◌≢◌, ⊎_elim}
use mathlib.Core.Bool.{Bool, true, false, not, ◌&&◌}
use mathlib.Core.List.{List, [], ◌∷◌}
use Prim.Native.Nat.{ℕ, zero, suc, ◌+◌, ◌-◌, ◌*◌, ◌≤◌, ◌<◌}
use native.Mathlib.Omega.{arith}
use native.Mathlib.Decide.{dec_lt, dec_le}
use lib.ListN.{length, get_or}
use lib.Dec.{leb, ltb, eqb}
use borrow.Author.Tests.{ltb-true, ltb-false, lt-ltb, le-ltb, leb-true, leb-false, le-leb, lt-leb, eqb-true, eqb-false, eq-eqb, ne_eqb, not-false}
use Rattle.lerc_words.specs.declared.Refusal.{Refusal}
use Rattle.lerc_words.specs.Res.{ok, fail, refuse, word_at}
use Rattle.lerc_words.specs.Lists.{total, all_to}
use Rattle.lerc_words.proofs.Binding.{bind_is, ok-is}
use Rattle.lerc_words.proofs.Little.{word_at-fails, word_at-no}
use Rattle.lerc_words.proofs.Tables.{all_true, all-fails}
use Rattle.lerc_bits.specs.Bits.{counts}
use Rattle.lerc_header.specs.declared.Header.{Header}
use Rattle.lerc_byte_image.specs.Table.{Table, range_at, lengths_at, length_of, begins, prefix_free, table_at}
use Rattle.lerc_byte_image.specs.Symbols.{first_of, bits_there, agrees, Symbol, symbol_at, Run, symbols_from, end_of, coded_at}
use Rattle.lerc_byte_image.specs.Image.{image_at}
use Rattle.lerc_byte_image.specs.Parts.{Kept}
use Rattle.lerc_byte_image.proofs.Kept.{table_kept}
use Rattle.lerc_byte_image.proofs.Finding.{first-none, first-has, first-before, first-lt}
use Rattle.lerc_byte_image.proofs.OneCode.{one_code}
use Rattle.lerc_theorems.specs.HuffmanTable.{RangeRefused, version-cut, version_low, size-cut, size-high, first-cut, first-high, end-cut, end_low, end-high, LengthsRefused, lengths-unread, lengths-miscounted, length_high, lengths-zero, codes_end, table_of, TableRefused, range-refused, lengths-refused, codes-cut, code-begins, SymbolRefused, code-unknown, code-cut, SymbolsRefused, symbol-refused, ImageRefused, table-refused, symbols-refused, word-after-cut, HuffmanRefused}
use Rattle.lerc_theorems.proofs.Demands.{demand, reading, reading-one, not-refused, marked-exactly, and-not, and_second}
use Rattle.lerc_theorems.proofs.Blocks.{word-one, counts-exactly}

-- ---- tests of all places

-- where not all have the property, one has not
some : (n : ℕ) (p : ℕ → Bool) → all_to n p ≡ false → (i : ℕ) × (i < n) × (p i ≡ false)
unfolding all_to
some zero p e = absurd (let z : ◌≡◌ {A = ℕ} 0 1 = cc in omega arith)
some (suc n) p e =
    ⊎_elim (λ d. let (i, l, f) = some n p d in (i, omega arith, f)) (λ d. (n, omega arith, d)) (and-not (all_to n p) (p n) e)

-- a sum is 0 where each of its parts is, and nowhere else
total-none : (n : ℕ) (f : ℕ → ℕ) → total n f ≡ 0 → (k : ℕ) → k < n → f k ≡ 0
unfolding total
total-none zero f e k l = absurd (omega arith)
total-none (suc n) f e k l = go (dec_lt k n) (total-none n f (omega arith))
  where
    go : Dec (k < n) → ((k : ℕ) → k < n → f k ≡ 0) → f k ≡ 0
    go (yes d) h = h k d
    go (no d) h = let z : k ≡ n = omega arith in rw (z) (omega arith)

none-total : (n : ℕ) (f : ℕ → ℕ) → ((k : ℕ) → k < n → f k ≡ 0) → total n f ≡ 0
unfolding total
none-total zero f h = refl
none-total (suc n) f h = omega (arith, none-total n f (λ k l. h k (omega arith)), h n (omega arith))

-- ---- the four integers

module _ (s : List ℕ) where
  range_at_lem : {j : Refusal} (at : ℕ) → range_at s at ≡ fail j → RangeRefused s at j
  unfolding range_at
  range_at_lem at e =
      let P = RangeRefused s at in
      reading-one P 1 (word_at 4 s at) _ (word-one 4 s at) e (λ d. version-cut (word_at-fails 4 s at d)) (λ version a e.
      demand P (leb 2 version) 8 _ e (λ t. version_low version a (leb-false _ _ t)) (λ t e.
      let v = leb-true 2 version t in
      reading-one P 1 (word_at 4 s (at + 4)) _ (word-one 4 s (at + 4)) e (λ d. size-cut version a v (let w = word_at-fails 4 s (at + 4) d in omega arith)) (λ size b e.
      demand P (leb size 256) 8 _ e (λ t. size-high version size a v b (leb-false _ _ t)) (λ t e.
      let z = leb-true size 256 t in
      reading-one P 1 (word_at 4 s (at + 8)) _ (word-one 4 s (at + 8)) e (λ d. first-cut version size a v b z (let w = word_at-fails 4 s (at + 8) d in omega arith)) (λ first c e.
      demand P (ltb first size) 8 _ e (λ t. first-high version size first a v b z c (ltb-false _ _ t)) (λ t e.
      let f = ltb-true first size t in
      reading-one P 1 (word_at 4 s (at + 12)) _ (word-one 4 s (at + 12)) e (λ d. end-cut version size first a v b z c f (let w = word_at-fails 4 s (at + 12) d in omega arith)) (λ end d e.
      demand P (leb 1 (end - first) && leb (end - first) size) 8 _ e
      (λ t. ⊎_elim (λ u. end_low version size first end a v b z c f d (let w = leb-false 1 (end - first) u in omega arith))
      (λ u. end-high version size first end a v b z c f d (let w = leb-false (end - first) size u in omega arith)) (and-not (leb 1 (end - first)) _ t))
      (λ t e. not-refused e))))))))

  at-range : {j : Refusal} {at : ℕ} → RangeRefused s at j → range_at s at ≡ fail j
  unfolding range_at
  at-range {at = at} (version-cut l) = rw (word_at-no 4 s at l)
  at-range (version_low version a l) = rw (a, lt-leb _ _ l)
  at-range {at = at} (size-cut version a v l) = rw (a, le-leb _ _ v, word_at-no 4 s (at + 4) (omega arith))
  at-range (size-high version size a v b l) = rw (a, le-leb _ _ v, b, lt-leb _ _ l)
  at-range {at = at} (first-cut version size a v b z l) = rw (a, le-leb _ _ v, b, le-leb _ _ z, word_at-no 4 s (at + 8) (omega arith))
  at-range (first-high version size first a v b z c l) = rw (a, le-leb _ _ v, b, le-leb _ _ z, c, le-ltb _ _ l)
  at-range {at = at} (end-cut version size first a v b z c f l) = rw (a, le-leb _ _ v, b, le-leb _ _ z, c, lt-ltb _ _ f, word_at-no 4 s (at + 12) (omega arith))
  at-range (end_low version size first end a v b z c f d l) =
      let w : end - first < 1 = omega arith in
      rw (a, le-leb _ _ v, b, le-leb _ _ z, c, lt-ltb _ _ f, d, lt-leb _ _ w)
  at-range (end-high version size first end a v b z c f d l) =
      let w : size < end - first = omega arith in
      let u : 1 ≤ end - first = omega arith in
      rw (a, le-leb _ _ v, b, le-leb _ _ z, c, lt-ltb _ _ f, d, le-leb _ _ u, lt-leb _ _ w)

  pub range-exactly : (at : ℕ) (j : Refusal) → (range_at s at ≡ fail j) ↔ RangeRefused s at j
  range-exactly at j = (range_at_lem at, at-range)

  -- ---- the lengths

  lengths-at : {j : Refusal} (at n : ℕ) → lengths_at s at n ≡ fail j → LengthsRefused s at n j
  unfolding lengths_at
  lengths-at {j} at n e =
      let P = LengthsRefused s at n in
      reading P (counts s at) _ e (λ d. lengths-unread ((counts-exactly s at j).0 d)) (λ c d e.
      demand P (eqb (length c.values) n) 8 _ e (λ t. lengths-miscounted c d (eqb-false _ _ t)) (λ t e.
      let m = eqb-true (length c.values) n t in
      demand P (all_to n (λ k. leb (get_or c.values k 0) 32)) 8 _ e
      (λ t. let (k, l, f) = some n (λ k. leb (get_or c.values k 0) 32) t in length_high c k d m l (leb-false _ _ f)) (λ t e.
      demand P (ltb 0 (total n (λ k. get_or c.values k 0))) 8 _ e
      (λ t. lengths-zero c d m (total-none n (λ k. get_or c.values k 0) (let w = ltb-false 0 (total n (λ k. get_or c.values k 0)) t in omega arith)))
      (λ t e. not-refused e))))

  at-lengths : {j : Refusal} {at n : ℕ} → LengthsRefused s at n j → lengths_at s at n ≡ fail j
  unfolding lengths_at
  at-lengths {j} {at} (lengths-unread r) = rw ((counts-exactly s at j).1 r)
  at-lengths (lengths-miscounted c d m) = rw (d, ne_eqb _ _ m)
  at-lengths {n = n} (length_high c k d m l h) = rw (d, eq-eqb _ _ m, all-fails n k (λ k. leb (get_or c.values k 0) 32) l (lt-leb _ _ h))
  at-lengths {n = n} (lengths-zero c d m h) =
      let low : all_to n (λ k. leb (get_or c.values k 0) 32) ≡ true = all_true n _ (λ k l. rw (h k l)) in
      rw (d, eq-eqb _ _ m, low, none-total n (λ k. get_or c.values k 0) h)

  pub lengths-exactly : (at n : ℕ) (j : Refusal) → (lengths_at s at n ≡ fail j) ↔ LengthsRefused s at n j
  lengths-exactly at n j = (lengths-at at n, at-lengths)

-- ---- the codes

-- one code begins another
module _ (t : Table) where
  abbrev apart : ℕ → ℕ → Bool
  apart k i = not (begins t i k) && not (begins t k i)

  free-not : prefix_free t ≡ false → (i : ℕ) × (k : ℕ) × (i < t.range.count) × (k < t.range.count) × (i ≢ k) × (begins t i k ≡ true)
  unfolding prefix_free
  free-not e =
      let (k, l, f) = some t.range.count (λ k. all_to k (apart k)) e in
      let (i, m, g) = some k (apart k) f in
      ⊎_elim (λ d. (i, k, omega arith, l, (λ z. let w : i ≡ k = z in absurd (omega arith)), not-false _ d))
      (λ d. (k, i, l, omega arith, (λ z. let w : k ≡ i = z in absurd (omega arith)), not-false _ d)) (and-not (not (begins t i k)) (not (begins t k i)) g)

  not_free : (i k : ℕ) → i < t.range.count → k < t.range.count → i ≢ k → begins t i k ≡ true → prefix_free t ≡ false
  unfolding prefix_free
  not_free i k l m d e = go (dec_lt i k)
    where
      go : Dec (i < k) → all_to t.range.count (λ k. all_to k (apart k)) ≡ false
      go (yes q) = all-fails t.range.count k _ m (all-fails k i (apart k) q (rw (e)))
      go (no q) =
          let w : k < i = omega (arith, d) in
          all-fails t.range.count i _ l (all-fails i k (apart i) w (and_second (not (begins t k i)) _ (rw (e))))

module _ (s : List ℕ) where
  table-at : {j : Refusal} (at : ℕ) → table_at s at ≡ fail j → TableRefused s at j
  unfolding table_at
  table-at at e =
      let P = TableRefused s at in
      reading P (range_at s at) _ e (λ d. range-refused (range_at_lem s at d)) (λ r a e.
      reading P (lengths_at s (at + 16) r.count) _ e (λ d. lengths-refused r.size r.first r.count a (lengths-at s (at + 16) r.count d)) (λ c b e.
      demand P (leb (codes_end r.count c) (length s)) 1 _ e (λ t. codes-cut r.size r.first r.count c a b (leb-false _ _ t)) (λ t e.
      let t = leb-true (codes_end r.count c) (length s) t in
      let table = table_of s r.size r.first r.count c in
      demand P (prefix_free table) 8 _ e (λ u. let (i, k, l, m, d, f) = free-not table u in code-begins r.size r.first r.count c i k a b t l m d f) (λ u e. not-refused e))))

  at_table : {j : Refusal} {at : ℕ} → TableRefused s at j → table_at s at ≡ fail j
  unfolding table_at
  at_table (range-refused r) = rw (at-range s r)
  at_table (lengths-refused size first n a r) = rw (a, at-lengths s r)
  at_table (codes-cut size first n c a b l) = rw (a, b, lt-leb _ _ l)
  at_table (code-begins size first n c i k a b t l m d f) = rw (a, b, le-leb _ _ t, not_free (table_of s size first n c) i k l m d f)

  pub table-exactly : (at : ℕ) (j : Refusal) → (table_at s at ≡ fail j) ↔ TableRefused s at j
  table-exactly at j = (table-at at, at_table)

-- ---- the symbols

module _ (s : List ℕ) (t : Table) where
  symbol-at : {j : Refusal} (p : ℕ) → symbol_at s t p ≡ fail j → SymbolRefused s t p j
  unfolding symbol_at
  symbol-at p e =
      let P = SymbolRefused s t p in
      let n = t.range.count in
      let k = first_of n (agrees s t p) in
      demand P (ltb k n) 8 _ e (λ u. let w = ltb-false k n u in code-unknown (λ i l. first-before n (agrees s t p) i (omega arith))) (λ u e.
      let l = ltb-true k n u in
      demand P (leb (p + length_of t k) (bits_there s t.start)) 1 _ e (λ u. code-cut k l (first-has n (agrees s t p) l) (leb-false _ _ u)) (λ u e. not-refused e))

  symbols-at : {j : Refusal} (n p : ℕ) → symbols_from s t n p ≡ fail j → SymbolsRefused s t n p j
  unfolding symbols_from
  symbols-at zero p e = not-refused e
  symbols-at {j} (suc n) p e =
      let P = SymbolsRefused s t (suc n) p in
      reading P (symbol_at s t p) _ e (λ d. symbol-refused 0 (record { values = []; bits = p }) (omega arith) refl (symbol-at p d)) (λ x d e.
      reading P (symbols_from s t n x.next) _ e (λ q. later x d (symbols-at n x.next q)) (λ r q e. not-refused e))
    where
      later : (x : Symbol) → symbol_at s t p ≡ ok x → SymbolsRefused s t n x.next j → SymbolsRefused s t (suc n) p j
      later x d (symbol-refused k r l q w) = symbol-refused (suc k) (record { values = x.value ∷ r.values; bits = r.bits }) (omega arith) (rw (d, q)) w

  -- a symbol that is refused behind right ones
  refused-behind : {j : Refusal} (n p k : ℕ) (r : Run) → k < n → symbols_from s t k p ≡ ok r → symbol_at s t r.bits ≡ fail j → symbols_from s t n p ≡ fail j
  unfolding symbols_from
  refused-behind zero p k r l e f = absurd (omega arith)
  refused-behind (suc n) p zero r l e f =
      let z : p ≡ r.bits = ap (λ (x : Run). x.bits) (ok-is e) in
      rw (rw (← z) at f)
  refused-behind {j} (suc n) p (suc k) r l e f =
      let (x, d, e) = bind_is (symbol_at s t p) _ e in
      let (y, g, e) = bind_is (symbols_from s t k x.next) _ e in
      let z : y.bits ≡ r.bits = ap (λ (x : Run). x.bits) (ok-is e) in
      rw (d, refused-behind {j = j} n x.next k y (omega arith) g (rw (← z) at f))

  -- of a prefix-free table: a code that agrees and passes the end is the one that is found, or that one passes it too
  module _ (kept : Kept t) where
    at_symbol : {j : Refusal} {p : ℕ} → SymbolRefused s t p j → symbol_at s t p ≡ fail j
    unfolding symbol_at
    at_symbol {p = p} (code-unknown f) =
        let n = t.range.count in
        rw (first-none n (agrees s t p) f, le-ltb n n (omega arith))
    at_symbol {p = p} (code-cut k l a c) = go (dec_le (p + length_of t i) (bits_there s t.start))
      where
        n : ℕ
        n = t.range.count

        i : ℕ
        i = first_of n (agrees s t p)

        below : i < n
        below = first-lt n k (agrees s t p) l a

        go : Dec (p + length_of t i ≤ bits_there s t.start) → symbol_at s t p ≡ fail (refuse 1)
        go (yes w) =
            let z : i ≡ k = one_code s t p i k kept below l (first-has n (agrees s t p) below) a w in
            absurd (let w : p + length_of t k ≤ bits_there s t.start = rw (z) at w in omega arith)
        go (no w) = let w : bits_there s t.start < p + length_of t i = omega arith in rw (lt-ltb _ _ below, lt-leb _ _ w)

    pub symbol-exactly : (p : ℕ) (j : Refusal) → (symbol_at s t p ≡ fail j) ↔ SymbolRefused s t p j
    symbol-exactly p j = (symbol-at p, at_symbol)

    at-symbols : {j : Refusal} {n p : ℕ} → SymbolsRefused s t n p j → symbols_from s t n p ≡ fail j
    at-symbols {n = n} {p = p} (symbol-refused k r l e f) = refused-behind n p k r l e (at_symbol f)

    pub symbols-exactly : (n p : ℕ) (j : Refusal) → (symbols_from s t n p ≡ fail j) ↔ SymbolsRefused s t n p j
    symbols-exactly n p j = (symbols-at n p, at-symbols)

-- ---- the image

module _ (s : List ℕ) where
  coded-at : {j : Refusal} (at n : ℕ) → coded_at s at n ≡ fail j → ImageRefused s at n j
  unfolding coded_at
  coded-at at n e =
      let P = ImageRefused s at n in
      reading P (table_at s at) _ e (λ d. table-refused (table-at s at d)) (λ t a e.
      reading P (symbols_from s t n 0) _ e (λ d. symbols-refused t a (symbols-at s t n 0 d)) (λ r b e.
      demand P (leb (end_of t.start r.bits) (length s)) 1 _ e (λ u. word-after-cut t r a b (leb-false _ _ u)) (λ u e. not-refused e)))

  at-coded : {j : Refusal} {at n : ℕ} → ImageRefused s at n j → coded_at s at n ≡ fail j
  unfolding coded_at
  at-coded (table-refused r) = rw (at_table s r)
  at-coded {at = at} (symbols-refused t a r) = rw (a, at-symbols s t (table_kept s at t a).0 r)
  at-coded (word-after-cut t r a b l) = rw (a, b, lt-leb (end_of t.start r.bits) (length s) l)

  pub coded-exactly : (at n : ℕ) (j : Refusal) → (coded_at s at n ≡ fail j) ↔ ImageRefused s at n j
  coded-exactly at n j = (coded-at at n, at-coded)

  -- told at the mode byte's place
  pub image-exactly : (h : Header) (mode : ℕ) (j : Refusal) → (image_at s h mode ≡ fail j) ↔ HuffmanRefused s h mode j
  unfolding image_at
  image-exactly h mode j = marked-exactly mode (coded_at s (mode + 1) (h.valid * h.depth)) (coded-exactly (mode + 1) (h.valid * h.depth)) j
