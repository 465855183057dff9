-- The reader that takes one bit after the other finds each symbol as it is defined, and refuses with the same number.
-- Assumes nothing.
use mathlib.Core.Path.{◌≡◌, ◌∙◌, sym, ap, refl}
use mathlib.Core.Logic.{◌≢◌}
use mathlib.Core.Bool.{Bool, true, false, cond, ◌&&◌}
use mathlib.Core.List.{List}
use Prim.Native.Nat.{ℕ, zero, suc, ◌+◌, ◌-◌, ◌/◌, ◌^◌, ◌≤◌, ◌<◌, min}
use native.Mathlib.Omega.{arith}
use native.Mathlib.Decide.{dec_le}
use lib.Dec.{ltb, eqb}
use lib.Pow.{shr-shr}
use borrow.Author.Tests.{ltb-true, ltb-false, eqb-true, lt-ltb, le-ltb, lt-leb, eq-eqb}
use Rattle.lerc_words.specs.Res.{Res, ok, fail, ◌>>=◌, refuse, require}
use Rattle.lerc_words.proofs.Binding.{and_is}
use Rattle.lerc_byte_image.specs.Table.{Table, table_at, bits_at, length_of, code_of}
use Rattle.lerc_byte_image.specs.Symbols.{first_of, bits_there, agrees, Symbol, symbol_at}
use Rattle.lerc_byte_image.proofs.BitLaws.{bits-cut}
use Rattle.lerc_byte_image.proofs.Finding.{first-none, first-lt, first-has}
use Rattle.lerc_byte_image.proofs.Kept.{table_kept}
use Rattle.lerc_byte_image.proofs.OneCode.{Alike, agrees-is, is-agrees, whole_code}
use Rattle.lerc_byte_theorems.specs.Reader.{symbol_by, is_code, goes_on, read_on}
use Rattle.lerc_byte_theorems.specs.Images.{BitByBit}
use Rattle.lerc_byte_theorems.proofs.Codes.{code-symbol}

-- ---- what the two tests say

module _ (s : List ℕ) (t : Table) (p n k : ℕ) where
  code_is : is_code s t p n k ≡ true → (0 < n) × (length_of t k ≡ n) × (code_of t k ≡ bits_at s t.start p n)
  unfolding is_code
  code_is e =
      let (b, c) = and_is (ltb 0 n && eqb (length_of t k) n) _ e in
      let (a, b) = and_is (ltb 0 n) _ b in
      (ltb-true 0 n a, eqb-true _ _ b, eqb-true _ _ c)

  is-code : 0 < n → length_of t k ≡ n → code_of t k ≡ bits_at s t.start p n → is_code s t p n k ≡ true
  unfolding is_code
  is-code a b c = rw (lt-ltb 0 n a, eq-eqb _ _ b, eq-eqb _ _ c)

  on-is : goes_on s t p n k ≡ true → (n < length_of t k) × (code_of t k / 2 ^ (length_of t k - n) ≡ bits_at s t.start p n)
  unfolding goes_on
  on-is e =
      let (a, b) = and_is (ltb n (length_of t k)) _ e in
      (ltb-true _ _ a, eqb-true _ _ b)

  is-on : n < length_of t k → code_of t k / 2 ^ (length_of t k - n) ≡ bits_at s t.start p n → goes_on s t p n k ≡ true
  unfolding goes_on
  is-on a b = rw (lt-ltb n (length_of t k) a, eq-eqb _ _ b)

-- ---- when a symbol is refused

none : (b : Bool) → (b ≡ true → ⊥) → b ≡ false
none true f = absurd (f refl)
none false f = refl

-- where one is not below the bound, none has the property
never : (n k : ℕ) (p : ℕ → Bool) → ltb (first_of n p) n ≡ false → k < n → p k ≡ true → ⊥
never n k p e l h = let a = first-lt n k p l h in let b = ltb-false (first_of n p) n e in omega (arith, a, b)

module _ (s : List ℕ) (t : Table) (p : ℕ) where
  unknown : ((k : ℕ) → k < t.range.count → agrees s t p k ≡ true → ⊥) → symbol_at s t p ≡ fail (refuse 8)
  unfolding symbol_at
  unknown f =
      let n = t.range.count in
      let z = first-none n (agrees s t p) (λ k l. none (agrees s t p k) (f k l)) in
      rw (z, le-ltb n n (omega arith))

  -- a code begins with the bits that are there, and none is whole
  cut_off : (k : ℕ) → k < t.range.count → agrees s t p k ≡ true → ((i : ℕ) → i < t.range.count → agrees s t p i ≡ true → bits_there s t.start < p + length_of t i)
      → symbol_at s t p ≡ fail (refuse 1)
  unfolding symbol_at
  cut_off k l a f =
      let n = t.range.count in
      let i = first_of n (agrees s t p) in
      let b = first-lt n k (agrees s t p) l a in
      rw (lt-ltb i n b, lt-leb (p + length_of t i) (bits_there s t.start) (f i b (first-has n (agrees s t p) b)))

-- ---- bit by bit

read_more : (s : List ℕ) (t : Table) (p more n : ℕ) → read_on s t p (suc more) n
    ≡ cond (ltb (first_of t.range.count (is_code s t p n)) t.range.count) (ok (symbol_by t p (first_of t.range.count (is_code s t p n))))
    (require (ltb (first_of t.range.count (goes_on s t p n)) t.range.count) 8 >>= λ _. require (ltb (p + n) (bits_there s t.start)) 1 >>= λ _. read_on s t p more (n + 1))
unfolding read_on
read_more s t p more n = refl

read_none : (s : List ℕ) (t : Table) (p n : ℕ) → read_on s t p 0 n ≡ fail (refuse 8)
unfolding read_on
read_none s t p n = refl

module _ (s : List ℕ) (at : ℕ) (t : Table) (e : table_at s at ≡ ok t) (p : ℕ) where
  abbrev there : ℕ
  there = bits_there s t.start

  -- no code of fewer than n bits begins them
  abbrev Missed : ℕ → Type 0
  Missed n = (k : ℕ) → k < t.range.count → 0 < length_of t k → length_of t k < n → code_of t k ≢ bits_at s t.start p (length_of t k)

  narrow : (k : ℕ) → length_of t k ≤ 32
  narrow = (table_kept s at t e).0.narrow

  -- a code that agrees has more than n bits, where n are there
  longer : (n : ℕ) → (0 < n → p + n ≤ there) → Missed (n + 1) → (k : ℕ) → k < t.range.count → agrees s t p k ≡ true → n < length_of t k
  longer n inside missed k l a = go (dec_le (length_of t k) n)
    where
      b : Alike s t p k
      b = agrees-is s t p k a

      go : Dec (length_of t k ≤ n) → n < length_of t k
      go (yes m) =
          let some = b.some in
          let o = inside (omega arith) in
          let w : p + length_of t k ≤ there = omega (arith, o) in
          absurd (missed k l some (omega arith) (whole_code s t p k b w))
      go (no m) = omega arith

  -- the first n bits of one that agrees
  front : (n k : ℕ) → (0 < n → p + n ≤ there) → n ≤ length_of t k → agrees s t p k ≡ true → code_of t k / 2 ^ (length_of t k - n) ≡ bits_at s t.start p n
  front n k inside l a =
      let b = agrees-is s t p k a in
      let m : n ≤ b.n = least n inside b.is l in
      let o : b.n ≤ length_of t k = omega (arith, b.is) in
      let h : b.n ≤ 32 = omega (arith, narrow k) in
      let d : length_of t k - b.n + (b.n - n) ≡ length_of t k - n = omega arith in
      ap (λ (x : ℕ). code_of t k / 2 ^ x) (sym d) ∙ sym (shr-shr (code_of t k) (length_of t k - b.n) (b.n - n)) ∙ ap (λ (x : ℕ). x / 2 ^ (b.n - n)) b.same ∙ sym (bits-cut s t.start p m h)
    where
      least : (n : ℕ) → (0 < n → p + n ≤ there) → {x : ℕ} → x ≡ min (length_of t k) (there - p) → n ≤ length_of t k → n ≤ x
      least zero f e l = omega arith
      least (suc n) f e l = let o = f (omega arith) in omega (arith, o, e)

  read-on : (more n : ℕ) → n + more ≡ 33 → (0 < n → p + n ≤ there) → Missed n → read_on s t p more n ≡ symbol_at s t p
  read-on zero n d inside missed =
      let z : n ≡ 32 + 1 = omega arith in
      let i = inside (omega arith) in
      read_none s t p n ∙ sym (unknown s t p (λ k l a. let o = longer 32 (λ _. omega (arith, i)) (rw (z) at missed) k l a in let m = narrow k in omega (arith, o, m)))
  read-on (suc more) n d inside missed =
      read_more s t p more n ∙ one (ltb (first_of count (is_code s t p n)) count) refl (read-on more (n + 1) (omega arith))
    where
      count : ℕ
      count = t.range.count

      next : Res Symbol
      next = read_on s t p more (n + 1)

      further : ltb (first_of count (is_code s t p n)) count ≡ false → Missed (n + 1)
      further f k l some short same = go (dec_le n (length_of t k))
        where
          go : Dec (n ≤ length_of t k) → ⊥
          go (yes m) =
              let z : length_of t k ≡ n = omega arith in
              never count k (is_code s t p n) f l (is-code s t p n k (omega (arith, some, z)) z (rw (z) at same))
          go (no m) = missed k l some (omega arith) same

      three : (x : Bool) → ltb (p + n) there ≡ x → Missed (n + 1) → (k : ℕ) → k < count → goes_on s t p n k ≡ true → ((p + (n + 1) ≤ there) → next ≡ symbol_at s t p)
          → (require x 1 >>= λ _. next) ≡ symbol_at s t p
      three true f m k l g on = on (let a = ltb-true (p + n) there f in omega (arith, a))
      three false f m k l g on =
          let o = ltb-false (p + n) there f in
          let (long, same) = on-is s t p n k g in
          let is : n ≡ min (length_of t k) (there - p) = all n inside long o in
          let a = is-agrees s t p k (record { n = n; is = is; some = omega (arith, long); same = same }) in
          sym (cut_off s t p k l a (λ i u v. let w = longer n inside m i u v in omega (arith, o, w)))
        where
          all : (n : ℕ) → (0 < n → p + n ≤ there) → n < length_of t k → there ≤ p + n → n ≡ min (length_of t k) (there - p)
          all zero f l o = omega arith
          all (suc n) f l o = let i = f (omega arith) in omega (arith, i)

      two : (x : Bool) → ltb (first_of count (goes_on s t p n)) count ≡ x → Missed (n + 1) → ((p + (n + 1) ≤ there) → next ≡ symbol_at s t p)
          → (require x 8 >>= λ _. require (ltb (p + n) there) 1 >>= λ _. next) ≡ symbol_at s t p
      two true f m on =
          let l = ltb-true _ _ f in
          three (ltb (p + n) there) refl m (first_of count (goes_on s t p n)) l (first-has count (goes_on s t p n) l) on
      two false f m on = sym (unknown s t p (λ k l a. never count k (goes_on s t p n) f l (let o = longer n inside m k l a in is-on s t p n k o (front n k inside (omega (arith, o)) a))))

      one : (x : Bool) → ltb (first_of count (is_code s t p n)) count ≡ x → ((0 < n + 1 → p + (n + 1) ≤ there) → Missed (n + 1) → next ≡ symbol_at s t p)
          → cond x (ok (symbol_by t p (first_of count (is_code s t p n)))) (require (ltb (first_of count (goes_on s t p n)) count) 8 >>= λ _. require (ltb (p + n) there) 1 >>= λ _. next) ≡ symbol_at s t p
      one true f on =
          let l = ltb-true _ _ f in
          let k = first_of count (is_code s t p n) in
          let (some, long, same) = code_is s t p n k (first-has count (is_code s t p n) l) in
          let i = inside some in
          sym (code-symbol s at p k e (record { below = l; some = omega (arith, some, long); inside = omega (arith, long, i); bits = rw (long) (sym same) }))
      one false f on = two (ltb (first_of count (goes_on s t p n)) count) refl (further f) (λ i. on (λ _. i) (further f))

pub bit-by-bit : BitByBit
bit-by-bit s at t p e = read-on s at t e p 33 0 refl (λ l. absurd (omega arith)) (λ k l some short. absurd (omega arith))
