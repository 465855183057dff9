-- Of prefix-free codes at most one begins the bits at a place: a symbol is a function of its place.
-- Assumes nothing.
use Rattle.std.proofs.Common.{◌≡◌, ℕ, ◌+◌, ◌-◌, ◌/◌, ◌^◌, ◌<◌, ◌≤◌, min, true, false, ltb, ◌≢◌, List, sym, refl, ap, ◌∙◌, div-one, arith, shr-shr, ltb-true, lt-ltb, eq-eqb, eqb-true, le-leb}
use native.Mathlib.Decide.{dec_lt}
use borrow.Author.Tests.{not-true}
use Rattle.lerc_words.proofs.Tables.{all-each}
use Rattle.lerc_words.proofs.Binding.{and_is}
use Rattle.lerc_byte_image.specs.Table.{Table, length_of, code_of, bits_at, begins, prefix_free}
use Rattle.lerc_byte_image.specs.Symbols.{bits_there, agrees}
use Rattle.lerc_byte_image.specs.Parts.{Kept}
use Rattle.lerc_byte_image.specs.SymbolParts.{begun}
use Rattle.lerc_byte_image.proofs.BitLaws.{bits-cut}

-- what it says that code k agrees with the bits from bit p on, of which n count
pub record Alike (s : List ℕ) (t : Table) (p k : ℕ) : Type 0 where
  pub n : ℕ
  pub is : n ≡ min (length_of t k) (bits_there s t.start - p)
  pub some : 0 < length_of t k
  pub same : code_of t k / 2 ^ (length_of t k - n) ≡ bits_at s t.start p n

pub agrees-is : (s : List ℕ) (t : Table) (p k : ℕ) → agrees s t p k ≡ true → Alike s t p k
unfolding agrees
agrees-is s t p k e =
    let (a, b) = and_is (ltb 0 (length_of t k)) _ e in
    record { n = min (length_of t k) (bits_there s t.start - p); is = refl; some = ltb-true _ _ a; same = eqb-true _ _ b }

pub is-agrees : (s : List ℕ) (t : Table) (p k : ℕ) → Alike s t p k → agrees s t p k ≡ true
unfolding agrees
is-agrees s t p k a = rw (← a.is, lt-ltb _ _ a.some, eq-eqb _ _ a.same)

-- a code of which all bits are there
pub whole_code : (s : List ℕ) (t : Table) (p k : ℕ) → Alike s t p k → p + length_of t k ≤ bits_there s t.start → code_of t k ≡ bits_at s t.start p (length_of t k)
whole_code s t p k a w =
    let e : a.n ≡ length_of t k = omega (arith, a.is) in
    let z : length_of t k - length_of t k ≡ 0 = omega arith in
    sym (div-one (code_of t k)) ∙ rw (e, z) at a.same

-- code i begins code k, of which n bits are there
begins-by : (s : List ℕ) (t : Table) (p i k n : ℕ) → 0 < length_of t i → length_of t i ≤ n → n ≤ length_of t k → length_of t k ≤ 32
    → code_of t i ≡ bits_at s t.start p (length_of t i) → code_of t k / 2 ^ (length_of t k - n) ≡ bits_at s t.start p n → begins t i k ≡ true
unfolding begins
begins-by s t p i k n some a b narrow whole same =
    let li = length_of t i in
    let lk = length_of t k in
    let d : lk - n + (n - li) ≡ lk - li = omega arith in
    let h : n ≤ 32 = omega arith in
    let f : code_of t k / 2 ^ (lk - li) ≡ code_of t i =
    ap (λ (e : ℕ). code_of t k / 2 ^ e) (sym d) ∙ sym (shr-shr (code_of t k) (lk - n) (n - li)) ∙ ap (λ (x : ℕ). x / 2 ^ (n - li)) same ∙ sym (bits-cut s t.start p a h) ∙ sym whole in
    let l : li ≤ lk = omega arith in
    rw (lt-ltb _ _ some, le-leb _ _ l, eq-eqb _ _ f)

free-below : (t : Table) (i k : ℕ) → prefix_free t ≡ true → i < k → k < t.range.count → (begins t i k ≡ false) × (begins t k i ≡ false)
unfolding prefix_free
free-below t i k e l h =
    let (a, b) = and_is _ _ (all-each k i _ (all-each t.range.count k _ e h) l) in
    (not-true _ a, not-true _ b)

-- of two codes neither begins the other
free-both : (t : Table) (i k : ℕ) → prefix_free t ≡ true → i < t.range.count → k < t.range.count → i ≢ k → begins t i k ≡ false
free-both t i k e h g d = go (dec_lt i k) (dec_lt k i)
  where
    go : Dec (i < k) → Dec (k < i) → begins t i k ≡ false
    go (yes l) b = (free-below t i k e l g).0
    go (no l) (yes m) = (free-below t k i e m h).1
    go (no l) (no m) = absurd (d (omega arith))

-- two codes agree with the bits at a place, one of them whole: they are one
pub one_code : (s : List ℕ) (t : Table) (p i k : ℕ) → Kept t → i < t.range.count → k < t.range.count
    → agrees s t p i ≡ true → agrees s t p k ≡ true → p + length_of t i ≤ bits_there s t.start → i ≡ k
one_code s t p i k kept h g e f w = done (dec_lt i k) (dec_lt k i)
  where
    a : Alike s t p i
    a = agrees-is s t p i e

    b : Alike s t p k
    b = agrees-is s t p k f

    whole : code_of t i ≡ bits_at s t.start p (length_of t i)
    whole = whole_code s t p i a w

    fault : (x y : ℕ) → begins t x y ≡ true → x < t.range.count → y < t.range.count → x ≢ y → i ≡ k
    fault x y u l m d = let v = free-both t x y kept.free l m d in absurd (let z : ◌≡◌ {A = ℕ} 0 1 = cc in omega arith)

    two : i ≢ k → Dec (b.n < length_of t i) → i ≡ k
    two d (no l) =
        let few : b.n ≤ length_of t k = omega (arith, b.is) in
        let long : length_of t i ≤ b.n = omega arith in
        fault i k (begins-by s t p i k b.n a.some long few (kept.narrow k) whole b.same) h g d
    two d (yes l) =
        let all : p + length_of t k ≤ bits_there s t.start = omega (arith, b.is) in
        let few : a.n ≤ length_of t i = omega (arith, a.is) in
        let long : length_of t k ≤ a.n = omega (arith, a.is, b.is) in
        fault k i (begins-by s t p k i a.n b.some long few (kept.narrow i) (whole_code s t p k b all) a.same) g h (λ z. d (sym z))

    done : Dec (i < k) → Dec (k < i) → i ≡ k
    done (yes l) m = two (λ z. absurd (omega arith)) (dec_lt b.n (length_of t i))
    done (no l) (yes m) = two (λ z. absurd (omega arith)) (dec_lt b.n (length_of t i))
    done (no l) (no m) = omega arith

-- the test of the first 32 bits
pub begun-agrees : (s : List ℕ) (t : Table) (p k : ℕ) → Kept t → begun (bits_at s t.start p 32) (bits_there s t.start - p) (length_of t k) (code_of t k) ≡ agrees s t p k
unfolding begun agrees
begun-agrees s t p k kept =
    let h : 32 ≤ 32 = omega arith in
    let l : min (length_of t k) (bits_there s t.start - p) ≤ 32 = omega (arith, kept.narrow k) in
    rw (bits-cut s t.start p l h)
