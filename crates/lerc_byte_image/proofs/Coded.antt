-- Symbols one after the other: what accepted ones are, and where they end.
-- Assumes nothing.
use Rattle.std.proofs.Common.{◌≡◌, ℕ, zero, suc, ◌+◌, ◌-◌, ◌/◌, ◌<◌, ◌≤◌, Bool, true, false, leb, ◌≢◌, List, ◌∷◌, length, get_or, sym, refl, ap, ◌∙◌, le_of_suc-le-suc, not-suc-le-zero, arith}
use Rattle.lerc_words.specs.declared.Refusal.{Refusal}
use Rattle.lerc_words.specs.Res.{Res, ok, fail, ◌>>=◌, require}
use Rattle.lerc_words.proofs.Binding.{bind_ok, bind-no, bind_is, bind-counts, ok-is}
use Rattle.lerc_byte_image.specs.Table.{Table, table_at}
use Rattle.lerc_byte_image.specs.Symbols.{bits_there, Symbol, symbol_at, Run, symbols_from, end_of, coded_at}
use Rattle.lerc_byte_image.specs.Image.{or_none, symbol_on, spot, symbol_no, ended}
use Rattle.lerc_byte_image.specs.SymbolParts.{bits_in, Counted, end_within, end_from}
use Rattle.lerc_byte_image.specs.Parts.{Kept, Behind, entry_of}
use Rattle.lerc_byte_image.proofs.Entries.{next-inside, Told, told}

module _ (s : List ℕ) (t : Table) where
  -- ---- one symbol more

  pub bits_none : (p : ℕ) → bits_in (symbols_from s t 0 p) ≡ ok p
  unfolding symbols_from
  bits_none p = refl

  pub bits-refused : (n p : ℕ) {r : Refusal} → symbol_at s t p ≡ fail r → bits_in (symbols_from s t (suc n) p) ≡ fail r
  unfolding symbols_from
  bits-refused n p e = rw (e)

  behind : (v : ℕ) (m : Res Run) → bits_in (m >>= λ rest. ok (record { values = v ∷ rest.values; bits = rest.bits })) ≡ bits_in m
  behind v (ok r) = refl
  behind v (fail r) = refl

  pub bits-more : (n p : ℕ) {x : Symbol} → symbol_at s t p ≡ ok x → bits_in (symbols_from s t (suc n) p) ≡ bits_in (symbols_from s t n x.next)
  unfolding symbols_from
  bits-more n p {x} e = rw (e) (behind x.value (symbols_from s t n x.next))

  -- ---- what was accepted

  -- the first of them, and the others
  record Split (n p : ℕ) (r : Run) : Type 0 where
    x : Symbol
    rest : Run
    first : symbol_at s t p ≡ ok x
    others : symbols_from s t n x.next ≡ ok rest
    values : r.values ≡ x.value ∷ rest.values
    bits : r.bits ≡ rest.bits

  split : (n p : ℕ) {r : Run} → symbols_from s t (suc n) p ≡ ok r → Split n p r
  unfolding symbols_from
  split n p e =
      let (x, a, e) = bind_is (symbol_at s t p) _ e in
      let (rest, b, e) = bind_is (symbols_from s t n x.next) _ e in
      record { x = x; rest = rest; first = a; others = b; values = ap (λ (q : Run). q.values) (sym (ok-is e)); bits = ap (λ (q : Run). q.bits) (sym (ok-is e)) }

  none_is : (p : ℕ) {r : Run} → symbols_from s t 0 p ≡ ok r → (length r.values ≡ 0) × (r.bits ≡ p)
  unfolding symbols_from
  none_is p e = (ap (λ (q : Run). length q.values) (sym (ok-is e)), ap (λ (q : Run). q.bits) (sym (ok-is e)))

  -- the place of a symbol, counted from the second on
  spot-shift : (p i : ℕ) → spot s t p (suc i) ≡ spot s t (symbol_on s t p).next i
  unfolding spot
  spot-shift p zero = refl
  spot-shift p (suc i) = ap (λ (q : ℕ). (symbol_on s t q).next) (spot-shift p i)

  on-first : (p : ℕ) {x : Symbol} → symbol_at s t p ≡ ok x → symbol_on s t p ≡ x
  on-first p e = ap (or_none p) e

  later : (p i : ℕ) {x : Symbol} → symbol_at s t p ≡ ok x → spot s t p (suc i) ≡ spot s t x.next i
  later p i e = spot-shift p i ∙ ap (λ (y : Symbol). spot s t y.next i) (on-first p e)

  pub coded-length : (n p : ℕ) {r : Run} → symbols_from s t n p ≡ ok r → length r.values ≡ n
  coded-length zero p e = (none_is p e).0
  coded-length (suc n) p e =
      let d = split n p e in
      ap length d.values ∙ ap suc (coded-length n d.x.next d.others)

  pub coded-bits : (n p : ℕ) {r : Run} → symbols_from s t n p ≡ ok r → r.bits ≡ spot s t p n
  unfolding spot
  coded-bits zero p e = (none_is p e).1
  coded-bits (suc n) p e =
      let d = split n p e in
      d.bits ∙ coded-bits n d.x.next d.others ∙ sym (later p n d.first)

  -- each is the symbol at its place
  pub coded-symbol : (n p : ℕ) {r : Run} → symbols_from s t n p ≡ ok r → (i : ℕ) → i < n → get_or r.values i 0 ≡ symbol_no s t p i
  unfolding symbol_no spot
  coded-symbol zero p e i l = absurd (not-suc-le-zero l)
  coded-symbol (suc n) p e zero l =
      let d = split n p e in
      ap (λ (v : List ℕ). get_or v 0 0) d.values ∙ sym (ap (λ (y : Symbol). y.value) (on-first p d.first))
  coded-symbol (suc n) p e (suc i) l =
      let d = split n p e in
      ap (λ (v : List ℕ). get_or v (suc i) 0) d.values ∙ coded-symbol n d.x.next d.others i (le_of_suc-le-suc l)
      ∙ sym (ap (λ (q : ℕ). (symbol_on s t q).value) (later p i d.first))

  pub spot-inside : (p i : ℕ) → p ≤ bits_there s t.start → spot s t p i ≤ bits_there s t.start
  unfolding spot
  spot-inside p zero h = h
  spot-inside p (suc i) h = next-inside s t (spot s t p i) (spot-inside p i h)

-- ---- counted one by one

pub behind-at : {s : List ℕ} {t : Table} {p q : ℕ} → Behind s t p → q ≤ bits_there s t.start → Behind s t q
behind-at h l = record { kept = h.kept; short = h.short; inside = h.inside; at = l }

pub count_none : (s : List ℕ) (t : Table) (n : ℕ) → Counted s t n n 0
count_none s t n = record { inside = omega arith; same = refl }

pub count-done : {s : List ℕ} {t : Table} {n left p : ℕ} → Counted s t n left p → left ≤ 0 → ok p ≡ bits_in (symbols_from s t n 0)
count-done {s} {t} {n} {left} {p} c h =
    let e : left ≡ 0 = omega arith in
    sym (c.same ∙ ap (λ (k : ℕ). bits_in (symbols_from s t k p)) e ∙ bits_none s t p)

pub count-refused : {s : List ℕ} {t : Table} {n left p : ℕ} {r : Refusal} → Counted s t n left p → 0 < left → symbol_at s t p ≡ fail r → fail r ≡ bits_in (symbols_from s t n 0)
count-refused {s} {t} {n} {left} {p} c h e =
    let d : left ≡ suc (left - 1) = omega arith in
    sym (c.same ∙ ap (λ (k : ℕ). bits_in (symbols_from s t k p)) d ∙ bits-refused s t (left - 1) p e)

module _ {s : List ℕ} {t : Table} {n left p : ℕ} (kept : Kept t) (c : Counted s t n left p) (e : ℕ) (d : e ≡ entry_of s t p) (some : e ≢ 0) where
  seen : Told s t p
  seen = told s t p kept (let z : e ≢ 0 = some in omega (arith, d))

  pub count-inside : p + e / 256 ≤ bits_there s t.start
  count-inside = rw (d) seen.inside

  pub count-more : 0 < left → Counted s t n (left - 1) (p + e / 256)
  count-more h =
      let z : left ≡ suc (left - 1) = omega arith in
      record {
        inside = count-inside;
        same = c.same ∙ ap (λ (k : ℕ). bits_in (symbols_from s t k p)) z ∙ bits-more s t (left - 1) p seen.symbol ∙ rw (d);
      }

-- ---- with the table before them and the word behind them

pub coded-no : (s : List ℕ) (at n : ℕ) {r : Refusal} → table_at s at ≡ fail r → ended (coded_at s at n) ≡ fail r
unfolding coded_at
coded-no s at n e = rw (e)

pub coded-table : (s : List ℕ) (at n : ℕ) {t : Table} → table_at s at ≡ ok t → ended (coded_at s at n) ≡ end_from s t n
unfolding coded_at end_within
coded-table s at n {t} e = rw (e) (go (symbols_from s t n 0))
  where
    fit : (r : Run) (b : Bool) → ended (require b 1 >>= λ _. ok (record { symbols = r.values; end = end_of t.start r.bits })) ≡ (require b 1 >>= λ _. ok (end_of t.start r.bits))
    fit r true = refl
    fit r false = refl

    go : (m : Res Run)
        → ended (m >>= λ r. require (leb (end_of t.start r.bits) (length s)) 1 >>= λ _. ok (record { symbols = r.values; end = end_of t.start r.bits }))
        ≡ (bits_in m >>= end_within (length s) t.start)
    go (ok r) = fit r (leb (end_of t.start r.bits) (length s))
    go (fail r) = refl

-- the end of all symbols is a bit that is there
pub bits_inside : (s : List ℕ) (t : Table) (n : ℕ) {p : ℕ} → bits_in (symbols_from s t n 0) ≡ ok p → p ≤ bits_there s t.start
bits_inside s t n {p} e =
    let (r, a, d) = bind-counts (symbols_from s t n 0) (λ (x : Run). x.bits) e in
    let b = coded-bits s t n 0 a in
    let l = spot-inside s t 0 n (omega arith) in
    omega (arith, d, b, l)

pub end-no : (s : List ℕ) (t : Table) (n : ℕ) {r : Refusal} → bits_in (symbols_from s t n 0) ≡ fail r → fail r ≡ end_from s t n
end-no s t n e = sym (bind-no (end_within (length s) t.start) e)

pub end-then : (s : List ℕ) (t : Table) (n : ℕ) {p : ℕ} → bits_in (symbols_from s t n 0) ≡ ok p → end_within (length s) t.start p ≡ end_from s t n
end-then s t n e = sym (bind_ok (end_within (length s) t.start) e)
