-- What each way of reading gives: one law for each place where the code returns.
-- Assumes nothing.
use mathlib.Core.Path.{◌≡◌, refl, sym, ap, ◌∙◌}
use mathlib.Core.Bool.{true, false}
use mathlib.Core.List.{List, [], ◌∷◌, ◌++◌}
use Prim.Native.Nat.{ℕ, zero, suc, ◌+◌, ◌-◌, ◌/◌, ◌%◌, ◌^◌, ◌≤◌, ◌<◌}
use native.Mathlib.Omega.{arith}
use borrow.Author.Tests.{lt-ltb, le-ltb, le-leb, lt-leb, eq-eqb, ne_eqb}
use lib.ListN.{length, get_or, drop}
use Rattle.lerc_words.specs.declared.Refusal.{Refusal}
use Rattle.lerc_words.specs.Lists.{over}
use lib.Dec.{leb, ltb, eqb}
use Rattle.lerc_words.specs.Res.{Res, ok, fail, refuse, placed, marked, word_at, word_says}
use Rattle.lerc_words.proofs.Little.{word-at, word_at-bare}
use Rattle.lerc_words.proofs.Marking.{Bare, unmarked, marked-is, marked-no, marked-fails, marked-tells, marked-after, bare-bind, bare-then, bare-cond, bare-no}
use Rattle.lerc_bits.specs.declared.Plan.{Plan}
use Rattle.lerc_bits.specs.Bits.{count_bytes, plain_plan, table_plan, fits, tabled, plan, run, chosen, all_below, looked_up, values_of, unpacked, Counts, counts, Span, spanned, CountsDecoded}

-- ---- a word whose place was taken off

pub read-bare : (s : List ℕ) (at size : ℕ) {r : Res ℕ} → size ≤ 8 → r ≡ marked at (word_says s at size) → marked 0 r ≡ word_at size s at
read-bare s at size h e = ap (marked 0) e ∙ unmarked at (word_says s at size) ∙ ap (marked 0) (word-at s at size h) ∙ word_at-bare size s at

-- ---- plans

pub fits-ok : (len : ℕ) (p : Plan) → p.next ≤ len → fits len p ≡ ok p
fits-ok len p h = rw (le-leb p.next len h)

pub fits-no : (len : ℕ) (p : Plan) → len < p.next → fits len p ≡ fail (refuse 1)
fits-no len p h = rw (lt-leb p.next len h)

module _ (s : List ℕ) (at n bits : ℕ) where
  pub tabled-zero : bits ≡ 0 → tabled s at n bits ≡ fail (refuse 8)
  unfolding tabled
  tabled-zero e = rw (e)

  pub tabled-no : {r : Refusal} → 0 < bits → word_at 1 s at ≡ fail r → tabled s at n bits ≡ fail r
  unfolding tabled
  tabled-no h e = rw (lt-ltb 0 bits h, e)

  pub tabled-few : (v : ℕ) → 0 < bits → word_at 1 s at ≡ ok v → v < 2 → tabled s at n bits ≡ fail (refuse 8)
  unfolding tabled
  tabled-few v h e l = rw (lt-ltb 0 bits h, e, lt-leb 2 v l)

  pub tabled-more : (v : ℕ) → 0 < bits → word_at 1 s at ≡ ok v → 2 ≤ v → tabled s at n bits ≡ fits (length s) (table_plan n bits v (at + 1))
  unfolding tabled
  tabled-more v h e l = rw (lt-ltb 0 bits h, e, le-leb 2 v l)

-- the code halves 4 for each step of h/64
pub count-bytes : (h : ℕ) → h / 64 < 3 → 4 / 2 ^ (h / 64) ≡ count_bytes h
count-bytes h l = go (h / 64) l
  where
    go : (k : ℕ) → k < 3 → 4 / 2 ^ k ≡ get_or (4 ∷ 2 ∷ 1 ∷ []) k 0
    go zero l = refl
    go (suc zero) l = refl
    go (suc (suc zero)) l = refl
    go (suc (suc (suc k))) l = absurd (omega arith)

pub count_small : (h : ℕ) → count_bytes h ≤ 4
count_small h = go (h / 64)
  where
    go : (k : ℕ) → get_or (4 ∷ 2 ∷ 1 ∷ []) k 0 ≤ 4
    go zero = omega arith
    go (suc zero) = omega arith
    go (suc (suc zero)) = omega arith
    go (suc (suc (suc k))) = omega arith

-- the first byte was read, and so was the count
pub record Headed (s : List ℕ) (at h n : ℕ) : Type 0 where
  pub first : word_at 1 s at ≡ ok h
  pub known : h / 64 < 3
  pub second : word_at (count_bytes h) s (at + 1) ≡ ok n

module _ (s : List ℕ) (at : ℕ) where
  pub plan-no : {r : Refusal} → word_at 1 s at ≡ fail r → plan s at ≡ fail r
  unfolding plan
  plan-no e = rw (e)

  pub plan-form : (h : ℕ) → word_at 1 s at ≡ ok h → 3 ≤ h / 64 → plan s at ≡ fail (refuse 8)
  unfolding plan
  plan-form h e l = rw (e, le-ltb (h / 64) 3 l)

  pub plan-short : (h : ℕ) {r : Refusal} → word_at 1 s at ≡ ok h → h / 64 < 3 → word_at (count_bytes h) s (at + 1) ≡ fail r → plan s at ≡ fail r
  unfolding plan
  plan-short h e l d = rw (e, lt-ltb (h / 64) 3 l, d)

  module _ (h n : ℕ) (g : Headed s at h n) where
    pub plan-many : 256 < n → plan s at ≡ fail (refuse 8)
    unfolding plan
    plan-many k = rw (g.first, lt-ltb (h / 64) 3 g.known, g.second, lt-leb n 256 k)

    pub plan-plain : n ≤ 256 → h / 32 % 2 ≡ 0 → plan s at ≡ fits (length s) (plain_plan n (h % 32) (at + 1 + count_bytes h))
    unfolding plan
    plan-plain k t = rw (g.first, lt-ltb (h / 64) 3 g.known, g.second, le-leb n 256 k, eq-eqb (h / 32 % 2) 0 t)

    pub plan-tabled : n ≤ 256 → (h / 32 % 2 ≡ 0 → ⊥) → plan s at ≡ tabled s (at + 1 + count_bytes h) n (h % 32)
    unfolding plan
    plan-tabled k t = rw (g.first, lt-ltb (h / 64) 3 g.known, g.second, le-leb n 256 k, ne_eqb (h / 32 % 2) 0 t)

-- ---- a plan tells no place

tabled-bare : (s : List ℕ) (at n bits : ℕ) → Bare (tabled s at n bits)
unfolding tabled
tabled-bare s at n bits =
    bare-then (ltb 0 bits) 8 _
    (bare-bind (word_at 1 s at) _ (word_at-bare 1 s at) (λ entries.
    bare-then (leb 2 entries) 8 _ (bare-then (leb (table_plan n bits entries (at + 1)).next (length s)) 1 _ refl)))

pub plan-bare : (s : List ℕ) (at : ℕ) → Bare (plan s at)
unfolding plan
plan-bare s at =
    bare-bind (word_at 1 s at) _ (word_at-bare 1 s at) (λ h.
    bare-then (ltb (h / 64) 3) 8 _
    (bare-bind (word_at (count_bytes h) s (at + 1)) _ (word_at-bare (count_bytes h) s (at + 1)) (λ n.
    let to = at + 1 + count_bytes h in
    bare-then (leb n 256) 8 _ (bare-cond (eqb (h / 32 % 2) 0) (bare-then (leb (plain_plan n (h % 32) to).next (length s)) 1 _ refl) (tabled-bare s to n (h % 32))))))

-- ---- counts

pub counts-no : (s : List ℕ) (at : ℕ) {r : Refusal} → plan s at ≡ fail r → counts s at ≡ fail r
unfolding counts
counts-no s at e = rw (e)

-- the same with a place on both
pub counts-no-at : (s : List ℕ) (at p : ℕ) {r : Refusal} → marked p (plan s at) ≡ fail r → marked p (counts s at) ≡ fail r
counts-no-at s at p e =
    let (q, f, g) = marked-fails p (plan s at) e in
    marked-no p (counts-no s at f) ∙ ap fail (sym g)

pub counts-by : (s : List ℕ) (at : ℕ) {p : Plan} → plan s at ≡ ok p → counts s at ≡ unpacked s p
unfolding counts
counts-by s at e = rw (e)

module _ (s : List ℕ) (p : Plan) where
  pub unpacked-plain : p.entries ≡ 0 → unpacked s p ≡ ok (record { values = run s p.at p.n p.width; next = p.next })
  unfolding unpacked values_of
  unpacked-plain e = rw (e)

  pub unpacked-table : 1 ≤ p.entries → all_below p.n p.entries (run s p.at p.n p.width) ≡ true
      → unpacked s p ≡ ok (record {
        values = chosen p.n (0 ∷ run s p.table (p.entries - 1) p.bits) (run s p.at p.n p.width);
        next = p.next;
      })
  unfolding unpacked values_of looked_up
  unpacked-table h e = rw (ne_eqb p.entries 0 (λ z. omega arith), e)

  pub unpacked-bad : 1 ≤ p.entries → all_below p.n p.entries (run s p.at p.n p.width) ≡ false
      → unpacked s p ≡ fail (refuse 8)
  unfolding unpacked values_of looked_up
  unpacked-bad h e = rw (ne_eqb p.entries 0 (λ z. omega arith), e)

-- ---- the promise of decode

pub refused : {m : Res Counts} {r : Refusal} {old : List ℕ} → m ≡ fail r → CountsDecoded m (fail r) old old
refused e = rw e (record { says = refl; left = refl })

pub given : {m : Res Counts} (values : List ℕ) (n : ℕ) {next : ℕ} {old new : List ℕ} → m ≡ ok (record { values = values; next = next }) → length values ≡ n
    → new ≡ values ++ drop n old → CountsDecoded m (ok (record { n = n; next = next })) old new
given values n e l d = rw (e, d) (record { says = rw (l); left = rw (l) })

-- with a place on the answer
pub spanned-at : (m : Res Counts) (r q : Res Span) (p : ℕ) → r ≡ spanned m → q ≡ marked p r → q ≡ spanned (marked p m)
spanned-at m r q p d e = e ∙ ap (marked p) d ∙ marked-tells p m (λ c. record { n = length c.values; next = c.next })

pub decoded-at : {m : Res Counts} {r q : Res Span} (p : ℕ) {old new : List ℕ} → CountsDecoded m r old new → q ≡ marked p r → CountsDecoded (marked p m) q old new
decoded-at {m} {r} {q} p {old} d e = record {
  says = spanned-at m r q p d.says e;
  left = d.left ∙ sym (marked-after p m old (λ c. over c.values old));
}

ok-inj : {x y : Span} → ◌≡◌ {A = Res Span} (ok x) (ok y) → x ≡ y
ok-inj e = cc

-- ---- the promise of check

pub uncounted : {m : Res Counts} {r : Refusal} → m ≡ fail r → fail r ≡ spanned m
uncounted e = rw e

pub counted : {m : Res Counts} (values : List ℕ) (n : ℕ) {next : ℕ} → m ≡ ok (record { values = values; next = next }) → length values ≡ n
    → ok (record { n = n; next = next }) ≡ spanned m
counted values n e l = rw (e, l)

-- ---- what an answer that was taken apart says

module _ (s : List ℕ) (at : ℕ) {r : Res Plan} (e : r ≡ marked at (plan s at)) where
  pub inspect-ok : {p : Plan} → r ≡ ok p → plan s at ≡ ok p
  inspect-ok d = marked-is at _ (sym e ∙ d)

  pub inspect-at : {why : Refusal} → r ≡ fail why → marked at (plan s at) ≡ fail why
  inspect-at d = sym e ∙ d

  -- the place taken off
  pub inspect-no : {q : Refusal} → r ≡ fail q → plan s at ≡ fail (placed 0 q)
  inspect-no d = bare-no at _ (plan-bare s at) (sym e ∙ d) refl

  pub inspect-bare : marked 0 r ≡ plan s at
  inspect-bare = ap (marked 0) e ∙ unmarked at (plan s at) ∙ plan-bare s at

-- n values, which stand in front of what the array held, and their end
pub record CountsGiven (m : Res Counts) (n next : ℕ) (old new : List ℕ) : Type 0 where
  pub values : List ℕ
  pub reads : m ≡ ok (record { values = values; next = next })
  pub many : length values ≡ n
  pub left : new ≡ over values old

pub check-ok : (m : Res Counts) {r : Res Span} {t : Span} → r ≡ spanned m → r ≡ ok t
    → (c : Counts) × (m ≡ ok c) × (length c.values ≡ t.n) × (c.next ≡ t.next)
check-ok (ok c) e d =
    let p = ok-inj (sym d ∙ e) in
    (c, refl, sym (ap (λ (z : Span). z.n) p), sym (ap (λ (z : Span). z.next) p))
check-ok (fail q) e d = absurd (let z : ◌≡◌ {A = ℕ} 0 1 = cc in omega arith)

pub check-no : (m : Res Counts) {r : Res Span} {why : Refusal} → r ≡ spanned m → r ≡ fail why → m ≡ fail why
check-no (ok c) e d = absurd (let z : ◌≡◌ {A = ℕ} 0 1 = cc in omega arith)
check-no (fail w) {r} {why} e d =
    let a : why ≡ w = cc in
    ap fail (sym a)

pub decode-ok : (m : Res Counts) {r : Res Span} {t : Span} {old new : List ℕ} → CountsDecoded m r old new → r ≡ ok t → CountsGiven m t.n t.next old new
decode-ok m g d =
    let (c, e, l, x) = check-ok m g.says d in
    record { values = c.values; reads = e ∙ ap (λ (z : ℕ). ok (record { values = c.values; next = z })) x; many = l; left = rw (e) at g.left }

pub decode_no : (m : Res Counts) {r : Res Span} {why : Refusal} {old new : List ℕ} → CountsDecoded m r old new → r ≡ fail why
    → (m ≡ fail why) × (new ≡ old)
decode_no m g d =
    let e = check-no m g.says d in
    (e, rw (e) at g.left)

-- ---- two outcomes that a promise allows coincide

pub decoded-same : {m : Res Counts} {a b : Res Span} {old x y : List ℕ} → CountsDecoded m a old x → CountsDecoded m b old y → (a ≡ b) × (x ≡ y)
decoded-same p q = (p.says ∙ sym q.says, p.left ∙ sym q.left)
