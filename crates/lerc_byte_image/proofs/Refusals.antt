-- Why an image is refused: by 1 or 8, and by itself it tells no place; marked, it tells the mode byte's.
-- Assumes nothing.
use Rattle.std.proofs.Common.{◌≡◌, ℕ, zero, suc, ◌+◌, ◌-◌, ◌*◌, ◌/◌, ◌%◌, Bool, true, false, cond, ◌&&◌, eqb, ltb, leb, ◌⊎◌, List, length, get_or, ap, ◌∙◌, inl, inr, ⊎_elim, arith}
use Rattle.lerc_words.specs.declared.Refusal.{Refusal}
use Rattle.lerc_words.specs.Res.{Res, ok, fail, ◌>>=◌, refuse, require, word_at}
use Rattle.lerc_words.proofs.Marking.{marked-fails}
use Rattle.lerc_words.specs.Lists.{total, all_to}
use Rattle.lerc_bits.specs.declared.Plan.{Plan}
use Rattle.lerc_bits.specs.Bits.{count_bytes, plain_plan, table_plan, fits, tabled, plan, run, all_below, looked_up, values_of, unpacked, counts}
use Rattle.lerc_header.specs.declared.Header.{Header}
use Rattle.lerc_byte_image.specs.Table.{range_at, lengths_at, codes_at, run_words, Table, length_of, prefix_free, table_at}
use Rattle.lerc_byte_image.specs.Symbols.{first_of, agrees, bits_there, symbol_at, symbols_from, end_of, coded_at}
use Rattle.lerc_byte_image.specs.Image.{image_at}

-- ---- answers whose refusals are these two, and how they are put together

abbrev OneOrEight : Refusal → Type 0
OneOrEight r = (r ≡ refuse 1) ⊎ (r ≡ refuse 8)

record Only {A : Type 0} (m : Res A) : Type 0 where
  why : (r : Refusal) → m ≡ fail r → OneOrEight r

accepted : {A : Type 0} (a : A) → Only (ok a)
accepted a = record { why = λ r e. absurd (let z : ◌≡◌ {A = ℕ} 0 1 = cc in omega arith) }

one : {B : Type 0} (t : Bool) {k : Bool → Res B} → ((b : Bool) → Only (k b)) → Only (require t 1 >>= k)
one true p = p true
one false p = record { why = λ r e. inl cc }

eight : {B : Type 0} (t : Bool) {k : Bool → Res B} → ((b : Bool) → Only (k b)) → Only (require t 8 >>= k)
eight true p = p true
eight false p = record { why = λ r e. inr cc }

and_then : {A B : Type 0} (m : Res A) {k : A → Res B} → Only m → ((a : A) → Only (k a)) → Only (m >>= k)
and_then (ok a) p q = q a
and_then (fail r) p q = record { why = λ q e. p.why q (let d : r ≡ q = cc in rw (d)) }

either : {A : Type 0} (t : Bool) {x y : Res A} → Only x → Only y → Only (cond t x y)
either true p q = p
either false p q = q

-- ---- words and packed counts

word : (n : ℕ) (s : List ℕ) (at : ℕ) → Only (word_at n s at)
unfolding word_at
word n s at = one (leb (at + n) (length s)) (λ _. accepted _)

fitting : (len : ℕ) (p : Plan) → Only (fits len p)
fitting len p = one (leb p.next len) (λ _. accepted p)

planned : (s : List ℕ) (at : ℕ) → Only (plan s at)
unfolding plan tabled
planned s at =
    and_then (word_at 1 s at) (word 1 s at) (λ h.
    eight (ltb (h / 64) 3)
    (λ _. and_then (word_at (count_bytes h) s (at + 1)) (word (count_bytes h) s (at + 1)) (λ n.
    let to = at + 1 + count_bytes h in
    eight (leb n 256)
    (λ _. either (eqb (h / 32 % 2) 0) (fitting (length s) (plain_plan n (h % 32) to))
    (eight (ltb 0 (h % 32))
    (λ _. and_then (word_at 1 s to) (word 1 s to) (λ entries. eight (leb 2 entries) (λ _. fitting (length s) (table_plan n (h % 32) entries (to + 1))))))))))

valued : (s : List ℕ) (p : Plan) → Only (values_of s p)
unfolding values_of looked_up
valued s p = either (eqb p.entries 0) (accepted _) (eight (all_below p.n p.entries (run s p.at p.n p.width)) (λ _. accepted _))

counted : (s : List ℕ) (at : ℕ) → Only (counts s at)
unfolding counts unpacked
counted s at = and_then (plan s at) (planned s at) (λ p. and_then (values_of s p) (valued s p) (λ vs. accepted _))

-- ---- the table

ranged : (s : List ℕ) (at : ℕ) → Only (range_at s at)
unfolding range_at
ranged s at =
    and_then (word_at 4 s at) (word 4 s at) (λ version.
    eight (leb 2 version)
    (λ _. and_then (word_at 4 s (at + 4)) (word 4 s (at + 4)) (λ size.
    eight (leb size 256)
    (λ _. and_then (word_at 4 s (at + 8)) (word 4 s (at + 8)) (λ first.
    eight (ltb first size)
    (λ _. and_then (word_at 4 s (at + 12)) (word 4 s (at + 12)) (λ end. eight (leb 1 (end - first) && leb (end - first) size) (λ _. accepted _))))))))

measured : (s : List ℕ) (at n : ℕ) → Only (lengths_at s at n)
unfolding lengths_at
measured s at n =
    and_then (counts s at) (counted s at) (λ c.
    eight (eqb (length c.values) n)
    (λ _. eight (all_to n (λ k. leb (get_or c.values k 0) 32)) (λ _. eight (ltb 0 (total n (λ k. get_or c.values k 0))) (λ _. accepted c))))

tabled-no : (s : List ℕ) (at : ℕ) → Only (table_at s at)
unfolding table_at
tabled-no s at =
    and_then (range_at s at) (ranged s at) (λ r.
    and_then (lengths_at s (at + 16) r.count) (measured s (at + 16) r.count) (λ c.
    let start = c.next + run_words (total r.count (λ k. get_or c.values k 0)) * 4 in
    let t : Table = record { range = r; lengths = c.values; codes = codes_at s c.next r.count c.values; start = start } in
    one (leb start (length s)) (λ _. eight (prefix_free t) (λ _. accepted t))))

-- ---- the symbols

named : (s : List ℕ) (t : Table) (p : ℕ) → Only (symbol_at s t p)
unfolding symbol_at
named s t p =
    let k = first_of t.range.count (agrees s t p) in
    eight (ltb k t.range.count) (λ _. one (leb (p + length_of t k) (bits_there s t.start)) (λ _. accepted _))

in-turn : (s : List ℕ) (t : Table) (n p : ℕ) → Only (symbols_from s t n p)
unfolding symbols_from
in-turn s t zero p = accepted _
in-turn s t (suc n) p = and_then (symbol_at s t p) (named s t p) (λ x. and_then (symbols_from s t n x.next) (in-turn s t n x.next) (λ rest. accepted _))

all_coded : (s : List ℕ) (at n : ℕ) → Only (coded_at s at n)
unfolding coded_at
all_coded s at n =
    and_then (table_at s at) (tabled-no s at) (λ t.
    and_then (symbols_from s t n 0) (in-turn s t n 0) (λ r. one (leb (end_of t.start r.bits) (length s)) (λ _. accepted _)))

pub coded-no : (s : List ℕ) (at n : ℕ) {r : Refusal} → coded_at s at n ≡ fail r → (r ≡ refuse 1) ⊎ (r ≡ refuse 8)
coded-no s at n {r} e = (all_coded s at n).why r e

-- "both at the mode byte's place"
pub image-numbers : (s : List ℕ) (h : Header) (mode : ℕ) (why : Refusal) → image_at s h mode ≡ fail why → (why.at ≡ mode) × ((why.number ≡ 1) ⊎ (why.number ≡ 8))
unfolding image_at
image-numbers s h mode why e =
    let n = h.valid * h.depth in
    let (q, d, z) = marked-fails mode (coded_at s (mode + 1) n) e in
    let number : why.number ≡ q.number = ap (λ (x : Refusal). x.number) z in
    (ap (λ (x : Refusal). x.at) z, ⊎_elim (λ w. inl (number ∙ ap (λ (x : Refusal). x.number) w)) (λ w. inr (number ∙ ap (λ (x : Refusal). x.number) w)) (coded-no s (mode + 1) n d))
