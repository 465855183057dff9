-- lerc_bits.rs: its clauses from ours. "THE PLAN" and "THE COUNTS" say that the two specifications are one, but for the number
-- of a refusal; each clause is then a line.
-- Assumes nothing.
use mathlib.Core.Path.{◌≡◌, refl, sym, ap, ◌∙◌}
use mathlib.Core.Bool.{Bool, true, false, cond, ◌||◌}
use mathlib.Core.List.{List, [], ◌∷◌}
use mathlib.Core.Option.{Option, none, some}
use Prim.Native.Nat.{ℕ, zero, suc, ◌+◌, ◌-◌, ◌*◌, ◌/◌, ◌%◌, ◌^◌, ◌≤◌, ◌<◌}
use native.Mathlib.Omega.{arith}
use native.Mathlib.Nat.{mul-le-mul_right, suc-mul, zero-add}
use native.Mathlib.Decide.{dec_le, dec_lt}
use borrow.Author.Tests.{lt-ltb, le-ltb, le-leb, lt-leb, eq-eqb, ne_eqb, eqb-true, eqb-false}
use lib.Dec.{ltb, leb, eqb}
use lib.ListN.{length, get_or, take, drop}
use lib.Seq.{take-append_seam}
use Rattle.lerc_words.specs.Res.{Res, ok, fail, ◌>>=◌, placed, marked, little, word_at}
use Rattle.lerc_words.specs.Lists.{tabulate, all_to, over}
use Rattle.lerc_words.proofs.Binding.{ok-is}
use Rattle.lerc_words.proofs.Marking.{marked-is, marked-accepts}
use Rattle.lerc_words.proofs.Little.{Bytes, word_at-ok, word_at-no}
use Rattle.lerc_words.proofs.Tables.{tabulate-same, all_same}
use Rattle.lerc_numeric.proofs.Digits.{size_exact}
use Rattle.lerc_bits.specs.declared.Plan as our
use Rattle.lerc_bits.specs.Bits as ours
use Rattle.lerc_bits.specs.Bits.{Span, span, CountsDecoded, Counts, run_bytes, run, digits, chosen, all_below, unpacked, count_bytes, plain_plan, table_plan, fits, tabled}
use Rattle.lerc_bits.proofs.Run.{digit_at, run-digit, digits-at}
use Rattle.lerc_bits.proofs.Returns.{Headed, fits-ok, fits-no, tabled-zero, tabled-no, tabled-few, tabled-more, plan-no, plan-form, plan-short, plan-many, plan-plain, plan-tabled, counts-no, counts-by, unpacked-plain, unpacked-table, unpacked-bad}
use Rattle.lerc_bits.proofs.Plans.{laid-spread, plan-kept, plan-is as planned-is}
use Rattle.lerc_bits.proofs.Values.{counts-ends, counts-few}
use Rattle.lerc_bits.proofs.Choose.{below_each}
use Rattle.lerc_contracts.proofs.WithoutNumber.{said-some, said-marked, told-some}
use Rattle.lerc_contracts.specs.Outside.{said, on_some, length_max, bits_at}
use Rattle.lerc_contracts.specs.Bits.{Plan, ceil_bytes, index_width, plan, index, item, Items, decoded_by, decoded}
use Rattle.lerc_contracts.specs.Between.{items, theirs}
use Rattle.lerc_contracts.specs.BitsClauses.{ItemCases, InspectClauses, DecodeClauses}

-- ---- the plan

-- 2.2
pub ceil-bytes-is : (n b : ℕ) → ceil_bytes n b ≡ run_bytes n b
ceil-bytes-is n b = refl

byte-is : (s : List ℕ) (at : ℕ) → little 1 s at ≡ get_or s at 0
unfolding little
byte-is s at = omega arith

-- a byte within
pub byte-ok : (s : List ℕ) (at : ℕ) → at < length s → word_at 1 s at ≡ ok (get_or s at 0)
byte-ok s at l = word_at-ok 1 s at (omega arith) ∙ ap ok (byte-is s at)

-- 2.3: the table is the least width, for the numbers of entries that a byte can be
pub width_is : (n : ℕ) → 2 ≤ n → n ≤ 255 → index_width n ≡ ours.index_width n
unfolding index_width
width_is n h k = g2 (dec_le n 2)
  where
    g128 : 64 < n → Dec (n ≤ 128) → cond (leb n 128) 7 8 ≡ ours.index_width n
    g128 l (yes m) = rw (le-leb n 128 m) (sym (size_exact (n - 1) 6 (omega arith) (omega arith)))
    g128 l (no m) = rw (lt-leb n 128 (omega arith)) (sym (size_exact (n - 1) 7 (omega arith) (omega arith)))

    g64 : 32 < n → Dec (n ≤ 64) → cond (leb n 64) 6 (cond (leb n 128) 7 8) ≡ ours.index_width n
    g64 l (yes m) = rw (le-leb n 64 m) (sym (size_exact (n - 1) 5 (omega arith) (omega arith)))
    g64 l (no m) = rw (lt-leb n 64 (omega arith)) (g128 (omega arith) (dec_le n 128))

    g32 : 16 < n → Dec (n ≤ 32) → cond (leb n 32) 5 (cond (leb n 64) 6 (cond (leb n 128) 7 8)) ≡ ours.index_width n
    g32 l (yes m) = rw (le-leb n 32 m) (sym (size_exact (n - 1) 4 (omega arith) (omega arith)))
    g32 l (no m) = rw (lt-leb n 32 (omega arith)) (g64 (omega arith) (dec_le n 64))

    g16 : 8 < n → Dec (n ≤ 16) → cond (leb n 16) 4 (cond (leb n 32) 5 (cond (leb n 64) 6 (cond (leb n 128) 7 8))) ≡ ours.index_width n
    g16 l (yes m) = rw (le-leb n 16 m) (sym (size_exact (n - 1) 3 (omega arith) (omega arith)))
    g16 l (no m) = rw (lt-leb n 16 (omega arith)) (g32 (omega arith) (dec_le n 32))

    g8 : 4 < n → Dec (n ≤ 8) → cond (leb n 8) 3 (cond (leb n 16) 4 (cond (leb n 32) 5 (cond (leb n 64) 6 (cond (leb n 128) 7 8)))) ≡ ours.index_width n
    g8 l (yes m) = rw (le-leb n 8 m) (sym (size_exact (n - 1) 2 (omega arith) (omega arith)))
    g8 l (no m) = rw (lt-leb n 8 (omega arith)) (g16 (omega arith) (dec_le n 16))

    g4 : 2 < n → Dec (n ≤ 4) → cond (leb n 4) 2 (cond (leb n 8) 3 (cond (leb n 16) 4 (cond (leb n 32) 5 (cond (leb n 64) 6 (cond (leb n 128) 7 8))))) ≡ ours.index_width n
    g4 l (yes m) = rw (le-leb n 4 m) (sym (size_exact (n - 1) 1 (omega arith) (omega arith)))
    g4 l (no m) = rw (lt-leb n 4 (omega arith)) (g8 (omega arith) (dec_le n 8))

    g2 : Dec (n ≤ 2) → cond (leb n 2) 1 (cond (leb n 4) 2 (cond (leb n 8) 3 (cond (leb n 16) 4 (cond (leb n 32) 5 (cond (leb n 64) 6 (cond (leb n 128) 7 8)))))) ≡ ours.index_width n
    g2 (yes m) = rw (le-leb n 2 m) (sym (size_exact (n - 1) 0 (omega arith) (omega arith)))
    g2 (no m) = rw (lt-leb n 2 (omega arith)) (g4 (omega arith) (dec_le n 4))

-- the count's bytes
bytes-are : (h : ℕ) → h / 64 < 3 → cond (eqb (h / 64) 0) 4 (3 - h / 64) ≡ count_bytes h
bytes-are h l = go (h / 64) l
  where
    go : (k : ℕ) → k < 3 → cond (eqb k 0) 4 (3 - k) ≡ get_or (4 ∷ 2 ∷ 1 ∷ []) k 0
    go zero l = refl
    go (suc zero) l = refl
    go (suc (suc zero)) l = refl
    go (suc (suc (suc k))) l = absurd (omega arith)

bytes-none : (h : ℕ) → 3 ≤ h / 64 → cond (eqb (h / 64) 0) 4 (3 - h / 64) ≡ 0
bytes-none h l = rw (ne_eqb (h / 64) 0 (λ e. omega arith)) (omega arith)

bytes-some : (h : ℕ) → h / 64 < 3 → count_bytes h ≡ 0 → ⊥
bytes-some h l = go (h / 64) l
  where
    go : (k : ℕ) → k < 3 → ◌≡◌ {A = ℕ} (get_or (4 ∷ 2 ∷ 1 ∷ []) k 0) 0 → ⊥
    go zero l e = omega arith
    go (suc zero) l e = omega arith
    go (suc (suc zero)) l e = omega arith
    go (suc (suc (suc k))) l e = omega arith

-- a plan fits, or not
fits_said : (len : ℕ) (p : our.Plan) → cond (ltb len p.next) none (some (theirs p)) ≡ said theirs (fits len p)
fits_said len p = go (dec_le p.next len)
  where
    go : Dec (p.next ≤ len) → cond (ltb len p.next) none (some (theirs p)) ≡ said theirs (fits len p)
    go (yes l) = rw (le-ltb len p.next l, fits-ok len p l)
    go (no l) = let k : len < p.next = omega arith in rw (lt-ltb len p.next k, fits-no len p k)

-- upstream's plan where bit 5 is set, behind the count
abbrev their-table : List ℕ → ℕ → ℕ → ℕ → Option Plan
their-table s p n bits =
    cond (eqb bits 0 || leb (length s) p || ltb (get_or s p 0) 2) none
    (cond (ltb (length s) (p + 1 + ceil_bytes (get_or s p 0 - 1) bits + ceil_bytes n (index_width (get_or s p 0)))) none (some (record {
      n = n;
      bits = bits;
      entries = get_or s p 0;
      lut = p + 1;
      at = p + 1 + ceil_bytes (get_or s p 0 - 1) bits;
      next = p + 1 + ceil_bytes (get_or s p 0 - 1) bits + ceil_bytes n (index_width (get_or s p 0));
      width = index_width (get_or s p 0);
    })))

-- and all of it behind the count
abbrev their-run : List ℕ → ℕ → ℕ → ℕ → Option Plan
their-run s h p n =
    cond (ltb 256 n) none
    (cond (ltb (h % 64) 32) (cond (ltb (length s) (p + ceil_bytes n (h % 32))) none (some (theirs (plain_plan n (h % 32) p)))) (their-table s p n (h % 32)))

module _ (s : List ℕ) (start : ℕ) (y : Bytes s) (few : length s ≤ length_max) where
  short : ltb length_max (length s) ≡ false
  short = le-ltb length_max (length s) few

  -- bit 5 is set
  table_is : (p n bits : ℕ) → their-table s p n bits ≡ said theirs (tabled s p n bits)
  table_is p n bits = bit (dec_lt 0 bits)
    where
      two : 0 < bits → p < length s → Dec (2 ≤ get_or s p 0) → their-table s p n bits ≡ said theirs (tabled s p n bits)
      two b l (yes t) = rw (ne_eqb bits 0 (λ e. omega arith), lt-leb (length s) p l, le-ltb (get_or s p 0) 2 t, tabled-more s p n bits (get_or s p 0) b (byte-ok s p l) t, width_is (get_or s p 0) t (omega (arith, y p)))
          (fits_said (length s) (table_plan n bits (get_or s p 0) (p + 1)))
      two b l (no t) = rw (ne_eqb bits 0 (λ e. omega arith), lt-leb (length s) p l, lt-ltb (get_or s p 0) 2 (omega arith), tabled-few s p n bits (get_or s p 0) b (byte-ok s p l) (omega arith))

      inside : 0 < bits → Dec (p < length s) → their-table s p n bits ≡ said theirs (tabled s p n bits)
      inside b (yes l) = two b l (dec_le 2 (get_or s p 0))
      inside b (no l) = rw (ne_eqb bits 0 (λ e. omega arith), le-leb (length s) p (omega arith), tabled-no s p n bits b (word_at-no 1 s p (omega arith)))

      bit : Dec (0 < bits) → their-table s p n bits ≡ said theirs (tabled s p n bits)
      bit (yes b) = inside b (dec_lt p (length s))
      bit (no b) = rw (eq-eqb bits 0 (omega arith), tabled-zero s p n bits (omega arith))

  run_is : (h n : ℕ) → Headed s start h n → their-run s h (start + 1 + count_bytes h) n ≡ said theirs (ours.plan s start)
  run_is h n g = many (dec_le n 256)
    where
      form : n ≤ 256 → Dec (h % 64 < 32) → their-run s h (start + 1 + count_bytes h) n ≡ said theirs (ours.plan s start)
      form k (yes t) = rw (le-ltb 256 n k, lt-ltb (h % 64) 32 t, plan-plain s start h n g k (omega arith)) (fits_said (length s) (plain_plan n (h % 32) (start + 1 + count_bytes h)))
      form k (no t) = rw (le-ltb 256 n k, le-ltb (h % 64) 32 (omega arith), plan-tabled s start h n g k (λ e. omega arith)) (table_is (start + 1 + count_bytes h) n (h % 32))

      many : Dec (n ≤ 256) → their-run s h (start + 1 + count_bytes h) n ≡ said theirs (ours.plan s start)
      many (yes k) = form k (dec_lt (h % 64) 32)
      many (no k) = let l : 256 < n = omega arith in rw (lt-ltb 256 n l, plan-many s start h n g l)

  -- THE PLAN
  pub plan-is : plan s start ≡ said theirs (ours.plan s start)
  unfolding plan
  plan-is = first (dec_lt start (length s))
    where
      h : ℕ
      h = get_or s start 0

      count : start < length s → h / 64 < 3 → Dec (start + 1 + count_bytes h ≤ length s) → plan s start ≡ said theirs (ours.plan s start)
      count l k (yes m) = rw (lt-leb (length s) start l, short, bytes-are h k, ne_eqb (count_bytes h) 0 (bytes-some h k), le-ltb (length s) (start + 1 + count_bytes h) m)
          (run_is h (little (count_bytes h) s (start + 1)) (record { first = byte-ok s start l; known = k; second = word_at-ok (count_bytes h) s (start + 1) m }))
      count l k (no m) =
          let z : length s < start + 1 + count_bytes h = omega arith in
          rw (lt-leb (length s) start l, short, bytes-are h k, ne_eqb (count_bytes h) 0 (bytes-some h k), lt-ltb (length s) (start + 1 + count_bytes h) z, plan-short s start h (byte-ok s start l) k (word_at-no (count_bytes h) s (start + 1) z))

      form : start < length s → Dec (h / 64 < 3) → plan s start ≡ said theirs (ours.plan s start)
      form l (yes k) = count l k (dec_le (start + 1 + count_bytes h) (length s))
      form l (no k) =
          let z : 3 ≤ h / 64 = omega arith in
          rw (lt-leb (length s) start l, short, bytes-none h z, plan-form s start h (byte-ok s start l) z)

      first : Dec (start < length s) → plan s start ≡ said theirs (ours.plan s start)
      first (yes l) = form l (dec_lt (h / 64) 3)
      first (no l) = rw (le-leb (length s) start (omega arith), plan-no s start (word_at-no 1 s start (omega arith)))

-- ---- the counts

-- a number of a run by its bits
bits_are : (s : List ℕ) (at n b k : ℕ) → Bytes s → at + run_bytes n b ≤ length s → k < n → bits_at s (at * 8 + k * b) b ≡ get_or (run s at n b) k 0
unfolding bits_at
bits_are s at n b k y l h =
    let a : suc k * b ≤ n * b = mul-le-mul_right b h in
    let e : suc k * b ≡ k * b + b = suc-mul k b in
    let i : (at * 8 + k * b) / 8 ≡ at + k * b / 8 = omega arith in
    let j : (at * 8 + k * b) % 8 ≡ k * b % 8 = omega arith in
    let w : at * 8 + k * b + b ≤ 8 * length s = omega arith in
    let d = digit_at (length s) (b + 1) (at * 8 + k * b) b s 0 y w (omega arith) in
    rw (i, j, zero-add) at d ∙ sym (run-digit (b + 1) n b k s at y h (omega arith)) ∙ sym (digits-at (little (run_bytes n b) s at) n b k h)

module _ (s : List ℕ) (p : our.Plan) (y : Bytes s) (table : p.table + run_bytes (p.entries - 1) p.bits ≤ length s) (numbers : p.at + run_bytes p.n p.width ≤ length s) where
  -- 2.23
  pub index_is : (k : ℕ) → k < p.n → index s (theirs p) k ≡ get_or (run s p.at p.n p.width) k 0
  unfolding index
  index_is k l = bits_are s p.at p.n p.width k y numbers l

  -- 2.24
  pub item-plain : (k : ℕ) → k < p.n → p.entries ≡ 0 → item s (theirs p) k ≡ get_or (run s p.at p.n p.width) k 0
  unfolding item
  item-plain k l e = rw (eq-eqb p.entries 0 e) (index_is k l)

  -- 2.25, 2.26
  pub item-named : (k : ℕ) → k < p.n → 1 ≤ p.entries → get_or (run s p.at p.n p.width) k 0 < p.entries
      → item s (theirs p) k ≡ get_or (0 ∷ run s p.table (p.entries - 1) p.bits) (get_or (run s p.at p.n p.width) k 0) 0
  unfolding item
  item-named k l e b = rw (ne_eqb p.entries 0 (λ z. omega arith), index_is k l) (go (get_or (run s p.at p.n p.width) k 0) b)
    where
      go : (q : ℕ) → q < p.entries → cond (eqb q 0) 0 (bits_at s (p.table * 8 + (q - 1) * p.bits) p.bits) ≡ get_or (0 ∷ run s p.table (p.entries - 1) p.bits) q 0
      go zero b = refl
      go (suc q) b = let d : suc q - 1 ≡ q = omega arith in rw (ne_eqb (suc q) 0 (λ z. omega arith), d) (bits_are s p.table (p.entries - 1) p.bits q y table (omega arith))

  all-is : all_to p.n (λ k. ltb (index s (theirs p) k) p.entries) ≡ all_below p.n p.entries (run s p.at p.n p.width)
  all-is = all_same p.n (λ k. ltb (index s (theirs p) k) p.entries) (λ k. ltb (get_or (run s p.at p.n p.width) k 0) p.entries) (λ k l. rw (index_is k l))

  items-plain : p.entries ≡ 0 → tabulate p.n (λ k. item s (theirs p) k) ≡ run s p.at p.n p.width
  unfolding digits
  items-plain e =
      let whole = little (run_bytes p.n p.width) s p.at in
      tabulate-same p.n (λ k. item s (theirs p) k) (λ k. whole / 2 ^ (k * p.width) % 2 ^ p.width)
      (λ k l. item-plain k l e ∙ digits-at whole p.n p.width k l)

  items-named : 1 ≤ p.entries → all_below p.n p.entries (run s p.at p.n p.width) ≡ true
      → tabulate p.n (λ k. item s (theirs p) k) ≡ chosen p.n (0 ∷ run s p.table (p.entries - 1) p.bits) (run s p.at p.n p.width)
  unfolding chosen
  items-named e b =
      let numbers = run s p.at p.n p.width in
      tabulate-same p.n (λ k. item s (theirs p) k) (λ k. get_or (0 ∷ run s p.table (p.entries - 1) p.bits) (get_or numbers k 0) 0)
      (λ k l. item-named k l e (below_each p.n k p.entries numbers b l))

  decoded-by : decoded_by s (theirs p) ≡ said items (unpacked s p)
  decoded-by = go (eqb p.entries 0) refl (all_below p.n p.entries (run s p.at p.n p.width)) refl
    where
      go : (t : Bool) → eqb p.entries 0 ≡ t → (u : Bool) → all_below p.n p.entries (run s p.at p.n p.width) ≡ u → decoded_by s (theirs p) ≡ said items (unpacked s p)
      go true e u f = let z = eqb-true p.entries 0 e in rw (e, unpacked-plain s p z, items-plain z)
      go false e true f =
          let z : p.entries ≡ 0 → ⊥ = eqb-false p.entries 0 e in
          let o : 1 ≤ p.entries = omega arith in
          rw (e, all-is, f, unpacked-table s p o f, items-named o f)
      go false e false f =
          let z : p.entries ≡ 0 → ⊥ = eqb-false p.entries 0 e in
          rw (e, all-is, f, unpacked-bad s p (omega arith) f)

  pub item-cases : ItemCases s p
  item-cases = record { index_is = index_is; item-plain = item-plain; item-named = item-named }

-- THE COUNTS
pub decoded-is : (s : List ℕ) (start : ℕ) → Bytes s → length s ≤ length_max → decoded s start ≡ said items (ours.counts s start)
unfolding decoded
decoded-is s start y few = rw (plan-is s start y few) (go (ours.plan s start) refl)
  where
    go : (m : Res our.Plan) → ours.plan s start ≡ m → on_some (said theirs m) (decoded_by s) ≡ said items (ours.counts s start)
    go (ok p) e =
        let l = laid-spread (planned-is s start e).laid in
        let i = (planned-is s start e).inside in
        let j = l.first in
        let k = l.second in
        rw (counts-by s start e) (decoded-by s p y (omega arith) (omega arith))
    go (fail r) e = rw (counts-no s start e)

-- ---- `inspect`: its clauses, from the promise of `lerc_bits::inspect`

module _ (s : List ℕ) (start : ℕ) (y : Bytes s) (r : Res our.Plan) (promise : r ≡ marked start (ours.plan s start)) where
  given : {p : our.Plan} → r ≡ ok p → ours.plan s start ≡ ok p
  given e = marked-is start (ours.plan s start) (sym promise ∙ e)

  pub inspect-clauses : InspectClauses s start r
  inspect-clauses = record {
    inspect-ok = λ few. rw (promise, marked-accepts start (ours.plan s start), plan-is s start y few) (said-some theirs (ours.plan s start));
    inspect-plan = λ p e few. rw (plan-is s start y few, given e);
    inspect-small = λ p e. let k = plan-kept s start y (given e) in (k.few, k.narrow, k.slim, k.short);
    inspect-order = λ p e. let k = plan-kept s start y (given e) in (k.begun, k.inside, k.tabled);
    inspect-run = λ p e. let l = laid-spread (planned-is s start (given e)).laid in omega (arith, l.second);
    inspect-table = λ p e h. let l = laid-spread (planned-is s start (given e)).laid in omega (arith, l.first);
  }

-- counts that were accepted have no place
pub accepted-marked : (p : ℕ) (m : Res Counts) {r : Res Span} {v : Span} {old new : List ℕ} → r ≡ ok v → CountsDecoded m r old new → CountsDecoded (marked p m) r old new
accepted-marked p (ok c) e d = d
accepted-marked p (fail q) e d = absurd (let x = sym e ∙ d.says in let z : ◌≡◌ {A = ℕ} 0 1 = cc in omega arith)

-- ---- `decode_into`, and `decode`, whose array is 256 zeros at first: from the promise of `lerc_bits::decode`

module _ (s : List ℕ) (start : ℕ) (y : Bytes s) (few : length s ≤ length_max) (r : Res Span) (old new : List ℕ) (promise : CountsDecoded (marked start (ours.counts s start)) r old new) where
  module _ (n next : ℕ) (d : Items) (e : r ≡ ok (record { n = n; next = next })) (t : decoded s start ≡ some d) where
    -- the counts that were read
    read : (m : Res Counts) → ours.counts s start ≡ m → (c : Counts) × (ours.counts s start ≡ ok c) × (n ≡ length c.values) × (next ≡ c.next) × (c.values ≡ d.values) × (c.next ≡ d.end) × (new ≡ over c.values old)
    read (ok c) f =
        let w : ◌≡◌ {A = Res Span} (ok (record { n = n; next = next })) (ok (record { n = length c.values; next = c.next })) = sym e ∙ promise.says ∙ ap (λ (x : Res Counts). marked start x >>= span) f in
        let v : ◌≡◌ {A = Span} (record { n = n; next = next }) (record { n = length c.values; next = c.next }) = ok-is w in
        let u : some (items c) ≡ some d = ap (said items) (sym f) ∙ sym (decoded-is s start y few) ∙ t in
        let i : items c ≡ d = cc in
        (c, f, ap (λ (x : Span). x.n) v, ap (λ (x : Span). x.next) v, ap (λ (x : Items). x.values) i, ap (λ (x : Items). x.end) i, rw (f) at promise.left)
    read (fail q) f = absurd (let w : ◌≡◌ {A = Res Span} (ok (record { n = n; next = next })) (fail (placed start q)) = sym e ∙ promise.says ∙ ap (λ (x : Res Counts). marked start x >>= span) f in let z : ◌≡◌ {A = ℕ} 0 1 = cc in omega arith)

  pub decode-clauses : DecodeClauses s start r new
  decode-clauses = record {
    decode-ok = rw (promise.says, decoded-is s start y few, ← said-marked items start (ours.counts s start)) (told-some {B = Span} (λ c. record { n = length c.values; next = c.next }) items (marked start (ours.counts s start)));
    decode-end = λ n next d e t. let (c, f, l, x, v, w, z) = read n next d e t (ours.counts s start) refl in (x ∙ w, rw (l) (counts-few s start f));
    decode-values = λ n next d e t.
        let (c, f, l, x, v, w, z) = read n next d e t (ours.counts s start) refl in
        ap (λ (k : ℕ). take k new) l ∙ ap (take (length c.values)) z ∙ take-append_seam c.values (drop (length c.values) old) ∙ v;
    decode-inside = λ n next d e t. let (c, f, l, x, v, w, z) = read n next d e t (ours.counts s start) refl in rw (x) (counts-ends s start f);
  }
