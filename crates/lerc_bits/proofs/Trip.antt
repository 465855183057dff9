-- What is written as packed counts is read as it was.
-- Assumes nothing.
use mathlib.Core.Path.{◌≡◌, refl, ap, subst, ◌∙◌}
use mathlib.Core.Bool.{Bool, true, false, cond}
use mathlib.Core.List.{List, [], ◌∷◌, ◌++◌, append_assoc}
use Prim.Native.Nat.{ℕ, zero, suc, ◌+◌, ◌-◌, ◌*◌, ◌/◌, ◌%◌, ◌^◌, ◌≤◌, ◌<◌}
use native.Mathlib.Omega.{arith}
use native.Mathlib.Decide.{dec_lt}
use native.Mathlib.Nat.{zero-add, zero-mul, suc-mul, mul-suc, pow-zero, pow-succ', mul-le-mul_left, mod-eq_of_lt, div-eq_of_lt, div-one, add-mul-mod_self_left, add-mul-div_left, div-div-eq-div-mul, lt_of_lt_of_le}
use borrow.Author.Tests.{ltb-true, lt-ltb, eq-eqb, eqb-true}
use lib.Arith.{mod-mul}
use lib.Dec.{ltb, eqb}
use lib.Pow.{pow-add, pow_pos, pow_mono}
use lib.ListN.{length, get_or, length-append, get_or-eq_default}
use Rattle.lerc_words.specs.Res.{ok, little, word_at}
use Rattle.lerc_words.specs.Lists.{from, tabulate}
use Rattle.lerc_words.proofs.Little.{word_at-ok, byte_pow, little-behind}
use Rattle.lerc_words.proofs.Tables.{length-tabulate, get_d_tabulate, tabulate-same, from-shift, all_true}
use Rattle.lerc_bits.specs.Bits.{run_bytes, index_width, count_bytes, plain_plan, table_plan, digits, run, chosen, all_below, counts}
use Rattle.lerc_bits.specs.Packing.{packed, bytes_of, run_of, head_of, plain_of, place_of, indices_of, table_of}
use Rattle.lerc_bits.proofs.IndexWidth.{index-enough}
use Rattle.lerc_bits.proofs.Returns.{Headed, counts-by, unpacked-plain, unpacked-table}
use Rattle.lerc_bits.proofs.Plans.{Planned, planned, laid-plain, laid_table}

-- ---- bytes

length-bytes : (n x : ℕ) → length (bytes_of n x) ≡ n
unfolding bytes_of
length-bytes zero x = refl
length-bytes (suc n) x = ap suc (length-bytes n (x / 256))

-- the bytes of a number are that number
bytes-trip : (n x : ℕ) (more : List ℕ) → x < 256 ^ n → little n (bytes_of n x ++ more) 0 ≡ x
unfolding bytes_of little
bytes-trip zero x more h = let e : 256 ^ 0 ≡ 1 = pow-zero 256 in omega arith
bytes-trip (suc n) x more h =
    let e : 256 ^ suc n ≡ 256 * 256 ^ n = pow-succ' 256 n in
    let d : x / 256 < 256 ^ n = omega arith in
    let b : little n (x % 256 ∷ (bytes_of n (x / 256) ++ more)) 1 ≡ little n (bytes_of n (x / 256) ++ more) 0 = little-behind n (x % 256 ∷ []) (bytes_of n (x / 256) ++ more) in
    rw (b, bytes-trip n (x / 256) more d) (omega arith)

byte-trip : (x : ℕ) (front more : List ℕ) → word_at 1 (front ++ (x ∷ more)) (length front) ≡ ok x
unfolding little
byte-trip x front more =
    let s = front ++ (x ∷ more) in
    let l : length s ≡ length front + suc (length more) = simp length-append in
    let b : little 1 s (length front) ≡ little 1 (x ∷ more) 0 = little-behind 1 front (x ∷ more) in
    let z : x + 256 * 0 ≡ x = omega arith in
    word_at-ok 1 s (length front) (omega arith) ∙ ap ok (b ∙ z)

-- behind other bytes they are read as a word
word-trip : (n x : ℕ) (front more : List ℕ) → x < 256 ^ n → word_at n (front ++ (bytes_of n x ++ more)) (length front) ≡ ok x
word-trip n x front more h =
    let s = front ++ (bytes_of n x ++ more) in
    let l : length s ≡ length front + (n + length more) = simp (length-append, length-bytes) in
    let b : little n s (length front) ≡ x = little-behind n front (bytes_of n x ++ more) ∙ bytes-trip n x more h in
    word_at-ok n s (length front) (omega arith) ∙ ap ok b

-- ---- digits

-- every value has `bits` digits at most
abbrev pub Small : ℕ → List ℕ → Type 0
Small bits vs = (i : ℕ) → get_or vs i 0 < 2 ^ bits

low_digit : (bits v p : ℕ) → v < 2 ^ bits → (v + 2 ^ bits * p) / 2 ^ (0 * bits) % 2 ^ bits ≡ v
low_digit bits v p h = rw (zero-mul, pow-zero, div-one, add-mul-mod_self_left) (mod-eq_of_lt h)

high_digit : (bits v p i : ℕ) → v < 2 ^ bits → (v + 2 ^ bits * p) / 2 ^ (suc i * bits) % 2 ^ bits ≡ p / 2 ^ (i * bits) % 2 ^ bits
high_digit bits v p i h =
    let e : suc i * bits ≡ bits + i * bits = omega (arith, suc-mul i bits) in
    rw (e, pow-add 2 bits (i * bits), ← div-div-eq-div-mul (v + 2 ^ bits * p) (2 ^ bits) (2 ^ (i * bits)), add-mul-div_left v p (pow_pos bits), div-eq_of_lt h, zero-add)

-- the digits of packed values are the values
digits-trip : (bits : ℕ) (vs : List ℕ) → Small bits vs → digits (packed bits vs) (length vs) bits ≡ vs
unfolding digits packed from
digits-trip bits [] h = refl
digits-trip bits (v ∷ vs) h =
    let p = packed bits vs in
    let a = low_digit bits v p (h 0) in
    let s = from-shift (length vs) 0 (λ i. (v + 2 ^ bits * p) / 2 ^ (i * bits) % 2 ^ bits) in
    let b = tabulate-same (length vs) (λ i. (v + 2 ^ bits * p) / 2 ^ (suc i * bits) % 2 ^ bits) (λ i. p / 2 ^ (i * bits) % 2 ^ bits) (λ i l. high_digit bits v p i (h 0)) in
    let c = digits-trip bits vs (λ i. h (suc i)) in
    rw (a, s, b, c)

packed_lt : (bits : ℕ) (vs : List ℕ) → Small bits vs → packed bits vs < 2 ^ (length vs * bits)
unfolding packed
packed_lt bits [] h = rw (zero-mul) (omega arith)
packed_lt bits (v ∷ vs) h =
    let p = packed bits vs in
    let c : suc p ≤ 2 ^ (length vs * bits) = packed_lt bits vs (λ i. h (suc i)) in
    let d : 2 ^ bits * suc p ≤ 2 ^ bits * 2 ^ (length vs * bits) = mul-le-mul_left (2 ^ bits) c in
    let m : 2 ^ bits * suc p ≡ 2 ^ bits * p + 2 ^ bits = mul-suc (2 ^ bits) p in
    let e : suc (length vs) * bits ≡ bits + length vs * bits = omega (arith, suc-mul (length vs) bits) in
    rw (e, pow-add 2 bits (length vs * bits)) (omega (arith, h 0))

-- ---- a run

pub length_run : (bits : ℕ) (vs : List ℕ) → length (run_of bits vs) ≡ run_bytes (length vs) bits
unfolding run_of
length_run bits vs = length-bytes (run_bytes (length vs) bits) (packed bits vs)

pub run-trip : (bits : ℕ) (vs front more : List ℕ) → Small bits vs → run (front ++ (run_of bits vs ++ more)) (length front) (length vs) bits ≡ vs
unfolding run_of
run-trip bits vs front more h =
    let m = run_bytes (length vs) bits in
    let x = packed bits vs in
    let w : 2 ^ (length vs * bits) ≤ 2 ^ (8 * m) = pow_mono (omega arith) in
    let y : x < 256 ^ m = rw (byte_pow m) (lt_of_lt_of_le (packed_lt bits vs h) w) in
    let b : little m (front ++ (bytes_of m x ++ more)) (length front) ≡ x = little-behind m front (bytes_of m x ++ more) ∙ bytes-trip m x more y in
    rw (b) (digits-trip bits vs h)

-- ---- the bytes in front

-- the first byte and the count that were written are read
record Written (head : List ℕ) (form n : ℕ) (rest : List ℕ) : Type 0 where
  h : ℕ
  headed : Headed (head ++ rest) 0 h n
  long : 1 + count_bytes h ≡ length head
  low : form ≡ h / 32 % 2 * 32 + h % 32

written : (size h n : ℕ) (rest : List ℕ) → count_bytes h ≡ size → h / 64 < 3 → n < 256 ^ size → Written (h ∷ bytes_of size n) (h % 64) n rest
written size h n rest e k l =
    record {
      h = h;
      headed = record { first = byte-trip h [] (bytes_of size n ++ rest); known = k; second = rw (e) (word-trip size n (h ∷ []) rest l) };
      long = rw (e, length-bytes) (omega arith);
      low = mod-mul h {m = 2} {c = 32} (omega arith) (omega arith);
    }

head-trip : (form n : ℕ) (rest : List ℕ) → form < 64 → n ≤ 256 → Written (head_of form n) form n rest
unfolding head_of
head-trip form n rest h k = go (ltb n 256) refl
  where
    go : (t : Bool) → ltb n 256 ≡ t → Written (cond t ((128 + form) ∷ bytes_of 1 n) ((64 + form) ∷ bytes_of 2 n)) form n rest
    go true t =
        let l : n < 256 = ltb-true n 256 t in
        let z : (128 + form) / 64 ≡ 2 = omega arith in
        let y : (128 + form) % 64 ≡ form = omega arith in
        rw (y) at (written 1 (128 + form) n rest (rw (z)) (omega arith) l)
    go false t =
        let z : (64 + form) / 64 ≡ 1 = omega arith in
        let y : (64 + form) % 64 ≡ form = omega arith in
        rw (y) at (written 2 (64 + form) n rest (rw (z)) (omega arith) (omega arith))

-- ---- values without a table

pub counts-trip : (bits : ℕ) (vs more : List ℕ) → bits ≤ 31 → length vs ≤ 256 → Small bits vs
    → counts (plain_of bits vs ++ more) 0 ≡ ok (record { values = vs; next = length (plain_of bits vs) })
unfolding plain_of
counts-trip bits vs more b l h =
    let n = length vs in
    let head = head_of bits n in
    let rest = run_of bits vs ++ more in
    let w = head-trip bits n rest (omega arith) l in
    let s = head ++ rest in
    let p = plain_plan n bits (length head) in
    let e : w.h % 32 ≡ bits = omega (arith, w.low) in
    let d : 0 + 1 + count_bytes w.h ≡ length head = omega (arith, w.long) in
    let m : length s ≡ length head + (run_bytes n bits + length more) = simp (length-append, length_run) in
    let g : Planned s 0 p = record { h = w.h; n = n; headed = w.headed; few = l; laid = laid-plain (omega (arith, w.low)) (rw (d, e)); inside = omega arith } in
    let t : length (head ++ run_of bits vs) ≡ length head + run_bytes n bits = simp (length-append, length_run) in
    rw (append_assoc, t) (counts-by s 0 (planned s 0 g) ∙ unpacked-plain s p refl ∙ rw (run-trip bits vs head more h))

-- ---- values of a table

-- each value stands in the table, or is zero
abbrev pub InTable : List ℕ → List ℕ → Type 0
InTable table vs = (i : ℕ) → i < length vs → (j : ℕ) × (j < suc (length table)) × (get_or (0 ∷ table) j 0 ≡ get_or vs i 0)

-- a value that stands in a list is found there
place_is : (t : List ℕ) (v j : ℕ) → j < length t → get_or t j 0 ≡ v → (place_of t v < length t) × (get_or t (place_of t v) 0 ≡ v)
unfolding place_of
place_is [] v j h e = absurd (omega arith)
place_is (x ∷ t) v zero h e = rw (eq-eqb x v e) (omega arith, e)
place_is (x ∷ t) v (suc j) h e = go (eqb x v) refl (place_is t v j (omega arith) e)
  where
    go : (b : Bool) → eqb x v ≡ b → (place_of t v < length t) × (get_or t (place_of t v) 0 ≡ v)
        → (cond b 0 (suc (place_of t v)) < suc (length t)) × (get_or (x ∷ t) (cond b 0 (suc (place_of t v))) 0 ≡ v)
    go true b r = (omega arith, eqb-true x v b)
    go false b r = (omega arith, r.1)

tabulate-all : (vs : List ℕ) → tabulate (length vs) (λ k. get_or vs k 0) ≡ vs
unfolding from
tabulate-all [] = refl
tabulate-all (v ∷ vs) = rw (from-shift (length vs) 0 (λ k. get_or (v ∷ vs) k 0), tabulate-all vs)

module _ (table vs : List ℕ) (named : InTable table vs) where
  length-indices : length (indices_of table vs) ≡ length vs
  unfolding indices_of
  length-indices = length-tabulate (length vs) _

  index_is : (k : ℕ) → k < length vs → (get_or (indices_of table vs) k 0 < suc (length table)) × (get_or (0 ∷ table) (get_or (indices_of table vs) k 0) 0 ≡ get_or vs k 0)
  unfolding indices_of
  index_is k l =
      let f = named k l in
      rw (get_d_tabulate (length vs) (λ j. place_of (0 ∷ table) (get_or vs j 0)) k 0 l) (place_is (0 ∷ table) (get_or vs k 0) f.0 f.1 f.2)

  indices-below : all_below (length vs) (suc (length table)) (indices_of table vs) ≡ true
  indices-below = all_true (length vs) (λ k. ltb (get_or (indices_of table vs) k 0) (suc (length table))) (λ k l. lt-ltb _ _ (index_is k l).0)

  indices-small : Small (index_width (suc (length table))) (indices_of table vs)
  indices-small k = go (dec_lt k (length vs))
    where
      go : Dec (k < length vs) → get_or (indices_of table vs) k 0 < 2 ^ index_width (suc (length table))
      go (yes l) = omega (arith, (index_is k l).0, index-enough (suc (length table)) (omega arith))
      go (no l) =
          let h : length (indices_of table vs) ≤ k = omega (arith, length-indices) in
          rw (get_or-eq_default (indices_of table vs) 0 h) (pow_pos (index_width (suc (length table))))

  indices-choose : chosen (length vs) (0 ∷ table) (indices_of table vs) ≡ vs
  unfolding chosen
  indices-choose =
      tabulate-same (length vs) (λ k. get_or (0 ∷ table) (get_or (indices_of table vs) k 0) 0) (λ k. get_or vs k 0) (λ k l. (index_is k l).1) ∙ tabulate-all vs

pub table-trip : (bits : ℕ) (table vs more : List ℕ) → 0 < bits → bits ≤ 31 → length vs ≤ 256 → 0 < length table → length table ≤ 254 → Small bits table → InTable table vs
    → counts (table_of bits table vs ++ more) 0 ≡ ok (record { values = vs; next = length (table_of bits table vs) })
unfolding table_of
table-trip bits table vs more a b l c d h m =
    let n = length vs in
    let entries = suc (length table) in
    let width = index_width entries in
    let head = head_of (32 + bits) n in
    let values = run_of bits table in
    let indices = run_of width (indices_of table vs) in
    let rest = entries ∷ (values ++ (indices ++ more)) in
    let s = head ++ rest in
    let w = head-trip (32 + bits) n rest (omega arith) l in
    let p = table_plan n bits entries (length head + 1) in
    let e : w.h % 32 ≡ bits = omega (arith, w.low) in
    let f : w.h / 32 % 2 ≡ 0 → ⊥ = λ z. omega (arith, w.low) in
    let to : 0 + 1 + count_bytes w.h ≡ length head = omega (arith, w.long) in
    let front = head ++ (entries ∷ []) in
    let one : front ++ (values ++ (indices ++ more)) ≡ s = append_assoc head (entries ∷ []) (values ++ (indices ++ more)) in
    let two : (front ++ values) ++ (indices ++ more) ≡ s = append_assoc front values (indices ++ more) ∙ one in
    let lf : length front ≡ length head + 1 = simp length-append in
    let lt : length (front ++ values) ≡ length head + 1 + run_bytes (length table) bits = simp (length-append, length_run) in
    let li : length (indices_of table vs) ≡ n = length-indices table vs m in
    let q : length table ≡ entries - 1 = omega arith in
    let r1 : run s p.table (entries - 1) bits ≡ table = subst (λ (x : ℕ). run s (length head + 1) x bits ≡ table) q (rw (one, lf) at (run-trip bits table front (indices ++ more) h)) in
    let r2 : run s p.at n width ≡ indices_of table vs = subst (λ (x : ℕ). run s (length head + 1 + run_bytes x bits) n width ≡ indices_of table vs) q (rw (two, lt, li) at (run-trip width (indices_of table vs) (front ++ values) more (indices-small table vs m))) in
    let ri : length indices ≡ run_bytes n width = rw (li) at (length_run width (indices_of table vs)) in
    let ls : length s ≡ length head + suc (run_bytes (length table) bits + (length indices + length more)) = simp (length-append, length_run) in
    let rt : run_bytes (length table) bits ≡ run_bytes (entries - 1) bits = ap (λ (x : ℕ). run_bytes x bits) q in
    let g : Planned s 0 p = record {
      h = w.h;
      n = n;
      headed = w.headed;
      few = l;
      laid = laid_table entries f (omega arith) (rw (to) (byte-trip entries head (values ++ (indices ++ more)))) (omega arith) (rw (to, e));
      inside = omega arith;
    } in
    let all : (head ++ (entries ∷ (values ++ indices))) ++ more ≡ s = simp append_assoc in
    let lw : length (head ++ (entries ∷ (values ++ indices))) ≡ p.next = simp length-append (omega (arith, length_run bits table)) in
    rw (all, lw)
    (counts-by s 0 (planned s 0 g) ∙ unpacked-table s p (omega arith) (rw (r2) (indices-below table vs m)) ∙ rw (r1, r2, indices-choose table vs m))
