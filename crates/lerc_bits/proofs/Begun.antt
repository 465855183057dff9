-- An array whose first entries are the first values of a run: one value more, four more, eight more, and the values behind.
-- Assumes nothing.
use mathlib.Core.Path.{◌≡◌, refl, ◌∙◌, sym, ap}
use mathlib.Core.List.{List, ◌++◌}
use Prim.Native.Nat.{ℕ, suc, ◌+◌, ◌-◌, ◌*◌, ◌/◌, ◌%◌, ◌^◌, ◌≤◌, ◌<◌}
use native.Mathlib.Omega.{arith}
use native.Mathlib.Decide.{dec_le}
use native.Mathlib.Numerals.{add-one, add-two, add-three, add-four}
use native.Mathlib.Nat.{add-zero, add-mul, mul_assoc, mul-le-mul_right, div-one}
use lib.ListN.{length, set, drop}
use lib.Seq.{sets, drop-append-add, drop-drop}
use Rattle.lerc_words.specs.Res.{little}
use Rattle.lerc_words.specs.Lists.{from}
use Rattle.lerc_words.proofs.Little.{Bytes}
use Rattle.lerc_words.proofs.Tables.{table_more, length-table}
use Rattle.lerc_bits.specs.Bits.{run_bytes, digits, run}
use Rattle.lerc_bits.specs.Unpacking.{begun}
use Rattle.lerc_bits.proofs.Run.{length_digits, run-digit, run-word}

pub begun-none : (s : List ℕ) (p n b : ℕ) (old : List ℕ) → old ≡ begun s p n b 0 old
unfolding begun digits from
begun-none s p n b old = refl

pub length-begun : (s : List ℕ) (p n b k : ℕ) (old : List ℕ) → k ≤ length old → length (begun s p n b k old) ≡ length old
unfolding begun digits
length-begun s p n b k old h = length-table k _ old h

-- ---- more values

more : (s : List ℕ) (p n b k : ℕ) (old : List ℕ) → k < length old
    → set (begun s p n b k old) k (little (run_bytes n b) s p / 2 ^ (k * b) % 2 ^ b) ≡ begun s p n b (suc k) old
unfolding begun digits
more s p n b k old h = rw (add-one) at (table_more k (λ j. little (run_bytes n b) s p / 2 ^ (j * b) % 2 ^ b) old h)

-- one more, out of the word at its first byte
pub begun-one : (n b k : ℕ) (s : List ℕ) (p : ℕ) (old : List ℕ) → Bytes s → k < n → b ≤ 57 → n ≤ length old
    → set (begun s p n b k old) k (little 8 s (p + k * b / 8) / 2 ^ (k * b % 8) % 2 ^ b) ≡ begun s p n b (k + 1) old
begun-one n b k s p old y h l m = rw (← run-digit 8 n b k s p y h (omega arith), add-one) (more s p n b k old (omega arith))

-- four more, out of a word in which value k starts u bits up
pub begun-four : (n b k u w : ℕ) (s : List ℕ) (p : ℕ) (old : List ℕ) → Bytes s → p ≤ w → 8 * w + u ≡ 8 * p + k * b → k + 4 ≤ n → u + 4 * b ≤ 64 → n ≤ length old
    → sets (begun s p n b k old) k (digits (little 8 s w / 2 ^ u) 4 b) ≡ begun s p n b (k + 4) old
unfolding digits from
begun-four n b k u w s p old y g e h l m =
    let value : (i : ℕ) → i < 4 → little 8 s w / 2 ^ u / 2 ^ (i * b) % 2 ^ b ≡ little (run_bytes n b) s p / 2 ^ ((k + i) * b) % 2 ^ b =
    λ i j. let r : suc i * b ≤ 4 * b = mul-le-mul_right b j in run-word n b k i u w s p y g e (omega arith) (omega arith) in
    rw (
      value 0 (omega arith),
      value 1 (omega arith),
      value 2 (omega arith),
      value 3 (omega arith),
      add-zero,
      add-one,
      add-two,
      add-three,
      add-four,
      more s p n b k old (omega arith),
      more s p n b (suc k) old (omega arith),
      more s p n b (suc (suc k)) old (omega arith),
      more s p n b (suc (suc (suc k))) old (omega arith),
    )

-- eight more, out of a word that starts with value k
pub begun-eight : (n b k w : ℕ) (s : List ℕ) (p : ℕ) (old : List ℕ) → Bytes s → 8 * w ≡ 8 * p + k * b → k + 8 ≤ n → b ≤ 8 → n ≤ length old
    → sets (sets (begun s p n b k old) k (digits (little 8 s w) 4 b)) (k + 4) (digits (little 8 s w / 2 ^ (4 * b)) 4 b) ≡ begun s p n b (k + 8) old
begun-eight n b k w s p old y e h l m =
    let f = begun-four n b k 0 w s p old y (omega arith) (omega arith) (omega arith) (omega arith) m in
    let d : (k + 4) * b ≡ k * b + 4 * b = add-mul k 4 b in
    let t : k + 8 ≡ k + 4 + 4 = omega arith in
    rw (t, rw (div-one) at f) (begun-four n b (k + 4) (4 * b) w s p old y (omega arith) (omega arith) (omega arith) (omega arith) m)

-- where a group of four starts, on a byte or in its middle, the word has room for its values
pub fours-room : (k b : ℕ) → k % 4 ≡ 0 → b ≤ 16 → k * b % 8 + 4 * b ≤ 64
fours-room k b z h =
    let q = k / 4 in
    let e : k ≡ 4 * q = omega arith in
    let m : k * b ≡ 4 * (q * b) = ap (λ (x : ℕ). x * b) e ∙ mul_assoc 4 q b in
    go (dec_le b 15) m
  where
    go : Dec (b ≤ 15) → k * b ≡ 4 * (k / 4 * b) → k * b % 8 + 4 * b ≤ 64
    go (yes l) m = omega arith
    go (no l) m = let e : b ≡ 16 = omega arith in rw (e) (omega arith)

-- ---- the values behind

over : (s : List ℕ) (p n b m k : ℕ) (old : List ℕ) → m ≤ k → begun s p n b k (begun s p n b m old) ≡ begun s p n b k old
unfolding begun
over s p n b m k old h =
    let front = digits (little (run_bytes n b) s p) m b in
    let e : length front + (k - m) ≡ k = omega (arith, length_digits (little (run_bytes n b) s p) m b) in
    let d : m + (k - m) ≡ k = omega arith in
    ap (λ (l : List ℕ). digits (little (run_bytes n b) s p) k b ++ l)
    (rw (e) at (drop-append-add front (drop m old) (k - m)) ∙ rw (d) at (drop-drop (k - m) m old))

-- what stands there already is a start for them
pub begun-there : (s : List ℕ) (p n b m : ℕ) (old : List ℕ) {new : List ℕ} → new ≡ begun s p n b m old → new ≡ begun s p n b m new
begun-there s p n b m old e = rw (e) (sym (over s p n b m m old (omega arith)))

-- with them the run is whole
pub begun-whole : (s : List ℕ) (p n b m : ℕ) (old : List ℕ) {new last : List ℕ} → m ≤ n → new ≡ begun s p n b m old → last ≡ begun s p n b n new
    → last ≡ run s p n b ++ drop n old
unfolding begun
begun-whole s p n b m old h e f = rw (f, e) (over s p n b m n old h)
