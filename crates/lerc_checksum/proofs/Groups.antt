-- Words counted in a row, and groups of them.
-- Assumes nothing.
use Prim.Native.Nat.{ℕ, zero, suc, ◌+◌, ◌*◌, ◌-◌, ◌/◌, ◌%◌, ◌^◌, ◌≤◌, ◌<◌}
use mathlib.Core.Path.{◌≡◌, refl, sym, ap, ◌∙◌}
use mathlib.Core.Logic.{◌≢◌}
use mathlib.Core.List.{List}
use native.Mathlib.Omega.{arith}
use native.Mathlib.Decide.{dec_lt}
use native.Mathlib.Nat.{suc-mul, add_assoc, add-zero, add-suc, mul-le-mul_right, mul-le-mul, le_refl}
use native.Mathlib.Numerals.{add-one}
use lib.ListN.{length, get_or, get_or-eq_default}
use borrow.Author.Tests.{eq-eqb, ne_eqb}
use Rattle.lerc_checksum.specs.declared.Sums.{Sums}
use Rattle.lerc_checksum.specs.Checksum.{word, start, counted, folded, sums_to, closed_to, group_words}
use Rattle.lerc_checksum.specs.Parts.{run, up_to, RoomFor, Small}
use Rattle.lerc_checksum.specs.Laws.{Bytes}
use Rattle.lerc_checksum.proofs.Bounds.{word_lt, up_to-add, up_to-mono}

-- an odd last byte, high over zero
pub last_word : (s : List ℕ) → length s % 2 ≢ 0 → word s (length s / 2) ≡ 256 * get_or s (length s - 1) 0 + 0
unfolding word
last_word s odd =
    let n : ℕ = length s / 2 in
    let at : 2 * n ≡ length s - 1 = omega arith in
    rw (at, get_or-eq_default s 0 (let x : length s ≤ 2 * n + 1 = omega arith in rw (at) at x))

-- ---- runs

pub run_none : (s : List ℕ) (k : ℕ) (t : Sums) → run s k 0 t ≡ t
unfolding run
run_none s k t = refl

pub run_more : (s : List ℕ) (k n : ℕ) (t : Sums) → run s k (n + 1) t ≡ counted (run s k n t) (word s (k + n))
unfolding run
run_more s k n t = rw (add-one n)

-- one run behind another
pub run-run : (s : List ℕ) (k n m : ℕ) (t : Sums) → run s (k + n) m (run s k n t) ≡ run s k (n + m) t
unfolding run
run-run s k n zero t = rw (add-zero n)
run-run s k n (suc m) t = rw (add-suc n m, run-run s k n m t, add_assoc k n m)

-- ---- how far the sums grow

-- how far n words may raise both sums
record Grown (n : ℕ) (t u : Sums) : Type 0 where
  first : u.first ≤ t.first + n * 65535
  second : u.second ≤ t.second + n * t.first + up_to n * 65535

grown : (s : List ℕ) → Bytes s → (k n : ℕ) (t : Sums) → Grown n t (run s k n t)
unfolding run
grown s b k zero t = record { first = omega arith; second = omega arith }
grown s b k (suc n) t =
    let g = grown s b k n t in
    let w = word_lt s b (k + n) in
    record { first = omega (arith, g.first, w); second = omega (arith, g.first, g.second, w, suc-mul n t.first) }

-- room for n words is room for each of them
pub room_next : (s : List ℕ) → Bytes s → (k n i : ℕ) (t : Sums) → RoomFor n t → i < n
    → (run s k i t).second + ((run s k i t).first + word s (k + i)) < 2 ^ 32
unfolding run
room_next s b k n i t r h =
    let g = grown s b k (suc i) t in
    omega (arith, g.second, r, up_to-mono (suc i) n h, mul-le-mul_right t.first h)

-- a group's words leave room for those that are left of it
pub room-left : (s : List ℕ) → Bytes s → (k i m : ℕ) (t : Sums) → Small t → i + m ≤ group_words → RoomFor m (run s k i t)
room-left s b k i m t small h =
    let g = grown s b k i t in
    let a : i * t.first ≤ i * 65895 = mul-le-mul (le_refl i) small.first in
    let c : m * (run s k i t).first ≤ m * (65895 + i * 65535) = mul-le-mul (le_refl m) (let x : (run s k i t).first ≤ 65895 + i * 65535 = omega (arith, g.first, small.first) in x) in
    let d : up_to (i + m) ≤ up_to 359 = up_to-mono (i + m) 359 h in
    omega (arith, g.second, small.second, a, c, d, up_to-add i m)

-- ---- groups

sums-open : (s : List ℕ) (n : ℕ) → suc n % group_words ≢ 0 → sums_to s (suc n) ≡ counted (sums_to s n) (word s n)
unfolding sums_to
sums-open s n z = rw (ne_eqb _ _ z)

sums-full : (s : List ℕ) (n : ℕ) → suc n % group_words ≡ 0 → sums_to s (suc n) ≡ folded (counted (sums_to s n) (word s n))
unfolding sums_to
sums-full s n z = rw (eq-eqb _ _ z)

closed-full : (s : List ℕ) (n : ℕ) → n % group_words ≡ 0 → closed_to s n ≡ sums_to s n
unfolding closed_to
closed-full s n z = rw (eq-eqb _ _ z)

closed-open : (s : List ℕ) (n : ℕ) → n % group_words ≢ 0 → closed_to s n ≡ folded (sums_to s n)
unfolding closed_to
closed-open s n z = rw (ne_eqb _ _ z)

-- within a group nothing is folded
open-group : (s : List ℕ) (k n : ℕ) → k % group_words ≡ 0 → n < group_words → sums_to s (k + n) ≡ run s k n (sums_to s k)
unfolding run
open-group s k zero e h = rw (add-zero k)
open-group s k (suc n) e h =
    let inside : suc (k + n) % group_words ≢ 0 = λ z. omega arith in
    rw (add-suc k n) (sums-open s (k + n) inside ∙ ap (λ (t : Sums). counted t (word s (k + n))) (open-group s k n e (omega arith)))

-- a fold after a group's words, or after the last of fewer
pub group-closed : (s : List ℕ) (k n : ℕ) → k % group_words ≡ 0 → 0 < n → n ≤ group_words → folded (run s k n (closed_to s k)) ≡ closed_to s (k + n)
unfolding run
group-closed s k zero e z h = absurd (omega arith)
group-closed s k (suc n) e z h = go (dec_lt (suc n) group_words)
  where
    inside : sums_to s (k + n) ≡ run s k n (closed_to s k)
    inside = open-group s k n e (omega arith) ∙ ap (run s k n) (sym (closed-full s k e))

    go : Dec (suc n < group_words) → folded (run s k (suc n) (closed_to s k)) ≡ closed_to s (k + suc n)
    go (yes l) =
        let out : (k + suc n) % group_words ≢ 0 = λ z. omega arith in
        rw (closed-full s k e) (sym (closed-open s (k + suc n) out ∙ ap folded (open-group s k (suc n) e l)))
    go (no q) =
        let full : suc (k + n) % group_words ≡ 0 = omega arith in
        rw (add-suc k n) (sym (closed-full s (suc (k + n)) full ∙ sums-full s (k + n) full ∙ ap (λ (t : Sums). folded (counted t (word s (k + n)))) inside))

pub start-closed : (s : List ℕ) → closed_to s 0 ≡ start
unfolding closed_to sums_to
start-closed s = refl
