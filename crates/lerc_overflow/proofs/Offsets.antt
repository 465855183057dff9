-- Offsets: how far out one is by the kind as which it was read.
-- Assumes nothing.
use mathlib.Core.Path.{◌≡◌, refl, sym, ap, ◌∙◌}
use mathlib.Core.Bool.{Bool, true, false, not, ◌||◌}
use mathlib.Core.List.{List, []}
use Prim.Native.Nat.{ℕ, ◌*◌, ◌/◌, ◌%◌, ◌^◌, ◌≤◌, ◌<◌}
use native.Mathlib.Nat.{lt_of_lt_of_le, div-lt_iff_lt-mul, le_of_lt, not-le_of_lt}
use native.Mathlib.Decide.{dec_lt}
use native.Mathlib.Omega.{arith}
use borrow.Author.Tests.{ltb-true}
use lib.Dec.{ltb, lit≤, lit<}
use lib.ListN.{get_or}
use Rattle.lerc_words.specs.Res.{ok, require, little}
use Rattle.lerc_words.specs.Lists.{all_to}
use Rattle.lerc_words.proofs.Binding.{bind_is, require-is, ok-is}
use Rattle.lerc_words.proofs.Tables.{all-each}
use Rattle.lerc_numeric.specs.Numeric.{field, finite, mag, negative}
use Rattle.lerc_numeric.specs.Kinds.{type_size, value_of, whole, widened}
use Rattle.lerc_numeric.proofs.Integers.{modulus-le, bound-le, value-six}
use Rattle.lerc_numeric.proofs.Fits.{value-held}
use Rattle.lerc_numeric.proofs.RoundTrip.{wide-near}
use Rattle.lerc_samples.specs.Samples.{offset_kinds, offset_kind}
use Rattle.lerc_samples.proofs.Offsets.{offset-code-past}
use Rattle.lerc_samples.proofs.Reading.{sample-is}
use Rattle.lerc_block.specs.Block.{Offset, finite_offset}
use Rattle.lerc_block.proofs.Returns.{offset-is, finite-is}

-- ---- the value of a kind but 7
pub value-near : (k w : ℕ) → k < 7 → finite (value_of k w) ≡ true → mag (value_of k w) ≤ 2 ^ 2044
unfolding whole
value-near k w h f = go (dec_lt k 6)
  where
    integer : k < 6 → mag (value_of k w) < 2 ^ 32 * 2 ^ 1074
    integer l =
        let held = value-held k w l in
        (div-lt_iff_lt-mul (lit< tt)).0 (lt_of_lt_of_le (lt_of_lt_of_le held.inside (bound-le k (negative (value_of k w)))) (modulus-le k l))

    go : Dec (k < 6) → mag (value_of k w) ≤ 2 ^ 2044
    go (yes l) = le_of_lt (lt_of_lt_of_le (integer l) (lit≤ tt))
    go (no l) =
        let six : value_of k w ≡ widened (w % 2 ^ 32) = sym (value-six k w (widened (w % 2 ^ 32)) (omega arith) refl) in
        let n : field (value_of k w) < 2047 = ltb-true (field (value_of k w)) 2047 f in
        let l : mag (value_of k w) < 2 ^ 1202 = rw (six) (wide-near (w % 2 ^ 32) (rw (six) at n)) in
        le_of_lt (lt_of_lt_of_le l (lit≤ tt))

-- ---- the table has kind 7 for kind 7 alone
lower : ℕ → ℕ → ℕ → Bool
lower most kind code = let k = get_or (get_or offset_kinds kind []) code 9 in ltb k most || not (ltb k 9)

table : (all_to 7 (λ kind. all_to 4 (λ code. lower 7 kind code)) ≡ true) × (all_to 8 (λ kind. all_to 4 (λ code. lower 8 kind code)) ≡ true)
unfolding all_to lower offset_kinds
table = (refl, refl)

offset-lower : (most kind code k : ℕ) → all_to most (λ n. all_to 4 (λ c. lower most n c)) ≡ true → kind ≤ 7 → kind < most → offset_kind kind code ≡ ok k → k < most
unfolding offset_kind lower
offset-lower most kind code k all h hk e = go (dec_lt code 4)
  where
    entry : code < 4 → k < most
    entry hc =
        let x = get_or (get_or offset_kinds kind []) code 9 in
        let b = bind_is (require (ltb x 9) 8) (λ _. ok x) e in
        let l : ltb x 9 ≡ true = require-is (ltb x 9) 8 b.1 in
        let z : x ≡ k = ok-is b.2 in
        let t : (ltb x most || not (ltb x 9)) ≡ true = all-each 4 code (λ c. lower most kind c) (all-each most kind (λ n. all_to 4 (λ c. lower most n c)) all hk) hc in
        let t' : (ltb x most || false) ≡ true = rw (l) at t in
        rw (← z) (ltb-true x most (last (ltb x most) t'))
      where
        last : (t : Bool) → (t || false) ≡ true → t ≡ true
        last true e = refl
        last false e = e

    go : Dec (code < 4) → k < most
    go (yes l) = entry l
    go (no l) = absurd (let f = offset-code-past kind code h (omega arith) in let z : ◌≡◌ {A = ℕ} 0 1 = cc in omega arith)

-- ---- an offset that was read
pub record Read (kind flag : ℕ) (o : Offset) : Type 0 where
  pub offset-finite : finite o.value ≡ true
  pub near : kind < 7 → mag o.value ≤ 2 ^ 2044
  -- one farther out was read as a binary64
  pub wide : kind ≡ 7 → 2 ^ 2044 < mag o.value → offset_kind kind (flag / 64) ≡ ok 7

pub offset_read : (s : List ℕ) (at kind flag : ℕ) (o : Offset) → finite_offset s at kind flag ≡ ok o → Read kind flag o
offset_read s at kind flag o e =
    let f = finite-is s at kind flag e in
    let found = offset-is s at kind flag f.0 in
    let v = (sample-is found.k s at o.value found.sampled).value in
    record {
      offset-finite = f.1;
      near = λ l. rw (v) (value-near found.k (little (type_size found.k) s at) (offset-lower 7 kind (flag / 64) found.k table.0 (omega arith) l found.named) (rw (v) at f.1));
      wide = λ seven far. found.named ∙ ap ok (go found.k (offset-lower 8 kind (flag / 64) found.k table.1 (omega arith) (omega arith) found.named) (little (type_size found.k) s at) v f.1 far);
    }
  where
    go : (k : ℕ) → k < 8 → (w : ℕ) → o.value ≡ value_of k w → finite o.value ≡ true → 2 ^ 2044 < mag o.value → k ≡ 7
    go k l w v f far = by (dec_lt k 7)
      where
        by : Dec (k < 7) → k ≡ 7
        by (yes n) = absurd (not-le_of_lt (rw (v) at far) (value-near k w n (rw (v) at f)))
        by (no n) = omega arith
