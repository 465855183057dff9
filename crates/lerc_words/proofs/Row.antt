-- Words one after the other: where they lie, and the tables of them.
-- Assumes nothing.
use mathlib.Core.Path.{◌≡◌, ◌∙◌, ap}
use mathlib.Core.List.{List, [], ◌++◌, append-nil}
use Prim.Native.Nat.{ℕ, zero, suc, ◌+◌, ◌-◌, ◌*◌, ◌/◌, ◌≤◌, ◌<◌, min}
use native.Mathlib.Omega.{arith}
use native.Mathlib.Nat.{mul-le-mul_right, div-mul-le_self, zero-mul, suc-mul, add-mul, add_assoc}
use lib.ListN.{length, take, drop, length-take, length-drop, length-append}
use lib.Seq.{take_at, drop-length}
use borrow.Rule.Slice.PartMut.{mid_of, put_mid, mid_len, Post-is}
use Rattle.lerc_words.specs.Res.{little}
use Rattle.lerc_words.specs.Lists.{tabulate}
use Rattle.lerc_words.proofs.Tables.{length-tabulate, tabulate-same, tabulate-parts}

-- of words of some bytes, as many as begin eight bytes or more before the end
pub row_inside : (end at size k : ℕ) → 8 ≤ end → at ≤ end - 8 → k < (end - 8 - at) / size + 1 → at + k * size + 8 ≤ end
row_inside end at size k g h l =
    let m : k ≤ (end - 8 - at) / size = omega arith in
    omega (arith, mul-le-mul_right size m, div-mul-le_self (end - 8 - at) size)

-- the place behind such words is a place again
pub row-end : (few at size end top : ℕ) → ((k : ℕ) → k < few → (size ≤ 8) × (at + k * size + 8 ≤ end)) → at < top → end < top → at + few * size < top
row-end zero at size end top h a e = rw (zero-mul) (omega arith)
row-end (suc j) at size end top h a e = let (u, w) = h j (omega arith) in omega (arith, suc-mul j size)

-- a row in two parts, each lent and put back
pub row-parts : (n : ℕ) (s : List ℕ) (at size few : ℕ) (old first second : List ℕ) → few ≤ length old
    → first ≡ tabulate (length (take few old)) (λ k. little n s (at + k * size))
    → second ≡ tabulate (length (mid_of few (length (first ++ drop few old) - few) (first ++ drop few old))) (λ k. little n s (at + few * size + k * size))
    → put_mid few (length (first ++ drop few old) - few) (first ++ drop few old) second ≡ tabulate (length old) (λ k. little n s (at + k * size))
row-parts n s at size few old first second h e d =
    let all : List ℕ = first ++ drop few old in
    let f : ℕ → ℕ = λ k. little n s (at + k * size) in
    let l : length (take few old) ≡ few = simp length-take (omega arith) in
    let k : length first ≡ few = rw (e, length-tabulate) l in
    let t : length all ≡ length old = simp (length-append, length-drop) (omega arith) in
    let m : few + (length all - few) ≡ length old = omega arith in
    let p : length (mid_of few (length all - few) all) ≡ length all - few = mid_len few (length all) all (omega arith) in
    let q : drop (length all - few) (drop few all) ≡ [] = Post-is few (length all) all (omega arith) ∙ drop-length all in
    let r : second ≡ tabulate (length all - few) (λ i. f (few + i)) =
    d ∙ rw (p) (tabulate-same (length all - few) _ _ (λ i b. ap (λ (j : ℕ). little n s j) (add_assoc at (few * size) (i * size) ∙ rw (add-mul few i size)))) in
    rw (take_at first (drop few old) few k, q, append-nil, r, ← m, ← tabulate-parts few (length all - few) f) (ap (λ (x : List ℕ). x ++ tabulate (length all - few) (λ i. f (few + i))) (rw (l) at e))

-- a row of words of at most eight bytes at the front of a list
pub row-front : (s : List ℕ) (at size n : ℕ) (old : List ℕ) {new : List ℕ} → size ≤ 8 → n ≤ length old
    → new ≡ tabulate (length (take n old)) (λ k. little (min size 8) s (at + k * size)) → new ++ drop n old ≡ tabulate n (λ k. little size s (at + k * size)) ++ drop n old
row-front s at size n old z h e =
    let l : length (take n old) ≡ n = simp length-take (omega arith) in
    let m : min size 8 ≡ size = omega arith in
    rw (e, l, m)
