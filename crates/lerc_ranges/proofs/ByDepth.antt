-- Tables with a number for each depth, and the numbers in them.
-- Assumes nothing.
use Prim.Native.Nat.{ℕ, ◌+◌, ◌*◌, ◌≤◌, ◌<◌}
use mathlib.Core.Path.{◌≡◌, ◌∙◌}
use mathlib.Core.Logic.{◌≢◌}
use mathlib.Core.Bool.{true, cond, ◌&&◌}
use mathlib.Core.List.{List}
use native.Mathlib.Omega.{arith}
use native.Mathlib.Decide.{dec_lt}
use native.Mathlib.Numerals.{add-one}
use native.Mathlib.Nat.{mod-eq_of_lt, mul-le-mul}
use borrow.Author.Tests.{lt-ltb, le-ltb}
use lib.ListN.{length, get_or, set, replicate, length-set}
use lib.Seq.{ext_get_or, get_or-set_same, get_or-set_other}
use lib.Dec.{ltb}
use Rattle.lerc_words.specs.Res.{little}
use Rattle.lerc_words.specs.Lists.{tabulate}
use Rattle.lerc_words.proofs.Little.{Bytes, little-lt, little-word, byte_pow}
use Rattle.lerc_words.proofs.Tables.{length-tabulate, get_d_tabulate, from-same, replicate-from, all_none, all-suc}
use Rattle.lerc_numeric.specs.Kinds.{type_size, modulus, value_of}
use Rattle.lerc_numeric.proofs.Integers.{size-le}
use Rattle.lerc_header.specs.Limits.{depth_limit}
use Rattle.lerc_header.specs.Header.{pair_right}
use Rattle.lerc_ranges.specs.declared.Ranges.{Ranges}
use Rattle.lerc_ranges.specs.Ranges.{by_depth, number_at, pairs_right}

-- ---- n entries, of which the first k are f's

abbrev begun : ℕ → ℕ → (ℕ → ℕ) → ℕ → List ℕ
begun n k f d = tabulate n (λ i. cond (ltb i k) (f i) d)

begun-none : (n : ℕ) (f : ℕ → ℕ) (d : ℕ) → replicate n d ≡ begun n 0 f d
begun-none n f d = replicate-from n 0 d ∙ from-same n 0 (λ _. d) _ (λ k _. rw (le-ltb (0 + k) 0 (omega arith)))

begun_more : (n k : ℕ) (f : ℕ → ℕ) (d : ℕ) → k < n → set (begun n k f d) k (f k) ≡ begun n (k + 1) f d
begun_more n k f d h =
    ext_get_or 0 (set (begun n k f d) k (f k)) (begun n (k + 1) f d) (simp (length-set, length-tabulate))
    (λ i l. let m : i < n = rw (length-set, length-tabulate) at l in go i m (dec_lt i k) (dec_lt k i))
  where
    go : (i : ℕ) → i < n → Dec (i < k) → Dec (k < i) → get_or (set (begun n k f d) k (f k)) i 0 ≡ get_or (begun n (k + 1) f d) i 0
    go i m (yes p) q =
        let e : i ≢ k = λ e. absurd (omega arith) in
        let l : i < k + 1 = omega arith in
        rw (get_or-set_other (begun n k f d) k i (f k) 0 e, get_d_tabulate {A = ℕ} n _ i 0 m, get_d_tabulate {A = ℕ} n _ i 0 m, lt-ltb i k p, lt-ltb i (k + 1) l)
    go i m (no p) (yes q) =
        let e : i ≢ k = λ e. absurd (omega arith) in
        let l : k ≤ i = omega arith in
        let j : k + 1 ≤ i = omega arith in
        rw (get_or-set_other (begun n k f d) k i (f k) 0 e, get_d_tabulate {A = ℕ} n _ i 0 m, get_d_tabulate {A = ℕ} n _ i 0 m, le-ltb i k l, le-ltb i (k + 1) j)
    go i m (no p) (no q) =
        let e : i ≡ k = omega arith in
        let w : k < length (begun n k f d) = rw (length-tabulate) h in
        let l : k < k + 1 = omega arith in
        rw (e, get_or-set_same (begun n k f d) k (f k) 0 w, get_d_tabulate {A = ℕ} n _ k 0 h, lt-ltb k (k + 1) l)

pub by-depth-none : (f : ℕ → ℕ) (d : ℕ) → replicate depth_limit d ≡ by_depth 0 f d
unfolding by_depth
by-depth-none f d = begun-none depth_limit f d

pub by-depth-more : (k : ℕ) (f : ℕ → ℕ) (d : ℕ) → k < depth_limit → set (by_depth k f d) k (f k) ≡ by_depth (k + 1) f d
unfolding by_depth
by-depth-more k f d h = begun_more depth_limit k f d h

pub length-by-depth : (k : ℕ) (f : ℕ → ℕ) (d : ℕ) → length (by_depth k f d) ≡ depth_limit
unfolding by_depth
length-by-depth k f d = length-tabulate depth_limit _

pub getD-by-depth : (k : ℕ) (f : ℕ → ℕ) (d i : ℕ) → k ≤ depth_limit → i < k → get_or (by_depth k f d) i 0 ≡ f i
unfolding by_depth
getD-by-depth k f d i h l =
    let m : i < depth_limit = omega arith in
    rw (get_d_tabulate {A = ℕ} depth_limit _ i 0 m, lt-ltb i k l)

-- ---- the numbers lie close together
pub steps-small : (i kind : ℕ) → i ≤ depth_limit → i * type_size kind ≤ depth_limit * 8
steps-small i kind h = mul-le-mul h (size-le kind)

-- of eight bytes the kind takes its own
pub number-peek : (kind : ℕ) (s : List ℕ) (at i : ℕ) → Bytes s → value_of kind (little 8 s (at + i * type_size kind)) ≡ number_at kind s at i
unfolding number_at value_of
number-peek kind s at i b =
    let p = at + i * type_size kind in
    let l : little (type_size kind) s p < modulus kind = rw (← byte_pow (type_size kind)) (little-lt (type_size kind) s p b) in
    rw (little-word (type_size kind) s p b (size-le kind), mod-eq_of_lt l)

-- ---- the pairs
pub pairs-more : (k : ℕ) (r : Ranges) → pairs_right (k + 1) r ≡ (pairs_right k r && pair_right (get_or r.min k 0) (get_or r.max k 0))
unfolding pairs_right
pairs-more k r = rw (add-one) (all-suc k _)

pub pairs-none : (r : Ranges) → pairs_right 0 r ≡ true
unfolding pairs_right
pairs-none r = all_none _
