-- Laws of pixels and of the count of those that are valid.
-- Assumes nothing.
use mathlib.Core.Path.{◌≡◌, refl, sym, ap, ◌∙◌}
use mathlib.Core.Bool.{Bool, true, false, cond}
use mathlib.Core.List.{List}
use Prim.Native.Nat.{ℕ, zero, suc, ◌+◌, ◌-◌, ◌*◌, ◌/◌, ◌%◌, ◌^◌, ◌≤◌, ◌<◌}
use native.Mathlib.Decide.{dec_lt}
use native.Mathlib.Omega.{arith}
use native.Mathlib.Nat.{add-zero, add-suc, zero-div, zero-mod}
use lib.Dec.{eqb}
use lib.ListN.{length, get_or, take, drop, replicate, length-replicate, get_or-replicate, get_or-eq_default}
use lib.Seq.{get_or-take, get_or-drop}
use Rattle.lerc_words.specs.Lists.{all_to, count}
use Rattle.lerc_words.proofs.Tables.{all-each}
use Rattle.lerc_words.proofs.Counts.{count-suc, count_same, count-le, count-plus, count-all, count_none}
use Rattle.lerc_mask.specs.Mask.{bit, pixel_valid, valid_below, valid_from}

-- ---- one pixel

-- a pixel depends on its byte alone
pub pixel-same : (m n : List ℕ) (p : ℕ) → get_or m (p / 8) 0 ≡ get_or n (p / 8) 0 → pixel_valid m p ≡ pixel_valid n p
unfolding pixel_valid
pixel-same m n p e = rw (e)

-- past the end none is valid
pub pixel-past : (m : List ℕ) (p : ℕ) → 8 * length m ≤ p → pixel_valid m p ≡ false
unfolding pixel_valid
pixel-past m p h =
    let e : get_or m (p / 8) 0 ≡ 0 = get_or-eq_default m 0 (omega arith) in
    rw (e, zero-div)

pub pixel-take : (k : ℕ) (m : List ℕ) (p : ℕ) → p < 8 * k → pixel_valid (take k m) p ≡ pixel_valid m p
pixel-take k m p h = pixel-same (take k m) m p (get_or-take k m (p / 8) 0 (omega arith))

-- ---- how many are valid

pub bit_is : (x : ℕ) → x < 2 → cond (eqb x 1) 1 0 ≡ x
bit_is zero h = refl
bit_is (suc zero) h = refl
bit_is (suc (suc x)) h = absurd (omega arith)

-- a pixel counts as its bit
valid-one : (p : ℕ) (m : List ℕ) → cond (pixel_valid m p) 1 0 ≡ bit m p
unfolding pixel_valid
valid-one p m = let h : bit m p < 2 = omega arith in bit_is (bit m p) h

valid-suc : (p : ℕ) (m : List ℕ) → valid_below (suc p) m ≡ valid_below p m + bit m p
valid-suc p m = count-suc p (pixel_valid m) ∙ ap (λ (x : ℕ). valid_below p m + x) (valid-one p m)

pub valid-le : (p : ℕ) (m : List ℕ) → valid_below p m ≤ p
valid-le p m = count-le p (pixel_valid m)

pub valid-past : (m : List ℕ) (p q : ℕ) → 8 * length m ≤ p → valid_below (p + q) m ≡ valid_below p m
valid-past m p zero h = rw (add-zero)
valid-past m p (suc q) h =
    let e : get_or m ((p + q) / 8) 0 ≡ 0 = get_or-eq_default m 0 (omega arith) in
    rw (add-suc, valid-suc, e, zero-div, zero-mod, add-zero) (valid-past m p q h)

-- only the bytes that hold the pixels matter
pub valid-take : (pixels k : ℕ) (m : List ℕ) → pixels ≤ 8 * k → valid_below pixels (take k m) ≡ valid_below pixels m
valid-take pixels k m h = count_same pixels (pixel_valid (take k m)) (pixel_valid m) (λ i l. pixel-take k m i (omega arith))

-- ---- how many are valid from a pixel on

pub from_suc : (p n : ℕ) (m : List ℕ) → valid_from p (suc n) m ≡ valid_from p n m + bit m (p + n)
from_suc p n m = count-suc n _ ∙ ap (λ (x : ℕ). valid_from p n m + x) (valid-one (p + n) m)

-- before and behind a pixel
pub valid-split : (p a b : ℕ) (m : List ℕ) → valid_from p (a + b) m ≡ valid_from p a m + valid_from (p + a) b m
valid-split p a b m =
    let f : ℕ → Bool = λ i. pixel_valid m (p + i) in
    let e : a + b ≡ b + a = omega arith in
    let move : count b (λ i. f (i + a)) ≡ valid_from (p + a) b m = count_same b _ _ (λ i l. let z : p + (i + a) ≡ p + a + i = omega arith in rw (z)) in
    rw (e, count-plus a b f, move)

pub valid-upto : (p n : ℕ) (m : List ℕ) → valid_below (p + n) m ≡ valid_below p m + valid_from p n m
valid-upto p n m =
    let zero-on : (k : ℕ) → valid_from 0 k m ≡ valid_below k m = λ k. count_same k _ _ (λ i l. let z : 0 + i ≡ i = omega arith in rw (z)) in
    let z : 0 + p ≡ p = omega arith in
    sym (zero-on (p + n)) ∙ valid-split 0 p n m ∙ rw (zero-on p, z)

-- behind whole bytes
pub valid-drop : (k n : ℕ) (m : List ℕ) → valid_below n (drop k m) ≡ valid_from (8 * k) n m
unfolding pixel_valid
valid-drop k n m = count_same n _ _ (λ i l.
    let d : (8 * k + i) / 8 ≡ k + i / 8 = omega arith in
    let r : (8 * k + i) % 8 ≡ i % 8 = omega arith in
    rw (d, r, get_or-drop))

-- past the end
pub valid-beyond : (p n : ℕ) (m : List ℕ) → 8 * length m ≤ p → valid_from p n m ≡ 0
valid-beyond p n m h = count_none n _ (λ i l. pixel-past m (p + i) (omega arith))

-- ---- "Valid 0 gives all 0, valid = pixels all 255"

none-set : (n p : ℕ) → pixel_valid (replicate n 0) p ≡ false
unfolding pixel_valid
none-set n p = go (dec_lt (p / 8) n)
  where
    go : Dec (p / 8 < n) → eqb (bit (replicate n 0) p) 1 ≡ false
    go (yes l) = rw (get_or-replicate {A = ℕ} n (p / 8) 0 0 l, zero-div)
    go (no l) =
        let z : List ℕ = replicate n 0 in
        let k : length z ≤ p / 8 = rw (length-replicate) (omega arith) in
        rw (get_or-eq_default z 0 k, zero-div)

pub valid-uniform-0 : (pixels n : ℕ) → valid_below pixels (replicate n 0) ≡ 0
valid-uniform-0 pixels n = count_none pixels (pixel_valid (replicate n 0)) (λ i l. none-set n i)

-- all eight bits of 255
all_set : all_to 8 (λ k. eqb (255 / 2 ^ k % 2) 1) ≡ true
unfolding all_to
all_set = refl

pub valid-uniform-255 : (pixels n : ℕ) → pixels ≤ 8 * n → valid_below pixels (replicate n 255) ≡ pixels
unfolding pixel_valid
valid-uniform-255 pixels n h = count-all pixels (pixel_valid (replicate n 255)) set
  where
    set : (i : ℕ) → i < pixels → eqb (bit (replicate n 255) i) 1 ≡ true
    set i l =
        let k : i / 8 < n = omega arith in
        let j : 7 - i % 8 < 8 = omega arith in
        rw (get_or-replicate {A = ℕ} n (i / 8) 255 0 k) (all-each 8 (7 - i % 8) (λ k. eqb (255 / 2 ^ k % 2) 1) all_set j)
