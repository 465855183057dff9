-- Laws of tables of a function, and of arrays filled from the front.
-- Assumes nothing.
use mathlib.Core.Path.{◌≡◌, ◌∙◌, sym, ap, refl}
use mathlib.Core.List.{List, [], ◌∷◌, ◌++◌, append-nil, append_assoc}
use mathlib.Core.Bool.{Bool, true, false, ◌&&◌}
use Prim.Native.Nat.{ℕ, zero, suc, ◌+◌, ◌-◌, ◌≤◌, ◌<◌}
use native.Mathlib.Omega.{arith}
use native.Mathlib.Decide.{dec_lt}
use native.Mathlib.Numerals.{add-one}
use native.Mathlib.Nat.{zero-add, add-zero, not-suc-le-zero, le_of_suc-le-suc}
use lib.ListN.{length, get_or, set, take, drop, length-append, length-drop, replicate, length-take, get_or-append}
use lib.Seq.{set_at, drop-cons, append_snoc, ext_get_or, get_or-take, get_or-drop, get_or-append-add}
use Rattle.lerc_words.specs.Lists.{from, tabulate, all_to, over}

pub length_from : {A : Type 0} (n i : ℕ) (f : ℕ → A) → length (from n i f) ≡ n
unfolding from
length_from zero i f = refl
length_from (suc n) i f = ap suc (length_from n (suc i) f)

pub length-tabulate : {A : Type 0} (n : ℕ) (f : ℕ → A) → length (tabulate n f) ≡ n
length-tabulate n f = length_from n 0 f

pub from-snoc : {A : Type 0} (n i : ℕ) (f : ℕ → A) → from (suc n) i f ≡ from n i f ++ (f (i + n) ∷ [])
unfolding from
from-snoc zero i f = let e : i ≡ i + 0 = omega arith in ap (λ (j : ℕ). f j ∷ []) e
from-snoc {A} (suc n) i f =
    let e : suc i + n ≡ i + suc n = omega arith in
    ap (λ (l : List A). f i ∷ l) (from-snoc n (suc i) f ∙ ap (λ (j : ℕ). from n (suc i) f ++ (f j ∷ [])) e)

pub tabulate-snoc : {A : Type 0} (n : ℕ) (f : ℕ → A) → tabulate (suc n) f ≡ tabulate n f ++ (f n ∷ [])
tabulate-snoc n f = from-snoc n 0 f ∙ ap (λ (j : ℕ). tabulate n f ++ (f j ∷ [])) (zero-add n)

pub getD-from : {A : Type 0} (n i : ℕ) (f : ℕ → A) (k : ℕ) (d : A) → k < n → get_or (from n i f) k d ≡ f (i + k)
unfolding from
getD-from zero i f k d h = absurd (not-suc-le-zero h)
getD-from (suc n) i f zero d h = let e : i ≡ i + 0 = omega arith in ap f e
getD-from (suc n) i f (suc k) d h =
    let e : suc i + k ≡ i + suc k = omega arith in
    getD-from n (suc i) f k d (le_of_suc-le-suc h) ∙ ap f e

pub get_d_tabulate : {A : Type 0} (n : ℕ) (f : ℕ → A) (i : ℕ) (d : A) → i < n → get_or (tabulate n f) i d ≡ f i
get_d_tabulate n f i d h = getD-from n 0 f i d h ∙ ap f (zero-add i)

pub from-same : {A : Type 0} (n i : ℕ) (f g : ℕ → A) → ((k : ℕ) → k < n → f (i + k) ≡ g (i + k)) → from n i f ≡ from n i g
unfolding from
from-same zero i f g h = refl
from-same (suc n) i f g h =
    let z : i + 0 ≡ i = omega arith in
    let e : f i ≡ g i = rw (z) at (h 0 (omega arith)) in
    let t : from n (suc i) f ≡ from n (suc i) g = from-same n (suc i) f g (λ k l.
    let y : i + suc k ≡ suc i + k = omega arith in
    rw (y) at (h (suc k) (omega arith))) in
    cc

pub tabulate-same : {A : Type 0} (n : ℕ) (f g : ℕ → A) → ((i : ℕ) → i < n → f i ≡ g i) → tabulate n f ≡ tabulate n g
tabulate-same n f g h = from-same n 0 f g (λ k l. ap f (zero-add k) ∙ h k l ∙ sym (ap g (zero-add k)))

-- one place on
pub from-shift : {A : Type 0} (n i : ℕ) (f : ℕ → A) → from n (suc i) f ≡ from n i (λ k. f (suc k))
unfolding from
from-shift zero i f = refl
from-shift {A} (suc n) i f = ap (λ (l : List A). f (suc i) ∷ l) (from-shift n (suc i) f)

-- a table in two parts
pub tabulate-parts : {A : Type 0} (n m : ℕ) (f : ℕ → A) → tabulate n f ++ tabulate m (λ k. f (n + k)) ≡ tabulate (n + m) f
unfolding from
tabulate-parts n zero f = append-nil (tabulate n f) ∙ sym (ap (λ (k : ℕ). tabulate k f) (add-zero n))
tabulate-parts {A} n (suc m) f =
    let e : n + suc m ≡ suc (n + m) = omega arith in
    rw (tabulate-snoc m (λ k. f (n + k)), e, tabulate-snoc (n + m) f, ← tabulate-parts n m f) (sym (append_assoc (tabulate n f) _ _))

-- a turn of a loop that stores f k at k
pub table_more : (k : ℕ) (f : ℕ → ℕ) (old : List ℕ) → k < length old → set (tabulate k f ++ drop k old) k (f k) ≡ tabulate (k + 1) f ++ drop (k + 1) old
table_more k f old h =
    rw (add-one, tabulate-snoc, drop-cons old k 0 h, set_at (tabulate k f) (get_or old k 0) (drop (suc k) old) (f k) k (length-tabulate k f))
    (sym (append_snoc (tabulate k f) (f k) (drop (suc k) old)))

pub length-table : (k : ℕ) (f : ℕ → ℕ) (old : List ℕ) → k ≤ length old → length (tabulate k f ++ drop k old) ≡ length old
length-table k f old h = simp (length-append, length-tabulate, length-drop) (omega arith)

-- a table's entry, and one behind it
pub table-front : (k : ℕ) (f : ℕ → ℕ) (old : List ℕ) (i : ℕ) → i < k → get_or (tabulate k f ++ drop k old) i 0 ≡ f i
table-front k f old i h = get_or-append (tabulate k f) (drop k old) 0 i (rw (length-tabulate) h) ∙ get_d_tabulate k f i 0 h

pub table-behind : (k : ℕ) (f : ℕ → ℕ) (old : List ℕ) (i : ℕ) → k ≤ i → get_or (tabulate k f ++ drop k old) i 0 ≡ get_or old i 0
table-behind k f old i h =
    let e : k + (i - k) ≡ i = omega arith in
    rw (length-tabulate, e) at (get_or-append-add (tabulate k f) (drop k old) (i - k) 0 ∙ get_or-drop k old (i - k) 0)

-- ---- a test of every place

pub all_more : (k : ℕ) (p : ℕ → Bool) → all_to k p ≡ true → p k ≡ true → all_to (k + 1) p ≡ true
unfolding all_to
all_more k p h e = rw (add-one) (rw (h, e))

pub all_same : (n : ℕ) (p q : ℕ → Bool) → ((k : ℕ) → k < n → p k ≡ q k) → all_to n p ≡ all_to n q
unfolding all_to
all_same zero p q h = refl
all_same (suc n) p q h = rw (h n (omega arith), all_same n p q (λ k l. h k (omega arith)))

pub all_true : (n : ℕ) (p : ℕ → Bool) → ((k : ℕ) → k < n → p k ≡ true) → all_to n p ≡ true
unfolding all_to
all_true zero p h = refl
all_true (suc n) p h = rw (h n (omega arith), all_true n p (λ k l. h k (omega arith)))

-- one place that fails decides
pub all-fails : (n k : ℕ) (p : ℕ → Bool) → k < n → p k ≡ false → all_to n p ≡ false
unfolding all_to
all-fails zero k p h e = absurd (not-suc-le-zero h)
all-fails (suc n) k p h e = go (dec_lt k n) (λ l. all-fails n k p l e)
  where
    last : (t : Bool) → p n ≡ false → (t && p n) ≡ false
    last true d = d
    last false d = refl

    go : Dec (k < n) → (k < n → all_to n p ≡ false) → (all_to n p && p n) ≡ false
    go (yes l) f = rw (f l)
    go (no l) f = let d : k ≡ n = omega arith in last (all_to n p) (rw (d) at e)

pub all-each : (n k : ℕ) (p : ℕ → Bool) → all_to n p ≡ true → k < n → p k ≡ true
all-each n k p h l = go (p k) refl
  where
    go : (t : Bool) → p k ≡ t → p k ≡ true
    go true e = e
    go false e = let f = all-fails n k p l e in absurd (let z : ◌≡◌ {A = ℕ} 0 1 = cc in omega arith)

pub all-suc : (n : ℕ) (p : ℕ → Bool) → all_to (suc n) p ≡ (all_to n p && p n)
unfolding all_to
all-suc n p = refl

pub all_none : (p : ℕ → Bool) → all_to 0 p ≡ true
unfolding all_to
all_none p = refl

-- ---- tables that are known by another name

pub replicate-from : {A : Type 0} (n i : ℕ) (w : A) → replicate n w ≡ from n i (λ _. w)
unfolding from
replicate-from zero i w = refl
replicate-from {A} (suc n) i w = ap (λ (l : List A). w ∷ l) (replicate-from n (suc i) w)

pub take-tabulate : (n : ℕ) (xs : List ℕ) → n ≤ length xs → take n xs ≡ tabulate n (λ i. get_or xs i 0)
take-tabulate n xs h =
    ext_get_or 0 (take n xs) (tabulate n (λ i. get_or xs i 0)) (simp (length-take, length-tabulate) (omega arith))
    (λ i l.
    let m : i < n = omega (arith, simp length-take at l) in
    rw (get_or-take n xs i 0 m, get_d_tabulate {A = ℕ} n _ i 0 m))

-- a table in front of what was there
pub table-over : (n : ℕ) (f : ℕ → ℕ) (old : List ℕ) → tabulate n f ++ drop n old ≡ over (tabulate n f) old
table-over n f old = rw (length-tabulate)
