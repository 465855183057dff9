-- Laws of text put into a buffer, and of digits.
-- Assumes nothing.
use Prim.Native.Nat.{ℕ, zero, suc, ◌+◌, ◌-◌, ◌*◌, ◌/◌, ◌%◌, ◌^◌, ◌≤◌, ◌<◌, min}
use mathlib.Core.Path.{◌≡◌, ◌∙◌, sym, ap, refl}
use mathlib.Core.Bool.{Bool, true, false, cond}
use mathlib.Core.List.{List, [], ◌∷◌, ◌++◌}
use native.Mathlib.Decide.{dec_le}
use native.Mathlib.Omega.{arith}
use native.Mathlib.Nat.{add-zero, zero-add, pow-suc}
use native.Mathlib.Numerals.{add-one}
use borrow.Author.Tests.{lt-ltb, le-ltb}
use lib.ListN.{length, drop, set, length-set, length-append}
use lib.Dec.{ltb}
use lib.Seq.{append_snoc, sets, sets-eq, length-sets, set_out, drop-cons, drop-set-lt, get_or-set_same}
use Rattle.lerc_words.specs.Lists.{over}
use Rattle.lerc_text.specs.Ascii.{ascii}
use Rattle.lerc_text.specs.Text.{Put, digits, decimal, line, refusal_line, shape_line, cell_line, cell_lines}

-- past the end nothing is put
pub sets-out : (l : List ℕ) (at : ℕ) (text : List ℕ) → length l ≤ at → sets l at text ≡ l
sets-out l at [] h = refl
sets-out l at (c ∷ cs) h = ap (λ (m : List ℕ). sets m (suc at) cs) (set_out l at c h) ∙ sets-out l (suc at) cs (omega arith)

-- one text behind another
pub sets-append : (l : List ℕ) (at : ℕ) (a b : List ℕ) → sets l at (a ++ b) ≡ sets (sets l at a) (at + length a) b
sets-append l at [] b = rw (add-zero)
sets-append l at (c ∷ cs) b =
    let e : at + suc (length cs) ≡ suc at + length cs = omega arith in
    rw (e) (sets-append (set l at c) (suc at) cs b)

-- the same from the place that was answered, which is at most the end
pub sets-from : (l : List ℕ) (at p : ℕ) (text : List ℕ) → p ≡ min at (length l) → sets l p text ≡ sets l at text
sets-from l at p text e = go (dec_le (length l) at)
  where
    go : Dec (length l ≤ at) → sets l p text ≡ sets l at text
    go (yes h) = sets-out l p text (omega arith) ∙ sym (sets-out l at text h)
    go (no h) = let d : p ≡ at = omega arith in rw (d)

-- no text
pub put-none : (old : List ℕ) (at p : ℕ) → p ≡ min at (length old) → Put old at [] p old
put-none old at p e = record { holds = refl; behind = rw (add-zero) e }

pub put-length : {old : List ℕ} {at : ℕ} {text : List ℕ} {r : ℕ} {new : List ℕ} → Put old at text r new → length new ≡ length old
put-length {old} {at} {text} p = ap length p.holds ∙ length-sets old at text

-- text, then more where the first ended
pub put_then : {old : List ℕ} {at : ℕ} {a b : List ℕ} {p r : ℕ} {mid new : List ℕ} → Put old at a p mid → Put mid p b r new → Put old at (a ++ b) r new
put_then {old} {at} {a} {b} {p} {r} {mid} {new} f g =
    let m : length mid ≡ length old = put-length f in
    let q : p ≡ min (at + length a) (length mid) = f.behind ∙ ap (min (at + length a)) (sym m) in
    let e : length (a ++ b) ≡ length a + length b = length-append a b in
    record {
      holds =
          g.holds ∙ sets-from mid (at + length a) p b q ∙ ap (λ (l : List ℕ). sets l (at + length a) b) f.holds
          ∙ sym (sets-append old at a b);
      behind = rw (e) (omega (arith, g.behind));
    }

-- the promise leaves no room
pub put_same : {old : List ℕ} {at : ℕ} {text : List ℕ} {r q : ℕ} {new other : List ℕ} → Put old at text r new → Put old at text q other → (r ≡ q) × (new ≡ other)
put_same p s = (p.behind ∙ sym s.behind, p.holds ∙ sym s.holds)

-- ---- digits

pub digits-one : (k n : ℕ) → n < 10 → digits (suc k) n ≡ (48 + n) ∷ []
unfolding digits
digits-one k n h = rw (lt-ltb n 10 h)

pub digits_more : (k n : ℕ) → 9 < n → digits (suc k) n ≡ digits k (n / 10) ++ ((48 + n % 10) ∷ [])
unfolding digits
digits_more k n h = rw (le-ltb n 10 h)

-- no more digits than asked for
pub digits-few : (k n : ℕ) → length (digits k n) ≤ k
unfolding digits
digits-few zero n = omega arith
digits-few (suc k) n = go (ltb n 10) (digits-few k (n / 10))
  where
    go : (t : Bool) → length (digits k (n / 10)) ≤ k → length (cond t ((48 + n) ∷ []) (digits k (n / 10) ++ ((48 + n % 10) ∷ []))) ≤ suc k
    go true h = omega arith
    go false h = rw (length-append) (omega arith)

-- nor more than the number has
pub digits-short : (k j n : ℕ) → n < 10 ^ suc j → length (digits k n) ≤ suc j
digits-short zero j n h = omega (arith, digits-few 0 n)
digits-short (suc k) j n h = go (dec_le 10 n) j h (λ i l. digits-short k i (n / 10) l)
  where
    go : Dec (10 ≤ n) → (j : ℕ) → n < 10 ^ suc j → ((i : ℕ) → n / 10 < 10 ^ suc i → length (digits k (n / 10)) ≤ suc i) → length (digits (suc k) n) ≤ suc j
    go (no q) j h f = rw (digits-one k n (omega arith)) (omega arith)
    go (yes p) zero h f = absurd (omega arith)
    go (yes p) (suc j) h f =
        let e : 10 ^ suc (suc j) ≡ 10 ^ suc j * 10 = pow-suc 10 (suc j) in
        let l : length (digits k (n / 10)) ≤ suc j = f j (omega arith) in
        rw (digits_more k n p, length-append) (omega arith)

module _ (found : List ℕ) (k rest : ℕ) where
  -- a number with more than one digit left has a place left for the others
  pub digits-left : rest < 10 ^ suc k → 9 < rest → 0 < k
  digits-left h l = go k h
    where
      go : (k : ℕ) → rest < 10 ^ suc k → 0 < k
      go zero h = absurd (omega arith)
      go (suc k) h = omega arith

  pub digits-next : rest < 10 ^ suc k → 0 < k → rest / 10 < 10 ^ suc (k - 1)
  digits-next h l =
      let e : suc (k - 1) ≡ k = omega arith in
      let p : 10 ^ suc k ≡ 10 ^ k * 10 = pow-suc 10 k in
      rw (e) (omega arith)

  -- a digit stored in front of those that were found
  stored : (d : ℕ) → k < length found → drop k (set found k d) ≡ d ∷ drop (suc k) found
  stored d h =
      drop-cons (set found k d) k 0 (rw (length-set) h)
      ∙ rw (get_or-set_same found k d 0 h, drop-set-lt (suc k) found k d (omega arith))

  pub found-more : 0 < k → k < length found → 9 < rest → digits (suc k) rest ++ drop (suc k) found ≡ digits (suc (k - 1)) (rest / 10) ++ drop (suc (k - 1)) (set found k (48 + rest % 10))
  found-more l h m =
      let e : suc (k - 1) ≡ k = omega arith in
      rw (e, digits_more k rest m, stored (48 + rest % 10) h) (append_snoc (digits k (rest / 10)) (48 + rest % 10) (drop (suc k) found))

  pub found_all : k < length found → rest < 10 → digits (suc k) rest ++ drop (suc k) found ≡ drop k (set found k (48 + rest))
  found_all h m = rw (digits-one k rest m, stored (48 + rest) h)

-- ---- cells

pub cells-none : (valid : ℕ → Bool) (word : ℕ → ℕ) → cell_lines 0 valid word ≡ []
unfolding cell_lines
cells-none valid word = refl

pub cells-more : (n : ℕ) (valid : ℕ → Bool) (word : ℕ → ℕ) → cell_lines (n + 1) valid word ≡ cell_lines n valid word ++ cell_line n (valid n) (word n)
unfolding cell_lines
cells-more n valid word = rw (add-one)

-- only what is shown matters: which cells are valid, and the words of those
pub cells_same : (n : ℕ) (valid that : ℕ → Bool) (word other : ℕ → ℕ) → ((c : ℕ) → c < n → valid c ≡ that c) → ((c : ℕ) → c < n → that c ≡ true → word c ≡ other c)
    → cell_lines n valid word ≡ cell_lines n that other
unfolding cell_lines cell_line
cells_same zero valid that word other v w = refl
cells_same (suc n) valid that word other v w =
    rw (cells_same n valid that word other (λ c l. v c (omega arith)) (λ c l. w c (omega arith)), v n (omega arith)) (shown (that n) (w n (omega arith)))
  where
    shown : (t : Bool) → (t ≡ true → word n ≡ other n) → cell_lines n that other ++ cell_line n t (word n) ≡ cell_lines n that other ++ cell_line n t (other n)
    shown true e = rw (e refl)
    shown false e = refl

-- ---- a text that fits

-- at the start of a buffer that has room: the text, and behind it every byte as it was
pub put_whole : {old text : List ℕ} {r : ℕ} {new : List ℕ} → Put old 0 text r new → length text ≤ length old → (r ≡ length text) × (new ≡ over text old)
put_whole {old} {text} p h =
    let e : 0 + length text ≤ length old = omega arith in
    (omega (arith, p.behind), p.holds ∙ sets-eq text old 0 e ∙ rw (zero-add))

-- a line for each cell of fewer than 10,000: "cell ", four digits, " ", twenty digits or "-", and its end
pub cells-long : (n : ℕ) (valid : ℕ → Bool) (word : ℕ → ℕ) → n ≤ 10000 → length (cell_lines n valid word) ≤ n * 31
unfolding cell_lines cell_line
cells-long zero valid word h = omega arith
cells-long (suc n) valid word h =
    let few : length (decimal n) ≤ 4 = digits-short 20 3 n (omega arith) in
    rw (length-append) (omega (arith, cells-long n valid word (omega arith), long (valid n) few))
  where
    long : (t : Bool) → length (decimal n) ≤ 4 → length (cell_line n t (word n)) ≤ 31
    long true few = simp (length-append) (omega (arith, digits-few 20 (word n)))
    long false few = simp (length-append) (omega arith)

pub line-long : (label : List ℕ) (n : ℕ) → length (line label n) ≤ length label + 21
unfolding line
line-long label n = simp (length-append) (omega (arith, digits-few 20 n))

pub refusal-long : (number place : ℕ) → length (refusal_line number place) ≤ 53
unfolding refusal_line
refusal-long number place = simp (length-append) (omega (arith, digits-few 20 number, line-long (ascii " at ") place))

pub shape-long : (columns rows depth kind valid : ℕ) → length (shape_line columns rows depth kind valid) ≤ 135
unfolding shape_line
shape-long columns rows depth kind valid =
    simp (length-append) (omega (arith, digits-few 20 columns, digits-few 20 rows, digits-few 20 depth, digits-few 20 kind, digits-few 20 valid))
