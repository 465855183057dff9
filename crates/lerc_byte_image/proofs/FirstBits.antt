-- A table by the first 12 bits, made code by code.
-- Assumes nothing.
use Rattle.std.proofs.Common.{◌≡◌, ℕ, ◌+◌, ◌-◌, ◌*◌, ◌/◌, ◌%◌, ◌^◌, ◌<◌, ◌≤◌, ◌≢◌, ◌⊎◌, List, ◌++◌, length, get_or, take, set, replicate, sym, refl, ap, ◌∙◌, inl, inr, mul-le-mul_right, suc-mul, arith, length-set, length-take-le, get_or-drop, get_or-set_other, get_or-take, get_or-set_same, get_or-append-add, pow-add, shl_exact, shr_lt}
use native.Mathlib.Decide.{dec_lt}
use lib.Arith.{digits_div}
use lib.ListN.{length-replicate, get_or-replicate, get_or-append}
use borrow.Rule.Slice.PartMut.{mid_of, post_of, put_mid, mid_len, same_len_mid, take_put, drop_put}
use Rattle.lerc_words.proofs.Little.{unit}
use Rattle.lerc_byte_image.specs.Table.{Table, length_of, code_of}
use Rattle.lerc_byte_image.specs.Parts.{entry_by, Short, Quick}
use Rattle.lerc_byte_image.specs.SymbolParts.{Entry, old, hint, new, Put}

-- ---- what a code adds

pub put-none : (len code entry : ℕ) (xs : List ℕ) → Put len code entry xs xs
put-none len code entry xs = record { wide = refl; each = λ v h. old refl }

pub hint-at : (len code : ℕ) → code < 2 ^ len → 12 < len → code / 2 ^ (len - 12) < 4096
hint-at len code h l =
    let e : 12 + (len - 12) ≡ len = omega arith in
    shr_lt 12 (len - 12) (rw (e) h)

pub put-hint : (len code entry : ℕ) (xs : List ℕ) (at k : ℕ) → at < length xs → k < 256 → Put len code entry xs (set xs at k)
put-hint len code entry xs at k h l = record { wide = length-set xs at k; each = λ v _. go v (dec_lt v at) (dec_lt at v) }
  where
    other : (v : ℕ) → v ≢ at → Entry len code entry (get_or xs v 0) (get_or (set xs at k) v 0) v
    other v d = old (get_or-set_other xs at v k 0 d)

    go : (v : ℕ) → Dec (v < at) → Dec (at < v) → Entry len code entry (get_or xs v 0) (get_or (set xs at k) v 0) v
    go v (yes a) b = other v (λ e. absurd (omega arith))
    go v (no a) (yes b) = other v (λ e. absurd (omega arith))
    go v (no a) (no b) = let e : v ≡ at = omega arith in hint (rw (e, get_or-set_same xs at k 0 h) l)

-- the entries that a code of at most 12 bits begins
module _ (len code : ℕ) (h : code < 2 ^ len) (few : len ≤ 12) where
  abbrev pub span : ℕ
  span = 2 ^ (12 - len)

  pub room : code * span + span ≤ 4096
  room =
      let e : len + (12 - len) ≡ 12 = omega arith in
      let p : 2 ^ len * span ≡ 2 ^ 12 = sym (pow-add 2 len (12 - len)) ∙ ap (λ (n : ℕ). 2 ^ n) e in
      omega (arith, mul-le-mul_right span h, suc-mul code span, p)

  pub base-is : (code * span) % 2 ^ 64 ≡ code * span
  base-is = shl_exact len (12 - len) 64 h (omega arith)

  pub span-is : (1 * span) % 2 ^ 64 ≡ span
  span-is = unit (12 - len) (omega arith)

  module _ (some : 0 < len) (entry : ℕ) (xs part : List ℕ) (wide : length xs ≡ 4096) (base end : ℕ) (b : base ≡ code * span) (e : end ≡ base + span)
      (filled : part ≡ replicate (length (mid_of base (end - base) xs)) entry) where
    long : length part ≡ end - base
    long = rw (filled, length-replicate) (mid_len base end xs (omega (arith, room)))

    abbrev all : List ℕ
    all = put_mid base (end - base) xs part

    before : (v : ℕ) → v < base → get_or all v 0 ≡ get_or xs v 0
    before v l =
        sym (get_or-take base all v 0 l) ∙ ap (λ (ys : List ℕ). get_or ys v 0) (take_put base (end - base) xs part (omega (arith, room))) ∙ get_or-take base xs v 0 l

    behind : (v : ℕ) → end ≤ v → get_or all v 0 ≡ get_or xs v 0
    behind v l =
        let z : end + (v - end) ≡ v = omega arith in
        let g = sym (get_or-drop end all (v - end) 0) ∙ ap (λ (ys : List ℕ). get_or ys (v - end) 0) (drop_put base end xs part (omega arith) (omega (arith, room)) long) ∙ get_or-drop end xs (v - end) 0 in
        rw (z) at g

    inside : (v : ℕ) → base ≤ v → v < end → get_or all v 0 ≡ entry
    inside v l m =
        let t : length (take base xs) ≡ base = length-take-le base xs (omega (arith, room)) in
        let z : base + (v - base) ≡ v = omega arith in
        let g = rw (t, z) at (get_or-append-add (take base xs) (part ++ post_of base (end - base) xs) (v - base) 0) in
        let short : v - base < length part = omega (arith, long) in
        let low : v - base < length (mid_of base (end - base) xs) = rw (mid_len base end xs (omega (arith, room))) (omega arith) in
        g ∙ get_or-append part (post_of base (end - base) xs) 0 (v - base) short ∙ rw (filled) (get_or-replicate (length (mid_of base (end - base) xs)) (v - base) entry 0 low)

    begun : (v : ℕ) → base ≤ v → v < end → v / span ≡ code
    begun v l m =
        let z : v ≡ code * span + (v - base) = omega arith in
        let r : v - base < span = omega arith in
        ap (λ (n : ℕ). n / span) z ∙ digits_div code r

    pub put-part : Put len code entry xs all
    put-part = record { wide = same_len_mid base (end - base) xs part (rw (filled, length-replicate)); each = λ v _. go v (dec_lt v base) (dec_lt v end) }
      where
        go : (v : ℕ) → Dec (v < base) → Dec (v < end) → Entry len code entry (get_or xs v 0) (get_or all v 0) v
        go v (yes l) m = old (before v l)
        go v (no l) (yes m) = let w : base ≤ v = omega arith in new some few (begun v w m) (inside v w m)
        go v (no l) (no m) = old (behind v (omega arith))

-- ---- what the table is

pub quick-none : (t : Table) → Quick t (replicate 4096 0)
quick-none t = record { wide = length-replicate {A = ℕ} 4096 0; right = λ v h. inl (rw (get_or-replicate {A = ℕ} 4096 v 0 0 h) (omega arith)) }

pub quick-more : (t : Table) {k : ℕ} {xs ys : List ℕ} → k < t.range.count → Quick t xs → Put (length_of t k) (code_of t k) (entry_by t k) xs ys → Quick t ys
quick-more t {k} {xs} {ys} h q p = record { wide = p.wide ∙ q.wide; right = λ v l. go v (q.right v l) (p.each v l) }
  where
    go : (v : ℕ) → (get_or xs v 0 < 256) ⊎ ((i : ℕ) × Short t v i × (get_or xs v 0 ≡ entry_by t i)) → Entry (length_of t k) (code_of t k) (entry_by t k) (get_or xs v 0) (get_or ys v 0) v
        → (get_or ys v 0 < 256) ⊎ ((i : ℕ) × Short t v i × (get_or ys v 0 ≡ entry_by t i))
    go v w (old e) = rw (e) w
    go v w (hint l) = inl l
    go v w (new some few alike e) = inr (k, record { there = h; some = some; few = few; alike = alike }, e)
