-- The symbol at a place by any code that agrees there, and as one number.
-- Assumes nothing.
use Rattle.std.proofs.Common.{◌≡◌, ℕ, ◌+◌, ◌-◌, ◌/◌, ◌%◌, ◌^◌, ◌<◌, ◌≤◌, Bool, true, false, cond, ltb, ◌≢◌, List, get_or, sym, refl, ap, ◌∙◌, ⊎_elim, mod-lt, div-one, arith, ltb-true, le-ltb, lt-ltb, le-leb}
use native.Mathlib.Decide.{dec_lt}
use borrow.Author.Tests.{lt-leb}
use Rattle.lerc_words.specs.Res.{ok, fail, refuse}
use Rattle.lerc_byte_image.specs.Table.{Table, length_of, code_of, symbol_of, bits_at}
use Rattle.lerc_byte_image.specs.Symbols.{first_of, bits_there, agrees, Symbol, symbol_at}
use Rattle.lerc_byte_image.specs.Image.{or_none, symbol_on}
use Rattle.lerc_byte_image.specs.Parts.{Kept, entry_of, entry_by, Short, Quick}
use Rattle.lerc_byte_image.specs.SymbolParts.{Found, one, none, glanced}
use Rattle.lerc_byte_image.proofs.BitLaws.{bits-cut, bits-lt}
use Rattle.lerc_byte_image.proofs.Finding.{first-has, first-le, first-lt}
use Rattle.lerc_byte_image.proofs.OneCode.{Alike, agrees-is, is-agrees, one_code}

module _ (s : List ℕ) (t : Table) (p : ℕ) where
  abbrev pub first : ℕ
  first = first_of t.range.count (agrees s t p)

  abbrev pub there : ℕ
  there = bits_there s t.start

  -- ---- by the first code that agrees

  pub symbol-none : first ≡ t.range.count → symbol_at s t p ≡ fail (refuse 8)
  unfolding symbol_at
  symbol-none e = rw (le-ltb first t.range.count (omega arith))

  pub symbol-cut : first < t.range.count → there < p + length_of t first → symbol_at s t p ≡ fail (refuse 1)
  unfolding symbol_at
  symbol-cut l w = rw (lt-ltb _ _ l, lt-leb _ _ w)

  symbol-first : first < t.range.count → p + length_of t first ≤ there → symbol_at s t p ≡ ok (record { value = symbol_of t.range first; next = p + length_of t first })
  unfolding symbol_at
  symbol-first l w = rw (lt-ltb _ _ l, le-leb _ _ w)

  -- ---- by any code that agrees

  module _ (kept : Kept t) (k : ℕ) (h : k < t.range.count) (e : agrees s t p k ≡ true) where
    below : first < t.range.count
    below = first-lt t.range.count k (agrees s t p) h e

    has : agrees s t p first ≡ true
    has = first-has t.range.count (agrees s t p) below

    -- all of it is there
    pub symbol-one : p + length_of t k ≤ there → symbol_at s t p ≡ ok (record { value = symbol_of t.range k; next = p + length_of t k })
    symbol-one w =
        let d : first ≡ k = sym (one_code s t p k first kept h below e has w) in
        let l : p + length_of t first ≤ there = rw (d) w in
        symbol-first below l ∙ rw (d)

    -- it is cut off
    pub symbol-part : there < p + length_of t k → symbol_at s t p ≡ fail (refuse 1)
    symbol-part w = go (dec_lt there (p + length_of t first))
      where
        go : Dec (there < p + length_of t first) → symbol_at s t p ≡ fail (refuse 1)
        go (yes l) = symbol-cut below l
        go (no l) =
            let m : p + length_of t first ≤ there = omega arith in
            let d : first ≡ k = one_code s t p first k kept below h has e m in
            absurd (let z : p + length_of t k ≤ there = rw (← d) m in omega arith)

    pub entry-one : p + length_of t k ≤ there → entry_of s t p ≡ entry_by t k
    entry-one w =
        let d : p + length_of t k - p ≡ length_of t k = omega arith in
        rw (symbol-one w, d)

    pub entry-part : there < p + length_of t k → entry_of s t p ≡ 0
    entry-part w = rw (symbol-part w)

  pub entry-none : first ≡ t.range.count → entry_of s t p ≡ 0
  entry-none e = rw (symbol-none e)

  -- ---- as one number

  -- a symbol by its number, where that is not 0
  pub record Told : Type 0 where
    pub symbol : symbol_at s t p ≡ ok (record { value = entry_of s t p % 256; next = p + entry_of s t p / 256 })
    pub inside : p + entry_of s t p / 256 ≤ there

  -- there is no code, or it is cut off, or all of it is there
  either : {A : Type 0} → (first ≡ t.range.count → A) → (first < t.range.count → there < p + length_of t first → A)
      → (first < t.range.count → p + length_of t first ≤ there → A) → A
  either {A} f g h = go (dec_lt first t.range.count) (dec_lt there (p + length_of t first))
    where
      go : Dec (first < t.range.count) → Dec (there < p + length_of t first) → A
      go (no l) w = f (omega (arith, first-le t.range.count (agrees s t p)))
      go (yes l) (yes w) = g l w
      go (yes l) (no w) = h l (omega arith)

  module _ (kept : Kept t) where
    -- where there is one
    told-whole : first < t.range.count → p + length_of t first ≤ there → Told × (0 < entry_of s t p)
    told-whole l w =
        let k = first in
        let has = first-has t.range.count (agrees s t p) l in
        let some = (agrees-is s t p k has).some in
        let small : symbol_of t.range k < t.range.size = mod-lt _ kept.some in
        let e : entry_of s t p ≡ entry_by t k = entry-one kept k l has w in
        let v : entry_by t k % 256 ≡ symbol_of t.range k = omega (arith, kept.bytes) in
        let n : entry_by t k / 256 ≡ length_of t k = omega (arith, kept.bytes) in
        (record { symbol = rw (e, v, n) (symbol-first l w); inside = rw (e, n) w }, rw (e) (omega arith))

    pub told : 0 < entry_of s t p → Told
    told some =
        either
        (λ e. absurd (let z = entry-none e in omega (arith, z, some)))
        (λ l w. absurd (let z : entry_of s t p ≡ 0 = rw (symbol-cut l w) in omega (arith, z, some)))
        (λ l w. (told-whole l w).0)

    -- where the number is 0 and some code agrees, the bits end before it does
    pub missing-part : entry_of s t p ≡ 0 → (first ≡ t.range.count → ⊥) → symbol_at s t p ≡ fail (refuse 1)
    missing-part zero some =
        either
        (λ e. absurd (some e))
        symbol-cut
        (λ l w. absurd (let z = (told-whole l w).1 in omega (arith, z, zero)))

    -- in any case
    pub symbol-on : symbol_on s t p ≡ record { value = entry_of s t p % 256; next = p + entry_of s t p / 256 }
    symbol-on =
        either
        (λ e. let z : p ≡ p + 0 / 256 = omega arith in rw (symbol-none e) (ap (λ (n : ℕ). let x : Symbol = record { value = 0; next = n } in x) z))
        (λ l w. let z : p ≡ p + 0 / 256 = omega arith in rw (symbol-cut l w) (ap (λ (n : ℕ). let x : Symbol = record { value = 0; next = n } in x) z))
        (λ l w. ap (or_none p) (told-whole l w).0.symbol)

  -- no symbol ends behind the last bit
  pub next-inside : p ≤ there → (symbol_on s t p).next ≤ there
  next-inside h =
      either
      (λ e. rw (symbol-none e) h)
      (λ l w. rw (symbol-cut l w) h)
      (λ l w. rw (symbol-first l w) w)

  -- ---- by a code that was found

  pub found_none : {k : ℕ} → Found s t p k → k ≡ t.range.count → entry_of s t p ≡ 0
  found_none (one h e) z = absurd (omega arith)
  found_none (none d e) z = entry-none e

  pub found_lt : {k : ℕ} → Found s t p k → k ≢ t.range.count → k < t.range.count
  found_lt (one h e) d = h
  found_lt (none z e) d = absurd (d z)

  pub found_part : Kept t → {k : ℕ} → Found s t p k → k ≢ t.range.count → there - p < length_of t k → entry_of s t p ≡ 0
  found_part kept {k} (one h e) d w = entry-part kept k h e (omega arith)
  found_part kept (none z e) d w = absurd (d z)

  pub found-whole : Kept t → {k : ℕ} → Found s t p k → k ≢ t.range.count → p ≤ there → length_of t k ≤ there - p → entry_of s t p ≡ entry_by t k
  found-whole kept {k} (one h e) d l w = entry-one kept k h e (omega arith)
  found-whole kept (none z e) d l w = absurd (d z)

  -- the 12 bits at a place, behind which a word stands, begin with a short code: all of it is there
  short-alike : (v k : ℕ) → Short t v k → v ≡ bits_at s t.start p 12 → p < there - 32 → Alike s t p k
  short-alike v k h e l =
      let z : length_of t k - length_of t k ≡ 0 = omega arith in
      let cut = bits-cut s t.start p {m = length_of t k} {n = 12} h.few (omega arith) in
      record {
        n = length_of t k;
        is = omega (arith, h.few);
        some = h.some;
        same = rw (z) (div-one (code_of t k) ∙ sym h.alike ∙ ap (λ (x : ℕ). x / 2 ^ (12 - length_of t k)) e ∙ sym cut);
      }

  pub quick-entry : Kept t → (entries : List ℕ) → Quick t entries → p < there - 32 → (v : ℕ) → v ≡ bits_at s t.start p 12 → v < 4096
      → 256 ≤ get_or entries v 0 → get_or entries v 0 ≡ entry_of s t p
  quick-entry kept entries q l v e h big =
      ⊎_elim
      (λ small. absurd (omega arith))
      (λ (k, short, d).
      let a = short-alike v k short e l in
      let w : p + length_of t k ≤ there = omega (arith, short.few) in
      d ∙ sym (entry-one kept k short.there (is-agrees s t p k a) w))
      (q.right v h)

  pub glance-entry : Kept t → (entries : List ℕ) → Quick t entries → 256 ≤ glanced s t.start entries p → glanced s t.start entries p ≡ entry_of s t p
  unfolding glanced
  glance-entry kept entries q = go (ltb p (there - 32)) refl
    where
      v : ℕ
      v = bits_at s t.start p 12

      go : (b : Bool) → ltb p (there - 32) ≡ b → 256 ≤ cond b (get_or entries v 0) 0 → cond b (get_or entries v 0) 0 ≡ entry_of s t p
      go true e big = quick-entry kept entries q (ltb-true p (there - 32) e) v refl (bits-lt s t.start p 12) big
      go false e big = absurd (omega arith)
