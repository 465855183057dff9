-- How a table is read.
-- Assumes nothing.
use Rattle.std.proofs.Common.{◌≡◌, ℕ, ◌+◌, ◌*◌, ◌<◌, ◌≤◌, true, false, eqb, ltb, leb, List, ◌++◌, length, get_or, take, sym, refl, ap, arith, take-take, ltb-true, eqb-true, le-leb, leb-true}
use borrow.Author.Tests.{lt-leb}
use lib.Seq.{take-append_seam}
use Rattle.lerc_words.specs.declared.Refusal.{Refusal}
use Rattle.lerc_words.specs.Res.{Res, ok, fail, refuse, require}
use Rattle.lerc_words.specs.Lists.{all_to, tabulate}
use Rattle.lerc_words.proofs.Tables.{length-tabulate}
use Rattle.lerc_words.proofs.Binding.{bind_is, require-is, ok-is}
use Rattle.lerc_bits.specs.Bits.{Counts, counts}
use Rattle.lerc_byte_image.specs.declared.table.Range.{Range}
use Rattle.lerc_byte_image.specs.declared.table.TableHead.{TableHead}
use Rattle.lerc_byte_image.specs.Table.{range_at, lengths_at, run_words, codes_at, Table, prefix_free, table_at}
use Rattle.lerc_byte_image.specs.TableParts.{bits_of, all_short, rest_at}
use Rattle.lerc_byte_image.specs.Parts.{table_said}

-- ---- the lengths that were accepted

pub record Judged (s : List ℕ) (at n : ℕ) (c : Counts) : Type 0 where
  pub read : counts s at ≡ ok c
  pub many : length c.values ≡ n
  pub short : all_short c.values ≡ true
  pub some : 0 < bits_of n c.values

pub lengths-is : (s : List ℕ) (at n : ℕ) {c : Counts} → lengths_at s at n ≡ ok c → Judged s at n c
unfolding lengths_at
lengths-is s at n {c} e =
    let (d, read, e) = bind_is (counts s at) _ e in
    let (_, many, e) = bind_is (require (eqb (length d.values) n) 8) _ e in
    let (_, short, e) = bind_is (require (all_to n (λ k. leb (get_or d.values k 0) 32)) 8) _ e in
    let (_, some, e) = bind_is (require (ltb 0 (bits_of n d.values)) 8) _ e in
    let z = ok-is e in
    let m = eqb-true _ _ (require-is _ 8 many) in
    rw (← z) (record { read = read; many = m; short = rw (m) (require-is _ 8 short); some = ltb-true _ _ (require-is _ 8 some) })

-- ---- what stands behind them

module _ (s : List ℕ) (at : ℕ) where
  pub table-head : {r : Refusal} → range_at s at ≡ fail r → table_at s at ≡ fail r
  unfolding table_at
  table-head e = rw (e)

  pub table-lengths : {r : Range} {q : Refusal} → range_at s at ≡ ok r → lengths_at s (at + 16) r.count ≡ fail q → table_at s at ≡ fail q
  unfolding table_at
  table-lengths e d = rw (e, d)

  pub table-rest : {r : Range} {c : Counts} → range_at s at ≡ ok r → lengths_at s (at + 16) r.count ≡ ok c → table_at s at ≡ rest_at s r c.next c.values
  unfolding table_at rest_at
  table-rest e d = rw (e, d)

abbrev pub table_of : List ℕ → Range → ℕ → List ℕ → Table
table_of s r next lengths =
    record { range = r; lengths = lengths; codes = codes_at s next r.count lengths; start = next + run_words (bits_of r.count lengths) * 4 }

-- n entries in front
pub front-is : (n : ℕ) (f : ℕ → ℕ) (rest : List ℕ) → take n (tabulate n f ++ rest) ≡ tabulate n f
front-is n f rest = rw (length-tabulate) at (take-append_seam (tabulate n f) rest)

module _ (s : List ℕ) (r : Range) (next : ℕ) (lengths : List ℕ) where
  pub rest-cut : length s < (table_of s r next lengths).start → rest_at s r next lengths ≡ fail (refuse 1)
  unfolding rest_at
  rest-cut h = rw (lt-leb _ _ h)

  pub rest-bad : (table_of s r next lengths).start ≤ length s → prefix_free (table_of s r next lengths) ≡ false → rest_at s r next lengths ≡ fail (refuse 8)
  unfolding rest_at
  rest-bad h e = rw (le-leb _ _ h, e)

  pub rest_ok : (table_of s r next lengths).start ≤ length s → prefix_free (table_of s r next lengths) ≡ true → rest_at s r next lengths ≡ ok (table_of s r next lengths)
  unfolding rest_at
  rest_ok h e = rw (le-leb _ _ h, e)

  -- and only so it was accepted
  pub rest-is : {t : Table} → rest_at s r next lengths ≡ ok t → (t ≡ table_of s r next lengths) × (t.start ≤ length s) × (prefix_free t ≡ true)
  unfolding rest_at
  rest-is {t} e =
      let x = table_of s r next lengths in
      let (_, h, e) = bind_is (require (leb x.start (length s)) 1) _ e in
      let (_, f, e) = bind_is (require (prefix_free x) 8) _ e in
      let z : x ≡ t = ok-is e in
      rw (← z) (refl, leb-true _ _ (require-is _ 1 h), require-is _ 8 f)

-- the lengths may stand in front of others
pub rest-front : (s : List ℕ) (r : Range) (next : ℕ) (lengths codes : List ℕ) (a : Res TableHead)
    → table_said a (take r.count lengths) codes ≡ rest_at s r next (take r.count lengths) → table_said a lengths codes ≡ rest_at s r next (take r.count lengths)
rest-front s r next lengths codes (fail why) e = e
rest-front s r next lengths codes (ok h) e =
    let z : h.range ≡ r = ap (λ (t : Table). t.range) (rest-is s r next (take r.count lengths) (sym e)).0 in
    let d : take h.range.count (take r.count lengths) ≡ take h.range.count lengths = rw (z) (take-take r.count r.count lengths (omega arith)) in
    rw (d) at e
