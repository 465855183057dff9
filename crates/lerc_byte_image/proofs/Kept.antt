-- What every accepted table keeps to.
-- Assumes nothing.
use Rattle.std.proofs.Common.{◌≡◌, ℕ, ◌+◌, ◌-◌, ◌^◌, ◌<◌, ◌≤◌, ◌&&◌, ltb, leb, List, length, get_or, arith, pow_pos, ltb-true, leb-true}
use native.Mathlib.Decide.{dec_lt}
use lib.ListN.{get_or-eq_default}
use Rattle.lerc_words.specs.Res.{ok, require, word_at}
use Rattle.lerc_words.proofs.Binding.{bind_is, require-is, ok-is, and_is}
use Rattle.lerc_words.proofs.Tables.{length-tabulate, get_d_tabulate}
use Rattle.lerc_bits.specs.Bits.{Counts}
use Rattle.lerc_bits.proofs.Values.{counts-ends}
use Rattle.lerc_byte_image.specs.declared.table.Range.{Range}
use Rattle.lerc_byte_image.specs.Table.{range_at, lengths_at, bits_at, Table, length_of, code_of, table_at}
use Rattle.lerc_byte_image.specs.TableParts.{bits_of, rest_at}
use Rattle.lerc_byte_image.specs.Parts.{Kept}
use Rattle.lerc_byte_image.proofs.BitLaws.{bits-lt}
use Rattle.lerc_byte_image.proofs.Codes.{short-each}
use Rattle.lerc_byte_image.proofs.Reading.{Judged, lengths-is, table_of, rest-is}

-- ---- the integers

pub record RangeKept (r : Range) : Type 0 where
  pub bytes : r.size ≤ 256
  pub first : r.first < r.size
  pub some : 1 ≤ r.count
  pub few : r.count ≤ r.size

pub range-is : (s : List ℕ) (at : ℕ) {r : Range} → range_at s at ≡ ok r → RangeKept r
unfolding range_at
range-is s at e =
    let (version, _, e) = bind_is (word_at 4 s at) _ e in
    let (_, _, e) = bind_is (require (leb 2 version) 8) _ e in
    let (size, _, e) = bind_is (word_at 4 s (at + 4)) _ e in
    let (_, bytes, e) = bind_is (require (leb size 256) 8) _ e in
    let (first, _, e) = bind_is (word_at 4 s (at + 8)) _ e in
    let (_, below, e) = bind_is (require (ltb first size) 8) _ e in
    let (end, _, e) = bind_is (word_at 4 s (at + 12)) _ e in
    let (_, both, e) = bind_is (require (leb 1 (end - first) && leb (end - first) size) 8) _ e in
    let b = and_is (leb 1 (end - first)) (leb (end - first) size) (require-is _ 8 both) in
    rw (← ok-is e) (record {
      bytes = leb-true _ _ (require-is _ 8 bytes);
      first = ltb-true _ _ (require-is _ 8 below);
      some = leb-true _ _ b.0;
      few = leb-true _ _ b.1;
    })

-- ---- the table

-- how it was read
pub record TableRead (s : List ℕ) (at : ℕ) (t : Table) : Type 0 where
  pub r : Range
  pub c : Counts
  pub range : RangeKept r
  pub lengths : Judged s (at + 16) r.count c
  pub rest : rest_at s r c.next c.values ≡ ok t

pub table_is : (s : List ℕ) (at : ℕ) {t : Table} → table_at s at ≡ ok t → TableRead s at t
unfolding table_at rest_at
table_is s at e =
    let (r, range, e) = bind_is (range_at s at) _ e in
    let (c, lengths, e) = bind_is (lengths_at s (at + 16) r.count) _ e in
    record { r = r; c = c; range = range-is s at range; lengths = lengths-is s (at + 16) r.count lengths; rest = e }

-- a code has as many bits as its length says; past the end both are 0
code-low : (s : List ℕ) (r : Range) (next : ℕ) (vs : List ℕ) (k : ℕ) → let t = table_of s r next vs in code_of t k < 2 ^ length_of t k
code-low s r next vs k = go (dec_lt k r.count)
  where
    f : ℕ → ℕ
    f i = bits_at s next (bits_of i vs) (get_or vs i 0)

    t : Table
    t = table_of s r next vs

    go : Dec (k < r.count) → code_of t k < 2 ^ length_of t k
    go (yes l) = rw (get_d_tabulate r.count f k 0 l) (bits-lt s next (bits_of k vs) (get_or vs k 0))
    go (no l) =
        let h : length t.codes ≤ k = rw (length-tabulate r.count f) (omega arith) in
        rw (get_or-eq_default t.codes 0 h) (pow_pos (length_of t k))

pub table_kept : (s : List ℕ) (at : ℕ) (t : Table) → table_at s at ≡ ok t → Kept t × (t.start ≤ length s)
table_kept s at t e =
    let g = table_is s at e in
    let d = rest-is s g.r g.c.next g.c.values g.rest in
    let q = g.range in
    let j = g.lengths in
    let f = rw d.0 at d.2 in
    rw d.0 (
      record {
        few = omega (arith, q.few, q.bytes);
        some = omega (arith, q.first);
        bytes = q.bytes;
        early = q.first;
        lengths = j.many;
        codes = length-tabulate g.r.count _;
        narrow = short-each g.c.values j.short;
        low = code-low s g.r g.c.next g.c.values;
        free = f;
      },
      rw d.0 at d.1,
    )

-- its end lies behind its start
pub table-behind : (s : List ℕ) (at : ℕ) (t : Table) → table_at s at ≡ ok t → at + 16 < t.start
table-behind s at t e =
    let g = table_is s at e in
    let d = rest-is s g.r g.c.next g.c.values g.rest in
    rw d.0 (omega (arith, (counts-ends s (at + 16) g.lengths.read).0))
