-- What the writer puts: each part behind those before it.
-- Assumes nothing.
use mathlib.Core.Path.{◌≡◌, ◌∙◌, sym, ap, refl}
use mathlib.Core.List.{List, ◌++◌, append-nil}
use Prim.Native.Nat.{ℕ, suc, ◌+◌, ◌-◌, ◌*◌, ◌≤◌, ◌<◌}
use native.Mathlib.Omega.{arith}
use native.Mathlib.Numerals.{add-one}
use lib.ListN.{length, get_or, take, drop, length-append, length-drop}
use lib.Seq.{take_at, take_all, drop-append-add, drop-drop, drop-length}
use borrow.Rule.Slice.PartMut.{mid_of, put_mid}
use Rattle.lerc_words.specs.Res.{little}
use Rattle.lerc_words.specs.Lists.{over}
use Rattle.lerc_header.specs.Header.{header_of}
use Rattle.lerc_words.proofs.Counts.{total-zero}
use Rattle.lerc_slices.specs.Slices.{copied}
use Rattle.lerc_slices.proofs.Parts.{part-put, part-copied}
use Rattle.lerc_pack.specs.declared.Entry.{Entry}
use Rattle.lerc_pack.specs.Contents.{entry_place, head_bytes, entry_bytes, joined, bytes_of}
use Rattle.lerc_pack_writer.specs.Writing.{Given, body_start, blob_given, tile_given, pack_length, pack_given}
use Rattle.lerc_pack_writer.specs.Parts.{table_given, Judged}
use Rattle.lerc_pack.proofs.Fields.{inside}
use Rattle.lerc_pack.proofs.Joined.{length-joined, total-even, parts-joined}
use Rattle.lerc_pack_writer.proofs.Bytes.{length-head, length-entry}
use Rattle.lerc_pack_writer.proofs.Passes.{start-more}

-- what stands behind a front that took the place of as many bytes
drop-behind : (front old : List ℕ) (a n : ℕ) → length front ≡ a → drop (a + n) (front ++ drop a old) ≡ drop (a + n) old
drop-behind front old a n f = rw (sym f) (drop-append-add front (drop (length front) old) n ∙ drop-drop n (length front) old)

-- a part put behind a front of which all else is as it was
pub put_next : (front old new : List ℕ) (a n : ℕ) → length front ≡ a → length new ≡ n → put_mid a (a + n - a) (front ++ drop a old) new ≡ front ++ new ++ drop (a + n) old
put_next front old new a n f e =
    let cut : take a (front ++ drop a old) ≡ front = take_at front (drop a old) a f in
    let all : take n new ≡ new = take_all n new (omega arith) in
    part-put (front ++ drop a old) new a n e ∙ rw (cut, all, drop-behind front old a n f)

-- ---- entries

module _ (g : Given) where
  pub length-table : (i : ℕ) → length (table_given g i) ≡ 16 * i
  length-table i = length-joined i (λ k. entry_bytes (tile_given g k).entry) ∙ total-even i 16 _ (λ k. length-entry (tile_given g k).entry)

  pub table_more : (i : ℕ) → table_given g i ++ entry_bytes (tile_given g i).entry ≡ table_given g (suc i)
  unfolding joined
  table_more i = refl

  -- an entry as the code makes it: kind and depth stand in the bodies
  pub entry-made : (i at kind depth : ℕ) → Judged g → i < length g.rows → at ≡ body_start g i → kind ≡ little 4 g.bodies (at + 38) → depth ≡ little 4 g.bodies (at + 22)
      → record { row = get_or g.rows i 0; column = get_or g.columns i 0; kind = kind; depth = depth; start = entry_place (length g.rows) + at; length = get_or g.lengths i 0 } ≡ (tile_given g i).entry
  unfolding header_of
  entry-made i at kind depth j l e k d =
      let h = j.headed i l in
      rw (k, d, e, inside (get_or g.lengths i 0) 4 38 (body_start g i) g.bodies (omega arith), inside (get_or g.lengths i 0) 4 22 (body_start g i) g.bodies (omega arith))

  -- the first i entries are put
  pub record Putting (i at : ℕ) (old new : List ℕ) : Type 0 where
    pub below : i ≤ length g.rows
    pub next : at ≡ body_start g i
    pub holds : new ≡ table_given g i ++ drop (16 * i) old

  pub putting-none : (old : List ℕ) → Putting 0 0 old old
  unfolding joined
  putting-none old = record { below = omega arith; next = total-zero (λ k. get_or g.lengths k 0); holds = refl }

  -- the next body lies in the bodies, and has a header
  pub room_at : (i at : ℕ) → Judged g → i < length g.rows → at ≡ body_start g i → (at + get_or g.lengths i 0 ≤ length g.bodies) × (70 ≤ get_or g.lengths i 0)
  room_at i at j l e = (omega (arith, e, j.inside i l, start-more g i), j.headed i l)

  pub putting-more : {i at : ℕ} {old new : List ℕ} (e : Entry) (bytes : List ℕ) → Putting i at old new → i < length g.rows → e ≡ (tile_given g i).entry → bytes ≡ entry_bytes e
      → Putting (i + 1) (at + get_or g.lengths i 0) old (put_mid (16 * i) (16 * i + 16 - 16 * i) new bytes)
  putting-more {i} {at} {old} {new} e bytes p l is eb =
      let start : at + get_or g.lengths i 0 ≡ body_start g (suc i) = omega (arith, p.next, start-more g i) in
      let behind : 16 * i + 16 ≡ 16 * (i + 1) = omega arith in
      let put : put_mid (16 * i) (16 * i + 16 - 16 * i) new (entry_bytes e) ≡ table_given g i ++ entry_bytes e ++ drop (16 * i + 16) old =
      rw p.holds (put_next (table_given g i) old (entry_bytes e) (16 * i) 16 (length-table i) (length-entry e)) in
      record {
        below = omega arith;
        next = start ∙ ap (body_start g) (sym (add-one i));
        holds = rw (eb) (put ∙ rw (is, table_more i, behind, add-one i));
      }

  pub putting-all : {i at : ℕ} {old new : List ℕ} → Putting i at old new → length g.rows ≤ i → length old ≡ 16 * length g.rows → new ≡ table_given g (length g.rows)
  putting-all {i} {at} {old} {new} p h room =
      let e : i ≡ length g.rows = omega (arith, h, p.below) in
      let none : drop (16 * i) old ≡ drop (length old) old = ap (λ (k : ℕ). drop k old) (ap (λ (k : ℕ). 16 * k) e ∙ sym room) in
      p.holds ∙ rw (none, drop-length) (append-nil (table_given g i) ∙ ap (table_given g) e)

  pub putting-length : {i at : ℕ} {old new : List ℕ} → Putting i at old new → length old ≡ 16 * length g.rows → length new ≡ length old
  putting-length {i} {at} {old} {new} p room =
      rw p.holds (simp (length-append, length-table i, length-drop) (omega (arith, p.below, room)))

-- ---- the pack

module _ (g : Given) (j : Judged g) where
  -- the blobs end to end are the bodies
  pub blobs-joined : joined (length g.rows) (blob_given g) ≡ g.bodies
  blobs-joined =
      let none : body_start g 0 ≡ 0 = sym (total-zero (λ k. get_or g.lengths k 0)) in
      let all : body_start g (length g.rows) - 0 ≡ length g.bodies = omega (arith, j.all) in
      parts-joined (body_start g) (λ i. get_or g.lengths i 0) (length g.rows) g.bodies (λ i l. start-more g i) ∙ rw (none, all) (take_all (length g.bodies) g.bodies (omega arith))

  pub pack-is : pack_given g ≡ head_bytes (length g.rows) ++ table_given g (length g.rows) ++ g.bodies
  unfolding bytes_of
  pack-is = rw (blobs-joined)

  length_front : length (head_bytes (length g.rows) ++ table_given g (length g.rows)) ≡ entry_place (length g.rows)
  length_front = simp (length-append, length-head (length g.rows), length-table g (length g.rows))

  pub length-pack : length (pack_given g) ≡ pack_length g
  length-pack = rw (pack-is) (simp (length-append, length-head (length g.rows), length-table g (length g.rows)))

  -- head, entries and bodies, put one behind the other
  pub pack-put : (old head table copy : List ℕ) → head ≡ head_bytes (length g.rows) → table ≡ table_given g (length g.rows) → pack_length g ≤ length old
      → copy ≡ copied g.bodies (mid_of (entry_place (length g.rows)) (pack_length g - entry_place (length g.rows)) (put_mid 8 (entry_place (length g.rows) - 8) (head ++ drop 8 old) table))
      → put_mid (entry_place (length g.rows)) (pack_length g - entry_place (length g.rows)) (put_mid 8 (entry_place (length g.rows) - 8) (head ++ drop 8 old) table) copy ≡ over (pack_given g) old
  pack-put old head table copy h t room c =
      let n = length g.rows in
      let first : put_mid 8 (entry_place n - 8) (head ++ drop 8 old) table ≡ head_bytes n ++ table_given g n ++ drop (entry_place n) old =
      rw (h, t) (put_next (head_bytes n) old (table_given g n) 8 (16 * n) (length-head n) (length-table g n)) in
      let long : pack_length g ≤ length (head_bytes n ++ table_given g n ++ drop (entry_place n) old) = simp (length-append, length-head n, length-table g n, length-drop) (omega (arith, room)) in
      let cut : take (entry_place n) (head_bytes n ++ table_given g n ++ drop (entry_place n) old) ≡ head_bytes n ++ table_given g n = take_at (head_bytes n ++ table_given g n) (drop (entry_place n) old) (entry_place n) length_front in
      let rest : drop (pack_length g) (head_bytes n ++ table_given g n ++ drop (entry_place n) old) ≡ drop (pack_length g) old = drop-behind (head_bytes n ++ table_given g n) old (entry_place n) (length g.bodies) length_front in
      let all : take (length g.bodies) g.bodies ≡ g.bodies = take_all (length g.bodies) g.bodies (omega arith) in
      rw (c, first) (part-copied (head_bytes n ++ table_given g n ++ drop (entry_place n) old) g.bodies (entry_place n) (length g.bodies) long refl ∙ rw (cut, rest, all, length-pack, pack-is))
