-- An entry and its sixteen bytes say the same.
-- Assumes nothing.
use mathlib.Core.Path.{◌≡◌, ◌∙◌, sym, ap, refl}
use mathlib.Core.Bool.{true}
use mathlib.Core.List.{List, [], ◌++◌}
use Prim.Native.Nat.{ℕ, ◌+◌, ◌-◌, ◌≤◌, ◌<◌}
use native.Mathlib.Omega.{arith}
use lib.Dec.{lit≤}
use lib.ListN.{length, take, drop}
use lib.Seq.{take_all}
use borrow.Author.Tests.{eqb-true}
use Rattle.lerc_words.specs.Res.{little}
use Rattle.lerc_words.proofs.Little.{Bytes}
use Rattle.lerc_pack.specs.declared.Entry.{Entry}
use Rattle.lerc_pack.specs.Contents.{in_bytes, entry_bytes}
use Rattle.lerc_pack.specs.Pack.{entry_of, zeros_right}
use Rattle.lerc_pack_theorems.proofs.Digits.{little-placed, written_next}

-- fields that have room in an entry's bytes
pub record Fits (e : Entry) : Type 0 where
  pub row : e.row < 65536
  pub column : e.column < 65536
  pub kind : e.kind < 256
  pub some : 1 ≤ e.depth
  pub depth : e.depth ≤ 256
  pub start : e.start < 4294967296
  pub length : e.length < 4294967296

module _ (e : Entry) where
  pub length-entry : length (entry_bytes e) ≡ 16
  unfolding entry_bytes in_bytes
  length-entry = refl

  pub zeros-written : zeros_right (entry_bytes e) ≡ true
  unfolding zeros_right entry_bytes in_bytes little
  zeros-written = refl

  pub entry-written : Fits e → entry_of (entry_bytes e) ≡ e
  unfolding entry_of entry_bytes in_bytes
  entry-written f =
      let s = entry_bytes e in
      let r : little 2 s 0 ≡ e.row = little-placed 2 e.row [] (drop 2 s) f.row in
      let c : little 2 s 2 ≡ e.column = little-placed 2 e.column (take 2 s) (drop 4 s) f.column in
      let k : little 1 s 4 ≡ e.kind = little-placed 1 e.kind (take 4 s) (drop 5 s) f.kind in
      let d : little 1 s 5 ≡ e.depth - 1 = little-placed 1 (e.depth - 1) (take 5 s) (drop 6 s) (omega arith) in
      let a : little 4 s 8 ≡ e.start = little-placed 4 e.start (take 8 s) (drop 12 s) f.start in
      let l : little 4 s 12 ≡ e.length = little-placed 4 e.length (take 12 s) [] f.length in
      let back : e.depth - 1 + 1 ≡ e.depth = omega arith in
      rw (r, c, k, d, a, l, back)

-- sixteen bytes with their zeros are the bytes of the entry that they say
pub entry_read : (s : List ℕ) → Bytes s → length s ≡ 16 → zeros_right s ≡ true → entry_bytes (entry_of s) ≡ s
unfolding entry_of entry_bytes zeros_right
entry_read s b h z =
    let back : little 1 s 5 + 1 - 1 ≡ little 1 s 5 = omega arith in
    let zeros : in_bytes 2 0 ≡ in_bytes 2 (little 2 s 6) = ap (in_bytes 2) (sym (eqb-true _ _ z)) in
    let place = next 2 0 [] (lit≤ tt) refl in
    let known = next 1 5 _ (lit≤ tt) (next 1 4 _ (lit≤ tt) (next 2 2 _ (lit≤ tt) place)) in
    let body = next 4 12 _ (lit≤ tt) (next 4 8 _ (lit≤ tt) (next 2 6 _ (lit≤ tt) known)) in
    rw (back, zeros) (body ∙ take_all 16 s (omega arith))
  where
    next : (n at : ℕ) (front : List ℕ) → at + n ≤ 16 → front ≡ take at s → front ++ in_bytes n (little n s at) ≡ take (at + n) s
    next n at front l e = written_next n s at front b (omega arith) e
