-- The writer: what it writes is a pack of what it was given, and it writes every pack.
-- Assumes nothing.
use mathlib.Core.Path.{◌≡◌, ◌∙◌, sym, ap}
use mathlib.Core.Bool.{true}
use mathlib.Core.List.{List}
use Prim.Native.Nat.{ℕ, ◌+◌, ◌≤◌, ◌<◌}
use native.Mathlib.Omega.{arith}
use lib.ListN.{length, get_or, length-drop}
use lib.Seq.{drop-drop}
use lib.Dec.{leb}
use borrow.Author.Tests.{leb-true, eqb-true, le-leb, eq-eqb}
use Rattle.lerc_words.specs.Res.{ok, require}
use Rattle.lerc_words.specs.Lists.{total, tabulate}
use Rattle.lerc_words.proofs.Little.{Bytes}
use Rattle.lerc_words.proofs.Binding.{bind_is, ok-is, require-is, and_is}
use Rattle.lerc_words.proofs.Tables.{length-tabulate, get_d_tabulate}
use Rattle.lerc_pack.specs.Contents.{entry_place, tiles_right, contents_right, pack_bytes}
use Rattle.lerc_pack.specs.Pack.{count_of, entry_at, body_of, tile_of, contents, pack_says}
use Rattle.lerc_pack_writer.specs.Writing.{Given, body_start, blob_given, tile_given, given_right, adds_up, pack_length, write_says, pack_given}
use Rattle.lerc_pack_theorems.specs.Packs.{given_of}
use Rattle.lerc_pack.proofs.Joined.{total-same}
use Rattle.lerc_pack.proofs.Rules.{TilesKept, tiles-is, tiles-right, place-total}
use Rattle.lerc_pack_theorems.proofs.Alike.{tiles-same, bytes_same}
use Rattle.lerc_pack_theorems.proofs.Opened.{Opened, pack-opened, opened-kept}
use Rattle.lerc_pack_theorems.proofs.Written.{length-written, written-says, written-contents}
use Rattle.lerc_pack_theorems.proofs.Reread.{bytes_read}
use Rattle.lerc_pack_theorems.proofs.OneToOne.{right-table, bytes-table}

-- what the writer takes
pub record Taken (g : Given) (room : ℕ) : Type 0 where
  pub columns : length g.columns ≡ length g.rows
  pub lengths : length g.lengths ≡ length g.rows
  pub sum : body_start g (length g.rows) ≡ length g.bodies
  pub tiles : TilesKept (length g.rows) (tile_given g)
  pub fits : pack_length g ≤ room

module _ (g : Given) (room : ℕ) where
  pub write-taken : {n : ℕ} → write_says g room ≡ ok n → (n ≡ pack_length g) × Taken g room
  unfolding write_says given_right adds_up
  write-taken p =
      let (_, given, p) = bind_is (require (given_right g) 12) _ p in
      let (_, sum, p) = bind_is (require (adds_up g) 12) _ p in
      let (_, tiles, p) = bind_is (require (tiles_right (length g.rows) (tile_given g)) 12) _ p in
      let (_, fits, p) = bind_is (require (leb (pack_length g) room) 5) _ p in
      let (h, few) = and_is _ _ (require-is (given_right g) 12 given) in
      let (columns, lengths) = and_is _ _ h in
      let t : Taken g room =
      record {
        columns = eqb-true _ _ columns;
        lengths = eqb-true _ _ lengths;
        sum = eqb-true _ _ (require-is (adds_up g) 12 sum);
        tiles = tiles-is (length g.rows) (tile_given g) (require-is (tiles_right (length g.rows) (tile_given g)) 12 tiles);
        fits = leb-true _ _ (require-is (leb (pack_length g) room) 5 fits);
      } in
      (sym (ok-is p), t)

  pub taken-write : Taken g room → write_says g room ≡ ok (pack_length g)
  unfolding write_says given_right adds_up
  taken-write t =
      rw (eq-eqb _ _ t.columns, eq-eqb _ _ t.lengths, le-leb _ _ t.tiles.few, eq-eqb _ _ t.sum, tiles-right (length g.rows) (tile_given g) t.tiles, le-leb _ _ t.fits)

-- ---- what is written

pub given-bytes : (g : Given) → pack_bytes (tabulate (length g.rows) (tile_given g)) ≡ pack_given g
given-bytes g = bytes-table (length g.rows) (tile_given g)

module _ (g : Given) (room n : ℕ) (p : write_says g room ≡ ok n) where
  taken : Taken g room
  taken = (write-taken g room p).1

  pub given-right : contents_right (tabulate (length g.rows) (tile_given g)) ≡ true
  given-right = right-table (length g.rows) (tile_given g) ∙ tiles-right (length g.rows) (tile_given g) taken.tiles

  -- as many bytes as the answer says
  pub given-length : n ≡ length (pack_given g)
  given-length =
      let k = length g.rows in
      let long = length-written k (tile_given g) taken.tiles ∙ place-total k (tile_given g) taken.tiles k (omega arith) in
      (write-taken g room p).0 ∙ omega (arith, long, taken.sum)

  pub given-says : pack_says (pack_given g) ≡ ok (length g.rows)
  given-says = written-says (length g.rows) (tile_given g) taken.tiles

  pub given-contents : contents (pack_given g) ≡ tabulate (length g.rows) (tile_given g)
  given-contents = written-contents (length g.rows) (tile_given g) taken.tiles

-- ---- every pack is written

module _ (b : List ℕ) (o : Opened b) where
  abbrev length_at : ℕ → ℕ
  length_at i = (entry_at b i).length

  length-again : (i : ℕ) → i < count_of b → get_or (given_of b).lengths i 0 ≡ length_at i
  length-again i l = get_d_tabulate (count_of b) length_at i 0 l

  start-again : (i : ℕ) → i ≤ count_of b → body_start (given_of b) i ≡ total i length_at
  start-again i h = total-same i _ length_at (λ k l. length-again k (omega arith))

  place-again : (i : ℕ) → i < count_of b → entry_place (count_of b) + body_start (given_of b) i ≡ (entry_at b i).start
  place-again i l = rw (start-again i (omega arith)) (sym ((o.each i l).start ∙ place-total (count_of b) (tile_of b) (opened-kept b o) i (omega arith)))

  blob-again : (i : ℕ) → i < count_of b → blob_given (given_of b) i ≡ body_of b (entry_at b i)
  blob-again i l = rw (length-again i l, drop-drop, place-again i l)

  pub tile-again : (i : ℕ) → i < count_of b → tile_given (given_of b) i ≡ tile_of b i
  tile-again i l =
      let m = (o.each i l).matched in
      let row = get_d_tabulate (count_of b) (λ k. (entry_at b k).row) i 0 l in
      let column = get_d_tabulate (count_of b) (λ k. (entry_at b k).column) i 0 l in
      rw (blob-again i l, row, column, length-again i l, ← m.kind, ← m.depth, length-tabulate, place-again i l)

  length-pack : pack_length (given_of b) ≡ length b
  length-pack = rw (length-tabulate, length-drop) (omega (arith, o.whole))

  pub taken-again : (room : ℕ) → length b ≤ room → Taken (given_of b) room
  taken-again room h =
      let n = count_of b in
      let kept = opened-kept b o in
      let right = tiles-same n (tile_given (given_of b)) (tile_of b) tile-again ∙ tiles-right n (tile_of b) kept in
      let all = place-total n (tile_of b) kept n (omega arith) in
      record {
        columns = simp length-tabulate;
        lengths = simp length-tabulate;
        sum = rw (length-tabulate, start-again n (omega arith), length-drop) (omega (arith, o.all));
        tiles = rw (length-tabulate) (tiles-is n (tile_given (given_of b)) right);
        fits = rw (length-pack) h;
      }

  pub pack-again : Bytes b → pack_given (given_of b) ≡ b
  pack-again y = rw (length-tabulate) (bytes_same (count_of b) (tile_given (given_of b)) (tile_of b) tile-again ∙ bytes_read b o y)

-- what was read is written as it stood, wherever there is room for it
pub write_again : (b : List ℕ) (n room : ℕ) → Bytes b → pack_says b ≡ ok n → length b ≤ room → (write_says (given_of b) room ≡ ok (length b)) × (pack_given (given_of b) ≡ b)
write_again b n room y p h =
    let o = (pack-opened b p).1 in
    (taken-write (given_of b) room (taken-again b o room h) ∙ ap ok (length-pack b o), pack-again b o y)
