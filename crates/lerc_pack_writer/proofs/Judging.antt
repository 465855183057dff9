-- The writer's one pass says what the rules of contents say of what it is lent.
-- Assumes nothing.
use mathlib.Core.Path.{◌≡◌, ◌∙◌, sym, ap, refl}
use mathlib.Core.Bool.{Bool, true, false, ◌&&◌}
use mathlib.Core.List.{List}
use Prim.Native.Nat.{ℕ, zero, suc, ◌+◌, ◌-◌, ◌*◌, ◌≤◌, ◌<◌, min}
use native.Mathlib.Omega.{arith}
use native.Mathlib.Nat.{add-zero}
use lib.ListN.{length, get_or, length-take, length-drop}
use lib.Dec.{leb, eqb}
use borrow.Author.Tests.{leb-true, eqb-true, le-leb, eq-eqb}
use Rattle.lerc_words.specs.Res.{Res, ok, fail, ◌>>=◌, require, refuse}
use Rattle.lerc_words.specs.Lists.{all_to}
use Rattle.lerc_words.proofs.Binding.{and_is}
use Rattle.lerc_words.proofs.Counts.{total-zero, total-le}
use Rattle.lerc_words.proofs.Tables.{all-each, all_true}
use Rattle.lerc_slices.proofs.Begins.{both_ways}
use Rattle.lerc_header.specs.declared.Header.{Header}
use Rattle.lerc_header.specs.Limits.{size_limit}
use Rattle.lerc_header.specs.Header.{extent_of, header_of, header_says}
use Rattle.lerc_header.proofs.Kept.{HeaderKept, header-held, held_kept}
use Rattle.lerc_pack.specs.Contents.{tile_limit, entry_place, body_place, rises_at, tiles_right}
use Rattle.lerc_words.specs.declared.Refusal.{Refusal}
use Rattle.lerc_words.specs.Lists.{over}
use Rattle.lerc_pack_writer.specs.Writing.{Given, body_start, blob_given, tile_given, given_right, adds_up, pack_length, pack_given, write_says, PackWritten}
use Rattle.lerc_pack.specs.Parts.{least_key}
use Rattle.lerc_pack_writer.specs.Parts.{is_whole, given_key, given_tile, given_tiles, Judged}
use Rattle.lerc_pack.proofs.Joined.{total-most}
use Rattle.lerc_pack.proofs.Rules.{accepted-with, TileKept, TilesKept, tiles-is, tiles-right}
use Rattle.lerc_pack.proofs.Order.{rises-is}
use Rattle.lerc_pack_writer.proofs.Passes.{start-more}

-- rows and columns have two bytes each
pub record Twos (g : Given) : Type 0 where
  pub rows : (i : ℕ) → get_or g.rows i 0 < 65536
  pub columns : (i : ℕ) → get_or g.columns i 0 < 65536

-- ---- a blob that is whole

pub record Whole (blob : List ℕ) : Type 0 where
  pub says : header_says blob ≡ ok (header_of blob)
  pub size : length blob ≡ (header_of blob).size

pub whole_is : (blob : List ℕ) → is_whole blob ≡ true → Whole blob
unfolding is_whole
whole_is blob t =
    let (h, p, e) = accepted-with (header_says blob) _ t in
    let is = (header-held blob h p).0 in
    record { says = p ∙ ap ok is; size = eqb-true _ _ e ∙ ap (λ (x : Header). x.size) is }

pub whole-right : (blob : List ℕ) → Whole blob → is_whole blob ≡ true
unfolding is_whole
whole-right blob w = rw (w.says, eq-eqb _ _ w.size)

-- ---- a tile, by the tests of the pass

pub record GivenKept (g : Given) (i : ℕ) : Type 0 where
  pub least : leb (least_key (given_key g) i) (given_key g i) ≡ true
  pub inside : body_start g (suc i) ≤ length g.bodies
  pub whole : Whole (blob_given g i)

module _ (g : Given) (i : ℕ) where
  pub given_is : given_tile g i ≡ true → GivenKept g i
  unfolding given_tile
  given_is t =
      let (t, whole) = and_is _ (is_whole (blob_given g i)) t in
      let (least, inside) = and_is (leb (least_key (given_key g) i) (given_key g i)) (leb (body_start g (suc i)) (length g.bodies)) t in
      record { least = least; inside = leb-true _ _ inside; whole = whole_is _ whole }

  pub given-right : GivenKept g i → given_tile g i ≡ true
  unfolding given_tile
  given-right k = rw (k.least, le-leb _ _ k.inside, whole-right _ k.whole)

  -- a body that lies in the bodies has its length
  pub long-given : body_start g (suc i) ≤ length g.bodies → length (blob_given g i) ≡ get_or g.lengths i 0
  long-given h =
      let long : length (blob_given g i) ≡ min (get_or g.lengths i 0) (length g.bodies - body_start g i) = simp (length-take, length-drop) in
      omega (arith, long, h, start-more g i)

-- ---- all tiles

module _ (g : Given) (twos : Twos g) where
  rises : (i : ℕ) → rises_at (tile_given g) i ≡ leb (least_key (given_key g) i) (given_key g i)
  rises i = rises-is (tile_given g) (given_key g) i (λ k. refl) twos.columns

  place : (i : ℕ) → entry_place (length g.rows) + body_start g i ≡ body_place (length g.rows) (tile_given g) i
  place zero =
      let none : body_start g 0 ≡ 0 = sym (total-zero (λ k. get_or g.lengths k 0)) in
      rw (none, add-zero)
  place (suc i) = omega (arith, start-more g i)

  tile-kept : (i : ℕ) → GivenKept g i → TileKept (length g.rows) (tile_given g) i
  tile-kept i k =
      let w = k.whole in
      let kept = held_kept (header_of (blob_given g i)) (length (blob_given g i)) (header-held (blob_given g i) (header_of (blob_given g i)) w.says).1 in
      record {
        row = twos.rows i;
        column = twos.columns i;
        depth = kept.within.depth;
        start = place i;
        rises = rises i ∙ k.least;
        whole = sym (long-given g i k.inside);
        matched = record { says = w.says; kind = refl; depth = refl; size = sym (long-given g i k.inside) ∙ w.size };
      }

  given-kept : (i : ℕ) → i < length g.rows → body_start g (length g.rows) ≡ length g.bodies → TileKept (length g.rows) (tile_given g) i → GivenKept g i
  given-kept i l all k =
      let e : length g.rows - suc i + suc i ≡ length g.rows = omega arith in
      let below : body_start g (suc i) ≤ body_start g (length g.rows) = rw (e) at (total-le (λ j. get_or g.lengths j 0) (suc i) (length g.rows - suc i)) in
      record {
        least = sym (rises i) ∙ k.rises;
        inside = omega (arith, below, all);
        whole = record { says = k.matched.says; size = sym k.whole ∙ k.matched.size };
      }

  -- the tests of the pass, and those of the rules
  same : length g.rows ≤ tile_limit → given_tiles g ≡ (adds_up g && tiles_right (length g.rows) (tile_given g))
  unfolding given_tiles adds_up
  same few = both_ways _ _ to from
    where
      to : (all_to (length g.rows) (given_tile g) && eqb (body_start g (length g.rows)) (length g.bodies)) ≡ true → (eqb (body_start g (length g.rows)) (length g.bodies) && tiles_right (length g.rows) (tile_given g)) ≡ true
      to t =
          let (each, all) = and_is (all_to (length g.rows) (given_tile g)) (eqb (body_start g (length g.rows)) (length g.bodies)) t in
          let kept : TilesKept (length g.rows) (tile_given g) = record { few = few; each = λ i l. tile-kept i (given_is g i (all-each (length g.rows) i (given_tile g) each l)) } in
          rw (all, tiles-right _ _ kept)

      from : (eqb (body_start g (length g.rows)) (length g.bodies) && tiles_right (length g.rows) (tile_given g)) ≡ true → (all_to (length g.rows) (given_tile g) && eqb (body_start g (length g.rows)) (length g.bodies)) ≡ true
      from t =
          let (all, tiles) = and_is (eqb (body_start g (length g.rows)) (length g.bodies)) (tiles_right (length g.rows) (tile_given g)) t in
          let kept = tiles-is _ _ tiles in
          rw (all_true (length g.rows) (given_tile g) (λ i l. given-right g i (given-kept i l (eqb-true _ _ all) (kept.each i l))), all)

-- ---- the answer

pub record Alike (g : Given) : Type 0 where
  pub columns : length g.columns ≡ length g.rows
  pub lengths : length g.lengths ≡ length g.rows
  pub few : length g.rows ≤ tile_limit

pub alike_is : (g : Given) → given_right g ≡ true → Alike g
unfolding given_right
alike_is g t =
    let (t, few) = and_is _ (leb (length g.rows) tile_limit) t in
    let (columns, lengths) = and_is (eqb (length g.columns) (length g.rows)) (eqb (length g.lengths) (length g.rows)) t in
    record { columns = eqb-true _ _ columns; lengths = eqb-true _ _ lengths; few = leb-true _ _ few }

pub write-wrong : (g : Given) (room : ℕ) → given_right g ≡ false → write_says g room ≡ fail (refuse 12)
unfolding write_says
write-wrong g room h = rw (h)

-- tests that refuse alike are one
two : {A : Type 0} (x y : Bool) (k : Bool → Res A) → (require x 12 >>= λ _. require y 12 >>= k) ≡ (require (x && y) 12 >>= k)
two true true k = refl
two true false k = refl
two false y k = refl

pub write-is : (g : Given) (room : ℕ) → Twos g → given_right g ≡ true → write_says g room ≡ (require (given_tiles g) 12 >>= λ _. require (leb (pack_length g) room) 5 >>= λ _. ok (pack_length g))
unfolding write_says
write-is g room twos h = rw (h, same g twos (alike_is g h).few) (two (adds_up g) (tiles_right (length g.rows) (tile_given g)) (λ _. require (leb (pack_length g) room) 5 >>= λ _. ok (pack_length g)))

pub judged : (g : Given) → given_right g ≡ true → given_tiles g ≡ true → Judged g
unfolding given_tiles
judged g h t =
    let a = alike_is g h in
    let (each, all) = and_is (all_to (length g.rows) (given_tile g)) (eqb (body_start g (length g.rows)) (length g.bodies)) t in
    let kept : (i : ℕ) → i < length g.rows → GivenKept g i = λ i l. given_is g i (all-each (length g.rows) i (given_tile g) each l) in
    let held : (i : ℕ) → i < length g.rows → HeaderKept (header_of (blob_given g i)) (length (blob_given g i)) (extent_of (header_of (blob_given g i))) =
    λ i l. held_kept (header_of (blob_given g i)) (length (blob_given g i)) (header-held (blob_given g i) (header_of (blob_given g i)) (kept i l).whole.says).1 in
    let sized : (i : ℕ) → i < length g.rows → get_or g.lengths i 0 ≤ size_limit = λ i l. omega (arith, (held i l).within.size, (kept i l).whole.size, long-given g i (kept i l).inside) in
    let most : body_start g (length g.rows) ≤ length g.rows * size_limit = total-most (length g.rows) size_limit (λ k. get_or g.lengths k 0) sized in
    let end : body_start g (length g.rows) ≡ length g.bodies = eqb-true _ _ all in
    let small : length g.bodies ≤ tile_limit * size_limit = omega (arith, most, a.few, end) in
    record {
      few = a.few;
      columns = a.columns;
      lengths = a.lengths;
      headed = λ i l. omega (arith, (held i l).right.size, (kept i l).whole.size, long-given g i (kept i l).inside);
      deep = λ i l. (held i l).right.depth;
      inside = λ i l. (kept i l).inside;
      all = end;
      small = small;
    }

-- what a refusal leaves, and what is written
pub refused-written : (g : Given) (why : Refusal) (out : List ℕ) → write_says g (length out) ≡ fail why → PackWritten g (fail why) out out
refused-written g why out e = record { says = sym e; out = rw (e) }

pub accepted-written : (g : Given) (n : ℕ) (old new : List ℕ) → write_says g (length old) ≡ ok n → new ≡ over (pack_given g) old → PackWritten g (ok n) old new
accepted-written g n old new e is = record { says = sym e; out = is ∙ rw (e) }
