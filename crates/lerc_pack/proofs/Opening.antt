-- One pass over the entries, with the keys that may follow, says what the rules of a pack say.
-- Assumes nothing.
use mathlib.Core.Path.{◌≡◌, ◌∙◌, sym, refl}
use mathlib.Core.Bool.{Bool, true, false, ◌&&◌}
use mathlib.Core.List.{List}
use Prim.Native.Nat.{ℕ, suc, ◌+◌, ◌-◌, ◌≤◌, ◌<◌, min}
use native.Mathlib.Omega.{arith}
use lib.ListN.{length, take, drop, length-take, length-drop}
use lib.Dec.{leb, ltb, eqb}
use borrow.Author.Tests.{ltb-true, leb-true, eqb-true, le-leb, eq-eqb}
use Rattle.lerc_words.specs.Res.{ok, fail, ◌>>=◌, require, refuse, little}
use Rattle.lerc_words.specs.Lists.{all_to}
use Rattle.lerc_words.proofs.Little.{Bytes}
use Rattle.lerc_words.proofs.Binding.{and_is, bind_is, require-is, ok-is}
use Rattle.lerc_words.proofs.Tables.{all-each, all_true}
use Rattle.lerc_slices.proofs.Begins.{both_ways}
use Rattle.lerc_header.proofs.Kept.{header-held, held_kept}
use Rattle.lerc_pack.specs.declared.Entry.{Entry}
use Rattle.lerc_pack.specs.Contents.{tile_limit, depth_most, entry_place, body_end, body_place, rises_at, matches, tiles_right}
use Rattle.lerc_pack.specs.Pack.{count_of, head_right, entry_part, entry_at, zeros_right, body_of, tile_of, pack_says, entry_says}
use Rattle.lerc_pack.specs.Parts.{least_key, key_at, entry_right, entry_matched, entries_right}
use Rattle.lerc_pack.proofs.Fields.{row_fits, column_fits}
use Rattle.lerc_pack.proofs.Rules.{TileKept, TilesKept, matched-is, matched-right, tiles-is, tiles-right}
use Rattle.lerc_pack.proofs.Order.{rises-is}

-- the tests of an entry, each by itself
pub record EntryKept (b : List ℕ) (n i : ℕ) : Type 0 where
  pub zeros : zeros_right (entry_part b i) ≡ true
  pub depth : (entry_at b i).depth ≤ depth_most
  pub start : (entry_at b i).start ≡ body_place n (tile_of b) i
  pub least : leb (least_key (key_at b) i) (key_at b i) ≡ true
  pub inside : body_end (entry_at b i) ≤ length b

module _ (b : List ℕ) (n i : ℕ) where
  pub entry-is : entry_right b n i ≡ true → EntryKept b n i
  unfolding entry_right
  entry-is t =
      let (t, inside) = and_is _ (leb (body_end (entry_at b i)) (length b)) t in
      let (t, least) = and_is _ (leb (least_key (key_at b) i) (key_at b i)) t in
      let (t, start) = and_is _ (eqb (entry_at b i).start (body_place n (tile_of b) i)) t in
      let (zeros, depth) = and_is (zeros_right (entry_part b i)) (leb (entry_at b i).depth depth_most) t in
      record { zeros = zeros; depth = leb-true _ _ depth; start = eqb-true _ _ start; least = least; inside = leb-true _ _ inside }

  pub entry-right : EntryKept b n i → entry_right b n i ≡ true
  unfolding entry_right
  entry-right k = rw (k.zeros, le-leb _ _ k.depth, eq-eqb _ _ k.start, k.least, le-leb _ _ k.inside)

-- a blob that an entry matches has a header, and so some bytes
matched-some : (b : List ℕ) (s l : ℕ) → 70 ≤ length (take l (drop s b)) → l ≡ length (take l (drop s b)) → s + l ≤ length b
matched-some b s l some e =
    let h : length (take l (drop s b)) ≡ min l (length b - s) = simp (length-take, length-drop) in
    omega (arith, h, some, e)

module _ (b : List ℕ) (bytes : Bytes b) (n : ℕ) where
  rises : (i : ℕ) → rises_at (tile_of b) i ≡ leb (least_key (key_at b) i) (key_at b i)
  rises i = rises-is (tile_of b) (key_at b) i (λ k. refl) (column_fits b bytes)

  -- an entry that keeps its tests, with its blob
  tile-kept : (i : ℕ) → EntryKept b n i → matches (entry_at b i) (body_of b (entry_at b i)) ≡ true → TileKept n (tile_of b) i
  tile-kept i k m =
      let long : length (body_of b (entry_at b i)) ≡ min (entry_at b i).length (length b - (entry_at b i).start) = simp (length-take, length-drop) in
      record {
        row = row_fits b bytes i;
        column = column_fits b bytes i;
        depth = k.depth;
        start = k.start;
        rises = rises i ∙ k.least;
        whole = omega (arith, long, k.inside);
        matched = matched-is _ _ m;
      }

  entry_kept : (i : ℕ) → zeros_right (entry_part b i) ≡ true → TileKept n (tile_of b) i → EntryKept b n i
  entry_kept i z k =
      let kept = held_kept _ _ (header-held _ _ k.matched.says).1 in
      let some : 70 ≤ length (body_of b (entry_at b i)) = omega (arith, kept.right.size, kept.fits) in
      record {
        zeros = z;
        depth = k.depth;
        start = k.start;
        least = sym (rises i) ∙ k.rises;
        inside = matched-some b _ _ some k.whole;
      }

  -- the tests of one pass, and those of the rules
  same : n ≤ tile_limit → entries_right b n ≡ (all_to n (λ i. zeros_right (entry_part b i)) && tiles_right n (tile_of b) && eqb (body_place n (tile_of b) n) (length b))
  unfolding entries_right
  same few = both_ways _ _ to from
    where
      to : (all_to n (entry_matched b n) && eqb (body_place n (tile_of b) n) (length b)) ≡ true → (all_to n (λ i. zeros_right (entry_part b i)) && tiles_right n (tile_of b) && eqb (body_place n (tile_of b) n) (length b)) ≡ true
      to t =
          let (each, end) = and_is (all_to n (entry_matched b n)) (eqb (body_place n (tile_of b) n) (length b)) t in
          let at : (i : ℕ) → i < n → (entry_right b n i ≡ true) × (matches (entry_at b i) (body_of b (entry_at b i)) ≡ true) = λ i l. and_is _ _ (all-each n i (entry_matched b n) each l) in
          let kept : TilesKept n (tile_of b) = record { few = few; each = λ i l. tile-kept i (entry-is b n i (at i l).0) (at i l).1 } in
          rw (all_true n (λ i. zeros_right (entry_part b i)) (λ i l. (entry-is b n i (at i l).0).zeros), tiles-right n (tile_of b) kept, end)

      from : (all_to n (λ i. zeros_right (entry_part b i)) && tiles_right n (tile_of b) && eqb (body_place n (tile_of b) n) (length b)) ≡ true → (all_to n (entry_matched b n) && eqb (body_place n (tile_of b) n) (length b)) ≡ true
      from t =
          let (t, end) = and_is (all_to n (λ i. zeros_right (entry_part b i)) && tiles_right n (tile_of b)) (eqb (body_place n (tile_of b) n) (length b)) t in
          let (zeros, tiles) = and_is (all_to n (λ i. zeros_right (entry_part b i))) (tiles_right n (tile_of b)) t in
          let kept = tiles-is n (tile_of b) tiles in
          let at : (i : ℕ) → i < n → entry_matched b n i ≡ true = λ i l. rw (entry-right b n i (entry_kept i (all-each n i _ zeros l) (kept.each i l)), matched-right _ _ (kept.each i l).matched) in
          rw (all_true n (entry_matched b n) at, end)

-- ---- the answer

pub head-wrong : (b : List ℕ) → head_right b ≡ false → pack_says b ≡ fail (refuse 12)
unfolding pack_says
head-wrong b h = rw (h)

-- tests that refuse alike are one
three : (x y z : Bool) (n : ℕ) → (require x 12 >>= λ _. require y 12 >>= λ _. require z 12 >>= λ _. ok n) ≡ (require (x && y && z) 12 >>= λ _. ok n)
three true true true n = refl
three true true false n = refl
three true false z n = refl
three false y z n = refl

pub few-tiles : (b : List ℕ) → head_right b ≡ true → (count_of b ≤ tile_limit) × (entry_place (count_of b) ≤ length b)
unfolding head_right
few-tiles b h =
    let first = leb 8 (length b) && eqb (little 1 b 0) 1 && eqb (little 3 b 1) 0 in
    let (h, whole) = and_is (first && leb (count_of b) tile_limit) (leb (entry_place (count_of b)) (length b)) h in
    let (_, few) = and_is first (leb (count_of b) tile_limit) h in
    (leb-true _ _ few, leb-true _ _ whole)

pub head-right : (b : List ℕ) → Bytes b → head_right b ≡ true → pack_says b ≡ (require (entries_right b (count_of b)) 12 >>= λ _. ok (count_of b))
unfolding pack_says
head-right b bytes h = rw (h, same b bytes (count_of b) (few-tiles b h).0) (three (all_to (count_of b) (λ i. zeros_right (entry_part b i))) (tiles_right (count_of b) (tile_of b)) (eqb (body_place (count_of b) (tile_of b) (count_of b)) (length b)) (count_of b))

-- ---- an entry by number

pub record EntryGiven (b : List ℕ) (n i : ℕ) (e : Entry) : Type 0 where
  pub below : i < n
  pub there : entry_place (suc i) ≤ length b
  pub inside : body_end e ≤ length b
  pub is : e ≡ entry_at b i

pub entry-given : (b : List ℕ) (n i : ℕ) (e : Entry) → entry_says b n i ≡ ok e → EntryGiven b n i e
unfolding entry_says
entry-given b n i e p =
    let (_, below, p) = bind_is (require (ltb i n) 12) _ p in
    let (_, there, p) = bind_is (require (leb (entry_place (suc i)) (length b)) 12) _ p in
    let (_, inside, p) = bind_is (require (leb (body_end (entry_at b i)) (length b)) 12) _ p in
    let is : entry_at b i ≡ e = ok-is p in
    record {
      below = ltb-true _ _ (require-is _ 12 below);
      there = leb-true _ _ (require-is _ 12 there);
      inside = rw (sym is) (leb-true _ _ (require-is _ 12 inside));
      is = sym is;
    }
