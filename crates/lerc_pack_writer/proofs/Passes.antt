-- The pass over what the writer is lent, one turn at a time.
-- Assumes nothing.
use mathlib.Core.Path.{◌≡◌, ◌∙◌, sym, ap, refl}
use mathlib.Core.Bool.{true, false, ◌&&◌}
use Prim.Native.Nat.{ℕ, suc, ◌+◌, ◌-◌, ◌≤◌, ◌<◌}
use native.Mathlib.Omega.{arith}
use native.Mathlib.Numerals.{add-one}
use lib.ListN.{length, get_or, take, drop}
use lib.Dec.{leb, eqb}
use borrow.Author.Tests.{leb-true, le-leb}
use Rattle.lerc_slices.proofs.Begins.{both_ways}
use Rattle.lerc_words.proofs.Binding.{and_is}
use Rattle.lerc_words.specs.Lists.{all_to}
use Rattle.lerc_words.proofs.Counts.{total-zero, total-more}
use Rattle.lerc_words.proofs.Tables.{all_more, all-fails, all_none}
use Rattle.lerc_pack_writer.specs.Writing.{Given, body_start, blob_given}
use Rattle.lerc_pack.specs.Parts.{least_key}
use Rattle.lerc_pack_writer.specs.Parts.{is_whole, given_key, given_tile, given_tiles}
use Rattle.lerc_pack.proofs.Passes.{and_no}

-- What the writer is lent: the first i tiles are right, the next body begins at `at`, the next key is `least` or more

-- where the next body begins
pub start-more : (g : Given) (i : ℕ) → body_start g (suc i) ≡ body_start g i + get_or g.lengths i 0
start-more g i = ap (body_start g) (sym (add-one i)) ∙ sym (total-more i (λ k. get_or g.lengths k 0))

-- the part of the bodies that the code looks at
pub blob-is : (g : Given) (i at : ℕ) → at ≡ body_start g i → take (at + get_or g.lengths i 0 - at) (drop at g.bodies) ≡ blob_given g i
blob-is g i at e =
    let d : at + get_or g.lengths i 0 - at ≡ get_or g.lengths i 0 = omega arith in
    rw (d, e)

pub record Judging (g : Given) (i at least : ℕ) : Type 0 where
  pub below : i ≤ length g.rows
  pub right : all_to i (given_tile g) ≡ true
  pub next : at ≡ body_start g i
  pub key : least ≡ least_key (given_key g) i
  pub inside : at ≤ length g.bodies

module _ (g : Given) where
  pub judging-none : Judging g 0 0 0
  judging-none = record { below = omega arith; right = all_none (given_tile g); next = total-zero (λ k. get_or g.lengths k 0); key = refl; inside = omega arith }

  module _ {i at least : ℕ} (p : Judging g i at least) where
    -- the tests of a tile but for its blob, as the code makes them
    pub judging-test : (key long : ℕ) → key ≡ given_key g i → long ≡ get_or g.lengths i 0
        → (leb least key && leb long (length g.bodies - at)) ≡ (leb (least_key (given_key g) i) (given_key g i) && leb (body_start g (suc i)) (length g.bodies))
    judging-test key long k l = rw (k, p.key, room)
      where
        room : leb long (length g.bodies - at) ≡ leb (body_start g (suc i)) (length g.bodies)
        room = both_ways _ _ to from
          where
            to : leb long (length g.bodies - at) ≡ true → leb (body_start g (suc i)) (length g.bodies) ≡ true
            to t =
                let h : long ≤ length g.bodies - at = leb-true _ _ t in
                let f : body_start g (suc i) ≤ length g.bodies = omega (arith, h, l, p.next, p.inside, start-more g i) in
                le-leb _ _ f

            from : leb (body_start g (suc i)) (length g.bodies) ≡ true → leb long (length g.bodies - at) ≡ true
            from t =
                let h : body_start g (suc i) ≤ length g.bodies = leb-true _ _ t in
                let f : long ≤ length g.bodies - at = omega (arith, h, l, p.next, p.inside, start-more g i) in
                le-leb _ _ f

    pub judging-wrong : i < length g.rows → given_tile g i ≡ false → given_tiles g ≡ false
    unfolding given_tiles
    judging-wrong l e = and_no _ _ (all-fails (length g.rows) i (given_tile g) l e)

    pub judging-more : (end : ℕ) → i < length g.rows → given_tile g i ≡ true → end ≡ at + get_or g.lengths i 0 → Judging g (i + 1) end (given_key g i + 1)
    unfolding given_tile
    judging-more end l e is =
        let (t, _) = and_is (leb (least_key (given_key g) i) (given_key g i) && leb (body_start g (suc i)) (length g.bodies)) (is_whole (blob_given g i)) e in
        let (_, inside) = and_is (leb (least_key (given_key g) i) (given_key g i)) (leb (body_start g (suc i)) (length g.bodies)) t in
        let h : body_start g (suc i) ≤ length g.bodies = leb-true _ _ inside in
        let next : end ≡ body_start g (suc i) = omega (arith, is, p.next, start-more g i) in
        record {
          below = omega arith;
          right = all_more i (given_tile g) p.right e;
          next = next ∙ ap (body_start g) (sym (add-one i));
          key = add-one (given_key g i) ∙ ap (least_key (given_key g)) (sym (add-one i));
          inside = omega (arith, next, h);
        }

    pub judging-all : length g.rows ≤ i → eqb at (length g.bodies) ≡ given_tiles g
    unfolding given_tiles
    judging-all h =
        let e : i ≡ length g.rows = omega (arith, h, p.below) in
        let right : all_to (length g.rows) (given_tile g) ≡ true = ap (λ (k : ℕ). all_to k (given_tile g)) (sym e) ∙ p.right in
        let next : at ≡ body_start g (length g.rows) = p.next ∙ ap (body_start g) e in
        rw (right, next)
