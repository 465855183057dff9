-- The rules of contents as plain facts, and what follows from them.
-- Assumes nothing.
use mathlib.Core.Path.{◌≡◌, ◌∙◌, ap, refl}
use mathlib.Core.Bool.{Bool, true}
use mathlib.Core.List.{List}
use Prim.Native.Nat.{ℕ, suc, ◌+◌, ◌-◌, ◌≤◌, ◌<◌}
use native.Mathlib.Omega.{arith}
use lib.ListN.{length}
use borrow.Author.Tests.{ltb-true, leb-true, eqb-true, lt-ltb, le-leb, eq-eqb}
use Rattle.lerc_words.specs.Res.{Res, ok, fail}
use Rattle.lerc_words.specs.Lists.{total}
use Rattle.lerc_words.proofs.Binding.{and_is}
use Rattle.lerc_words.proofs.Counts.{total-le}
use Rattle.lerc_words.proofs.Tables.{all_true, all-each}
use Rattle.lerc_slices.specs.Slices.{accepts_with}
use Rattle.lerc_header.specs.declared.Header.{Header}
use Rattle.lerc_header.specs.Limits.{size_limit}
use Rattle.lerc_header.specs.Header.{header_of, header_says}
use Rattle.lerc_header.proofs.Kept.{header-held, held_kept}
use Rattle.lerc_pack.specs.declared.Entry.{Entry}
use Rattle.lerc_pack.specs.Contents.{Tile, entry_place, body_place, rises_at, matches, tile_right, tiles_right}
use Rattle.lerc_pack.proofs.Joined.{starts-total}

-- ---- a blob that an entry matches

pub record Matched (e : Entry) (blob : List ℕ) : Type 0 where
  pub says : header_says blob ≡ ok (header_of blob)
  pub kind : e.kind ≡ (header_of blob).kind
  pub depth : e.depth ≡ (header_of blob).depth
  pub size : e.length ≡ (header_of blob).size

pub accepted-with : {A : Type 0} (m : Res A) (test : A → Bool) → accepts_with m test ≡ true → (a : A) × (m ≡ ok a) × (test a ≡ true)
accepted-with (ok a) test t = (a, refl, t)
accepted-with (fail r) test t = absurd (let z : ◌≡◌ {A = ℕ} 0 1 = cc in omega arith)

module _ (e : Entry) (blob : List ℕ) where
  pub matched-is : matches e blob ≡ true → Matched e blob
  unfolding matches
  matched-is t =
      let (h, p, t) = accepted-with (header_says blob) _ t in
      let is = (header-held blob h p).0 in
      let (t, size) = and_is _ _ t in
      let (kind, depth) = and_is _ _ t in
      record {
        says = p ∙ ap ok is;
        kind = eqb-true _ _ kind ∙ ap (λ (x : Header). x.kind) is;
        depth = eqb-true _ _ depth ∙ ap (λ (x : Header). x.depth) is;
        size = eqb-true _ _ size ∙ ap (λ (x : Header). x.size) is;
      }

  pub matched-right : Matched e blob → matches e blob ≡ true
  unfolding matches
  matched-right m = rw (m.says, eq-eqb _ _ m.kind, eq-eqb _ _ m.depth, eq-eqb _ _ m.size)

  -- what the header keeps, the entry keeps
  pub matched-kept : Matched e blob → (e.kind ≤ 7) × (0 < e.depth) × (e.length ≤ size_limit)
  matched-kept m =
      let kept = held_kept (header_of blob) (length blob) (header-held blob (header_of blob) m.says).1 in
      rw (m.kind, m.depth, m.size) (kept.right.kind, kept.right.depth, kept.within.size)

-- ---- n tiles, by number

-- the i-th
pub record TileKept (n : ℕ) (tiles : ℕ → Tile) (i : ℕ) : Type 0 where
  pub row : (tiles i).entry.row < 65536
  pub column : (tiles i).entry.column < 65536
  pub depth : (tiles i).entry.depth ≤ 64
  pub start : (tiles i).entry.start ≡ body_place n tiles i
  pub rises : rises_at tiles i ≡ true
  pub whole : (tiles i).entry.length ≡ length (tiles i).blob
  pub matched : Matched (tiles i).entry (tiles i).blob

pub record TilesKept (n : ℕ) (tiles : ℕ → Tile) : Type 0 where
  pub few : n ≤ 256
  pub each : (i : ℕ) → i < n → TileKept n tiles i

module _ (n : ℕ) (tiles : ℕ → Tile) (i : ℕ) where
  pub tile-is : tile_right n tiles i ≡ true → TileKept n tiles i
  unfolding tile_right
  tile-is t =
      let (t, matched) = and_is _ _ t in
      let (t, whole) = and_is _ _ t in
      let (t, rises) = and_is _ _ t in
      let (t, start) = and_is _ _ t in
      let (t, depth) = and_is _ _ t in
      let (row, column) = and_is _ _ t in
      record {
        row = ltb-true _ _ row;
        column = ltb-true _ _ column;
        depth = leb-true _ _ depth;
        start = eqb-true _ _ start;
        rises = rises;
        whole = eqb-true _ _ whole;
        matched = matched-is _ _ matched;
      }

  pub tile-right : TileKept n tiles i → tile_right n tiles i ≡ true
  unfolding tile_right
  tile-right k =
      rw (lt-ltb _ _ k.row, lt-ltb _ _ k.column, le-leb _ _ k.depth, eq-eqb _ _ k.start, k.rises, eq-eqb _ _ k.whole, matched-right _ _ k.matched)

module _ (n : ℕ) (tiles : ℕ → Tile) where
  pub tiles-is : tiles_right n tiles ≡ true → TilesKept n tiles
  unfolding tiles_right
  tiles-is t =
      let (few, each) = and_is _ _ t in
      record { few = leb-true _ _ few; each = λ i l. tile-is n tiles i (all-each n i _ each l) }

  pub tiles-right : TilesKept n tiles → tiles_right n tiles ≡ true
  unfolding tiles_right
  tiles-right k = rw (le-leb _ _ k.few) (all_true n _ (λ i l. tile-right n tiles i (k.each i l)))

-- ---- where their bodies stand

module _ (n : ℕ) (tiles : ℕ → Tile) (k : TilesKept n tiles) where
  -- each begins where the one before it ends
  pub place-next : (i : ℕ) → i < n → body_place n tiles (suc i) ≡ body_place n tiles i + (tiles i).entry.length
  place-next i l = ap (λ (x : ℕ). x + (tiles i).entry.length) (k.each i l).start

  pub place-total : (i : ℕ) → i ≤ n → body_place n tiles i ≡ entry_place n + total i (λ j. (tiles j).entry.length)
  place-total i h = starts-total (body_place n tiles) (λ j. (tiles j).entry.length) i (λ j l. place-next j (omega arith))

  pub place-rises : (i j : ℕ) → i ≤ j → j ≤ n → body_place n tiles i ≤ body_place n tiles j
  place-rises i j h l =
      let e : j - i + i ≡ j = omega arith in
      let t : total i (λ j. (tiles j).entry.length) ≤ total j (λ j. (tiles j).entry.length) = rw (e) at (total-le (λ j. (tiles j).entry.length) i (j - i)) in
      omega (arith, place-total i (omega arith), place-total j l)
