-- Tiles whose entries fit their bytes; and that only the first n of a pack's tiles count.
-- Assumes nothing.
use mathlib.Core.Path.{◌≡◌, ap, refl}
use Prim.Native.Nat.{ℕ, zero, suc, ◌*◌, ◌≤◌, ◌<◌}
use native.Mathlib.Omega.{arith}
use Rattle.lerc_words.specs.Lists.{total}
use Rattle.lerc_words.proofs.Tables.{all_same}
use Rattle.lerc_header.specs.Limits.{size_limit}
use Rattle.lerc_pack.specs.Contents.{Tile, body_end, body_place, tile_right, tiles_right, entry_bytes, bytes_of}
use Rattle.lerc_pack.proofs.Joined.{total-most, joined_same}
use Rattle.lerc_pack.proofs.Rules.{TileKept, TilesKept, matched-kept, place-total}
use Rattle.lerc_pack_theorems.proofs.Entries.{Fits}

pub entry-fits : (n : ℕ) (tiles : ℕ → Tile) → TilesKept n tiles → (i : ℕ) → i < n → Fits (tiles i).entry
entry-fits n tiles k i l =
    let t : TileKept n tiles i = k.each i l in
    let (kind, some, size) = matched-kept _ _ t.matched in
    let front : total i (λ j. (tiles j).entry.length) ≤ i * size_limit = total-most i _ _ (λ j h. (matched-kept _ _ (k.each j (omega arith)).matched).2) in
    let start : (tiles i).entry.start < 4294967296 = omega (arith, k.few, t.start, place-total n tiles k i (omega arith)) in
    record {
      row = t.row;
      column = t.column;
      kind = omega arith;
      some = some;
      depth = omega (arith, t.depth);
      start = start;
      length = omega arith;
    }

-- ---- they go by the first n tiles alone

module _ (n : ℕ) (f g : ℕ → Tile) where
  pub place_same : (i : ℕ) → ((k : ℕ) → k < i → f k ≡ g k) → body_place n f i ≡ body_place n g i
  place_same zero h = refl
  place_same (suc i) h = ap (λ (t : Tile). body_end t.entry) (h i (omega arith))

  tile-same : (i : ℕ) → ((k : ℕ) → k ≤ i → f k ≡ g k) → tile_right n f i ≡ tile_right n g i
  unfolding tile_right
  tile-same zero h = rw (h 0 (omega arith))
  tile-same (suc i) h = rw (h (suc i) (omega arith), h i (omega arith))

  pub tiles-same : ((k : ℕ) → k < n → f k ≡ g k) → tiles_right n f ≡ tiles_right n g
  unfolding tiles_right
  tiles-same h = rw (all_same n (tile_right n f) (tile_right n g) (λ i l. tile-same i (λ k m. h k (omega arith))))

  pub bytes_same : ((k : ℕ) → k < n → f k ≡ g k) → bytes_of n f ≡ bytes_of n g
  unfolding bytes_of
  bytes_same h =
      let entries = joined_same n (λ i. entry_bytes (f i).entry) (λ i. entry_bytes (g i).entry) (λ i l. ap (λ (t : Tile). entry_bytes t.entry) (h i l)) in
      let bodies = joined_same n (λ i. (f i).blob) (λ i. (g i).blob) (λ i l. ap (λ (t : Tile). t.blob) (h i l)) in
      rw (entries, bodies)
