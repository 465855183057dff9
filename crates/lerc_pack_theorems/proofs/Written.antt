-- What a pack says that was written from tiles that keep the rules.
-- Assumes nothing.
use mathlib.Core.Path.{◌≡◌, ◌∙◌, sym, ap, refl}
use mathlib.Core.List.{List, [], ◌∷◌, ◌++◌, append_assoc, append-nil}
use Prim.Native.Nat.{ℕ, ◌+◌, ◌*◌, ◌≤◌, ◌<◌}
use native.Mathlib.Omega.{arith}
use lib.ListN.{length, length-append}
use lib.Seq.{drop-append-add}
use Rattle.lerc_words.specs.Res.{ok, little}
use Rattle.lerc_words.specs.Lists.{total, tabulate}
use Rattle.lerc_words.proofs.Tables.{tabulate-same}
use Rattle.lerc_pack.specs.Contents.{Tile, entry_place, body_place, in_bytes, entry_bytes, head_bytes, joined, bytes_of}
use Rattle.lerc_pack.specs.Pack.{count_of, entry_part, entry_of, entry_at, body_of, tile_of, contents, pack_says}
use Rattle.lerc_pack.proofs.Joined.{total-same, total-even, length-joined, joined-part}
use Rattle.lerc_pack_theorems.proofs.Digits.{little-placed}
use Rattle.lerc_pack_theorems.proofs.Entries.{length-entry, zeros-written, entry-written}
use Rattle.lerc_pack.proofs.Rules.{TilesKept, tiles-is, tiles-right, place-total}
use Rattle.lerc_pack_theorems.proofs.Alike.{entry-fits, place_same, tiles-same}
use Rattle.lerc_pack_theorems.proofs.Opened.{Opened, opened-pack}

abbrev entries_of : ℕ → (ℕ → Tile) → List ℕ
entries_of n tiles = joined n (λ i. entry_bytes (tiles i).entry)

abbrev bodies_of : ℕ → (ℕ → Tile) → List ℕ
bodies_of n tiles = joined n (λ i. (tiles i).blob)

length-head : (n : ℕ) → length (head_bytes n) ≡ 8
unfolding head_bytes in_bytes
length-head n = refl

module _ (n : ℕ) (tiles : ℕ → Tile) where
  places-entries : (i : ℕ) → total i (λ k. length (entry_bytes (tiles k).entry)) ≡ 16 * i
  places-entries i = total-even i 16 _ (λ k. length-entry (tiles k).entry)

  pub length_front : length (head_bytes n ++ entries_of n tiles) ≡ entry_place n
  length_front = rw (length-append, length-head, length-joined, places-entries n)

  -- the i-th sixteen bytes behind the head
  pub part-written : (i : ℕ) → i < n → entry_part (bytes_of n tiles) i ≡ entry_bytes (tiles i).entry
  unfolding bytes_of
  part-written i l =
      let at : 8 + 16 * i ≡ length (head_bytes n) + 16 * i = rw (length-head) in
      let part = joined-part n (λ k. entry_bytes (tiles k).entry) (bodies_of n tiles) i l in
      rw (append_assoc, at, drop-append-add) (rw (length-entry, places-entries i) at part)

  pub version-written : little 1 (bytes_of n tiles) 0 ≡ 1
  unfolding bytes_of head_bytes in_bytes little
  version-written = refl

  pub zeros-behind : little 3 (bytes_of n tiles) 1 ≡ 0
  unfolding bytes_of head_bytes in_bytes little
  zeros-behind = refl

module _ (n : ℕ) (tiles : ℕ → Tile) (k : TilesKept n tiles) where
  pub count-written : count_of (bytes_of n tiles) ≡ n
  unfolding bytes_of head_bytes in_bytes
  count-written = little-placed 4 n (1 ∷ 0 ∷ 0 ∷ 0 ∷ []) (entries_of n tiles ++ bodies_of n tiles) (omega (arith, k.few))

  places-bodies : (i : ℕ) → i ≤ n → total i (λ j. length (tiles j).blob) ≡ total i (λ j. (tiles j).entry.length)
  places-bodies i h = total-same i _ _ (λ j l. sym (k.each j (omega arith)).whole)

  pub length-written : length (bytes_of n tiles) ≡ body_place n tiles n
  unfolding bytes_of
  length-written = rw (length-append, length_front n tiles, length-joined, places-bodies n (omega arith)) (sym (place-total n tiles k n (omega arith)))

  pub entry-at : (i : ℕ) → i < n → entry_at (bytes_of n tiles) i ≡ (tiles i).entry
  entry-at i l = ap entry_of (part-written n tiles i l) ∙ entry-written (tiles i).entry (entry-fits n tiles k i l)

  pub body-written : (i : ℕ) → i < n → body_of (bytes_of n tiles) (tiles i).entry ≡ (tiles i).blob
  unfolding bytes_of
  body-written i l =
      let front = head_bytes n ++ entries_of n tiles in
      let start = (k.each i l).start ∙ place-total n tiles k i (omega arith) in
      let at : (tiles i).entry.start ≡ length front + total i (λ j. length (tiles j).blob) = rw (length_front n tiles, places-bodies i (omega arith)) start in
      let part = joined-part n (λ j. (tiles j).blob) [] i l in
      rw (at, (k.each i l).whole, drop-append-add front) (rw (append-nil) at part)

  pub tile-written : (i : ℕ) → i < n → tile_of (bytes_of n tiles) i ≡ tiles i
  tile-written i l = rw (entry-at i l, body-written i l)

  pub written-opened : Opened (bytes_of n tiles)
  written-opened =
      let b = bytes_of n tiles in
      let right = tiles-same n (tile_of b) tiles tile-written ∙ tiles-right n tiles k in
      let kept = tiles-is n (tile_of b) right in
      let long = length-written ∙ place-total n tiles k n (omega arith) in
      record {
        head = omega arith;
        version = version-written n tiles;
        zeros = zeros-behind n tiles;
        few = rw (count-written) k.few;
        whole = rw (count-written) (omega arith);
        gaps = rw (count-written) (λ i l. rw (part-written n tiles i l) (zeros-written (tiles i).entry));
        each = rw (count-written) kept.each;
        all = rw (count-written) (place_same n (tile_of b) tiles n tile-written ∙ sym length-written);
      }

  pub written-says : pack_says (bytes_of n tiles) ≡ ok n
  written-says = opened-pack (bytes_of n tiles) written-opened ∙ ap ok count-written

  pub written-contents : contents (bytes_of n tiles) ≡ tabulate n tiles
  unfolding contents
  written-contents = rw (count-written) (tabulate-same n (tile_of (bytes_of n tiles)) tiles tile-written)
