-- Packs and their contents are one to one: what is written is read back, and what was read is written as it stood.
-- Assumes nothing.
use mathlib.Core.Path.{◌≡◌, ◌∙◌, sym, ap, refl}
use mathlib.Core.Logic.{◌↔◌}
use mathlib.Core.Bool.{true}
use mathlib.Core.List.{List, [], ◌∷◌}
use Prim.Native.Nat.{ℕ}
use lib.ListN.{length, drop, get_or}
use lib.Seq.{ext_get_or}
use Rattle.lerc_words.specs.Res.{ok, little}
use Rattle.lerc_words.specs.Lists.{from, tabulate, all_to}
use Rattle.lerc_words.proofs.Little.{Bytes}
use Rattle.lerc_words.proofs.Tables.{length-tabulate, get_d_tabulate}
use Rattle.lerc_pack.specs.Contents.{Tile, entry_place, tiles_right, none, numbered, contents_right, in_bytes, head_bytes, joined, bytes_of, pack_bytes}
use Rattle.lerc_pack.specs.Pack.{count_of, head_right, entry_at, body_of, tile_of, contents, pack_says}
use Rattle.lerc_pack.proofs.Rules.{tiles-is, tiles-right}
use Rattle.lerc_pack_theorems.proofs.Alike.{tiles-same, bytes_same}
use Rattle.lerc_pack_theorems.proofs.Opened.{pack-opened, opened-kept}
use Rattle.lerc_pack_theorems.proofs.Written.{written-says, written-contents}
use Rattle.lerc_pack_theorems.proofs.Reread.{bodies-read, bytes_read}

-- ---- tiles as a list, and by number

tabulated : {A : Type 0} (d : A) (xs : List A) → tabulate (length xs) (λ i. get_or xs i d) ≡ xs
tabulated d xs = ext_get_or d (tabulate (length xs) (λ i. get_or xs i d)) xs (length-tabulate _ _) (λ i l. get_d_tabulate (length xs) (λ i. get_or xs i d) i d (rw (length-tabulate) at l))

module _ (n : ℕ) (tiles : ℕ → Tile) where
  pub right-table : contents_right (tabulate n tiles) ≡ tiles_right n tiles
  right-table = rw (length-tabulate) (tiles-same n (numbered (tabulate n tiles)) tiles (λ i l. get_d_tabulate n tiles i none l))

  pub bytes-table : pack_bytes (tabulate n tiles) ≡ bytes_of n tiles
  bytes-table = rw (length-tabulate) (bytes_same n (numbered (tabulate n tiles)) tiles (λ i l. get_d_tabulate n tiles i none l))

-- ---- there and back

-- what is written is accepted, and its contents are those that were written
pub read-written : (ts : List Tile) → contents_right ts ≡ true → (pack_says (pack_bytes ts) ≡ ok (length ts)) × (contents (pack_bytes ts) ≡ ts)
read-written ts right =
    let kept = tiles-is (length ts) (numbered ts) right in
    (written-says (length ts) (numbered ts) kept, written-contents (length ts) (numbered ts) kept ∙ tabulated none ts)

-- the contents of what is accepted keep the rules, and what is written from them is what was read
pub written_read : (b : List ℕ) (n : ℕ) → Bytes b → pack_says b ≡ ok n → (contents_right (contents b) ≡ true) × (pack_bytes (contents b) ≡ b)
unfolding contents
written_read b n y p =
    let o = (pack-opened b p).1 in
    (right-table (count_of b) (tile_of b) ∙ tiles-right (count_of b) (tile_of b) (opened-kept b o), bytes-table (count_of b) (tile_of b) ∙ bytes_read b o y)

-- two packs with the same contents are the same bytes
pub same-contents : (a b : List ℕ) (n m : ℕ) → Bytes a → Bytes b → pack_says a ≡ ok n → pack_says b ≡ ok m → (contents a ≡ contents b) ↔ (a ≡ b)
same-contents a b n m x y p q = (λ e. sym (written_read a n x p).1 ∙ ap pack_bytes e ∙ (written_read b m y q).1, ap contents)

-- two lists of tiles with the same bytes are the same
pub same_bytes : (s t : List Tile) → contents_right s ≡ true → contents_right t ≡ true → (pack_bytes s ≡ pack_bytes t) ↔ (s ≡ t)
same_bytes s t p q = (λ e. sym (read-written s p).1 ∙ ap contents e ∙ (read-written t q).1, ap pack_bytes)

-- the bodies, end to end, are what stands behind the contents
pub bodies-partition : (b : List ℕ) (n : ℕ) → pack_says b ≡ ok n → joined n (λ i. body_of b (entry_at b i)) ≡ drop (entry_place n) b
bodies-partition b n p =
    let (is, o) = pack-opened b p in
    rw (is) (bodies-read b o)

-- ---- "The empty pack is 01 and seven zeros."

pub empty-pack : pack_says (1 ∷ 0 ∷ 0 ∷ 0 ∷ 0 ∷ 0 ∷ 0 ∷ 0 ∷ []) ≡ ok 0
unfolding pack_says head_right tiles_right all_to little
empty-pack = refl

pub empty-written : pack_bytes [] ≡ 1 ∷ 0 ∷ 0 ∷ 0 ∷ 0 ∷ 0 ∷ 0 ∷ 0 ∷ []
unfolding bytes_of head_bytes in_bytes joined
empty-written = refl

contents-none : (b : List ℕ) → count_of b ≡ 0 → contents b ≡ []
unfolding contents from
contents-none b e = rw (e)

-- no other bytes are a pack of no tiles
pub empty-alone : (b : List ℕ) → Bytes b → (pack_says b ≡ ok 0) ↔ (b ≡ 1 ∷ 0 ∷ 0 ∷ 0 ∷ 0 ∷ 0 ∷ 0 ∷ 0 ∷ [])
empty-alone b y =
    (λ p. sym (written_read b 0 y p).1 ∙ ap pack_bytes (contents-none b (sym (pack-opened b p).0)) ∙ empty-written, λ e. rw (e) empty-pack)
