-- A body of an entry's length: a tile by its header matches the entry.
-- Assumes nothing.
use Prim.Native.Nat.{ℕ}
use mathlib.Core.Path.{◌≡◌, ◌∙◌, ap, refl}
use mathlib.Core.Bool.{◌&&◌}
use mathlib.Core.List.{List}
use lib.ListN.{length}
use lib.Dec.{eqb}
use Rattle.lerc_words.specs.Res.{Res, ok, fail}
use Rattle.lerc_slices.specs.Slices.{accepts_with}
use Rattle.lerc_header.specs.declared.Header.{Header}
use Rattle.lerc_header.specs.Header.{header_says, is_tile}
use Rattle.lerc_header.proofs.Tile.{tile-read, tile-refused}
use Rattle.lerc_pack.specs.declared.Entry.{Entry}
use Rattle.lerc_pack.specs.Contents.{matches}

pub tile-matches : (e : Entry) (b : List ℕ) → length b ≡ e.length → is_tile b e.kind e.depth ≡ matches e b
unfolding matches
tile-matches e b n = go (header_says b) refl
  where
    go : (m : Res Header) → header_says b ≡ m
        → is_tile b e.kind e.depth ≡ accepts_with m (λ h. eqb e.kind h.kind && eqb e.depth h.depth && eqb e.length h.size)
    go (ok h) q = tile-read b e.kind e.depth q ∙ ap (λ (x : ℕ). eqb e.kind h.kind && eqb e.depth h.depth && eqb x h.size) n
    go (fail r) q = tile-refused b e.kind e.depth q
