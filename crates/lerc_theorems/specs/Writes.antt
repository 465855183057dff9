-- "Success writes only the mask's length, the list's first count entries and valid cells." Said of every outcome: a refusal writes less.
-- Assumes nothing.
use Rattle.std.specs.Prelude.{◌≡◌, Bool, false, ◌||◌, List, [], ◌∷◌, ℕ, ◌≤◌, length, get_or}
use Rattle.lerc_words.specs.Res.{ok}
use Rattle.lerc_bits.proofs.decode_plan.Reads as decode-plan
use Rattle.lerc_bits.proofs.decode.Reads as decode-counts
use Rattle.lerc_header.specs.declared.Shape.{Shape}
use Rattle.lerc_header.specs.Header.{shape_of}
use Rattle.lerc_header.specs.Shape.{mask_length, block_count}
use Rattle.lerc_mask.specs.Mask.{mask_bytes}
use Rattle.lerc_mask.proofs.decode.Reads as decode-mask
use Rattle.lerc_validity.specs.Validity.{bytes_of}
use Rattle.lerc_validity.proofs.prepare_mask.Reads as prepare-mask
use Rattle.lerc_validity.proofs.find_mask.Reads as find-mask
use Rattle.lerc_block.proofs.read_block.Reads as read-block
use Rattle.lerc_image.specs.Geometry.{is_valid_cell}
use Rattle.lerc_image.specs.Paint.{in_block}
use Rattle.lerc_image.proofs.walk.Reads as walk
use Rattle.lerc_image.proofs.fill.Reads as fill
use Rattle.lerc_image.proofs.list_tiles.Reads as list-tiles
use Rattle.lerc_image.proofs.fill_tiles.Reads as fill-tiles
use Rattle.lerc_image.proofs.write_tiles.Reads as write-tiles
use Rattle.lerc_image.proofs.decode_tiles.Reads as decode-tiles
use Rattle.lerc_byte_image.proofs.write.Reads as write-huffman
use Rattle.lerc_fills.proofs.fill_each.Reads as fill-each
use Rattle.lerc.specs.Meaning.{Meaning}
use Rattle.lerc.specs.Read.{Lent, read_says}

-- as long as before, and the same from entry n on
pub record AlikeFrom (n : ℕ) (old after : List ℕ) : Type 0 where
  pub long : length after ≡ length old
  pub rest : (i : ℕ) → n ≤ i → get_or after i 0 ≡ get_or old i 0

-- as long as before, and the same in every cell but these
pub record AlikeBut (cells : ℕ → Bool) (old after : List ℕ) : Type 0 where
  pub long : length after ≡ length old
  pub rest : (c : ℕ) → cells c ≡ false → get_or after c 0 ≡ get_or old c 0

-- the valid cells of one of these blocks
unfoldable pub in_some : Shape → List ℕ → List ℕ → ℕ → Bool
in_some s m [] c = false
in_some s m (n ∷ ns) c = in_block s m n c || in_some s m ns c

-- the inputs are a tuple in the order of a function's parameters, the outputs the same at exit
pub record WritesOnly : Type 0 where
  -- the first n entries; an array has its length by its type
  pub decode-plan : (k : _) (a : _) (n next : ℕ) (x : _) → decode-plan.Post k a (ok (record { n = n; next = next })) x → (i : ℕ) → n ≤ i → get_or x.1.1.0.now i 0 ≡ get_or a.1.1.0.now i 0
  pub decode-counts : (k : _) (a : _) (n next : ℕ) (x : _) → decode-counts.Post k a (ok (record { n = n; next = next })) x → (i : ℕ) → n ≤ i → get_or x.1.1.0.now i 0 ≡ get_or a.1.1.0.now i 0
  -- as many entries as the tile has valid pixels
  pub read-block : (k : _) (a : _) (next : ℕ) (x : _) → read-block.Post k a (ok next) x → (i : ℕ) → a.1.1.1.1.1.1.0 ≤ i
      → get_or x.1.1.1.1.1.1.1.0.now i 0 ≡ get_or a.1.1.1.1.1.1.1.0.now i 0
  pub decode-mask : (k : _) (a : _) (r : _) (x : _) → decode-mask.Post k a r x → AlikeFrom (mask_bytes a.1.0) a.1.1.1.0.now x.1.1.1.0.now
  pub prepare-mask : (k : _) (a : _) (r : _) (x : _) → prepare-mask.Post k a r x → AlikeFrom (mask_length (shape_of a.1.0)) a.1.1.1.1.0.now x.1.1.1.1.0.now
  pub find-mask : (k : _) (a : _) (r : _) (x : _) → find-mask.Post k a r x → AlikeFrom (mask_length (shape_of a.1.0)) a.1.1.1.1.0.now x.1.1.1.1.0.now
  pub walk : (k : _) (a : _) (r : _) (x : _) → walk.Post k a r x → AlikeFrom (block_count (shape_of a.1.0)) a.1.1.1.1.0.now x.1.1.1.1.0.now
  -- the valid cells of its block
  pub fill : (k : _) (a : _) (r : _) (x : _) → fill.Post k a r x
      → AlikeBut (in_block (shape_of a.1.0) a.1.1.1.0.now a.1.1.1.1.1.0) a.1.1.1.1.1.1.0.now x.1.1.1.1.1.1.0.now
  pub fill-each : (k : _) (a : _) (r : _) (x : _) → fill-each.Post k a r x
      → AlikeBut (in_some (shape_of a.1.0) a.1.1.1.0.now a.1.1.1.1.1.0.now) a.1.1.1.1.1.1.0.now x.1.1.1.1.1.1.0.now
  pub list-tiles : (k : _) (a : _) (r : _) (x : _) → list-tiles.Post k a r x → AlikeFrom (block_count (shape_of a.1.0)) a.1.1.1.1.0.now x.1.1.1.1.0.now
  pub fill-tiles : (k : _) (a : _) (r : _) (x : _) → fill-tiles.Post k a r x
      → AlikeBut (is_valid_cell (shape_of a.1.0) a.1.1.0.now) a.1.1.1.1.1.0.now x.1.1.1.1.1.0.now
  pub write-list : (k : _) (a : _) (r : _) (x : _) → write-tiles.Post k a r x → AlikeFrom (block_count (shape_of a.1.0)) a.1.1.1.1.1.0.now x.1.1.1.1.1.0.now
  pub write-image : (k : _) (a : _) (r : _) (x : _) → write-tiles.Post k a r x
      → AlikeBut (is_valid_cell (shape_of a.1.0) a.1.1.0.now) a.1.1.1.1.1.1.0.now x.1.1.1.1.1.1.0.now
  pub tiles-list : (k : _) (a : _) (r : _) (x : _) → decode-tiles.Post k a r x → AlikeFrom (block_count (shape_of a.1.0)) a.1.1.1.1.1.0.now x.1.1.1.1.1.0.now
  pub tiles-image : (k : _) (a : _) (r : _) (x : _) → decode-tiles.Post k a r x
      → AlikeBut (is_valid_cell (shape_of a.1.0) a.1.1.0.now) a.1.1.1.1.1.1.0.now x.1.1.1.1.1.1.0.now
  pub write-huffman : (k : _) (a : _) (r : _) (x : _) → write-huffman.Post k a r x
      → AlikeBut (is_valid_cell (shape_of a.1.0) a.1.1.1.1.0.now) a.1.1.1.1.1.0.now x.1.1.1.1.1.0.now

-- a whole read that reports n blocks
pub record WholeWrites (b : List ℕ) (reuse : Bool) (n : ℕ) (old after : Lent) : Type 0 where
  pub meaning : Meaning
  pub is : read_says b reuse old ≡ ok meaning
  pub kept : AlikeFrom (mask_length (shape_of meaning.header)) old.kept after.kept
  pub spare : AlikeFrom (mask_length (shape_of meaning.header)) old.spare after.spare
  pub list : AlikeFrom n old.list after.list
  pub image : AlikeBut (is_valid_cell (shape_of meaning.header) (bytes_of meaning.mask)) old.image after.image
