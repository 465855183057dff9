-- The premises of demand 3 from calls hold, too: the blob of the example, opened by a walk and by a whole read.
-- Assumes nothing.
use Prim.Native.Nat.{ℕ, ◌≤◌}
use mathlib.Core.Path.{◌≡◌, ◌∙◌, sym, refl}
use mathlib.Core.Bool.{true, false}
use mathlib.Core.List.{List, [], ◌∷◌, ◌++◌}
use native.Mathlib.Omega.{arith}
use borrow.Author.Tests.{le-leb}
use lib.ListN.{length, replicate}
use Rattle.lerc_words.specs.Res.{ok, little}
use Rattle.lerc_words.proofs.Binding.{ok-is}
use Rattle.lerc_bits.specs.Packing.{bytes_of}
use Rattle.lerc_header.specs.Shape.{strips}
use Rattle.lerc_header.specs.Header.{header_of}
use Rattle.lerc_validity.specs.Validity.{new, prepare_says, in_force}
use Rattle.lerc_image.specs.Walk.{walk_says, walk_list}
use Rattle.lerc.specs.Meaning.{Meaning, blocks}
use Rattle.lerc.specs.Read.{Lent, room, read_says, published}
use Rattle.lerc_witness.specs.Witness.{grid}
use Rattle.lerc_theorems.specs.DemandThree.{InHand, ByWalk, ByRead}
use Rattle.lerc_theorems.proofs.Calls.{ranges-from}
use Rattle.lerc_theorems.proofs.Made.{header_made, prepare-made, handed-made, walk-made, read_made}
use Rattle.lerc_theorems.proofs.Meanings.{Means, meaning-is, keeps, read_is}
use Rattle.lerc_theorems.proofs.Fills.{means-walking, walking-says}
use Rattle.lerc_theorems.proofs.Example.{grid_starts, example, opened}
use Rattle.lerc_validity.specs.declared.Mask.TheVariants as mask

abbrev pub in_hand : InHand
in_hand = record {
  blob = example.blob;
  reuse = false;
  kept = example.kept;
  header = example.header;
  ranges = example.ranges;
  count = 8;
  end = 91;
  mask = example.mask;
  list = example.list;
  image = example.image;
}

abbrev meant : Meaning
meant = record { header = example.header; mask = example.means; body = blocks example.chain }

abbrev before : Lent
before = record { kept = example.kept; spare = 0 ∷ []; list = replicate 9 9; image = replicate 9 9 }

parts : Means grid false example.kept meant
parts = meaning-is grid false example.kept meant opened.means

walked : (list : List ℕ) → 8 ≤ length list → walk_says grid example.header example.ranges (255 ∷ []) (length list) ≡ ok example.chain
unfolding bytes_of little strips header_of
walked list l = walking-says grid example.header example.ranges (255 ∷ []) (length list) example.chain
    (means-walking grid false example.kept example.header example.means example.chain opened.means opened.kept example.ranges (ranges-from opened.ranges) (length list) l)

prepared : prepare_says grid (header_of grid) false example.kept 1 ≡ ok (new (255 ∷ []))
unfolding prepare_says
prepared = rw (keeps grid false example.kept meant parts, le-leb _ _ opened.kept) parts.mask

roomy : room (header_of grid) before ≡ true
unfolding bytes_of room little strips header_of
roomy = refl

read : read_says grid false before ≡ ok meant
read = read_is grid false before (λ h e. rw (← ok-is (sym parts.header ∙ e)) roomy) ∙ opened.means

pub by-calls : ByWalk in_hand
unfolding bytes_of in_force walk_list little strips header_of
by-calls = record {
  said = ok (mask.Spare 1);
  spare = 0 ∷ [];
  prepared = 255 ∷ [];
  part = 255 ∷ [];
  longer = 255 ∷ [];
  unlisted = replicate 9 9;
  listed = grid_starts ++ (9 ∷ []);
  header = header_made grid (ok (header_of grid)) (sym parts.header);
  prepare = prepare-made grid (header_of grid) false example.kept (ok (mask.Spare 1)) (0 ∷ []) (255 ∷ []) (record { says = rw (prepared); spare = rw (prepared) });
  handed = handed-made example.kept (255 ∷ []) (ok (mask.Spare 1));
  ranges = opened.ranges;
  begins = refl;
  walk = walk-made grid (header_of grid) example.ranges (255 ∷ []) (ok (record { blocks = 8; end = 91 })) (replicate 9 9) (grid_starts ++ (9 ∷ [])) (record { says = rw (walked (replicate 9 9) (omega arith)); list = rw (walked (replicate 9 9) (omega arith)) });
  mask = opened.mask;
  list = refl;
  room = opened.room;
}

pub by-whole-read : ByRead in_hand
unfolding bytes_of published little strips header_of
by-whole-read = record {
  old = before;
  new = published meant before;
  read = read_made grid false (ok (record { header = example.header; blocks = 8; end = 91 })) before (published meant before) (record { says = rw (read); lent = rw (read) });
  kept = refl;
  some = omega arith;
  ranges = opened.ranges;
  mask = refl;
  list = refl;
  room = opened.room;
}
