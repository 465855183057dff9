-- What the sweep byte announces: 10 for raw words, else the blocks.
-- Assumes nothing.
use mathlib.Core.Path.{◌≡◌}
use mathlib.Core.Bool.{Bool}
use mathlib.Core.List.{List}
use Prim.Native.Nat.{ℕ}
use Rattle.lerc_words.specs.declared.Refusal.{Refusal}
use Rattle.lerc_words.specs.Res.{Res, ok, fail, refuse, placed}
use Rattle.lerc_header.specs.declared.Header.{Header}
use Rattle.lerc_sweep.specs.Sweep.{raw_from, blocks_from, huffman_from, swept}
use Rattle.lerc_image.specs.Blocks.{all_blocks}
use Rattle.lerc_image.specs.Walk.{Walk, way_walked, body_walked}
use Rattle.lerc_image.specs.Parts.{BodyListed}
use Rattle.lerc_image.proofs.Stages.{listed-refused}

module _ (s : List ℕ) (h : Header) (maxima m : List ℕ) (at : ℕ) where
  pub body-raw : {to : ℕ} {list : List ℕ} → swept s h.kind h.error at ≡ ok (raw_from to) → BodyListed h (body_walked s h maxima m at) (fail (placed at (refuse 10))) list list
  unfolding body_walked way_walked
  body-raw e = listed-refused (rw (e))

  pub body-huffman : {delta : Bool} {mode : ℕ} {list : List ℕ} → swept s h.kind h.error at ≡ ok (huffman_from delta mode) → BodyListed h (body_walked s h maxima m at) (fail (placed mode (refuse 10))) list list
  unfolding body_walked way_walked
  body-huffman e = listed-refused (rw (e))

  pub body-no : {why : Refusal} {list : List ℕ} → swept s h.kind h.error at ≡ fail why → BodyListed h (body_walked s h maxima m at) (fail why) list list
  unfolding body_walked
  body-no e = listed-refused (rw (e))

  pub body-blocks : {to : ℕ} {r : Res Walk} {old new : List ℕ} → swept s h.kind h.error at ≡ ok (blocks_from to) → BodyListed h (all_blocks s h maxima m to) r old new
      → BodyListed h (body_walked s h maxima m at) r old new
  unfolding body_walked way_walked
  body-blocks e l = rw (e) l
