use Rattle.std.proofs.Common.{◌≡◌, ℕ, ◌*◌, ◌≤◌, List, length}
use Rattle.lerc_header.specs.Shape.{pixels}
use Rattle.lerc_mask.specs.Mask.{valid_below}
use Rattle.lerc_image.specs.Paint.{painted}
use Rattle.lerc_byte_image.specs.Prediction.{prediction, left_behind}
use Rattle.lerc_byte_image.specs.Image.{spot}
use Rattle.lerc_byte_image.specs.Parts.{table_by}
use Rattle.lerc_byte_image.specs.ImageParts.{plane_upto, plane_word}
use Rattle.lerc_byte_image.proofs.PlaneSteps.{symbol_in}
use Rattle.lerc_byte_image.proofs.image.write_full_plane.Given as goal

abbrev pub invariant-loop : goal.invariant-loop
invariant-loop l =
    (l.counter ≤ l.h.rows) × (l.i ≡ l.counter * l.h.columns) × (l.q ≡ spot l.s (table_by l.by.range l.by.start l.lengths l.codes) l.p (l.counter * l.h.columns)) × (length l.image ≡ length l.initial.image)
    × ((m : List ℕ) → valid_below (pixels l.h) m ≡ pixels l.h
    → (l.first ≡ prediction l.h.columns m (left_behind l.by.kind l.h.columns m (symbol_in m l.s (table_by l.by.range l.by.start l.lengths l.codes) l.p) (l.counter * l.h.columns)) (l.counter * l.h.columns))
    × (l.image ≡ painted l.initial.image (plane_upto l.h m l.d (l.counter * l.h.columns)) (plane_word l.h l.by.kind m l.s (table_by l.by.range l.by.start l.lengths l.codes) l.p)))
