use Rattle.std.proofs.Common.{◌≡◌, ◌*◌, ◌≤◌, true}
use Rattle.lerc_mask.specs.Mask.{valid_below}
use Rattle.lerc_image.specs.Paint.{painted}
use Rattle.lerc_byte_image.specs.Prediction.{byte_word}
use Rattle.lerc_byte_image.specs.Image.{spot, symbol_no}
use Rattle.lerc_byte_image.specs.Parts.{table_by}
use Rattle.lerc_byte_image.specs.ImageParts.{planes}
use Rattle.lerc_byte_image.proofs.image.write_delta.Given as goal

abbrev pub invariant-loop-d : goal.invariant-loop-d
invariant-loop-d l =
    (l.d ≤ l.h.depth) × (l.p ≡ spot l.s (table_by l.by.range l.by.start l.lengths l.codes) 0 (l.d * valid_below (l.h.rows * l.h.columns) l.mask))
    × (l.image ≡ painted l.initial.image (planes l.h l.mask l.d) (byte_word l.h l.by.kind true l.mask (symbol_no l.s (table_by l.by.range l.by.start l.lengths l.codes) 0)))
