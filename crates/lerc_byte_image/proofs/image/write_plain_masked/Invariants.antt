use Rattle.std.proofs.Common.{◌≡◌, ◌*◌, ◌≤◌, false}
use Rattle.lerc_mask.specs.Mask.{valid_below}
use Rattle.lerc_image.specs.Paint.{painted}
use Rattle.lerc_image.specs.Cells.{valid_upto}
use Rattle.lerc_byte_image.specs.Prediction.{byte_word}
use Rattle.lerc_byte_image.specs.Image.{spot, symbol_no}
use Rattle.lerc_byte_image.specs.Parts.{table_by}
use Rattle.lerc_byte_image.proofs.image.write_plain_masked.Given as goal

abbrev pub invariant-loop-q : goal.invariant-loop-q
invariant-loop-q l =
    (l.q ≤ l.h.rows * l.h.columns) × (l.base ≡ l.q * l.h.depth) × (l.p ≡ spot l.s (table_by l.by.range l.by.start l.lengths l.codes) 0 (valid_below l.q l.mask * l.h.depth))
    × (l.image ≡ painted l.initial.image (valid_upto l.h l.mask (l.q * l.h.depth)) (byte_word l.h l.by.kind false l.mask (symbol_no l.s (table_by l.by.range l.by.start l.lengths l.codes) 0)))
