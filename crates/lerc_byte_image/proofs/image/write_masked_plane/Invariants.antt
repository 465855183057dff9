use Rattle.std.proofs.Common.{◌≡◌, ◌+◌, ◌*◌, ◌%◌, ◌≤◌}
use Rattle.lerc_mask.specs.Mask.{valid_below}
use Rattle.lerc_image.specs.Paint.{painted}
use Rattle.lerc_byte_image.specs.Image.{spot}
use Rattle.lerc_byte_image.specs.Parts.{table_by}
use Rattle.lerc_byte_image.specs.ImageParts.{plane_upto, plane_word}
use Rattle.lerc_byte_image.proofs.LeftBehind.{left}
use Rattle.lerc_byte_image.proofs.PlaneSteps.{symbol_in}
use Rattle.lerc_byte_image.proofs.image.write_masked_plane.Given as goal

abbrev pub invariant-loop-i : goal.invariant-loop-i
invariant-loop-i l =
    (l.i ≤ l.h.rows * l.h.columns) × (l.x ≡ l.i % l.h.columns) × (l.cell ≡ l.i * l.h.depth + l.d) × (l.q ≡ spot l.s (table_by l.by.range l.by.start l.lengths l.codes) l.p (valid_below l.i l.mask))
    × (l.last ≡ left l.by.kind l.h.columns l.mask (symbol_in l.mask l.s (table_by l.by.range l.by.start l.lengths l.codes) l.p) l.i)
    × (l.image ≡ painted l.initial.image (plane_upto l.h l.mask l.d l.i) (plane_word l.h l.by.kind l.mask l.s (table_by l.by.range l.by.start l.lengths l.codes) l.p))
