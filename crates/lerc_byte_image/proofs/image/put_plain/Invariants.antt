use Rattle.std.proofs.Common.{◌≡◌, ◌≤◌}
use Rattle.lerc_image.specs.Paint.{painted}
use Rattle.lerc_image.specs.Cells.{within}
use Rattle.lerc_byte_image.specs.Image.{spot}
use Rattle.lerc_byte_image.specs.Parts.{table_by}
use Rattle.lerc_byte_image.specs.ImageParts.{plain_run}
use Rattle.lerc_byte_image.proofs.image.put_plain.Given as goal

abbrev pub invariant-loop-k : goal.invariant-loop-k
invariant-loop-k l = (l.k ≤ l.n) × (l.q ≡ spot l.s (table_by l.by.range l.by.start l.lengths l.codes) l.p l.k) × (l.image ≡ painted l.initial.image (within l.base l.k) (plain_run l.s (table_by l.by.range l.by.start l.lengths l.codes) l.by.kind l.p l.base))
