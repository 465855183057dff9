use Rattle.std.proofs.Common.{◌≡◌, ◌+◌, ◌-◌, ◌*◌, ◌/◌, ◌≤◌}
use Rattle.lerc_image.specs.Paint.{painted}
use Rattle.lerc_byte_image.specs.Image.{spot, symbol_no}
use Rattle.lerc_byte_image.specs.Parts.{table_by}
use Rattle.lerc_byte_image.specs.ImageParts.{strip, chained}
use Rattle.lerc_byte_image.proofs.image.put_row.Given as goal

abbrev pub invariant-loop : goal.invariant-loop
invariant-loop l =
    (l.counter ≤ l.n) × (l.q ≡ spot l.s (table_by l.by.range l.by.start l.lengths l.codes) l.p l.counter) × (l.cell ≡ (l.i + l.counter) * l.depth + l.d)
    × (l.last ≡ chained l.by.kind (symbol_no l.s (table_by l.by.range l.by.start l.lengths l.codes) l.p) l.first l.counter)
    × (l.image ≡ painted l.initial.image (strip l.depth l.d l.i l.counter) (λ c. chained l.by.kind (symbol_no l.s (table_by l.by.range l.by.start l.lengths l.codes) l.p) l.first (c / l.depth - l.i + 1)))
