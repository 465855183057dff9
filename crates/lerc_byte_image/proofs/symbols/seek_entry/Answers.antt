use Rattle.std.proofs.Common.{◌<◌, sym, mod-lt, arith}
use Rattle.lerc_byte_image.specs.Table.{symbol_of}
use Rattle.lerc_byte_image.specs.Parts.{table_by}
use Rattle.lerc_byte_image.proofs.Entries.{found_none, found_lt, found_part, found-whole}
use Rattle.lerc_byte_image.proofs.symbols.seek_entry.Goals as goal
use Rattle.lerc_byte_image.proofs.symbols.seek_entry.Goals.{Else-k-range}

pub returns-then-k-range : goal.returns-then-k-range
returns-then-k-range c =
    let a = c.args in
    sym (found_none a.s.now (table_by a.range a.start a.lengths.now a.codes.now) a.p c.seek_near-k.ensures c.if-k-range.true)

-- a code was found
at : (c : Else-k-range) → c.seek_near-k.result < c.args.range.count
at c =
    let a = c.args in
    found_lt a.s.now (table_by a.range a.start a.lengths.now a.codes.now) a.p c.seek_near-k.ensures c.if-k-range.false

pub offset_bounds-lengths-k : goal.offset_bounds-lengths-k
offset_bounds-lengths-k c = record { fits = omega (arith, at c, c.requires.kept.few) }

pub bounds-lengths-k : goal.bounds-lengths-k
bounds-lengths-k c = omega (arith, at (goal.at.bounds-lengths-k c).Else-k-range, c.requires.kept.lengths)

pub overflow_cast-len : goal.overflow_cast-len
overflow_cast-len c =
    let h = c.requires in
    record { fits = omega (arith, h.kept.narrow c.seek_near-k.result) }

pub returns-then-there-len : goal.returns-then-there-len
returns-then-there-len c =
    let a = c.args in
    sym (found_part a.s.now (table_by a.range a.start a.lengths.now a.codes.now) a.p c.requires.kept c.seek_near-k.ensures c.if-k-range.false c.if-there-len.true)

pub overflow_add-result : goal.overflow_add-result
overflow_add-result c =
    let e = (goal.at.overflow_add-result c).Else-k-range in
    let h = c.requires in
    record { fits = omega (arith, at e, h.kept.few, h.kept.early, h.kept.bytes) }

pub overflow_add-result-2 : goal.overflow_add-result-2
overflow_add-result-2 c =
    let h = c.requires.kept in
    let k = c.seek_near-k.result in
    let small : symbol_of c.args.range k < c.args.range.size = mod-lt _ h.some in
    record { fits = omega (arith, h.narrow k, h.bytes) }

pub returns : goal.returns
returns c =
    let a = c.args in
    sym (found-whole a.s.now (table_by a.range a.start a.lengths.now a.codes.now) a.p c.requires.kept c.seek_near-k.ensures c.if-k-range.false c.requires.at c.if-there-len.false)
