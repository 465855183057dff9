use Rattle.std.proofs.Common.{sym, ◌∙◌, arith}
use Rattle.lerc_byte_image.specs.Parts.{table_by}
use Rattle.lerc_byte_image.proofs.Seeking.{none_more, seek_is, seek-none}
use Rattle.lerc_byte_image.proofs.symbols.seek.Goals as goal
use Rattle.lerc_byte_image.proofs.symbols.seek.Goals.{In-loop-k}

pub take_bits-w-requires : goal.take_bits-w-requires
take_bits-w-requires c = let h = c.requires in (h.inside, h.short, omega (arith, h.at, h.short), omega arith)

pub overflow_sub-there : goal.overflow_sub-there
overflow_sub-there c = c.requires.inside

pub overflow_mul-there : goal.overflow_mul-there
overflow_mul-there c = let h = c.requires in record { fits = omega (arith, h.short) }

pub overflow_sub-there-2 : goal.overflow_sub-there-2
overflow_sub-there-2 c = c.requires.at

pub loop-k-init : goal.loop-k-init
loop-k-init c = record { each = λ i l. absurd (omega arith) }

pub offset_bounds-lengths-k : goal.offset_bounds-lengths-k
offset_bounds-lengths-k c =
    let h = c.requires in
    record { fits = omega (arith, h.kept.few, c.loop-k-test.true) }

pub bounds-lengths-k : goal.bounds-lengths-k
bounds-lengths-k c =
    let h = c.requires in
    omega (arith, h.kept.lengths, c.loop-k-test.true)

pub offset_bounds-codes-k : goal.offset_bounds-codes-k
offset_bounds-codes-k c = offset_bounds-lengths-k (goal.at.offset_bounds-codes-k c).In-loop-k

pub bounds-codes-k : goal.bounds-codes-k
bounds-codes-k c =
    let h = c.requires in
    omega (arith, h.kept.codes, c.loop-k-test.true)

pub is_begun-requires : goal.is_begun-requires
is_begun-requires c =
    let h = c.requires in
    h.kept.narrow c.loop-k.k

pub returns-then-is_begun : goal.returns-then-is_begun
returns-then-is_begun c =
    let a = c.args in
    seek_is a.s.now (table_by a.range a.start a.lengths.now a.codes.now) a.p c.requires.kept c.take_bits-w.ensures
    c.loop-k.k c.loop-k-test.true c.loop-k.invariant (sym c.is_begun.ensures ∙ c.if-is_begun.true)

pub loop-k-preserved : goal.loop-k-preserved
loop-k-preserved c =
    none_more c.loop-k.invariant (sym c.is_begun.ensures ∙ c.if-is_begun.false)

pub returns : goal.returns
returns c =
    let a = c.args in
    seek-none a.s.now (table_by a.range a.start a.lengths.now a.codes.now) a.p c.requires.kept c.take_bits-w.ensures
    c.loop-k.k c.loop-k-test.false c.loop-k.invariant
