use Rattle.std.proofs.Common.{◌-◌, ◌<◌, sym, ◌∙◌, arith}
use Rattle.lerc_byte_image.specs.Parts.{table_by}
use Rattle.lerc_byte_image.proofs.Seeking.{found-one, found_first}
use Rattle.lerc_byte_image.proofs.symbols.seek_near.Goals as goal
use Rattle.lerc_byte_image.proofs.symbols.seek_near.Goals.{In-loop-k, then-hint-range, else-hint-range}

pub take_bits-w-requires : goal.take_bits-w-requires
take_bits-w-requires c = let h = c.requires in (h.inside, h.short, omega (arith, h.at, h.short), omega arith)

pub overflow_sub-there : goal.overflow_sub-there
overflow_sub-there c = c.requires.inside

pub overflow_mul-there : goal.overflow_mul-there
overflow_mul-there c = let h = c.requires in record { fits = omega (arith, h.short) }

pub overflow_sub-there-2 : goal.overflow_sub-there-2
overflow_sub-there-2 c = c.requires.at

pub overflow_add-near : goal.overflow_add-near
overflow_add-near c = let h = c.requires in record { fits = omega (arith, h.kept.few, c.if-hint-range.true) }

pub loop-k-init : goal.loop-k-init
loop-k-init c = elim c.if-hint-range.branch [ then-hint-range w ↦ omega (arith, w.if-hint-range.true, w.near-is) | else-hint-range w ↦ omega (arith, w.near-is) ]

-- a code's place
at : (c : In-loop-k) → c.loop-k.k - 1 < c.args.range.count
at c = omega (arith, c.loop-k.invariant, c.loop-k-test.true)

pub offset_bounds-lengths-k : goal.offset_bounds-lengths-k
offset_bounds-lengths-k c =
    let h = c.requires in
    record { fits = omega (arith, h.kept.few, at (goal.at.offset_bounds-lengths-k c).In-loop-k) }

pub bounds-lengths-k : goal.bounds-lengths-k
bounds-lengths-k c =
    let h = c.requires in
    omega (arith, h.kept.lengths, at (goal.at.bounds-lengths-k c).In-loop-k)

pub offset_bounds-codes-k : goal.offset_bounds-codes-k
offset_bounds-codes-k c =
    let h = c.requires in
    record { fits = omega (arith, h.kept.few, at (goal.at.offset_bounds-codes-k c).In-loop-k) }

pub bounds-codes-k : goal.bounds-codes-k
bounds-codes-k c =
    let h = c.requires in
    omega (arith, h.kept.codes, at (goal.at.bounds-codes-k c).In-loop-k)

pub is_begun-requires : goal.is_begun-requires
is_begun-requires c =
    let h = c.requires in
    h.kept.narrow (c.loop-k.k - 1)

pub returns-then-is_begun : goal.returns-then-is_begun
returns-then-is_begun c =
    let r = (goal.at.returns-then-is_begun c).In-loop-k in
    let a = c.args in
    found-one a.s.now (table_by a.range a.start a.lengths.now a.codes.now) a.p c.requires.kept c.take_bits-w.ensures
    (c.loop-k.k - 1) (at r) (sym c.is_begun.ensures ∙ c.if-is_begun.true)

pub loop-k-preserved : goal.loop-k-preserved
loop-k-preserved c = omega (arith, at (goal.at.loop-k-preserved c).In-loop-k)

pub returns : goal.returns
returns c =
    let a = c.args in
    found_first a.s.now (table_by a.range a.start a.lengths.now a.codes.now) a.p c.seek.ensures
