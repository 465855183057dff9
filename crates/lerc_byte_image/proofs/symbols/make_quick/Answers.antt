use Rattle.std.proofs.Common.{◌<◌, sym, ◌∙◌, mod-lt, arith}
use Rattle.lerc_byte_image.specs.Table.{symbol_of}
use Rattle.lerc_byte_image.specs.Parts.{table_by}
use Rattle.lerc_byte_image.proofs.FirstBits.{quick-more}
use Rattle.lerc_byte_image.proofs.symbols.make_quick.Goals as goal

pub loop-k-init : goal.loop-k-init
loop-k-init c = c.requires.1

pub overflow_add-symbol : goal.overflow_add-symbol
overflow_add-symbol c =
    let h = c.requires.0 in
    record { fits = omega (arith, c.loop-k-test.true, h.few, h.early, h.bytes) }

pub nonzero_rem-symbol : goal.nonzero_rem-symbol
nonzero_rem-symbol c = c.requires.0.some

pub offset_bounds-lengths-k : goal.offset_bounds-lengths-k
offset_bounds-lengths-k c =
    let h = c.requires.0 in
    record { fits = omega (arith, c.loop-k-test.true, h.few) }

pub bounds-lengths-k : goal.bounds-lengths-k
bounds-lengths-k c =
    let h = c.requires.0 in
    omega (arith, c.loop-k-test.true, h.lengths)

pub overflow_cast-lengths : goal.overflow_cast-lengths
overflow_cast-lengths c =
    let h = c.requires.0 in
    record { fits = omega (arith, h.narrow c.loop-k.k) }

pub offset_bounds-codes-k : goal.offset_bounds-codes-k
offset_bounds-codes-k c =
    let h = c.requires.0 in
    record { fits = omega (arith, c.loop-k-test.true, h.few) }

pub bounds-codes-k : goal.bounds-codes-k
bounds-codes-k c =
    let h = c.requires.0 in
    omega (arith, c.loop-k-test.true, h.codes)

pub overflow_cast-codes : goal.overflow_cast-codes
overflow_cast-codes c = record { fits = omega (arith, c.type_inv.codes c.loop-k.k) }

pub put_code-requires : goal.put_code-requires
put_code-requires c =
    let h = c.requires.0 in
    let k = c.loop-k.k in
    let small : symbol_of c.args.range k < c.args.range.size = mod-lt _ h.some in
    (h.narrow k, h.low k, omega (arith, h.bytes), omega (arith, c.loop-k-test.true, h.few), c.loop-k.invariant.wide)

pub loop-k-preserved : goal.loop-k-preserved
loop-k-preserved c =
    let a = c.args in
    quick-more (table_by a.range a.start a.lengths.now a.codes.now) c.loop-k-test.true c.loop-k.invariant c.put_code.ensures

pub shape_of-quick : goal.shape_of-quick
shape_of-quick c = c.loop-k.invariant.wide ∙ sym c.requires.1.wide

pub returns : goal.returns
returns c = c.loop-k.invariant
