use Rattle.std.proofs.Common.{get_or, ap, ◌∙◌, arith}
use Rattle.lerc_words.proofs.Filling.{filling-none, filling-length, filling-more, filling-done}
use Rattle.lerc_words.proofs.Counts.{total-zero, total-more}
use Rattle.lerc_byte_image.specs.Table.{bits_at}
use Rattle.lerc_byte_image.proofs.BitLaws.{bits_fit}
use Rattle.lerc_byte_image.proofs.Codes.{short-each, bits-le}
use Rattle.lerc_byte_image.proofs.table.read_codes.Goals as goal

pub loop-k-init : goal.loop-k-init
loop-k-init c =
    (total-zero (λ i. get_or c.args.lengths.now i 0), filling-none _ _ c.args.codes.now c.requires.room)

pub overflow_cast-len : goal.overflow_cast-len
overflow_cast-len c =
    omega (arith, short-each c.args.lengths.now c.requires.narrow c.loop-k.k)

pub take_bits-requires : goal.take_bits-requires
take_bits-requires c =
    let vs = c.args.lengths.now in
    let h = c.loop-k.invariant.1.few in
    (c.requires.inside, c.requires.short, omega (arith, c.loop-k.invariant.0, c.requires.few, bits-le vs c.requires.narrow c.loop-k.k), short-each vs c.requires.narrow c.loop-k.k)

pub overflow_cast-codes : goal.overflow_cast-codes
overflow_cast-codes c =
    let h = short-each c.args.lengths.now c.requires.narrow c.loop-k.k in
    omega (arith, c.take_bits.ensures, bits_fit c.args.s.now c.args.at c.loop-k.p (get_or c.args.lengths.now c.loop-k.k 0) h)

pub bounds-codes-k : goal.bounds-codes-k
bounds-codes-k c =
    omega (arith, filling-length c.loop-k.invariant.1, c.loop-k.invariant.1.room)

pub overflow_add-p : goal.overflow_add-p
overflow_add-p c =
    let vs = c.args.lengths.now in
    omega (arith, c.loop-k.invariant.0, c.requires.few, bits-le vs c.requires.narrow c.loop-k.k, short-each vs c.requires.narrow c.loop-k.k)

pub loop-k-preserved : goal.loop-k-preserved
loop-k-preserved c =
    let a = c.args in
    let i = c.loop-k.invariant in
    let e = c.take_bits.ensures ∙ ap (λ p. bits_at a.s.now a.at p (get_or a.lengths.now c.loop-k.k 0)) i.0 in
    (rw i.0 (total-more c.loop-k.k (λ j. get_or a.lengths.now j 0)), filling-more i.1 _ c.loop-k-test.true e)

pub shape_of-codes : goal.shape_of-codes
shape_of-codes c = filling-length c.loop-k.invariant.1

pub returns : goal.returns
returns c = filling-done c.loop-k.invariant.1 c.loop-k-test.false
