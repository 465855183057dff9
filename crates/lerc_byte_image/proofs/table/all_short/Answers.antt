use Rattle.std.proofs.Common.{◌≡◌, leb, length, get_or, sym, refl, arith, le-leb}
use borrow.Author.Tests.{lt-leb}
use Rattle.lerc_words.specs.Lists.{all_to}
use Rattle.lerc_words.proofs.Tables.{all_more, all-fails}
use Rattle.lerc_byte_image.proofs.table.all_short.Goals as goal

pub loop-len-init : goal.loop-len-init
unfolding all_to
loop-len-init c = refl

pub returns-then-len-gt32 : goal.returns-then-len-gt32
returns-then-len-gt32 c =
    let vs = c.args.lengths.now in
    sym (all-fails (length vs) c.loop-len.len-index (λ i. leb (get_or vs i 0) 32) c.loop-len-test.true (lt-leb _ _ c.if-len-gt32.true))

pub loop-len-preserved : goal.loop-len-preserved
loop-len-preserved c =
    let vs = c.args.lengths.now in
    all_more c.loop-len.len-index (λ i. leb (get_or vs i 0) 32) c.loop-len.invariant (le-leb _ _ c.if-len-gt32.false)

pub returns : goal.returns
returns c =
    let e : c.loop-len.len-index ≡ length c.args.lengths.now = omega arith in
    sym (rw (e) at c.loop-len.invariant)
