use Rattle.std.proofs.Common.{◌≡◌, length, sym, refl, ◌∙◌, arith}
use Rattle.lerc_words.specs.Lists.{all_to}
use Rattle.lerc_words.proofs.Tables.{all_more, all-fails}
use Rattle.lerc_byte_image.specs.TableParts.{clear}
use Rattle.lerc_byte_image.proofs.table.is_prefix_free.Goals as goal

pub loop-k-init : goal.loop-k-init
unfolding all_to
loop-k-init c = refl

pub is_clear-requires : goal.is_clear-requires
is_clear-requires c = (c.requires, c.loop-k-test.true)

pub returns-then-not-is_clear : goal.returns-then-not-is_clear
returns-then-not-is_clear c =
    let a = c.args in
    let p = clear a.lengths.now a.codes.now in
    sym (all-fails (length a.lengths.now) c.loop-k.k p c.loop-k-test.true (sym c.is_clear.ensures ∙ c.if-not-is_clear.true))

pub loop-k-preserved : goal.loop-k-preserved
loop-k-preserved c =
    let a = c.args in
    let p = clear a.lengths.now a.codes.now in
    all_more c.loop-k.k p c.loop-k.invariant (sym c.is_clear.ensures ∙ c.if-not-is_clear.false)

pub returns : goal.returns
returns c =
    let e : c.loop-k.k ≡ length c.args.lengths.now = omega arith in
    sym (rw (e) at c.loop-k.invariant)
