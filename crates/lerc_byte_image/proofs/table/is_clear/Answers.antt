use Rattle.std.proofs.Common.{◌≡◌, ℕ, Bool, get_or, sym, refl, ◌∙◌, arith}
use Rattle.lerc_words.specs.Lists.{all_to}
use Rattle.lerc_words.proofs.Tables.{all_more, all-fails}
use Rattle.lerc_byte_image.specs.TableParts.{apart}
use Rattle.lerc_byte_image.proofs.Codes.{short-each}
use Rattle.lerc_byte_image.proofs.table.is_clear.Goals as goal

pub loop-i-init : goal.loop-i-init
unfolding all_to
loop-i-init c = refl

pub are_apart-requires : goal.are_apart-requires
are_apart-requires c =
    let vs = c.args.lengths.now in
    (short-each vs c.requires.0.narrow c.loop-i.i, short-each vs c.requires.0.narrow c.args.k)

pub returns-then-not-are_apart : goal.returns-then-not-are_apart
returns-then-not-are_apart c =
    let a = c.args in
    let vs = a.lengths.now in
    let ws = a.codes.now in
    let p : ℕ → Bool = λ j. apart (get_or vs j 0) (get_or ws j 0) (get_or vs a.k 0) (get_or ws a.k 0) in
    sym (all-fails a.k c.loop-i.i p c.loop-i-test.true (sym c.are_apart.ensures ∙ c.if-not-are_apart.true))

pub loop-i-preserved : goal.loop-i-preserved
loop-i-preserved c =
    let a = c.args in
    let vs = a.lengths.now in
    let ws = a.codes.now in
    let p : ℕ → Bool = λ j. apart (get_or vs j 0) (get_or ws j 0) (get_or vs a.k 0) (get_or ws a.k 0) in
    all_more c.loop-i.i p c.loop-i.invariant (sym c.are_apart.ensures ∙ c.if-not-are_apart.false)

pub returns : goal.returns
returns c =
    let e : c.loop-i.i ≡ c.args.k = omega arith in
    sym (rw (e) at c.loop-i.invariant)
