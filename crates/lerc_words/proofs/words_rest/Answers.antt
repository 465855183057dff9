use Prim.Native.Nat.{ℕ, ◌+◌, ◌*◌, min}
use mathlib.Core.Path.{◌≡◌, ◌∙◌, ap}
use native.Mathlib.Omega.{arith}
use native.Mathlib.Nat.{suc-mul, zero-mul}
use native.Mathlib.Numerals.{add-one}
use lib.ListN.{length}
use Rattle.lerc_words.specs.Res.{little}
use Rattle.lerc_words.proofs.Little.{little-end}
use Rattle.lerc_words.proofs.Filling.{filling-none, filling-more, filling-whole}
use Rattle.lerc_words.proofs.words_rest.Goals as goal

pub loop-word-init : goal.loop-word-init
loop-word-init c =
    let a = c.args in
    (rw (zero-mul a.size) (omega (arith, c.min-place.ensures)), filling-none _ _ a.out.now (omega arith))

pub loop-word-preserved : goal.loop-word-preserved
loop-word-preserved c =
    let a = c.args in
    let i = c.loop-word.invariant in
    let k = c.loop-word.word-index in
    let place : c.loop-word.place ≡ min (a.at + k * a.size) (length a.s.now) = i.0 in
    let word = c.bytes.ensures ∙ ap (λ (p : ℕ). little (min a.size 8) a.s.now p) place ∙ little-end (min a.size 8) a.s.now (a.at + k * a.size) in
    (rw (add-one) (omega (arith, c.onward-place.ensures, suc-mul k a.size)), filling-more i.1 _ c.loop-word-test.true word)

pub returns : goal.returns
returns c = filling-whole c.loop-word.invariant.1 c.loop-word-test.false
