use Prim.Native.Nat.{ℕ, ◌+◌, ◌*◌, ◌≤◌, min}
use mathlib.Core.Path.{◌∙◌, ap}
use native.Mathlib.Omega.{arith}
use native.Mathlib.Nat.{suc-mul, zero-mul, add-zero}
use native.Mathlib.Numerals.{add-one}
use lib.ListN.{length}
use Rattle.lerc_words.specs.Res.{little}
use Rattle.lerc_words.proofs.Little.{Bytes, little-masked}
use Rattle.lerc_words.proofs.Filling.{filling-none, filling-more, filling-whole}
use Rattle.lerc_words.proofs.words_inside.Goals as goal
use Rattle.lerc_words.proofs.words_inside.Goals.{In-loop-word}

pub loop-word-init : goal.loop-word-init
loop-word-init c =
    let a = c.args in
    (rw (zero-mul a.size, add-zero), filling-none _ _ a.out.now (omega arith))

-- the turn's word has eight bytes
here : (c : In-loop-word) → let a = c.args in (a.size ≤ 8) × (c.loop-word.place + 8 ≤ length a.s.now)
here c =
    let h = c.requires c.loop-word.word-index c.loop-word-test.true in
    (h.0, rw c.loop-word.invariant.0 h.1)

pub eight-requires : goal.eight-requires
eight-requires c = (here (goal.at.eight-requires c).In-loop-word).1

pub overflow_add-place : goal.overflow_add-place
overflow_add-place c = omega (arith, (here (goal.at.overflow_add-place c).In-loop-word).0, (here (goal.at.overflow_add-place c).In-loop-word).1)

pub loop-word-preserved : goal.loop-word-preserved
loop-word-preserved c =
    let a = c.args in
    let s = a.s.now in
    let n : ℕ = min a.size 8 in
    let i = c.loop-word.invariant in
    let k = c.loop-word.word-index in
    let b : Bytes s = λ j. omega (arith, c.type_inv.s j) in
    let word = little-masked n s (a.at + k * a.size) _ _ b (omega arith) (c.eight.ensures ∙ ap (λ (p : ℕ). little 8 s p) i.0) c.low_bits-low.ensures in
    (rw (i.0, add-one) (omega (arith, suc-mul k a.size)), filling-more i.1 _ c.loop-word-test.true word)

pub returns : goal.returns
returns c = filling-whole c.loop-word.invariant.1 c.loop-word-test.false
