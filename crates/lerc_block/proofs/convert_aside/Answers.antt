use Prim.Native.Nat.{ℕ}
use mathlib.Core.Path.{◌∙◌, ap, refl}
use Rattle.lerc_words.proofs.Marking.{exits}
use mathlib.Core.List.{List, ◌++◌}
use native.Mathlib.Omega.{arith}
use lib.ListN.{length, drop, length-take}
use Rattle.lerc_slices.proofs.Parts.{front-copied}
use Rattle.lerc_block.specs.Plan.{ended}
use Rattle.lerc_block.specs.Steps.{step_word}
use Rattle.lerc_block.proofs.Returns.{refused, given}
use Rattle.lerc_block.proofs.StepWords.{converted-fails, converted-is, put-long, put_front}
use Rattle.lerc_block.proofs.convert_aside.Goals as goal

pub returns-in_err-convert : goal.returns-in_err-convert
returns-in_err-convert c =
    refused (exits _ c.from_residual.ensures.1) (ap (ended c.args.next) (converted-fails c.in_err-convert.ensures refl))

pub slice_bounds-copy-end-3 : goal.slice_bounds-copy-end-3
slice_bounds-copy-end-3 c = simp length-take (omega arith)

pub returns : goal.returns
returns c =
    let a = c.args in
    let n = length a.counts.now in
    let f = step_word a.kind a.error a.top a.offset in
    let w = converted-is c.in_ok-convert.ensures refl in
    given w.words n (ap (ended a.next) w.is) (put-long f a.counts.now w)
    (front-copied _ n a.words.now (omega (arith, c.requires.0, c.requires.1)) (omega (arith, c.requires.0, c.requires.1)) c.copy.ensures
    ∙ ap (λ (l : List ℕ). l ++ drop n a.words.now) (put_front f a.counts.now w))
