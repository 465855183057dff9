use mathlib.Core.Path.{◌∙◌, sym, refl}
use native.Mathlib.Omega.{arith}
use Rattle.lerc_words.proofs.Little.{Bytes, Stands, word_at-is, word_at-fails, read_ok, read-cut, little-lt}
use Rattle.lerc_mask.proofs.Steps.{step-told, step-short, step_end, step-copy, step-repeat}
use Rattle.lerc_mask.proofs.read_step.Goals as goal
use Rattle.lerc_mask.proofs.read_step.Goals.{After-word, In-Ok}

bytes : (c : After-word) → Bytes c.args.s.now
bytes c i = omega (arith, c.type_inv.s i)

-- the two bytes that were read
stands : (c : In-Ok) → Stands 2 c.args.s.now c.args.at c.in-Ok.n
stands c =
    let a = c.args in
    word_at-is 2 a.s.now a.at c.in-Ok.n (read_ok a.s.now a.at 2 (omega arith) c.in-Ok.ensures refl)

pub returns-in_default : goal.returns-in_default
returns-in_default c =
    let a = c.args in
    let s = a.s.now in
    let e = read-cut s a.at 2 (omega arith) c.in_default.ensures refl in
    step-told s a.at a.left (bytes (goal.at.returns-in_default c).After-word) (sym (step-short s a.at a.left (word_at-fails 2 s a.at e)))

pub overflow_add-at : goal.overflow_add-at
overflow_add-at c = omega (arith, (stands (goal.at.overflow_add-at c).In-Ok).inside)

pub returns-then-n-eq32768 : goal.returns-then-n-eq32768
returns-then-n-eq32768 c =
    let a = c.args in
    step-told a.s.now a.at a.left (bytes (goal.at.returns-then-n-eq32768 c).After-word) (c.end_at.ensures ∙ sym (step_end a.s.now a.at a.left _ (stands (goal.at.returns-then-n-eq32768 c).In-Ok) c.if-n-eq32768.true))

pub overflow_add-at-then-n-lt32768 : goal.overflow_add-at-then-n-lt32768
overflow_add-at-then-n-lt32768 c = omega (arith, (stands (goal.at.overflow_add-at-then-n-lt32768 c).In-Ok).inside)

pub copy_at-requires : goal.copy_at-requires
copy_at-requires c = ((stands (goal.at.copy_at-requires c).In-Ok).inside, omega arith)

pub returns-then-n-lt32768 : goal.returns-then-n-lt32768
returns-then-n-lt32768 c =
    let a = c.args in
    step-told a.s.now a.at a.left (bytes (goal.at.returns-then-n-lt32768 c).After-word) (c.copy_at.ensures ∙ sym (step-copy a.s.now a.at a.left _ (stands (goal.at.returns-then-n-lt32768 c).In-Ok) c.if-n-lt32768.true))

pub overflow_add-at-2 : goal.overflow_add-at-2
overflow_add-at-2 c = omega (arith, (stands (goal.at.overflow_add-at-2 c).In-Ok).inside)

pub overflow_sub-n : goal.overflow_sub-n
overflow_sub-n c =
    let a = c.args in
    omega (arith, (stands (goal.at.overflow_sub-n c).In-Ok).value, little-lt 2 a.s.now a.at (bytes (goal.at.overflow_sub-n c).After-word))

pub returns : goal.returns
returns c =
    let a = c.args in
    step-told a.s.now a.at a.left (bytes (goal.at.returns c).After-word) (c.repeat_at.ensures ∙ sym (step-repeat a.s.now a.at a.left _ (stands (goal.at.returns c).In-Ok) c.if-n-eq32768.false c.if-n-lt32768.false))
