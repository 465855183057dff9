use Prim.Native.Nat.{◌+◌, ◌*◌, ◌-◌}
use mathlib.Core.Path.{◌≡◌, ◌∙◌, sym}
use native.Mathlib.Omega.{arith}
use Rattle.lerc_mask.specs.Mask.{valid_from}
use Rattle.lerc_mask.proofs.Pixels.{valid-beyond}
use Rattle.lerc_mask.proofs.Cut.{valid-first, valid-two}
use Rattle.lerc_mask.proofs.count_two.Goals as goal
use Rattle.lerc_mask.proofs.count_two.Goals.{After-ones_cut-2, After-ones_cut-first}

pub returns-then-mask-k : goal.returns-then-mask-k
returns-then-mask-k c = let a = c.args in sym (valid-beyond (8 * a.k) a.n a.mask.now (omega arith))

pub returns-then-n-le8 : goal.returns-then-n-le8
returns-then-n-le8 c =
    let a = c.args in
    c.ones_cut.ensures.0 ∙ sym (valid-first a.mask.now a.k a.n (omega arith))

-- the first byte, and the pixels behind it
both : (c : After-ones_cut-first) →
    let a = c.args in
    c.ones_cut-first.result + valid_from (8 * (a.k + 1)) (a.n - 8) a.mask.now ≡ valid_from (8 * a.k) a.n a.mask.now
both c =
    let a = c.args in
    rw c.ones_cut-first.ensures.0 (sym (valid-two a.mask.now a.k a.n (omega arith)))

pub returns-then-mask-next : goal.returns-then-mask-next
returns-then-mask-next c =
    let a = c.args in
    let none = valid-beyond (8 * (a.k + 1)) (a.n - 8) a.mask.now (omega arith) in
    omega (arith, rw (none) at (both (goal.at.returns-then-mask-next c).After-ones_cut-first))

pub overflow_add-result : goal.overflow_add-result
overflow_add-result c = omega (arith, c.ones_cut-2.ensures.1, c.ones_cut-first.ensures.1)

-- the pixels of the second byte
second : (c : After-ones_cut-2) →
    let a = c.args in
    c.ones_cut-2.result ≡ valid_from (8 * (a.k + 1)) (a.n - 8) a.mask.now
second c =
    let a = c.args in
    c.ones_cut-2.ensures.0 ∙ sym (valid-first a.mask.now (a.k + 1) (a.n - 8) (omega (arith, c.requires.0)))

pub returns : goal.returns
returns c = rw (second c) (both (goal.at.returns c).After-ones_cut-first)
