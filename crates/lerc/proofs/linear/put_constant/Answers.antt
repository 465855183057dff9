use mathlib.Core.Path.{◌≡◌, ◌∙◌, sym, ap}
use mathlib.Core.List.{List, ◌++◌}
use Prim.Native.Nat.{ℕ, ◌-◌, ◌+◌}
use native.Mathlib.Omega.{arith}
use lib.ListN.{length, get_or, take, drop, length-take}
use lib.Seq.{take-take}
use Rattle.lerc_slices.proofs.Parts.{part-copied}
use Rattle.lerc_image.proofs.Pixels.{cell-put, cells-pasted}
use Rattle.lerc.proofs.linear.put_constant.Goals as goal

pub slice_bounds-copy-end : goal.slice_bounds-copy-end
slice_bounds-copy-end c =
    let a = c.args in
    let l : length (take a.depth a.words.now) ≡ a.depth = simp length-take (omega arith) in
    sym l

pub returns-then-depth-eq1 : goal.returns-then-depth-eq1
returns-then-depth-eq1 c =
    let a = c.args in
    let w : ℕ → ℕ = λ i. get_or a.words.now (i - a.base) 0 in
    let z : a.base - a.base ≡ 0 = omega arith in
    rw c.if-depth-eq1.true (rw (z) at (cell-put a.image.now w a.base (omega arith)))

pub returns-else-depth-eq1 : goal.returns-else-depth-eq1
returns-else-depth-eq1 c =
    let a = c.args in
    let im = a.image.now in
    let words = a.words.now in
    let l : length (take a.depth words) ≡ a.depth = simp length-take (omega arith) in
    let front : take a.depth (take a.depth words) ≡ take a.depth words = take-take a.depth a.depth words (omega arith) in
    rw c.copy.ensures
    (part-copied im (take a.depth words) a.base a.depth (omega arith) l
    ∙ ap (λ (x : List ℕ). take a.base im ++ x ++ drop (a.base + a.depth) im) front
    ∙ cells-pasted im words a.base a.depth (omega arith) (omega arith))
