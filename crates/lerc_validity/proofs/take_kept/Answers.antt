use mathlib.Core.Path.{◌≡◌}
use native.Mathlib.Omega.{arith}
use lib.ListN.{length, take, length-take}
use Rattle.lerc_header.specs.Header.{shape_of}
use Rattle.lerc_header.specs.Shape.{mask_length}
use Rattle.lerc_validity.proofs.Preparing.{refused, reuses, kept-no, kept-count, kept-ok}
use Rattle.lerc_validity.proofs.take_kept.Goals as goal

pub returns-then-not-reuse : goal.returns-then-not-reuse
returns-then-not-reuse c =
    let a = c.args in
    λ spare. refused (kept-no a.h a.reuse a.kept.now c.if-not-reuse.true)

pub returns-then-count-h : goal.returns-then-count-h
returns-then-count-h c =
    let a = c.args in
    let same = rw c.requires.0 at c.count.ensures in
    λ spare. refused (kept-count a.h a.reuse a.kept.now c.if-not-reuse.false (rw (same) at c.if-count-h.true))

pub returns : goal.returns
returns c =
    let a = c.args in
    let same = rw c.requires.0 at c.count.ensures in
    let n : length (take (mask_length (shape_of a.h)) a.kept.now) ≡ a.n = rw (length-take) (omega arith) in
    λ spare. reuses _ _ (kept-ok a.h a.reuse a.kept.now c.if-not-reuse.false (rw (same) at c.if-count-h.false)) n
