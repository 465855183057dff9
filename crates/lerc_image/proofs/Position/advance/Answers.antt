use Rattle.lerc_image.specs.declared.Tile.{Tile}
use borrow.Author.Tests.{lt-ltb, le-ltb}
use native.Mathlib.Omega.{arith}
use mathlib.Core.Path.{ap}
use Rattle.lerc_image.proofs.Position.advance.Goals as goal

pub returns-then-self-h : goal.returns-then-self-h
returns-then-self-h c = rw (lt-ltb _ c.args.h.depth c.if-self-h.true)

pub overflow_add-self-2 : goal.overflow_add-self-2
overflow_add-self-2 c = omega (arith, ap (λ (t : Tile). t.w) c.current-t.ensures)

pub returns-then-self-t : goal.returns-then-self-t
returns-then-self-t c =
    rw (le-ltb _ _ c.if-self-h.false, c.current-t.ensures, lt-ltb _ _ (rw c.current-t.ensures at c.if-self-t.true))

pub overflow_add-result-2 : goal.overflow_add-result-2
overflow_add-result-2 c = omega (arith, ap (λ (t : Tile). t.h) c.current-t.ensures)

pub returns : goal.returns
returns c =
    rw (le-ltb _ _ c.if-self-h.false, c.current-t.ensures, le-ltb _ _ (rw c.current-t.ensures at c.if-self-t.false))
