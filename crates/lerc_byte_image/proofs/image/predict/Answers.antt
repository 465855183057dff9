use Rattle.std.proofs.Common.{◌≡◌, ◌%◌, ◌<◌, false, ltb, sym, ◌∙◌, arith, le-ltb, lt-ltb, le-leb}
use mathlib.Core.Bool.{and-false}
use native.Mathlib.Nat.{mod-le}
use borrow.Author.Tests.{lt-leb}
use Rattle.lerc_byte_image.specs.Prediction.{left_valid}
use Rattle.lerc_byte_image.proofs.image.predict.Goals as goal
use Rattle.lerc_byte_image.proofs.image.predict.Goals.{then-x-gt0+else-is_valid, else-x-gt0}

pub overflow_sub-i : goal.overflow_sub-i
overflow_sub-i c = omega (arith, c.requires.0, mod-le c.args.i c.args.columns)

pub returns-then-is_valid : goal.returns-then-is_valid
returns-then-is_valid c =
    let a = c.args in
    let l : 0 < a.i % a.columns = omega (arith, c.requires.0, c.if-x-gt0.true) in
    rw (lt-ltb 0 (a.i % a.columns) l, sym c.is_valid.ensures ∙ c.if-is_valid.true)

pub overflow_mul-result : goal.overflow_mul-result
overflow_mul-result c =
    let l = c.requires.2 c.if-columns-i.true in
    omega (arith, c.requires.1)

pub overflow_sub-result : goal.overflow_sub-result
overflow_sub-result c = c.requires.2 c.if-columns-i.true

pub offset_bounds-image-cell : goal.offset_bounds-image-cell
offset_bounds-image-cell c = omega (arith, c.requires.1, c.well_formed)

pub bounds-image-cell : goal.bounds-image-cell
bounds-image-cell c = omega (arith, c.requires.1)

pub returns-then-is_valid-2 : goal.returns-then-is_valid-2
returns-then-is_valid-2 c =
    let a = c.args in
    let m = a.mask.now in
    let off : left_valid a.columns m a.i ≡ false = elim c.if-x-gt0.branch [
      | then-x-gt0+else-is_valid w ↦ rw (sym w.is_valid.ensures ∙ w.if-is_valid.false) (and-false (ltb 0 (a.i % a.columns)))
      | else-x-gt0 w ↦ rw (le-ltb 0 (a.i % a.columns) (omega (arith, c.requires.0, w.if-x-gt0.false)))
    ] in
    rw (off, le-leb a.columns a.i c.if-columns-i.true, sym c.is_valid-then-columns-i.ensures ∙ c.if-is_valid-2.true)

pub returns-else-is_valid-2 : goal.returns-else-is_valid-2
returns-else-is_valid-2 c =
    let a = c.args in
    let m = a.mask.now in
    let off : left_valid a.columns m a.i ≡ false = elim c.if-x-gt0.branch [
      | then-x-gt0+else-is_valid w ↦ rw (sym w.is_valid.ensures ∙ w.if-is_valid.false) (and-false (ltb 0 (a.i % a.columns)))
      | else-x-gt0 w ↦ rw (le-ltb 0 (a.i % a.columns) (omega (arith, c.requires.0, w.if-x-gt0.false)))
    ] in
    rw (off, le-leb a.columns a.i c.if-columns-i.true, sym c.is_valid-then-columns-i.ensures ∙ c.if-is_valid-2.false)

pub returns-else-columns-i : goal.returns-else-columns-i
returns-else-columns-i c =
    let a = c.args in
    let m = a.mask.now in
    let off : left_valid a.columns m a.i ≡ false = elim c.if-x-gt0.branch [
      | then-x-gt0+else-is_valid w ↦ rw (sym w.is_valid.ensures ∙ w.if-is_valid.false) (and-false (ltb 0 (a.i % a.columns)))
      | else-x-gt0 w ↦ rw (le-ltb 0 (a.i % a.columns) (omega (arith, c.requires.0, w.if-x-gt0.false)))
    ] in
    rw (off, lt-leb a.columns a.i (omega (arith, c.if-columns-i.false)))
