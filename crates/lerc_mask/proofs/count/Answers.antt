use Prim.Native.Nat.{ℕ, ◌-◌, ◌+◌, ◌*◌, ◌/◌, ◌%◌}
use mathlib.Core.Path.{◌≡◌, ◌∙◌, sym, ap}
use native.Mathlib.Omega.{arith}
use lib.ListN.{length}
use Rattle.lerc_words.proofs.Little.{Bytes}
use Rattle.lerc_mask.specs.Mask.{valid_below}
use Rattle.lerc_mask.proofs.Tally.{valid-byte, valid-bytes}
use Rattle.lerc_mask.proofs.Pixels.{valid-past}
use Rattle.lerc_mask.proofs.count.Goals as goal

pub returns-then-mask-whole : goal.returns-then-mask-whole
returns-then-mask-whole c =
    let a = c.args in
    let m = a.mask.now in
    let b : Bytes m = λ i. omega (arith, c.type_inv.mask i) in
    let e : a.pixels ≡ 8 * length m + (a.pixels - 8 * length m) = omega arith in
    c.ones_in.ensures.0 ∙ sym (valid-bytes m (length m) b (omega arith)) ∙ sym (valid-past m (8 * length m) (a.pixels - 8 * length m) (omega arith)) ∙ ap (λ (x : ℕ). valid_below x m) (sym e)

pub overflow_add-result : goal.overflow_add-result
overflow_add-result c =
    omega (arith, c.ones_cut.ensures.1, c.ones_in-2.ensures.1)

pub returns : goal.returns
returns c =
    let a = c.args in
    let m = a.mask.now in
    let b : Bytes m = λ i. omega (arith, c.type_inv.mask i) in
    let e : a.pixels ≡ 8 * (a.pixels / 8) + a.pixels % 8 = omega arith in
    rw (c.ones_in-2.ensures.0, c.ones_cut.ensures.0, ← valid-bytes m (a.pixels / 8) b (omega arith)) (sym (valid-byte m (a.pixels / 8) (a.pixels % 8) (omega arith)) ∙ ap (λ (x : ℕ). valid_below x m) (sym e))
