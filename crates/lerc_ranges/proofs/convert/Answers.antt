use Rattle.lerc_words.proofs.Marking.{exits}
use Prim.Native.Nat.{◌<◌}
use lib.Seq.{get_or-take}
use Rattle.lerc_words.specs.Res.{ok, fail}
use Prim.Native.Nat.{◌≤◌}
use mathlib.Core.Path.{◌≡◌, ◌∙◌, sym}
use lib.ListN.{length, get_or, take, replicate, length-take, length-replicate}
use native.Mathlib.Omega.{arith}
use Rattle.lerc_words.proofs.Each.{staged-none, staged-more, staged-fails, staged_done}
use Rattle.lerc_samples.specs.Samples.{stored}
use Rattle.lerc_header.specs.Limits.{depth_limit}
use Rattle.lerc_ranges.specs.Ranges.{constant_words}
use Rattle.lerc_ranges.proofs.convert.Goals as goal

pub loop-i-init : goal.loop-i-init
loop-i-init c =
    let a = c.args in
    staged-none (stored a.kind) (take a.depth a.values) (replicate depth_limit 0) (simp (length-take, length-replicate) (omega (arith, c.well_formed)))

pub bounds-values-i : goal.bounds-values-i
bounds-values-i c = omega (arith, c.within-n.ensures)

pub returns-in_err-words : goal.returns-in_err-words
unfolding constant_words
returns-in_err-words c =
    let a = c.args in
    let xs = take a.depth a.values in
    let i = c.loop-i.i in
    let k : i < a.depth = omega (arith, c.within-n.ensures) in
    let h : i < length xs = simp (length-take) (omega (arith, c.well_formed, c.within-n.ensures)) in
    let e : stored a.kind (get_or xs i 0) ≡ fail c.in_err-words.field-0.0 = rw (get_or-take) (sym c.in_err-words.ensures) in
    exits _ c.from_residual.ensures.1 ∙ rw (staged-fails (stored a.kind) xs i (replicate depth_limit 0) c.loop-i.words c.loop-i.invariant h e)

pub bounds-words-i : goal.bounds-words-i
bounds-words-i c = omega (arith, c.within-n.ensures)

pub loop-i-preserved : goal.loop-i-preserved
loop-i-preserved c =
    let a = c.args in
    let xs = take a.depth a.values in
    let i = c.loop-i.i in
    let k : i < a.depth = omega (arith, c.within-n.ensures) in
    let h : i < length xs = simp (length-take) (omega (arith, c.well_formed, c.within-n.ensures)) in
    let e : stored a.kind (get_or xs i 0) ≡ ok c.in_ok-words.field-0 = rw (get_or-take) (sym c.in_ok-words.ensures) in
    staged-more (stored a.kind) xs i (replicate depth_limit 0) c.loop-i.words c.loop-i.invariant c.in_ok-words.field-0 h e

pub returns : goal.returns
unfolding constant_words
returns c =
    let a = c.args in
    let xs = take a.depth a.values in
    let h : length xs ≤ c.loop-i.i = simp (length-take) (omega (arith, c.well_formed, c.within-n.ensures)) in
    rw (staged_done (stored a.kind) xs c.loop-i.i (replicate depth_limit 0) c.loop-i.words c.loop-i.invariant h, ← c.loop-i.invariant.is)
