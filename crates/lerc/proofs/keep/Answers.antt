use Rattle.lerc.proofs.MaskKept.{keep-new, keep-old}
use native.Mathlib.Omega.{arith}
use lib.ListN.{length-take}
use mathlib.Core.Path.{◌∙◌, ap}
use Rattle.lerc_words.specs.Res.{ok}
use Rattle.lerc.proofs.keep.Goals as goal

pub slice_bounds-copy-end : goal.slice_bounds-copy-end
slice_bounds-copy-end c = simp length-take (omega (arith, (c.requires _ (ap ok c.in-Spare.is)).1))

pub returns-in-Spare : goal.returns-in-Spare
returns-in-Spare c =
    let e = ap ok c.in-Spare.is in
    c.copy.ensures ∙ keep-new c.args.kept.now c.args.spare.now _ e (c.requires _ e)

pub returns-in-Kept : goal.returns-in-Kept
returns-in-Kept c =
    keep-old c.args.kept.now c.args.spare.now _ (ap ok c.in-Kept.is)
