use Prim.Native.Nat.{◌+◌, ◌-◌}
use mathlib.Core.Path.{◌≡◌, ◌∙◌}
use native.Mathlib.Omega.{arith}
use lib.ListN.{length, length-take, length-drop}
use Rattle.lerc_pack.specs.Pack.{body_of}
use Rattle.lerc_pack.proofs.Matching.{tile-matches}
use Rattle.lerc_pack.proofs.table.matched.Goals as goal

pub returns : goal.returns
returns c =
    let e = c.args.e in
    let b = c.args.pack.now in
    let n : e.start + e.length - e.start ≡ e.length = omega arith in
    let l : length (body_of b e) ≡ e.length = simp (length-take, length-drop) (omega (arith, c.requires)) in
    rw (n) at c.is_tile.ensures ∙ tile-matches e (body_of b e) l
