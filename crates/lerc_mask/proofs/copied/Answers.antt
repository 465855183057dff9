use Rattle.lerc_mask.proofs.Steps.{length-copied, all-copied, last-copied}
use Prim.Native.Nat.{◌-◌, ◌+◌}
use mathlib.Core.Path.{◌≡◌}
use native.Mathlib.Omega.{arith}
use Rattle.lerc_mask.proofs.copied.Goals as goal

pub returns : goal.returns
returns c =
    let a = c.args in
    let s = a.s.now in
    let i : a.w.at + 1 + a.n ≡ a.w.at + 2 + (a.n - 1) = omega arith in
    rw (
      length-copied s (a.w.at + 2) a.n c.requires.0.1,
      all-copied s (a.w.at + 2) a.n,
      last-copied s (a.w.at + 2) a.n c.requires.0.0,
      c.ones_of.ensures.0,
      c.ones_in.ensures.0,
      i,
    )
