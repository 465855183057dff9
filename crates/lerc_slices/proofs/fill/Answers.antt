use Prim.Native.Nat.{ℕ, ◌<◌}
use mathlib.Core.Path.{◌≡◌, ◌∙◌, sym}
use native.Mathlib.Omega.{arith}
use lib.ListN.{length, replicate, length-replicate, get_or-replicate}
use lib.Seq.{ext_get_or}
use Rattle.lerc_slices.proofs.fill.Goals as goal

pub returns : goal.returns
returns g c =
    let v = c.args.entry in
    let now = c.loop-place.to in
    let n = length c.args.to.now in
    let e : length now ≡ n = omega arith in
    let all = λ (i : ℕ) (l : i < length now). let k : i < n = omega arith in let m : i < c.loop-place.place-index = omega arith in c.loop-place.invariant i m ∙ sym (get_or-replicate n i v v k) in
    ext_get_or v now (replicate n v) (e ∙ sym (length-replicate n v)) all
