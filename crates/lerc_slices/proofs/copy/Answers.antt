use Prim.Native.Nat.{ℕ, suc, ◌+◌}
use mathlib.Core.Path.{◌≡◌, ◌∙◌, sym, ap, refl}
use mathlib.Core.List.{◌++◌}
use native.Mathlib.Omega.{arith}
use lib.ListN.{length, get_or, take, drop, length-take}
use lib.Seq.{paste, paste-suc}
use Rattle.std.specs.Prelude.{min, slice_set}
use Rattle.std.proofs.lemmas.List.{take_min}
use Rattle.lerc_slices.proofs.copy.Goals as goal

pub loop-k-init : goal.loop-k-init
loop-k-init g c = refl

pub loop-k-preserved : goal.loop-k-preserved
loop-k-preserved g c =
    let s = c.args.from.now in
    let d = c.args.to.now in
    let k = c.loop-k.k in
    let r = c.index-from-k.result in
    let begun = λ (j : ℕ). ap (λ m. take j s ++ drop m d) (let z : j ≡ 0 + j = omega arith in z) in
    let here : k ≡ 0 + k = omega arith in
    let more : suc k ≡ k + 1 = omega arith in
    ap (λ t. slice_set t k r) (c.loop-k.invariant ∙ begun k)
    ∙ ap (λ x. slice_set (paste d 0 s k) k x) c.index-from-k.is
    ∙ ap (λ m. slice_set (paste d 0 s k) m (get_or s k r)) here
    ∙ paste-suc d 0 s k r (omega arith) (omega arith)
    ∙ ap (λ m. paste d 0 s m) more
    ∙ sym (begun (k + 1))

pub returns : goal.returns
returns g c =
    let s = c.args.from.now in
    let d = c.args.to.now in
    let n : c.loop-k.k ≡ min (length d) (length s) = omega arith in
    let cut : take c.loop-k.k s ≡ take (length d) s = ap (λ m. take m s) n ∙ take_min (length d) s in
    let long : c.loop-k.k ≡ length (take (length d) s) = n ∙ sym (length-take (length d) s) in
    c.loop-k.invariant ∙ ap (λ x. x ++ drop c.loop-k.k d) cut ∙ ap (λ m. take (length d) s ++ drop m d) long
