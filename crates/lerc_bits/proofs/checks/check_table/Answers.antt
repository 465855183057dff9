use Prim.Native.Nat.{ℕ, ◌-◌}
use mathlib.Core.Path.{◌≡◌, ◌∙◌, sym}
use mathlib.Core.List.{List, ◌∷◌}
use native.Mathlib.Omega.{arith}
use Rattle.lerc_bits.specs.declared.Plan.{Plan}
use Rattle.lerc_bits.specs.Bits.{run, chosen, all_below}
use Rattle.lerc_bits.proofs.Run.{length_digits}
use Rattle.lerc_bits.proofs.Choose.{length-chosen, below-front}
use Rattle.lerc_bits.proofs.Returns.{counted, uncounted, unpacked-table, unpacked-bad}
use Rattle.lerc_bits.proofs.checks.check_table.Goals as goal
use Rattle.lerc_bits.proofs.checks.check_table.Goals.{After-unpack}

-- ---- after the indices were unpacked
abbrev s : (c : After-unpack) → List ℕ
s k = k.args.s.now

abbrev p : (c : After-unpack) → Plan
p k = k.args.p

abbrev index : (c : After-unpack) → List ℕ
index k = k.unpack.new.out

abbrev indices : (c : After-unpack) → List ℕ
indices k = run (s k) (p k).at (p k).n (p k).width

below : (k : After-unpack) → all_below (p k).n (p k).entries (index k) ≡ all_below (p k).n (p k).entries (indices k)
below k = below-front (p k).n (p k).entries (index k) (indices k) _ k.unpack.ensures (length_digits _ (p k).n (p k).width)

pub returns-then-all_below : goal.returns-then-all_below
returns-then-all_below c =
    let k = (goal.at.returns-then-all_below c).After-unpack in
    let t = run (s k) (p k).table ((p k).entries - 1) (p k).bits in
    counted (chosen (p k).n (0 ∷ t) (indices k)) (p k).n (unpacked-table (s k) (p k) (omega arith) (sym (below k) ∙ sym c.all_below.ensures ∙ c.if-all_below.true)) (length-chosen (p k).n _ _)

pub returns : goal.returns
returns c =
    let k = (goal.at.returns c).After-unpack in
    uncounted (unpacked-bad (s k) (p k) (omega arith) (sym (below k) ∙ sym c.all_below.ensures ∙ c.if-all_below.false))
