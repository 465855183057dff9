use Prim.Native.Nat.{ℕ, ◌-◌}
use mathlib.Core.Path.{◌≡◌, ◌∙◌, sym, ap}
use mathlib.Core.Bool.{true}
use mathlib.Core.List.{List, [], ◌∷◌, ◌++◌, append-nil}
use native.Mathlib.Omega.{arith}
use lib.ListN.{length, drop}
use Rattle.lerc_bits.specs.declared.Plan.{Plan}
use Rattle.lerc_bits.specs.Bits.{run, chosen, all_below}
use Rattle.lerc_bits.proofs.Run.{length_digits}
use Rattle.lerc_bits.proofs.Choose.{length-chosen, below-front, chosen-front}
use Rattle.lerc_bits.proofs.Returns.{refused, given, unpacked-table, unpacked-bad}
use Rattle.lerc_bits.proofs.decode_table.Goals as goal
use Rattle.lerc_bits.proofs.decode_table.Goals.{After-unpack-2}

-- ---- after both runs were unpacked
abbrev s : (c : After-unpack-2) → List ℕ
s k = k.args.s.now

abbrev p : (c : After-unpack-2) → Plan
p k = k.args.p

abbrev old : (c : After-unpack-2) → List ℕ
old k = k.args.out.now

-- the array behind its first entry, and the array of the indices
abbrev table : (c : After-unpack-2) → List ℕ
table k = k.unpack.new.out

abbrev index : (c : After-unpack-2) → List ℕ
index k = k.unpack-2.new.out

abbrev indices : (c : After-unpack-2) → List ℕ
indices k = run (s k) (p k).at (p k).n (p k).width

long : (k : After-unpack-2) → length (table k ++ []) ≡ length (table k)
long k = ap length (append-nil (table k))

below : (k : After-unpack-2) → all_below (p k).n (p k).entries (index k) ≡ all_below (p k).n (p k).entries (indices k)
below k = below-front (p k).n (p k).entries (index k) (indices k) _ k.unpack-2.ensures (length_digits _ (p k).n (p k).width)

pub slice_bounds-look_up-end : goal.slice_bounds-look_up-end
slice_bounds-look_up-end c = omega (arith, long (goal.at.slice_bounds-look_up-end c).After-unpack-2)

pub look_up-requires : goal.look_up-requires
look_up-requires c =
    let e = long (goal.at.look_up-requires c).After-unpack-2 in
    record { n_in_bounds = (omega arith, omega arith, omega arith); index_value = sym c.all_below.ensures ∙ c.if-all_below.true }

pub returns-then-all_below : goal.returns-then-all_below
returns-then-all_below c =
    let k = (goal.at.returns-then-all_below c).After-unpack-2 in
    let b : all_below (p k).n (p k).entries (index k) ≡ true = sym c.all_below.ensures ∙ c.if-all_below.true in
    let t = run (s k) (p k).table ((p k).entries - 1) (p k).bits in
    let v : chosen (p k).n (0 ∷ (table k ++ [])) (index k) ≡ chosen (p k).n (0 ∷ t) (indices k) =
    chosen-front (p k).n (p k).entries (table k) t _ (index k) (indices k) _ c.unpack.ensures c.unpack-2.ensures
    (length_digits _ ((p k).entries - 1) (p k).bits) (omega arith) (length_digits _ (p k).n (p k).width) b in
    given (chosen (p k).n (0 ∷ t) (indices k)) (p k).n (unpacked-table (s k) (p k) (omega arith) (sym (below k) ∙ b)) (length-chosen (p k).n _ _)
    (c.look_up.ensures ∙ ap (λ (l : List ℕ). l ++ drop (p k).n (old k)) v)

pub returns : goal.returns
returns c =
    let k = (goal.at.returns c).After-unpack-2 in
    refused (unpacked-bad (s k) (p k) (omega arith) (sym (below k) ∙ sym c.all_below.ensures ∙ c.if-all_below.false))
