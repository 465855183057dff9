use Prim.Native.Nat.{ℕ, ◌≤◌, ◌<◌}
use mathlib.Core.Path.{◌≡◌, refl}
use native.Mathlib.Omega.{arith}
use lib.ListN.{length, get_or}
use Rattle.lerc_words.specs.Lists.{from}
use Rattle.lerc_words.proofs.Tables.{table_more, length-table}
use Rattle.lerc_bits.specs.Bits.{chosen}
use Rattle.lerc_bits.proofs.Choose.{below_each}
use Rattle.lerc_bits.proofs.look_up.Goals as goal
use Rattle.lerc_bits.proofs.look_up.Goals.{At-loop-k, In-loop-k}

-- the turn's index is below `entries`
below : (c : In-loop-k) → get_or c.args.index.now c.loop-k.k 0 < c.args.entries
below c =
    let a = c.args in
    below_each a.n c.loop-k.k a.entries a.index.now c.requires.index_value c.loop-k-test.true

-- the array keeps its length
long : (c : At-loop-k) → length c.loop-k.out ≡ length c.args.out.now
long c =
    let h : c.loop-k.k ≤ length c.args.out.now = omega arith in
    rw c.loop-k.invariant.1 (length-table c.loop-k.k _ c.args.out.now h)

pub loop-k-init : goal.loop-k-init
unfolding from
loop-k-init c = (omega arith, refl)

pub overflow_cast-i : goal.overflow_cast-i
overflow_cast-i c = omega (arith, c.type_inv.index c.loop-k.k)

pub offset_bounds-table-i : goal.offset_bounds-table-i
offset_bounds-table-i c = omega (arith, c.well_formed, below (goal.at.offset_bounds-table-i c).In-loop-k)

pub bounds-table-i : goal.bounds-table-i
bounds-table-i c = omega (arith, below (goal.at.bounds-table-i c).In-loop-k)

pub bounds-out-k : goal.bounds-out-k
bounds-out-k c = omega (arith, long (goal.at.bounds-out-k c).At-loop-k)

pub loop-k-preserved : goal.loop-k-preserved
loop-k-preserved c =
    let a = c.args in
    let f : ℕ → ℕ = λ j. get_or a.table.now (get_or a.index.now j 0) 0 in
    (omega arith, rw c.loop-k.invariant.1 (table_more c.loop-k.k f a.out.now (omega arith)))

pub returns : goal.returns
unfolding chosen
returns c =
    let e : c.loop-k.k ≡ c.args.n = omega arith in
    rw (c.loop-k.invariant.1, e)

pub shape_of-out : goal.shape_of-out
shape_of-out c = long (goal.at.shape_of-out c).At-loop-k
