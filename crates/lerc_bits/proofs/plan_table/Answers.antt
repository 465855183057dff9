use Prim.Native.Nat.{◌+◌}
use mathlib.Core.Path.{◌≡◌, sym}
use native.Mathlib.Omega.{arith}
use Rattle.lerc_bits.specs.Bits.{run_bytes, index_width, table_plan}
use Rattle.lerc_bits.proofs.Returns.{fits-ok, fits-no}
use Rattle.lerc_bits.proofs.plan_table.Goals as goal
use Rattle.lerc_bits.proofs.plan_table.Goals.{After-run_bytes}

-- the bytes of the indices
second : (c : After-run_bytes) → c.run_bytes.result ≡ run_bytes c.args.n (index_width c.args.entries)
second c = rw c.index_width-width.ensures.0 at c.run_bytes.ensures.0

pub returns-then-len-table : goal.returns-then-len-table
returns-then-len-table c =
    let a = c.args in
    sym (fits-no a.len (table_plan a.n a.bits a.entries a.table) (omega (arith, second (goal.at.returns-then-len-table c).After-run_bytes)))

pub returns : goal.returns
returns c =
    let a = c.args in
    let p = table_plan a.n a.bits a.entries a.table in
    let e : c.index_width-width.result ≡ p.width = c.index_width-width.ensures.0 in
    let d : a.table + c.run_bytes-first.result ≡ p.at = omega arith in
    let f : a.table + (c.run_bytes-first.result + c.run_bytes.result) ≡ p.next = omega (arith, second (goal.at.returns c).After-run_bytes) in
    rw (e, d, f) (sym (fits-ok a.len p (omega arith)))
