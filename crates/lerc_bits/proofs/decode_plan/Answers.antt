use mathlib.Core.Path.{◌∙◌, sym}
use native.Mathlib.Omega.{arith}
use lib.ListN.{length}
use Rattle.lerc_bits.specs.Bits.{run, PlanKept}
use Rattle.lerc_bits.proofs.Run.{length_digits}
use Rattle.lerc_bits.proofs.Plans.{keeps-kept, by-broken, by-kept}
use Rattle.lerc_bits.proofs.Returns.{refused, given, unpacked-plain}
use Rattle.lerc_bits.proofs.decode_plan.Goals as goal
use Rattle.lerc_bits.proofs.decode_plan.Goals.{Else-not-keeps_bounds}

pub returns-then-not-keeps_bounds : goal.returns-then-not-keeps_bounds
returns-then-not-keeps_bounds c =
    let a = c.args in
    refused (by-broken a.s.now a.p (sym c.keeps_bounds.ensures ∙ c.if-not-keeps_bounds.true))

kept : (k : Else-not-keeps_bounds) → PlanKept (length k.args.s.now) k.args.p
kept k = keeps-kept _ _ (sym k.keeps_bounds.ensures ∙ k.if-not-keeps_bounds.false)

pub unpack-requires : goal.unpack-requires
unpack-requires c =
    let f = kept (goal.at.unpack-requires c).Else-not-keeps_bounds in
    (f.few, f.slim, omega arith, omega arith)

pub returns-then-p-eq0 : goal.returns-then-p-eq0
returns-then-p-eq0 c =
    let k = (goal.at.returns-then-p-eq0 c).Else-not-keeps_bounds in
    let a = c.args in
    let p = a.p in
    given (run a.s.now p.at p.n p.width) p.n (by-kept _ _ (kept k) ∙ unpacked-plain a.s.now p c.if-p-eq0.true) (length_digits _ p.n p.width) c.unpack.ensures

pub decode_table-requires : goal.decode_table-requires
decode_table-requires c = (kept (goal.at.decode_table-requires c).Else-not-keeps_bounds, omega arith)

pub returns : goal.returns
returns c = rw (by-kept _ _ (kept (goal.at.returns c).Else-not-keeps_bounds)) c.decode_table.ensures
