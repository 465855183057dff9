use Rattle.lerc_words.proofs.Little.{Bytes}
use Rattle.lerc_pack.specs.declared.Entry.{Entry}
use Rattle.lerc_pack.proofs.Fields.{start_fits, length-fits}
use Rattle.lerc_pack.proofs.Opening.{entry-given}
use mathlib.Core.Path.{◌≡◌, ◌∙◌, sym, ap, refl}
use Prim.Native.Nat.{◌+◌, ◌-◌}
use native.Mathlib.Omega.{arith}
use native.Mathlib.Nat.{zero-add}
use Rattle.lerc_pack.proofs.body_in.Goals as goal

pub returns-in_default : goal.returns-in_default
returns-in_default c =
    let said = sym c.entry_in.ensures ∙ c.in_default.is in
    rw (said) (refl, rw (zero-add))

pub overflow_add-end : goal.overflow_add-end
overflow_add-end c =
    let a = c.args in
    let bytes : Bytes a.pack.now = λ i. omega (arith, c.type_inv.pack i) in
    let given = entry-given _ a.count a.i _ (sym c.entry_in.ensures ∙ c.in-Ok.is) in
    let start = ap (λ (e : Entry). e.start) given.is in
    let long = ap (λ (e : Entry). e.length) given.is in
    omega (arith, start, long, start_fits a.pack.now bytes a.i, length-fits a.pack.now bytes a.i)

pub slice_bounds-result-end-2 : goal.slice_bounds-result-end-2
slice_bounds-result-end-2 c =
    let a = c.args in
    let given = entry-given _ a.count a.i _ (sym c.entry_in.ensures ∙ c.in-Ok.is) in
    given.inside

pub returns : goal.returns
returns c =
    let said = sym c.entry_in.ensures ∙ c.in-Ok.is in
    let long : c.in-Ok.entry.start + c.in-Ok.entry.length - c.in-Ok.entry.start ≡ c.in-Ok.entry.length = omega arith in
    rw (said, long) (refl, refl)
