use mathlib.Core.Path.{◌≡◌, ◌∙◌, sym, ap}
use mathlib.Core.Bool.{true}
use native.Mathlib.Omega.{arith}
use Rattle.lerc_words.proofs.Little.{Bytes}
use Rattle.lerc_pack.specs.declared.Entry.{Entry}
use Rattle.lerc_pack.specs.Parts.{entry_right}
use Rattle.lerc_pack.proofs.Fields.{start_fits, length-fits}
use Rattle.lerc_pack.proofs.Opening.{entry-is}
use Rattle.lerc_pack.proofs.Passes.{entry-test, matched-no, passed_none, passed-wrong, passed-more, passed-all}
use Rattle.lerc_pack.proofs.table.entries_right.Goals as goal
use Rattle.lerc_pack.proofs.table.entries_right.Goals.{Else-not-right}

pub overflow_mul-at : goal.overflow_mul-at
overflow_mul-at c = omega (arith, c.requires.0)

pub overflow_add-at : goal.overflow_add-at
overflow_add-at c = omega (arith, c.requires.0)

pub loop-i-init : goal.loop-i-init
loop-i-init c = passed_none _ _

pub entry_at-e-requires : goal.entry_at-e-requires
entry_at-e-requires c = omega (arith, c.loop-i-test.true, c.requires.1)

pub zeros_right-requires : goal.zeros_right-requires
zeros_right-requires c = omega (arith, c.loop-i-test.true, c.requires.1)

pub overflow_add-right : goal.overflow_add-right
overflow_add-right c =
    let b = c.args.pack.now in
    let i = c.loop-i.i in
    let bytes : Bytes b = λ k. omega (arith, c.type_inv.pack k) in
    let start = ap (λ (e : Entry). e.start) c.entry_at-e.ensures in
    let long = ap (λ (e : Entry). e.length) c.entry_at-e.ensures in
    omega (arith, start, long, start_fits b bytes i, length-fits b bytes i)

pub returns-then-not-right : goal.returns-then-not-right
returns-then-not-right c =
    let l = c.loop-i in
    let test = entry-test _ _ l.i _ _ _ _ _ c.entry_at-e.ensures c.zeros_right.ensures c.key.ensures l.invariant.next l.invariant.key in
    sym (passed-wrong _ _ l.invariant c.loop-i-test.true (matched-no _ _ _ (sym test ∙ c.if-not-right.true)))

-- the tests of an entry, behind them
right : (c : Else-not-right)
    → entry_right c.args.pack.now c.args.count c.loop-i.i ≡ true
right c =
    let l = c.loop-i in
    let test = entry-test _ _ l.i _ _ _ _ _ c.entry_at-e.ensures c.zeros_right.ensures c.key.ensures l.invariant.next l.invariant.key in
    sym test ∙ c.if-not-right.false

pub matched-requires : goal.matched-requires
matched-requires c =
    let e = c.entry_at-e.ensures in
    rw (e) (entry-is _ _ _ (right c)).inside

pub returns-then-not-matched : goal.returns-then-not-matched
returns-then-not-matched c =
    let t = (goal.at.returns-then-not-matched c).Else-not-right in
    let same = rw c.entry_at-e.ensures at c.matched.ensures in
    sym (passed-wrong _ _ c.loop-i.invariant c.loop-i-test.true (rw (right t) (sym same ∙ c.if-not-matched.true)))

pub overflow_add-at-in-loop-i : goal.overflow_add-at-in-loop-i
overflow_add-at-in-loop-i c =
    let b = c.args.pack.now in
    let i = c.loop-i.i in
    let bytes : Bytes b = λ k. omega (arith, c.type_inv.pack k) in
    let start = ap (λ (e : Entry). e.start) c.entry_at-e.ensures in
    let long = ap (λ (e : Entry). e.length) c.entry_at-e.ensures in
    omega (arith, start, long, start_fits b bytes i, length-fits b bytes i)

pub overflow_add-least : goal.overflow_add-least
overflow_add-least c = omega (arith, c.key-least.ensures)

pub loop-i-preserved : goal.loop-i-preserved
loop-i-preserved c =
    let t = (goal.at.loop-i-preserved c).Else-not-right in
    let same = rw c.entry_at-e.ensures at c.matched.ensures in
    rw (c.entry_at-e.ensures, c.key-least.ensures, c.entry_at-e.ensures)
    (passed-more _ _ c.loop-i.invariant c.loop-i-test.true (rw (right t) (sym same ∙ c.if-not-matched.false)))

pub returns : goal.returns
returns c = passed-all _ _ c.loop-i.invariant c.loop-i-test.false
