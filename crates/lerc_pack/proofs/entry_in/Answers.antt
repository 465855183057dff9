use mathlib.Core.Path.{◌∙◌, sym, ap}
use Prim.Native.Nat.{◌<◌, ◌≤◌}
use native.Mathlib.Omega.{arith}
use lib.ListN.{length}
use borrow.Author.Tests.{lt-ltb, le-ltb, le-leb, lt-leb, leb-true}
use Rattle.lerc_words.proofs.Little.{Bytes}
use Rattle.lerc_pack.specs.declared.Entry.{Entry}
use Rattle.lerc_pack.specs.Contents.{body_end}
use Rattle.lerc_pack.specs.Pack.{entry_at, entry_says}
use Rattle.lerc_pack.proofs.Fields.{start_fits, length-fits}
use Rattle.lerc_pack.proofs.entry_in.Goals as goal

pub returns-then-count-i : goal.returns-then-count-i
unfolding entry_says
returns-then-count-i c = rw (le-ltb _ _ c.if-count-i.true)

pub returns-then-not-holds_entry : goal.returns-then-not-holds_entry
unfolding entry_says
returns-then-not-holds_entry c = rw (lt-ltb _ _ c.if-count-i.false, sym c.holds_entry.ensures ∙ c.if-not-holds_entry.true)

pub entry_at-entry-requires : goal.entry_at-entry-requires
entry_at-entry-requires c = leb-true _ _ (sym c.holds_entry.ensures ∙ c.if-not-holds_entry.false)

pub overflow_add-entry : goal.overflow_add-entry
overflow_add-entry c =
    let a = c.args in
    let bytes : Bytes a.pack.now = λ i. omega (arith, c.type_inv.pack i) in
    let start = ap (λ (e : Entry). e.start) c.entry_at-entry.ensures in
    let long = ap (λ (e : Entry). e.length) c.entry_at-entry.ensures in
    omega (arith, start, long, start_fits a.pack.now bytes a.i, length-fits a.pack.now bytes a.i)

pub returns-then-pack-entry : goal.returns-then-pack-entry
unfolding entry_says
returns-then-pack-entry c =
    let past : length c.args.pack.now < body_end (entry_at c.args.pack.now c.args.i) = rw c.entry_at-entry.ensures at c.if-pack-entry.true in
    rw (lt-ltb _ _ c.if-count-i.false, sym c.holds_entry.ensures ∙ c.if-not-holds_entry.false, lt-leb _ _ past)

pub returns : goal.returns
unfolding entry_says
returns c =
    let inside : body_end (entry_at c.args.pack.now c.args.i) ≤ length c.args.pack.now = rw c.entry_at-entry.ensures at c.if-pack-entry.false in
    rw (c.entry_at-entry.ensures, lt-ltb _ _ c.if-count-i.false, sym c.holds_entry.ensures ∙ c.if-not-holds_entry.false, le-leb _ _ inside)
