use Rattle.lerc_words.specs.Res.{refusal_of}
use Rattle.lerc_words.proofs.Marking.{exits}
use Rattle.lerc_c.proofs.PackEnds.{entry-short, entry-no, entry_read}
use mathlib.Core.Path.{sym, ap}
use Rattle.lerc_c.proofs.packs.read_entry.Goals as goal

pub returns-then-entry-lt-ENTRY : goal.returns-then-entry-lt-ENTRY
returns-then-entry-lt-ENTRY c = let a = c.args in entry-short a.pack.now a.tiles a.number a.entry.now c.if-entry-lt-ENTRY.true

pub returns-in_err-found : goal.returns-in_err-found
returns-in_err-found c =
    let a = c.args in
    entry-no a.pack.now a.tiles a.number a.entry.now c.if-entry-lt-ENTRY.false (sym c.in_err-found.ensures) (ap refusal_of (exits _ c.from_residual.ensures.1))

pub returns : goal.returns
returns c =
    let a = c.args in
    entry_read a.pack.now a.tiles a.number a.entry.now c.if-entry-lt-ENTRY.false (sym c.in_ok-found.ensures) c.put_entry.ensures
