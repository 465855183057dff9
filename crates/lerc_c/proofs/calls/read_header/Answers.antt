use Rattle.lerc_words.specs.Res.{refusal_of}
use Rattle.lerc_words.proofs.Marking.{exits}
use Rattle.lerc_c.proofs.Entries.{header-short, header-no, header_read}
use mathlib.Core.Path.{sym, ap}
use Rattle.lerc_c.proofs.calls.read_header.Goals as goal

pub returns-then-header-lt-HEADER : goal.returns-then-header-lt-HEADER
returns-then-header-lt-HEADER c = header-short c.args.blob.now _ c.if-header-lt-HEADER.true

pub returns-in_err-h : goal.returns-in_err-h
returns-in_err-h c =
    let a = c.args in
    header-no a.blob.now a.header.now c.if-header-lt-HEADER.false (sym c.in_err-h.ensures) (ap refusal_of (exits _ c.from_residual.ensures.1))

pub returns : goal.returns
returns c =
    let a = c.args in
    header_read a.blob.now a.header.now c.if-header-lt-HEADER.false (sym c.in_ok-h.ensures) c.put_header.ensures
