use Rattle.lerc_words.specs.Res.{refusal_of}
use Rattle.lerc_words.proofs.Marking.{exits}
use Rattle.lerc_c.proofs.PackEnds.{write-short, write-no, write_done}
use Rattle.lerc_pack_writer.specs.Writing.{Given}
use mathlib.Core.Path.{refl, ap}
use Rattle.lerc_c.proofs.packs.write_pack.Goals as goal

pub returns-then-room-lt1 : goal.returns-then-room-lt1
returns-then-room-lt1 c =
    let a = c.args in
    let g : Given = record { rows = a.rows.now; columns = a.columns.now; lengths = a.lengths.now; bodies = a.bodies.now } in
    write-short g a.pack.now a.said.now c.if-room-lt1.true

pub returns-in_err-long : goal.returns-in_err-long
returns-in_err-long c =
    let a = c.args in
    let g : Given = record { rows = a.rows.now; columns = a.columns.now; lengths = a.lengths.now; bodies = a.bodies.now } in
    write-no g a.pack.now a.said.now c.if-room-lt1.false c.in_err-long.ensures (ap refusal_of (exits _ c.from_residual.ensures.1))

pub returns : goal.returns
returns c =
    let a = c.args in
    let g : Given = record { rows = a.rows.now; columns = a.columns.now; lengths = a.lengths.now; bodies = a.bodies.now } in
    write_done g a.pack.now a.said.now c.if-room-lt1.false c.in_ok-long.ensures refl
