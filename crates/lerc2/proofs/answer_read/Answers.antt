use Rattle.lerc2.proofs.Input.{front-answered}
use Rattle.lerc2.proofs.answer_read.Goals as goal

pub returns : goal.returns
returns c = front-answered c.args.buffer.now c.args.n c.requires.0 c.answer.ensures
