use native.Mathlib.Omega.{arith}
use Rattle.lerc_program.proofs.Program.{put-answered}
use Rattle.lerc_program.proofs.answer.Goals as goal

pub returns : goal.returns
returns c = put-answered c.put_answer.ensures (omega arith)
