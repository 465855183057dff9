use Rattle.lerc.proofs.Answers.{mask-refused}
use mathlib.Core.Path.{sym}
use Rattle.lerc.proofs.same_mask.Goals as goal

pub returns-in_default : goal.returns-in_default
returns-in_default c = rw c.in_default.is

pub returns-in_default-b : goal.returns-in_default-b
returns-in_default-b c = rw c.in_default-b.is (sym (mask-refused c.args.a _))
