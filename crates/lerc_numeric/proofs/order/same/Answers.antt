use Rattle.lerc_numeric.proofs.Compare.{same_bits, same-zeros}
use Rattle.lerc_numeric.proofs.order.same.Goals as goal

pub returns-then-a-b : goal.returns-then-a-b
returns-then-a-b c = same_bits c.args.a c.args.b c.if-a-b.true

pub returns-else-a-b : goal.returns-else-a-b
returns-else-a-b c = same-zeros c.args.a c.args.b c.if-a-b.false
