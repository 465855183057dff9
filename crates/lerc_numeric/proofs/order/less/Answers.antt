use Rattle.lerc_numeric.proofs.Compare.{less-pp, less-pn, less-np, less-nn}
use Rattle.lerc_numeric.proofs.order.less.Goals as goal

pub returns-then-b-lt9223372036854775808 : goal.returns-then-b-lt9223372036854775808
returns-then-b-lt9223372036854775808 c = less-pp c.args.a c.args.b c.if-a-lt9223372036854775808.true c.if-b-lt9223372036854775808.true

pub returns-else-b-lt9223372036854775808 : goal.returns-else-b-lt9223372036854775808
returns-else-b-lt9223372036854775808 c = less-pn c.args.a c.args.b c.if-a-lt9223372036854775808.true c.if-b-lt9223372036854775808.false

pub returns-then-b-lt9223372036854775808-2 : goal.returns-then-b-lt9223372036854775808-2
returns-then-b-lt9223372036854775808-2 c = less-np c.args.a c.args.b c.if-a-lt9223372036854775808.false c.if-b-lt9223372036854775808-2.true

pub returns-else-b-lt9223372036854775808-2 : goal.returns-else-b-lt9223372036854775808-2
returns-else-b-lt9223372036854775808-2 c = less-nn c.args.a c.args.b c.if-a-lt9223372036854775808.false c.if-b-lt9223372036854775808-2.false
