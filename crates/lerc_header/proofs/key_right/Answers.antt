use Rattle.lerc_header.proofs.Shorter.{key-bits}
use Rattle.lerc_header.proofs.key_right.Goals as goal

pub returns : goal.returns
returns c = rw (c.eight.ensures, c.quad.ensures) (key-bits c.args.b.now)
