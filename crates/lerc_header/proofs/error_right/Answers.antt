use Rattle.lerc_header.proofs.Largest.{error-bits}
use Rattle.lerc_header.proofs.error_right.Goals as goal

pub returns : goal.returns
returns c = error-bits c.args.e
