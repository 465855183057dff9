-- Each turn passes a record.
use Rattle.std.proofs.Common.{length}
use Rattle.lerc_header_cases.proofs.say_all.Given as goal

abbrev pub decreases-loop-rest : goal.decreases-loop-rest
decreases-loop-rest g l = length l.rest
