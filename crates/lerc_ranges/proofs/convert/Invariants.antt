use lib.ListN.{take, replicate}
use Rattle.lerc_words.proofs.Each.{Staged}
use Rattle.lerc_samples.specs.Samples.{stored}
use Rattle.lerc_header.specs.Limits.{depth_limit}
use Rattle.lerc_ranges.proofs.convert.Given as goal

abbrev pub invariant-loop-i : goal.invariant-loop-i
invariant-loop-i l = Staged (stored l.kind) (take l.depth l.values) l.i (replicate depth_limit 0) l.words
