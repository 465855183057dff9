use Rattle.lerc_header.specs.Limits.{depth_limit}
use Rattle.lerc_c.specs.Records.{maxima_place}
use Rattle.lerc_c.proofs.RecordParts.{mark-right, mark-wrong, part-put}
use lib.ListN.{replicate}
use native.Mathlib.Omega.{arith}
use mathlib.Core.Path.{refl}
use Rattle.lerc_c.proofs.ranges.ranges_from.Goals as goal

pub returns-then-l-gt1 : goal.returns-then-l-gt1
returns-then-l-gt1 c = mark-wrong c.args.l.now c.if-l-gt1.true

pub returns : goal.returns
returns c =
    let l = c.args.l.now in
    mark-right l c.if-l-gt1.false (part-put l (replicate depth_limit 0) 2 depth_limit refl (omega arith) c.put.ensures) (part-put l (replicate depth_limit 0) maxima_place depth_limit refl (omega arith) c.put-2.ensures)
