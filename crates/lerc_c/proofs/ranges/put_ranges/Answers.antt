use Rattle.lerc_header.specs.Limits.{depth_limit}
use Rattle.lerc_c.proofs.RecordParts.{ranges-put}
use lib.ListN.{length}
use mathlib.Core.Path.{◌≡◌, refl}
use mathlib.Core.Bool.{Bool, true, false, cond}
use mir.Val.{bool_byte}
use borrow.Author.Rules.{rules}
use Rattle.lerc_c.proofs.ranges.put_ranges.Goals as goal

as_number : (t : Bool) → bool_byte t ≡ cond t 1 0
as_number true = refl
as_number false = refl

pub returns : goal.returns
returns c =
    let a = c.args in
    let k : length a.r.min ≡ depth_limit = search rules in
    ranges-put a.r a.out.now k (as_number a.r.constant) c.put.ensures c.put-2.ensures c.put-3.ensures
