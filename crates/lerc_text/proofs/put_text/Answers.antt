use mathlib.Core.Path.{◌≡◌}
use native.Mathlib.Numerals.{add-one}
use native.Mathlib.Omega.{arith}
use lib.ListN.{length}
use lib.Seq.{take-suc, take-length}
use Rattle.lerc_text.proofs.Putting.{put-none, put_then, put-length}
use Rattle.lerc_text.proofs.put_text.Goals as goal

pub loop-b-init : goal.loop-b-init
loop-b-init c = (omega arith, put-none _ _ _ c.min-p.ensures)

pub loop-b-preserved : goal.loop-b-preserved
loop-b-preserved c =
    let s = c.args.s.now in
    (omega arith, rw (add-one, take-suc s c.loop-b.b-index 0 (omega arith)) (put_then c.loop-b.invariant.1 c.put_byte-p.ensures))

pub shape_of-out : goal.shape_of-out
shape_of-out c = put-length c.loop-b.invariant.1

pub returns : goal.returns
returns c =
    let s = c.args.s.now in
    let e : c.loop-b.b-index ≡ length s = omega arith in
    rw (e, take-length s) at c.loop-b.invariant.1
