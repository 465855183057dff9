use Prim.Native.Nat.{◌≤◌, ◌<◌, ◌-◌}
use mathlib.Core.Path.{◌≡◌, refl, ◌∙◌, sym}
use mathlib.Core.List.{append-nil}
use native.Mathlib.Omega.{arith}
use lib.ListN.{length, drop, set, length-set, length-drop}
use lib.Seq.{take_all}
use Rattle.lerc_text.specs.Text.{decimal}
use Rattle.lerc_text.proofs.Putting.{digits-left, digits-next, found-more, found_all, put-length}
use Rattle.lerc_text.proofs.put_number.Goals as goal
use Rattle.lerc_text.proofs.put_number.Goals.{In-loop-rest}

pub loop-rest-init : goal.loop-rest-init
loop-rest-init c = (refl, omega arith, omega arith, sym (append-nil (decimal c.args.n)))

-- the last digit is not at the front yet
left : (c : In-loop-rest) → 0 < c.loop-rest.k
left c = let l = c.loop-rest in digits-left l.found l.k l.rest l.invariant.2 c.loop-rest-test.true

pub bounds-found-k : goal.bounds-found-k
bounds-found-k c = omega arith

pub overflow_sub-k : goal.overflow_sub-k
overflow_sub-k c = left (goal.at.overflow_sub-k c).In-loop-rest

pub loop-rest-preserved : goal.loop-rest-preserved
loop-rest-preserved c =
    let l = c.loop-rest in
    let z = left (goal.at.loop-rest-preserved c).In-loop-rest in
    let h : l.k < length l.found = omega arith in (
      rw (length-set) l.invariant.0,
      omega arith,
      digits-next l.found l.k l.rest l.invariant.2 z,
      l.invariant.3 ∙ rw c.digit.ensures (found-more l.found l.k l.rest z h c.loop-rest-test.true),
    )

pub slice_bounds-put_text-end : goal.slice_bounds-put_text-end
slice_bounds-put_text-end c =
    let l = c.loop-rest in
    let h : 20 ≤ length (set l.found l.k c.digit-2.result) = rw (length-set) (omega arith) in
    h

pub shape_of-out : goal.shape_of-out
shape_of-out c = put-length c.put_text.ensures

pub returns : goal.returns
returns c =
    let l = c.loop-rest in
    let a = c.args in
    let h : l.k < length l.found = omega arith in
    let e : decimal a.n ≡ drop l.k (set l.found l.k c.digit-2.result) = l.invariant.3 ∙ rw c.digit-2.ensures (found_all l.found l.k l.rest h (omega arith)) in
    let m : length (drop l.k (set l.found l.k c.digit-2.result)) ≤ 20 - l.k = rw (length-drop, length-set) (omega arith) in
    rw (e) (rw (take_all (20 - l.k) (drop l.k (set l.found l.k c.digit-2.result)) m) at c.put_text.ensures)

pub bounds-found-k-2 : goal.bounds-found-k-2
bounds-found-k-2 c = omega arith

pub slice_bounds-put_text-count : goal.slice_bounds-put_text-count
slice_bounds-put_text-count c = omega arith
