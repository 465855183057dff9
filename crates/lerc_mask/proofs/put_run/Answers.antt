use Prim.Native.Nat.{◌+◌, ◌-◌}
use mathlib.Core.Path.{◌≡◌, ◌∙◌, sym}
use native.Mathlib.Omega.{arith}
use lib.ListN.{take, drop, length-replicate}
use Rattle.lerc_slices.proofs.Parts.{part-copied, part_filled}
use Rattle.lerc_mask.proofs.Steps.{length-copied}
use Rattle.lerc_mask.specs.Passes.{put_on, put_out}
use Rattle.lerc_mask.proofs.put_run.Goals as goal

pub overflow_add-from : goal.overflow_add-from
overflow_add-from c =
    let f = rw c.in-Copy.is at c.read_step-run.ensures.1 in
    omega arith

pub overflow_add-next : goal.overflow_add-next
overflow_add-next c =
    let f = rw c.in-Copy.is at c.read_step-run.ensures.1 in
    omega arith

pub overflow_add-end : goal.overflow_add-end
overflow_add-end c =
    let f = rw c.in-Copy.is at c.read_step-run.ensures.1 in
    omega arith

pub slice_bounds-copy-end : goal.slice_bounds-copy-end
slice_bounds-copy-end c =
    let f = rw c.in-Copy.is at c.read_step-run.ensures.1 in
    omega arith

pub slice_bounds-copy-end-in-Copy : goal.slice_bounds-copy-end-in-Copy
slice_bounds-copy-end-in-Copy c =
    let f = rw c.in-Copy.is at c.read_step-run.ensures.1 in
    omega arith

pub overflow_add-end-in-Repeat : goal.overflow_add-end-in-Repeat
overflow_add-end-in-Repeat c =
    let f = rw c.in-Repeat.is at c.read_step-run.ensures.1 in
    omega arith

pub overflow_add-at : goal.overflow_add-at
overflow_add-at c =
    let f = rw c.in-Repeat.is at c.read_step-run.ensures.1 in
    omega arith

pub bounds-s-at : goal.bounds-s-at
bounds-s-at c =
    let f = rw c.in-Repeat.is at c.read_step-run.ensures.1 in
    omega arith

pub slice_bounds-fill-end : goal.slice_bounds-fill-end
slice_bounds-fill-end c =
    let f = rw c.in-Repeat.is at c.read_step-run.ensures.1 in
    omega arith

pub overflow_add-result : goal.overflow_add-result
overflow_add-result c =
    let f = rw c.in-Repeat.is at c.read_step-run.ensures.1 in
    omega arith

pub returns-in-Copy : goal.returns-in-Copy
unfolding put_on put_out
returns-in-Copy c =
    let a = c.args in
    let n = c.in-Copy.n in
    let e = sym c.read_step-run.ensures.0 ∙ c.in-Copy.is in
    let f = rw c.in-Copy.is at c.read_step-run.ensures.1 in
    let l = length-copied a.s.now (a.at + 2) n f.1 in
    let d : a.at + 2 + n - (a.at + 2) ≡ n = omega arith in
    (rw (e, l), rw (c.copy.ensures, e, l, d) (part-copied a.out.now (take n (drop (a.at + 2) a.s.now)) a.made n (omega arith) l))

pub returns-in-Repeat : goal.returns-in-Repeat
unfolding put_on put_out
returns-in-Repeat c =
    let e = sym c.read_step-run.ensures.0 ∙ c.in-Repeat.is in
    let a = c.args in
    let n = c.in-Repeat.n in
    let f = rw c.in-Repeat.is at c.read_step-run.ensures.1 in
    (rw (e, length-replicate), rw (c.fill.ensures, e, length-replicate) (part_filled a.out.now _ a.made n (omega arith)))

pub returns-in-End : goal.returns-in-End
unfolding put_on put_out
returns-in-End c =
    let e = sym c.read_step-run.ensures.0 ∙ c.in-End.is in
    (rw (e), rw (e))

pub returns-in-Wrong : goal.returns-in-Wrong
unfolding put_on put_out
returns-in-Wrong c =
    let e = sym c.read_step-run.ensures.0 ∙ c.in-Wrong.is in
    (rw (e), rw (e))
