use mathlib.Core.Path.{◌≡◌, sym}
use native.Mathlib.Omega.{arith}
use Rattle.lerc_checksum.specs.Laws.{Bytes}
use Rattle.lerc_checksum.proofs.Groups.{run_none, run_more, room_next}
use Rattle.lerc_checksum.proofs.count_rest.Goals as goal

pub loop-i-init : goal.loop-i-init
loop-i-init c = (omega arith, sym (run_none _ _ _))

pub overflow_add-first : goal.overflow_add-first
overflow_add-first c =
    let bytes : Bytes c.args.s.now = λ i. omega (arith, c.type_inv.s i) in
    let a = c.args in
    let fits = room_next a.s.now bytes a.k a.n c.loop-i.i a.t c.requires.1 c.loop-i-test.true in
    rw (c.word.ensures.0, c.loop-i.invariant.1) (record { fits = omega (arith, fits) })

pub overflow_add-sums : goal.overflow_add-sums
overflow_add-sums c =
    let bytes : Bytes c.args.s.now = λ i. omega (arith, c.type_inv.s i) in
    let a = c.args in
    let fits = room_next a.s.now bytes a.k a.n c.loop-i.i a.t c.requires.1 c.loop-i-test.true in
    rw (c.word.ensures.0, c.loop-i.invariant.1) (record { fits = fits })

pub loop-i-preserved : goal.loop-i-preserved
loop-i-preserved c =
    (omega arith, rw (c.word.ensures.0, c.loop-i.invariant.1) (sym (run_more _ _ _ _)))

pub returns : goal.returns
returns c =
    let l = c.loop-i in
    let e : l.i ≡ c.args.n = omega arith in
    rw (← e) l.invariant.1
