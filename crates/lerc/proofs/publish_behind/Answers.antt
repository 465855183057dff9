use mathlib.Core.Path.{◌∙◌, sym, ap}
use mathlib.Core.Bool.{◌&&◌}
use native.Mathlib.Omega.{arith}
use lib.ListN.{length}
use Rattle.lerc_words.specs.Res.{ok, fail}
use Rattle.lerc_words.proofs.Binding.{and_is}
use Rattle.lerc_words.proofs.Marking.{exits}
use Rattle.lerc.proofs.Bodies.{valid-cells}
use Rattle.lerc.proofs.Endings.{to_write}
use Rattle.lerc.proofs.Publishes.{ap2, body-left, not-staged, body-published}
use Rattle.lerc.proofs.publish_behind.Goals as goal

pub check_body-requires : goal.check_body-requires
check_body-requires c =
    rw c.mask_in_force-mask.ensures.0 c.requires.ready

pub returns-in_err-body : goal.returns-in_err-body
returns-in_err-body c =
    let a = c.args in
    let t = rw c.mask_in_force-mask.ensures.0 at c.in_err-body.ensures in
    rw (exits _ c.from_residual.ensures.1) (body-left t (ok a.said) a.given a.list.now)

pub is_listed-requires : goal.is_listed-requires
is_listed-requires c =
    let m = c.mask_in_force-mask.ensures.0 in
    (to_write c.in_ok-body.ensures (ok c.args.said) (rw (m) c.requires.ready), c.requires.blocks)

pub returns-then-not-is_given : goal.returns-then-not-is_given
returns-then-not-is_given c =
    let m = c.mask_in_force-mask.ensures.0 in
    let a = c.args in
    let both = ap2 ◌&&◌ c.is_answer.ensures c.is_listed.ensures in
    let no = sym both ∙ c.if-not-is_given.true in
    not-staged (rw (m) at c.in_ok-body.ensures) (ok a.said) c.answer-found.ensures a.given a.list.now (rw (m) at no) (ap fail c.not_given.ensures)

pub write_body-requires : goal.write_body-requires
write_body-requires c =
    let m = c.mask_in_force-mask.ensures.0 in
    let (_, held) = and_is c.is_answer.result c.is_listed.result c.if-not-is_given.false in
    record {
      body = to_write c.in_ok-body.ensures (ok c.args.said) (rw (m) c.requires.ready);
      long = c.requires.blocks;
      starts = sym c.is_listed.ensures ∙ held;
      room = c.requires.room;
    }

pub keep-requires : goal.keep-requires
keep-requires c =
    c.requires.fits

pub overflow_mul-result : goal.overflow_mul-result
overflow_mul-result c =
    omega (arith, valid-cells c.args.h (length c.args.s.now) c.requires.ready.header)

pub returns : goal.returns
returns c =
    let m = c.mask_in_force-mask.ensures.0 in
    let a = c.args in
    let both = ap2 ◌&&◌ c.is_answer.ensures c.is_listed.ensures in
    let k = c.keep.ensures in
    let i = c.write_body.ensures in
    let yes = sym both ∙ c.if-not-is_given.false in
    body-published (rw (m) at c.in_ok-body.ensures) (ok a.said) c.answer-found.ensures a.given a.list.now (rw (m) at yes) k (rw (m) at i)
