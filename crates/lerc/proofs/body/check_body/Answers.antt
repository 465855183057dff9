use mathlib.Core.Path.{◌≡◌, ◌∙◌, sym}
use native.Mathlib.Omega.{arith}
use lib.ListN.{length}
use Rattle.lerc_words.specs.Res.{ok}
use Rattle.lerc_words.proofs.Marking.{exits}
use Rattle.lerc_header.proofs.Kept.{held-shaped, held-size, held-pair}
use Rattle.lerc_ranges.specs.Ranges.{ranges_says}
use Rattle.lerc_ranges.proofs.Judged.{ranges-few, ranges-kept}
use Rattle.lerc.proofs.Checking.{body-empty, ranges-no, after-constant, after-other}
use Rattle.lerc.specs.Parts.{mask_by}
use Rattle.lerc.proofs.body.check_body.Goals as goal
use Rattle.lerc.proofs.body.check_body.Goals.{In_ok-r}

-- the ranges that were read are those of the rules
given : (c : In_ok-r) → ranges_says c.args.s.now c.args.h ≡ ok c.in_ok-r.r
given c =
    let b = c.args.s.now in
    let h = c.args.h in
    sym (ranges-few b h (held-shaped h (length b) c.requires.header).depth.1) ∙ sym c.in_ok-r.ensures

pub returns-then-h-eq0 : goal.returns-then-h-eq0
returns-then-h-eq0 c =
    let a = c.args in
    body-empty a.s.now a.h (mask_by a.s.now a.h a.lent a.mask.now) c.if-h-eq0.true

pub returns-in_err-r : goal.returns-in_err-r
returns-in_err-r c =
    let a = c.args in
    let b = a.s.now in
    let no = sym (ranges-few b a.h (held-shaped a.h (length b) c.requires.header).depth.1) ∙ sym c.in_err-r.ensures in
    rw (exits _ c.from_residual.ensures.1) (ranges-no b a.h (mask_by b a.h a.lent a.mask.now) c.if-h-eq0.false no)

pub check_constant-requires : goal.check_constant-requires
check_constant-requires c =
    let t = (goal.at.check_constant-requires c).In_ok-r in
    let b = c.args.s.now in
    let h = c.args.h in
    let few = (held-shaped h (length b) c.requires.header).depth.1 in
    let kept = ranges-kept b h few (held-pair h (length b) c.requires.header) (omega (arith, (held-size h (length b) c.requires.header).0, c.requires.whole)) _ (given t) in
    (few, kept.low)

pub returns-then-r : goal.returns-then-r
returns-then-r c =
    let t = (goal.at.returns-then-r c).In_ok-r in
    let a = c.args in
    after-constant a.s.now a.h (mask_by a.s.now a.h a.lent a.mask.now) _ c.if-h-eq0.false (given t) c.if-r.true (c.check_constant.ensures a.s.now (mask_by a.s.now a.h a.lent a.mask.now))

pub returns-in_err-found : goal.returns-in_err-found
returns-in_err-found c =
    let t = (goal.at.returns-in_err-found c).In_ok-r in
    let a = c.args in
    rw (exits _ c.from_residual-in_err-found.ensures.1) (after-other a.s.now a.h (mask_by a.s.now a.h a.lent a.mask.now) _ c.if-h-eq0.false (given t) c.if-r.false c.in_err-found.ensures)

pub returns : goal.returns
returns c =
    let t = (goal.at.returns c).In_ok-r in
    let a = c.args in
    after-other a.s.now a.h (mask_by a.s.now a.h a.lent a.mask.now) _ c.if-h-eq0.false (given t) c.if-r.false c.in_ok-found.ensures
