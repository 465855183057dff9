use mathlib.Core.Path.{◌∙◌, sym}
use Rattle.lerc_validity.proofs.Preparing.{says_none, says_all, says-kept, says-runs}
use Rattle.lerc_validity.proofs.find.Goals as goal

pub returns-then-h-eq0 : goal.returns-then-h-eq0
returns-then-h-eq0 c =
    let a = c.args in
    rw (says_none a.s.now a.h a.reuse a.kept.now c.if-h-eq0.true) c.put_uniform.ensures

pub returns-then-h-pixels : goal.returns-then-h-pixels
returns-then-h-pixels c =
    let a = c.args in
    rw (says_all a.s.now a.h a.reuse a.kept.now c.if-h-eq0.false (c.if-h-pixels.true ∙ c.requires.0)) c.put_uniform-then-h-pixels.ensures

pub returns-then-h-eq0-2 : goal.returns-then-h-eq0-2
returns-then-h-eq0-2 c =
    let a = c.args in
    rw (says-kept a.s.now a.h a.reuse a.kept.now c.if-h-eq0.false (λ z. c.if-h-pixels.false (z ∙ sym c.requires.0)) c.if-h-eq0-2.true) (c.take_kept.ensures a.spare.now)

pub returns : goal.returns
returns c =
    let a = c.args in
    rw (says-runs a.s.now a.h a.reuse a.kept.now c.if-h-eq0.false (λ z. c.if-h-pixels.false (z ∙ sym c.requires.0)) c.if-h-eq0-2.false) c.unroll.ensures
