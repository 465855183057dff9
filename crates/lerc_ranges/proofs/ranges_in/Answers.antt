use mathlib.Core.Path.{◌∙◌, sym}
use borrow.Author.Tests.{le-leb, lt-leb}
use Rattle.lerc_header.specs.Limits.{depth_limit}
use Rattle.lerc_ranges.specs.Ranges.{ranges_says, ranges_in_says}
use Rattle.lerc_ranges.proofs.ranges_in.Goals as goal

pub returns-then-h-gt-DEPTHS : goal.returns-then-h-gt-DEPTHS
unfolding ranges_in_says
returns-then-h-gt-DEPTHS c = rw (lt-leb _ depth_limit c.if-h-gt-DEPTHS.true)

pub returns-then-same : goal.returns-then-same
unfolding ranges_in_says ranges_says
returns-then-same c = rw (c.uniform.ensures, le-leb _ _ c.if-h-gt-DEPTHS.false, sym c.same.ensures ∙ c.if-same.true)

pub returns-then-s-h : goal.returns-then-s-h
unfolding ranges_in_says ranges_says
returns-then-s-h c =
    rw (
      le-leb _ _ c.if-h-gt-DEPTHS.false,
      sym c.same.ensures ∙ c.if-same.false,
      lt-leb _ _ (rw c.width-width.ensures.0 at c.if-s-h.true),
    )

-- it is asked only of ranges whose pairs are not all right
pub wrong_number-requires : goal.wrong_number-requires
wrong_number-requires c =
    (c.if-h-gt-DEPTHS.false, sym c.pairs_right.ensures ∙ c.if-not-pairs_right.true)

pub returns-then-not-pairs_right : goal.returns-then-not-pairs_right
unfolding ranges_in_says ranges_says
returns-then-not-pairs_right c =
    rw (
      c.wrong_number.ensures,
      le-leb _ _ c.if-h-gt-DEPTHS.false,
      sym c.same.ensures ∙ c.if-same.false,
      le-leb _ _ (rw c.width-width.ensures.0 at c.if-s-h.false),
      ← c.coded-ranges.ensures,
      sym c.pairs_right.ensures ∙ c.if-not-pairs_right.true,
    )

pub returns : goal.returns
unfolding ranges_in_says ranges_says
returns c =
    rw (
      le-leb _ _ c.if-h-gt-DEPTHS.false,
      sym c.same.ensures ∙ c.if-same.false,
      le-leb _ _ (rw c.width-width.ensures.0 at c.if-s-h.false),
      ← c.coded-ranges.ensures,
      sym c.pairs_right.ensures ∙ c.if-not-pairs_right.false,
    )
