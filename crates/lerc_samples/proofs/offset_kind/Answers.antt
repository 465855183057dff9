use mathlib.Core.Path.{refl}
use Rattle.lerc_samples.specs.Samples.{offset_kinds}
use Rattle.lerc_samples.proofs.Offsets.{offset-ok, offset-none, offset-kind-past, offset-code-past}
use Rattle.lerc_samples.proofs.offset_kind.Goals as goal

pub returns-then-kind-gt7 : goal.returns-then-kind-gt7
returns-then-kind-gt7 c = offset-kind-past _ c.args.code c.if-kind-gt7.true

pub returns-then-code-gt3 : goal.returns-then-code-gt3
returns-then-code-gt3 c = offset-code-past _ _ c.if-kind-gt7.false c.if-code-gt3.true

pub returns-then-k-lt9 : goal.returns-then-k-lt9
unfolding offset_kinds
returns-then-k-lt9 c = offset-ok _ _ _ c.if-kind-gt7.false c.if-code-gt3.false refl c.if-k-lt9.true

pub returns-else-k-lt9 : goal.returns-else-k-lt9
unfolding offset_kinds
returns-else-k-lt9 c = offset-none c.args.kind c.args.code _ c.if-kind-gt7.false c.if-code-gt3.false refl c.if-k-lt9.false
