use Prim.Native.Nat.{ℕ, ◌^◌, ◌≤◌, ◌<◌}
use mathlib.Core.Path.{◌≡◌, sym}
use native.Mathlib.Omega.{arith}
use Rattle.lerc_words.specs.Res.{ok}
use Rattle.lerc_numeric.specs.Whole.{twice_whole}
use Rattle.lerc_numeric.proofs.WholeNumbers.{raised_lt, twice-le}
use Rattle.lerc_samples.specs.Samples.{stored}
use Rattle.lerc_block.proofs.StepWords.{tried-none, tried-all}
use Rattle.lerc_block.proofs.WholeWords.{four_bytes, clamped-put, free-put}
use Rattle.lerc_block.proofs.whole.whole_steps.Goals as goal
use Rattle.lerc_block.proofs.whole.whole_steps.Goals.{After-size-size}

pub returns-then-step-eq0 : goal.returns-then-step-eq0
returns-then-step-eq0 c = tried-none

pub returns-then-offset-ge6 : goal.returns-then-offset-ge6
returns-then-offset-ge6 c = tried-none

pub returns-in_default : goal.returns-in_default
returns-in_default c = tried-none

-- ---- after all was computed that a block needs
-- the steps are small
abbrev step : (c : After-size-size) → ℕ
step k = k.twice_whole-step.result

step-few : (k : After-size-size) → step k ≤ 2 ^ 20
step-few k = rw k.twice_whole-step.ensures (twice-le k.args.error)

base-few : (k : After-size-size) → k.raised-base.result < 2 ^ 33
base-few k = rw k.raised-base.ensures (raised_lt _ _)

size_few : (k : After-size-size) → k.size-size.result ≤ 4
size_few k = rw k.size-size.ensures (four_bytes _ k.requires.1)

pub passes-requires : goal.passes-requires
passes-requires c = (base-few c, step-few c, c.requires.3)

pub whole_clamped-requires : goal.whole_clamped-requires
whole_clamped-requires c = let k = (goal.at.whole_clamped-requires c).After-size-size in (k.requires.0, base-few k, step-few k, size_few k)

pub whole_free-requires : goal.whole_free-requires
whole_free-requires c = let k = (goal.at.whole_free-requires c).After-size-size in (k.requires.0, base-few k, step-few k, size_few k)

-- twice the error is a whole number, and the maximum is held
half : (k : After-size-size) → 0 < twice_whole k.args.error
half k =
    let p : 0 < step k = omega (arith, k.if-step-eq0.false) in
    rw k.twice_whole-step.ensures at p

held : (k : After-size-size) → let i = k in stored i.args.kind i.args.top ≡ ok k.in-Ok.t
held k = sym k.in-Ok.ensures

pub returns-then-passes : goal.returns-then-passes
returns-then-passes c =
    let k = (goal.at.returns-then-passes c).After-size-size in
    let i = k in
    tried-all
    (clamped-put i.args.kind i.args.error i.args.top _ i.args.offset i.requires.1 c.if-offset-ge6.false (half k) i.requires.2 (held k) c.raised-base.ensures
    c.twice_whole-step.ensures c.raised-last.ensures c.size-size.ensures i.args.bits i.args.counts.now i.requires.3 c.whole_clamped.ensures)

pub returns-else-passes : goal.returns-else-passes
returns-else-passes c =
    let k = (goal.at.returns-else-passes c).After-size-size in
    let i = k in
    tried-all
    (free-put i.args.kind i.args.error i.args.top _ i.args.offset i.requires.1 c.if-offset-ge6.false (half k) i.requires.2 (held k) c.raised-base.ensures
    c.twice_whole-step.ensures c.raised-last.ensures c.size-size.ensures i.args.bits i.args.counts.now i.requires.3 (c.passes.ensures c.if-passes.false)
    c.whole_free.ensures)
