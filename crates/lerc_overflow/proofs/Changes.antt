-- All that changes, in one record.
-- Assumes nothing.
use mathlib.Core.Path.{◌≡◌}
use mathlib.Core.Bool.{true}
use Prim.Native.Nat.{ℕ, ◌<◌}
use native.Mathlib.Nat.{lt_of_le_of_lt}
use lib.Dec.{lit<}
use Rattle.lerc_numeric.specs.Numeric.{finite, mag}
use Rattle.lerc_numeric.specs.Kinds.{value_of}
use Rattle.lerc_overflow.specs.Changes.{OverSum, StepChanges, far_offset, Changes}
use Rattle.lerc_overflow.proofs.OverSum.{step_sum, block-sum, chain-sum}
use Rattle.lerc_overflow.proofs.Steps.{step_same, step-most, step-changed, step_kept, step-offset}
use Rattle.lerc_overflow.proofs.Offsets.{value-near}
use Rattle.lerc_overflow.proofs.Blocks.{block-changes}
use Rattle.lerc_overflow.proofs.Meanings.{meaning-sum, meaning-changes}

offset_near : (k w : ℕ) → k < 7 → finite (value_of k w) ≡ true → mag (value_of k w) < far_offset
offset_near k w l f = lt_of_le_of_lt (value-near k w l f) (lit< tt)

over-sum : OverSum
over-sum = record { step_sum = step_sum; block-sum = block-sum; chain-sum = chain-sum; meaning-sum = meaning-sum }

step-changes : StepChanges
step-changes = record {
  step_same = step_same;
  step-most = step-most;
  step-changed = step-changed;
  step_kept = step_kept;
  step-offset = step-offset;
  offset_near = offset_near;
}

pub changes : Changes
changes = record { over-sum = over-sum; step = step-changes; block = block-changes; meaning = meaning-changes }
