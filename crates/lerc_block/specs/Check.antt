-- What private functions promise; not part of the rules.
-- Assumes nothing.
use Rattle.std.specs.Prelude.{ℕ, ◌+◌, ◌*◌, ◌≤◌, ◌≡◌, Bool, true, not, ◌&&◌, ◌||◌, List, length, leb}
use Rattle.lerc_words.specs.Res.{Res, ◌>>=◌, require, accepts}
use Rattle.lerc_numeric.specs.Numeric.{negative}
use Rattle.lerc_numeric.specs.Kinds.{type_size}
use Rattle.lerc_samples.specs.Samples.{stored}
use Rattle.lerc_bits.specs.Bits.{PlanKept}
use Rattle.lerc_block.specs.declared.heads.Head.{Head}
use Rattle.lerc_block.specs.declared.plan.StoredOffset.{StoredOffset}
use Rattle.lerc_block.specs.declared.plan.Steps.{Steps}
use Rattle.lerc_block.specs.declared.plan.BlockPlan.{BlockPlan}
use Rattle.lerc_block.specs.declared.plan.Form.{Form}
use Rattle.lerc_block.specs.declared.plan.Form.TheVariants as coded
use Rattle.lerc_block.specs.Block.{flag_at, tile_limit}
use Rattle.lerc_block.specs.Plan.{offset_value}

-- the flag of a tile that has n valid pixels; more than 256 are 8
unfoldable pub read_flag : List ℕ → ℕ → ℕ → ℕ → Res ℕ
read_flag s at x n = do
  _ ← require (leb n tile_limit) 8
  flag_at s at x

-- no step from an offset can fail to be stored (step-fits): the kind is no kind of integers, or it holds the maximum
unfoldable pub steps_fit : ℕ → ℕ → ℕ → Bool
steps_fit kind error top = leb 6 kind || (not (negative error) && accepts (stored kind top))

-- the offset can be stored
abbrev pub OffsetHeld : ℕ → StoredOffset → Type 0
OffsetHeld kind o = accepts (stored kind (offset_value o)) ≡ true

-- what the form of every plan keeps to (plan-sound), for n words: it lies in s, and an offset can be stored
abbrev pub Sound : List ℕ → ℕ → ℕ → Form → Type 0
Sound s kind n (coded.Raw at) = at + n * type_size kind ≤ length s
Sound s kind n coded.Zero = Unit {0}
Sound s kind n (coded.Level o) = OffsetHeld kind o
Sound s kind n (coded.Stepped steps) = OffsetHeld kind steps.offset × PlanKept (length s) steps.counts

-- the plan that a usual head tells: n numbers of `bits` bits from `at` to `end`
abbrev pub head_steps : Head → Steps
head_steps h =
    record {
      offset = h.offset;
      counts = record { n = h.n; bits = h.bits; entries = 0; table = h.at; at = h.at; width = h.bits; next = h.end };
    }

abbrev pub head_plan : Head → BlockPlan
head_plan h = record { form = coded.Stepped (head_steps h); next = h.end }
