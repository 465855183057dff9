-- lerc_block.rs: `read_mode`, by two calls of ours. `lerc_block::inspect_block`, for a tile with no valid pixel, gives the plan of
-- a block and asks for no raw word; `lerc_bits::decode_plan` gives the counts of that plan, where it has any. Here: what upstream's
-- function gives, read off the two answers.
-- Assumes nothing.
use Rattle.std.specs.Prelude.{ℕ, ◌+◌, ◌≡◌, Bool, true, false, List}
use Rattle.lerc_words.specs.Res.{Res, ok, fail, accepts}
use Rattle.lerc_numeric.specs.Kinds.{type_size}
use Rattle.lerc_bits.specs.Bits.{Span, counts_by, CountsDecoded}
use Rattle.lerc_block.specs.declared.plan.Form.{Form}
use Rattle.lerc_block.specs.declared.plan.Form.TheVariants as coded
use Rattle.lerc_block.specs.declared.plan.BlockPlan.{BlockPlan}
use Rattle.lerc_block.specs.Plan.{offset_value}
use Rattle.lerc_contracts.specs.Block.{Mode}

-- `Mode`, of a block that begins at `at` and whose plan ends at `next`: raw words follow at their place; counts begin behind
-- the flag and the offset
abbrev pub mode_of_form : ℕ → ℕ → Form → Mode
mode_of_form at next (coded.Raw place) = record { at = place; flag = 0; offset = 0; quant = 0; next = place }
mode_of_form at next coded.Zero = record { at = next; flag = 2; offset = 0; quant = 0; next = next }
mode_of_form at next (coded.Level o) = record { at = next; flag = 3; offset = offset_value o; quant = 0; next = next }
mode_of_form at next (coded.Stepped steps) =
    record { at = next; flag = 1; offset = offset_value steps.offset; quant = at + 1 + type_size steps.offset.kind; next = next }

abbrev pub mode_of : ℕ → BlockPlan → Mode
mode_of at p = mode_of_form at p.next p.form

-- the second call, for a form: the answer, and the array before and after; where there are no counts it is not made
abbrev pub CountsCalled : List ℕ → Form → Res Span → List ℕ → List ℕ → Type 0
CountsCalled s (coded.Raw place) a old new = new ≡ old
CountsCalled s coded.Zero a old new = new ≡ old
CountsCalled s (coded.Level o) a old new = new ≡ old
CountsCalled s (coded.Stepped steps) a old new = CountsDecoded (counts_by s steps.counts) a old new

-- and for the answer of the first
abbrev pub SecondCall : List ℕ → Res BlockPlan → Res Span → List ℕ → List ℕ → Type 0
SecondCall s (ok p) a old new = CountsCalled s p.form a old new
SecondCall s (fail r) a old new = new ≡ old

-- `r.is_ok()`: a plan was given, and its counts, if it has any, are accepted
abbrev pub counts_taken : Res Span → Form → Bool
counts_taken a (coded.Raw place) = true
counts_taken a coded.Zero = true
counts_taken a (coded.Level o) = true
counts_taken a (coded.Stepped steps) = accepts a

abbrev pub mode_taken : Res Span → Res BlockPlan → Bool
mode_taken a (ok p) = counts_taken a p.form
mode_taken a (fail r) = false

-- `final(q).n`: what the second call answers; 0 where it is not made
abbrev pub number_of : Res Span → ℕ
number_of (ok read) = read.n
number_of (fail r) = 0

abbrev pub counts_number : Res Span → Form → ℕ
counts_number a (coded.Raw place) = 0
counts_number a coded.Zero = 0
counts_number a (coded.Level o) = 0
counts_number a (coded.Stepped steps) = number_of a
