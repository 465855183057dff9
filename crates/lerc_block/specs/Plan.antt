-- The plan of a block: how its words are coded, where they stand and where it ends. All that stands in front of the words is
-- read and judged here, front to back; the words are then what the plan leads to (block-planned).
-- Assumes nothing.
use Rattle.std.specs.Prelude.{ℕ, ◌+◌, ◌*◌, ◌/◌, ◌%◌, cond, List, length, replicate, leb, eqb}
use Rattle.lerc_words.specs.Res.{Res, ok, ◌>>=◌, require, word_at, little, each}
use Rattle.lerc_words.specs.Lists.{tabulate}
use Rattle.lerc_numeric.specs.Numeric.{finite}
use Rattle.lerc_numeric.specs.Kinds.{type_size, value_of}
use Rattle.lerc_numeric.specs.Steps.{step_of}
use Rattle.lerc_samples.specs.Samples.{stored, offset_kind}
use Rattle.lerc_bits.specs.Bits.{plan, unpacked}
use Rattle.lerc_block.specs.declared.plan.StoredOffset.{StoredOffset}
use Rattle.lerc_block.specs.declared.plan.Steps.{Steps}
use Rattle.lerc_block.specs.declared.plan.Form.{Form}
use Rattle.lerc_block.specs.declared.plan.Form.TheVariants as coded
use Rattle.lerc_block.specs.declared.plan.BlockPlan.{BlockPlan}
use Rattle.lerc_block.specs.Block.{Block, flag_at, tile_limit}

-- ---- what stands in front

-- "0 raw words of valid pixels", which must all fit (1)
unfoldable pub raw_plan : ℕ → ℕ → ℕ → ℕ → Res BlockPlan
raw_plan len at kind n = do
  _ ← require (leb (at + n * type_size kind) len) 1
  ok (record { form = coded.Raw at; next = at + n * type_size kind })

-- the word of a kind at `at`; "A non-finite offset is 8."
unfoldable pub finite_word : ℕ → List ℕ → ℕ → Res ℕ
finite_word kind s at = do
  w ← word_at (type_size kind) s at
  _ ← require (finite (value_of kind w)) 8
  ok w

-- "1 offset and packed counts": the counts at `at`; how many there are is not compared here
unfoldable pub stepped_plan : List ℕ → ℕ → StoredOffset → Res BlockPlan
stepped_plan s at offset = do
  p ← plan s at
  ok (record { form = coded.Stepped (record { offset = offset; counts = p }); next = p.next })

-- "3 one offset; 1 offset and packed counts": the offset is of the kind that the table names
unfoldable pub offset_plan : List ℕ → ℕ → ℕ → ℕ → Res BlockPlan
offset_plan s at kind flag = do
  k ← offset_kind kind (flag / 64)
  w ← finite_word k s at
  let o : StoredOffset = record { word = w; kind = k }
  let to = at + type_size k
  cond (eqb (flag % 4) 3) (ok (record { form = coded.Level o; next = to })) (stepped_plan s to o)

-- "Low two bits: 0 raw words of valid pixels; 2 zero words; 3 one offset; 1 offset and packed counts."
unfoldable pub form_plan : List ℕ → ℕ → ℕ → ℕ → ℕ → Res BlockPlan
form_plan s at kind flag n =
    cond (eqb (flag % 4) 0) (raw_plan (length s) at kind n)
    (cond (eqb (flag % 4) 2) (ok (record { form = coded.Zero; next = at }))
    (offset_plan s at kind flag))

-- the plan of the block at `at`, of a tile that begins in column x and has n valid pixels
unfoldable pub plan_at : List ℕ → ℕ → ℕ → ℕ → ℕ → Res BlockPlan
plan_at s at kind x n = do
  flag ← flag_at s at x
  form_plan s (at + 1) kind flag n

-- the same where there are at most 256 of them; more are 8
unfoldable pub plan_says : List ℕ → ℕ → ℕ → ℕ → ℕ → Res BlockPlan
plan_says s at kind x n = do
  _ ← require (leb n tile_limit) 8
  plan_at s at kind x n

-- ---- what it leads to

-- an offset as a binary64
abbrev pub offset_value : StoredOffset → ℕ
offset_value o = value_of o.kind o.word

-- "Counts must number the tile's valid pixels, else 8, before any value is converted."
unfoldable pub stepped_words : List ℕ → ℕ → ℕ → ℕ → ℕ → Steps → Res (List ℕ)
stepped_words s kind error top n steps = do
  _ ← require (eqb steps.counts.n n) 8
  c ← unpacked s steps.counts
  each (λ q. stored kind (step_of (offset_value steps.offset) error top q)) c.values

-- the n words of each form
unfoldable pub form_words : List ℕ → ℕ → ℕ → ℕ → ℕ → Form → Res (List ℕ)
form_words s kind error top n (coded.Raw at) = ok (tabulate n (λ k. little (type_size kind) s (at + k * type_size kind)))
form_words s kind error top n coded.Zero = ok (replicate n 0)
form_words s kind error top n (coded.Level o) = each (stored kind) (replicate n (offset_value o))
form_words s kind error top n (coded.Stepped steps) = stepped_words s kind error top n steps

-- words, and where the next block begins
abbrev pub ended : ℕ → Res (List ℕ) → Res Block
ended next m = m >>= λ words. ok (record { words = words; next = next })

-- the block of a plan
unfoldable pub planned_block : List ℕ → ℕ → ℕ → ℕ → ℕ → BlockPlan → Res Block
planned_block s kind error top n p = ended p.next (form_words s kind error top n p.form)

-- where the next block begins
abbrev pub plan_end : Res BlockPlan → Res ℕ
plan_end m = m >>= λ p. ok p.next
