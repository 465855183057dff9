-- The words of a block of integers by whole numbers: one step, and all counts at once.
-- Assumes nothing.
use mathlib.Core.Path.{◌≡◌, ◌∙◌, sym, ap}
use mathlib.Core.Bool.{Bool, true, false, cond}
use mathlib.Core.List.{List}
use Prim.Native.Nat.{ℕ, ◌+◌, ◌-◌, ◌*◌, ◌%◌, ◌^◌, ◌≤◌, ◌<◌, min}
use native.Mathlib.Nat.{mul-le-mul, lt_of_lt_of_le, add-mod-mod}
use native.Mathlib.Decide.{dec_lt}
use native.Mathlib.Omega.{arith}
use borrow.Author.Tests.{lt-ltb}
use lib.Bits.{bit_and, and_mask}
use lib.Dec.{ltb, lit≤}
use lib.ListN.{length, get_or, get_or-eq_default}
use lib.Pow.{pow_mono, mod-mod-pow}
use Rattle.lerc_words.specs.Res.{ok, each}
use Rattle.lerc_words.specs.Lists.{tabulate, over}
use Rattle.lerc_words.proofs.Binding.{accepts-is}
use Rattle.lerc_words.proofs.Little.{unit}
use Rattle.lerc_words.proofs.Tables.{tabulate-same}
use Rattle.lerc_numeric.specs.Kinds.{type_size, modulus}
use Rattle.lerc_numeric.specs.Whole.{twice_whole, raised}
use Rattle.lerc_numeric.specs.Steps.{step_of}
use Rattle.lerc_numeric.proofs.Integers.{sizes}
use Rattle.lerc_numeric.proofs.Shift.{mask}
use Rattle.lerc_numeric.proofs.WholeSteps.{whole-step}
use Rattle.lerc_samples.specs.Samples.{stored}
use Rattle.lerc_samples.proofs.Storable.{stored-int, storable-held}
use Rattle.lerc_block.specs.declared.plan.StoredOffset.{StoredOffset}
use Rattle.lerc_block.specs.Plan.{offset_value}
use Rattle.lerc_block.specs.Steps.{step_word, StepsPut, CountsOf}
use Rattle.lerc_block.specs.Check.{OffsetHeld}
use Rattle.lerc_block.proofs.StepWords.{each-table}

-- ---- what fits a u64

pub low-is : (size : ℕ) → size ≤ 4 → (1 * 2 ^ (8 * size)) % 2 ^ 64 ≡ 2 ^ (8 * size)
low-is size h = unit (8 * size) (omega arith)

pub product-fits : (step q : ℕ) → step ≤ 2 ^ 20 → q < 2 ^ 32 → step * q ≤ 2 ^ 52
product-fits step q h l =
    let a : q ≤ 2 ^ 32 = omega arith in
    mul-le-mul h a

-- a word of a kind of integers has at most four bytes
pub four_bytes : (kind : ℕ) → kind < 6 → type_size kind ≤ 4
four_bytes kind h =
    let l : kind < 7 = omega arith in
    rw (sizes kind, lt-ltb kind 7 l) (go (ltb kind 2) (ltb kind 4))
  where
    go : (a b : Bool) → cond a 1 (cond b 2 4) ≤ 4
    go true b = lit≤ tt
    go false true = lit≤ tt
    go false false = lit≤ tt

-- the lowest bytes
pub lowest : (size v : ℕ) → size ≤ 4 → bit_and v ((1 * 2 ^ (8 * size)) % 2 ^ 64 - 1) ≡ v % 2 ^ (8 * size)
lowest size v h = mask v (8 * size) (omega arith)

-- of a summand 32 bits are enough
pub lowest-sum : (size base y : ℕ) → size ≤ 4 → bit_and (base + bit_and y (2 ^ 32 - 1)) ((1 * 2 ^ (8 * size)) % 2 ^ 64 - 1) ≡ (base + y) % 2 ^ (8 * size)
lowest-sum size base y h =
    let bits : 32 - 8 * size + 8 * size ≡ 32 = omega arith in
    rw (and_mask y 32) (lowest size _ h ∙ sym (add-mod-mod base _ _) ∙ rw (rw (bits) at (mod-mod-pow y (32 - 8 * size) (8 * size))) (add-mod-mod base y _))

-- ---- the largest count

-- no entry within is above `most`, and past the end each is 0
pub largest-all : (counts : List ℕ) (most : ℕ) → ((i : ℕ) → i < length counts → get_or counts i 0 ≤ most) → (i : ℕ) → get_or counts i 0 ≤ most
largest-all counts most below i = go (dec_lt i (length counts))
  where
    go : Dec (i < length counts) → get_or counts i 0 ≤ most
    go (yes l) = below i l
    go (no n) = let l : length counts ≤ i = omega arith in rw (get_or-eq_default counts 0 l) (omega arith)

-- where the largest does not pass the maximum, no count does
pub below_last : (base step last most : ℕ) (counts : List ℕ) → ((i : ℕ) → get_or counts i 0 ≤ most) → base + step * most ≤ last → (i : ℕ) → base + step * get_or counts i 0 ≤ last
below_last base step last most counts h l i =
    let s : step ≤ step = omega arith in
    omega (arith, mul-le-mul s (h i))

-- ---- the words

count-lt : (bits : ℕ) (counts : List ℕ) → CountsOf bits counts → (i : ℕ) → get_or counts i 0 < 2 ^ 32
count-lt bits counts few i = lt_of_lt_of_le (few.below i) (pow_mono {j = 32} (omega (arith, few.narrow)))

module _ (kind error top t : ℕ) (o : StoredOffset) (h : kind < 6) (k : o.kind < 6) (half : 0 < twice_whole error) (held : OffsetHeld kind o) (stores : stored kind top ≡ ok t) where
  -- the whole number that count q steps to, clamped
  abbrev reached : ℕ → ℕ
  reached q = min (raised o.kind o.word + twice_whole error * q) (raised kind t)

  word-is : (q : ℕ) → q < 2 ^ 32 → step_word kind error top (offset_value o) q ≡ ok (reached q % modulus kind)
  unfolding step_of
  word-is q l =
      stored-int kind _ h
      ∙ whole-step kind o.kind error o.word top t q k half (storable-held kind (offset_value o) h (accepts-is (stored kind (offset_value o)) held)) (sym (stored-int kind top h) ∙ stores) l

  -- what the code has of the offset, the error, the maximum and the kind
  module _ {base step last size : ℕ} (eb : base ≡ raised o.kind o.word) (es : step ≡ twice_whole error) (el : last ≡ raised kind t) (ez : size ≡ type_size kind)
      (bits : ℕ) (counts : List ℕ) (few : CountsOf bits counts) {old new : List ℕ} where
    pub clamped-put : new ≡ over (tabulate (length counts) (λ i. min (base + step * get_or counts i 0) last % 2 ^ (8 * size))) old
        → StepsPut (each (step_word kind error top (offset_value o)) counts) old new
    clamped-put e =
        record {
          words = tabulate (length counts) (λ i. min (base + step * get_or counts i 0) last % 2 ^ (8 * size));
          is = each-table _ _ counts (λ i l. rw (eb, es, el, ez) (word-is (get_or counts i 0) (count-lt bits counts few i)));
          front = e;
        }

    -- no count passes the maximum
    pub free-put : ((i : ℕ) → base + step * get_or counts i 0 ≤ last) → new ≡ over (tabulate (length counts) (λ i. (base + step * get_or counts i 0) % 2 ^ (8 * size))) old
        → StepsPut (each (step_word kind error top (offset_value o)) counts) old new
    free-put l e = clamped-put (e ∙ ap (λ (ws : List ℕ). over ws old) (tabulate-same (length counts) _ _ (λ i m. ap (λ (v : ℕ). v % 2 ^ (8 * size)) (free i))))
      where
        free : (i : ℕ) → base + step * get_or counts i 0 ≡ min (base + step * get_or counts i 0) last
        free i = omega (arith, l i)
