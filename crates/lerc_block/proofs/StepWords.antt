-- Packed counts as words: what was decoded, what was converted, and the words they make.
-- Assumes nothing.
use mathlib.Core.Path.{◌≡◌, refl, sym, ap, ◌∙◌}
use mathlib.Core.Bool.{Bool, true, false, cond}
use mathlib.Core.List.{List, [], ◌∷◌}
use Prim.Native.Nat.{ℕ, suc, ◌≤◌, ◌<◌}
use native.Mathlib.Omega.{arith}
use borrow.Author.Tests.{eq-eqb, ne_eqb}
use lib.ListN.{length, get_or, take, drop, length-append}
use lib.Dec.{eqb}
use lib.Seq.{take_at}
use Rattle.lerc_words.specs.declared.Refusal.{Refusal}
use Rattle.lerc_words.specs.Res.{Res, ok, fail, ◌>>=◌, refuse, each}
use Rattle.lerc_words.specs.Lists.{from, tabulate, over}
use Rattle.lerc_words.proofs.Binding.{ok-is, each-length}
use Rattle.lerc_words.proofs.Tables.{from-shift}
use Rattle.lerc_bits.specs.Bits.{Counts, unpacked, PlanKept}
use Rattle.lerc_bits.specs.Unpacking.{value_bits}
use Rattle.lerc_bits.proofs.Returns.{CountsGiven}
use Rattle.lerc_bits.proofs.Values.{unpacked-is, unpacked-bits}
use Rattle.lerc_block.specs.declared.plan.Steps.{Steps}
use Rattle.lerc_block.specs.Plan.{offset_value, stepped_words}
use Rattle.lerc_block.specs.Steps.{step_word, BlockConverted, StepsPut, StepsTried, CountsOf}

-- ---- words that were converted

pub converted-all : {m : Res (List ℕ)} (front : List ℕ) {next : ℕ} {old new : List ℕ} → m ≡ ok front → new ≡ over front old → BlockConverted m next (ok next) old new
converted-all front e d = record { says = rw e; words = λ ws f. let z : front ≡ ws = ok-is (sym e ∙ f) in rw (← z) d }

pub converted-no : {m : Res (List ℕ)} {r : Res ℕ} {why : Refusal} {next : ℕ} {old new : List ℕ} → r ≡ fail why → m ≡ fail why → BlockConverted m next r old new
converted-no d e = record { says = rw (d, e); words = λ ws f. absurd (let z : ◌≡◌ {A = ℕ} 0 1 = cc in omega arith) }

pub converted-fails : {m : Res (List ℕ)} {next : ℕ} {r : Res ℕ} {q : Refusal} {old new : List ℕ} → BlockConverted m next r old new → r ≡ fail q → m ≡ fail q
converted-fails {m} {next} {r} {q} c e = go m (sym c.says ∙ e)
  where
    go : (m : Res (List ℕ)) → (m >>= λ words. ok next) ≡ fail q → m ≡ fail q
    go (ok ws) g = absurd (let z : ◌≡◌ {A = ℕ} 0 1 = cc in omega arith)
    go (fail p) g = let z : p ≡ q = cc in ap fail z

-- all words in front of an array
pub converted-is : {m : Res (List ℕ)} {next end : ℕ} {r : Res ℕ} {old new : List ℕ} → BlockConverted m next r old new → r ≡ ok end → StepsPut m old new
converted-is {m} {next} {end} {r} {old} {new} c e = go m (sym c.says ∙ e) c.words
  where
    go : (m : Res (List ℕ)) → (m >>= λ words. ok next) ≡ ok end → ((front : List ℕ) → m ≡ ok front → new ≡ over front old) → StepsPut m old new
    go (ok ws) g f = record { words = ws; is = refl; front = f ws refl }
    go (fail p) g f = absurd (let z : ◌≡◌ {A = ℕ} 0 1 = cc in omega arith)

-- as many as there were counts, and in front
module _ (f : ℕ → Res ℕ) (counts : List ℕ) {old new : List ℕ} (w : StepsPut (each f counts) old new) where
  pub put-long : length w.words ≡ length counts
  put-long = each-length f counts w.is

  pub put_front : take (length counts) new ≡ w.words
  put_front = rw w.front (take_at w.words (drop (length w.words) old) (length counts) put-long)

-- nothing was written, or all was
pub tried-none : {m : Res (List ℕ)} {old : List ℕ} → StepsTried m false old old
tried-none = record { put = λ e. absurd (let z : ◌≡◌ {A = ℕ} 0 1 = ap (λ (b : Bool). cond b 1 0) e in omega arith); left = λ e. refl }

pub tried-all : {m : Res (List ℕ)} {old new : List ℕ} → StepsPut m old new → StepsTried m true old new
tried-all p = record { put = λ e. p; left = λ e. absurd (let z : ◌≡◌ {A = ℕ} 1 0 = ap (λ (b : Bool). cond b 1 0) e in omega arith) }

-- where each is known, all are
pub each-table : (f : ℕ → Res ℕ) (g : ℕ → ℕ) (xs : List ℕ) → ((k : ℕ) → k < length xs → f (get_or xs k 0) ≡ ok (g k)) → each f xs ≡ ok (tabulate (length xs) g)
unfolding each from
each-table f g [] h = refl
each-table f g (x ∷ xs) h =
    let first : f x ≡ ok (g 0) = h 0 (omega arith) in
    let rest = each-table f (λ k. g (suc k)) xs (λ k l. h (suc k) (omega arith)) in
    rw (first, rest) (ap (λ (l : List ℕ). ok (g 0 ∷ l)) (sym (from-shift (length xs) 0 g)))

-- ---- the words of a plan's steps

module _ (s : List ℕ) (kind error top n : ℕ) (steps : Steps) where
  pub steps-other : (steps.counts.n ≡ n → ⊥) → stepped_words s kind error top n steps ≡ fail (refuse 8)
  unfolding stepped_words
  steps-other d = rw (ne_eqb _ _ d)

  module _ (d : steps.counts.n ≡ n) where
    pub steps-no : {r : Refusal} → unpacked s steps.counts ≡ fail r → stepped_words s kind error top n steps ≡ fail r
    unfolding stepped_words
    steps-no e = rw (eq-eqb _ _ d, e)

    pub steps-by : {c : Counts} → unpacked s steps.counts ≡ ok c → stepped_words s kind error top n steps ≡ each (step_word kind error top (offset_value steps.offset)) c.values
    unfolding stepped_words
    steps-by e = rw (eq-eqb _ _ d, e)

    -- n counts in front of an array
    module _ {many next : ℕ} {old now : List ℕ} (t : CountsGiven (unpacked s steps.counts) many next old now) where
      counts-many : length t.values ≡ n
      counts-many = (unpacked-is s steps.counts t.reads).0 ∙ d

      pub counts-room : n ≤ length now
      counts-room = rw (t.left, length-append) (omega (arith, counts-many))

      counts-front : take n now ≡ t.values
      counts-front = rw t.left (take_at t.values (drop (length t.values) old) n counts-many)

      -- each as wide as the plan says
      pub counts-few : {len : ℕ} → PlanKept len steps.counts → CountsOf (value_bits steps.counts) (take n now)
      counts-few kept = record { narrow = width (eqb steps.counts.entries 0); below = λ k. rw (counts-front) (unpacked-bits s steps.counts t.reads k) }
        where
          width : (b : Bool) → cond b steps.counts.width steps.counts.bits ≤ 31
          width true = kept.slim
          width false = kept.narrow

      -- from an offset, which is the plan's by whatever name
      module _ {offset : ℕ} (z : offset ≡ offset_value steps.offset) where
        pub steps-each : stepped_words s kind error top n steps ≡ each (step_word kind error top offset) (take n now)
        steps-each = rw (counts-front, z) (steps-by t.reads)
