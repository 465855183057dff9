-- The mask as its runs give it, and one byte of it, sought run by run.
-- Assumes nothing.
use Rattle.std.specs.Prelude.{ℕ, zero, suc, ◌+◌, ◌-◌, ◌≤◌, ◌≡◌, cond, ◌&&◌, List, [], ◌++◌, length, get_or, drop, leb, ltb}
use Rattle.lerc_mask.specs.declared.seek.RunPlace.{RunPlace}
use Rattle.lerc_mask.specs.declared.seek.RunFound.{RunFound}
use Rattle.lerc_mask.specs.declared.seek.Sought.{Sought}
use Rattle.lerc_mask.specs.declared.seek.Sought.TheVariants.{Byte, Behind, Nowhere}
use Rattle.lerc_mask.specs.Mask.{step_at, on_step}

-- ---- what the runs give

-- the bytes that runs give from `at` on, `made` having come before, as far as they are right; f bounds the steps
unfoldable pub given_from : ℕ → List ℕ → ℕ → ℕ → ℕ → List ℕ
given_from want s zero at made = []
given_from want s (suc f) at made = on_step s at (step_at s at (want - made)) [] [] (λ next out. out ++ given_from want s f next (made + length out))

-- all that a section gives
abbrev pub given : ℕ → List ℕ → List ℕ
given want s = given_from want s (length s) 0 0

-- ---- one byte of it

abbrev pub front : RunPlace
front = record { at = 0; made = 0 }

-- a place to begin at: one that neither byte i nor the whole mask comes before
unfoldable pub begin_at : ℕ → RunPlace → ℕ → RunPlace
begin_at want p i = cond (leb p.made i && leb p.made want) p front

-- one run, for the byte that is k bytes behind its first
unfoldable pub seek_on : List ℕ → ℕ → ℕ → ℕ → Sought
seek_on s at left k =
    on_step s at (step_at s at left) Nowhere Nowhere (λ next out. cond (ltb k (length out)) (Byte (get_or out k 0)) (Behind next (length out)))

-- go on behind a run that gives only bytes before the one sought
abbrev pub on_sought : RunPlace → Sought → (RunPlace → RunFound) → RunFound
on_sought p (Byte b) go = record { place = p; byte = b }
on_sought p (Behind next n) go = go (record { at = next; made = p.made + n })
on_sought p Nowhere go = record { place = p; byte = 0 }

-- from a place on, run by run, to the one that gives byte i; 0 where none does; f bounds the steps
unfoldable pub sought_from : ℕ → List ℕ → ℕ → ℕ → RunPlace → RunFound
sought_from want s i zero p = record { place = p; byte = 0 }
sought_from want s i (suc f) p = on_sought p (seek_on s p.at (want - p.made) (i - p.made)) (sought_from want s i f)

-- a run takes at least two bytes of the section
abbrev pub sought : ℕ → List ℕ → RunPlace → ℕ → RunFound
sought want s from i = sought_from want s i (length s) (begin_at want from i)

-- a place on the way: the runs from it on give what of the mask comes behind it
pub record OnWay (want : ℕ) (s : List ℕ) (p : RunPlace) : Type 0 where
  pub steps : ℕ
  pub enough : length s ≤ p.at + steps
  pub same : given_from want s steps p.at p.made ≡ drop p.made (given want s)
