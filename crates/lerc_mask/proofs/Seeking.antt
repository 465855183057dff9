-- What `byte_from` has done between two runs: the byte that it seeks is the one sought from here on.
-- Assumes nothing.
use mathlib.Core.Path.{◌≡◌, refl, sym, ap, ◌∙◌}
use mathlib.Core.Bool.{cond, ◌&&◌}
use mathlib.Core.List.{List}
use Prim.{Unit, tt}
use Prim.Native.Nat.{ℕ, zero, suc, ◌+◌, ◌-◌, ◌≤◌, ◌<◌}
use native.Mathlib.Omega.{arith}
use borrow.Author.Tests.{lt-ltb, le-ltb, ltb-false, leb-true}
use lib.Dec.{leb, ltb}
use lib.ListN.{length, get_or, take, drop, replicate, length-replicate, get_or-replicate}
use lib.Seq.{get_or-take, get_or-drop}
use Rattle.lerc_words.proofs.Binding.{cond-elim, and_is}
use Rattle.lerc_words.proofs.Little.{Bytes}
use Rattle.lerc_mask.specs.declared.Step.{Step}
use Rattle.lerc_mask.specs.declared.Step.TheVariants.{Copy, Repeat, End, Wrong}
use Rattle.lerc_mask.specs.declared.seek.RunPlace.{RunPlace}
use Rattle.lerc_mask.specs.declared.seek.Sought.{Sought}
use Rattle.lerc_mask.specs.declared.seek.Sought.TheVariants.{Byte, Behind, Nowhere}
use Rattle.lerc_mask.specs.Mask.{step_at, on_step}
use Rattle.lerc_mask.specs.Seek.{begin_at, seek_on, on_sought, sought_from}
use Rattle.lerc_mask.proofs.Steps.{Holds, step-holds, step-short, length-copied}

-- ---- what one run says

module _ (s : List ℕ) (at left k n : ℕ) where
  pub copy-here : step_at s at left ≡ Copy n → at + 2 + n ≤ length s → k < n → seek_on s at left k ≡ Byte (get_or s (at + 2 + k) 0)
  unfolding seek_on
  copy-here e h l = rw (e, length-copied s (at + 2) n h, lt-ltb k n l) (ap Byte (get_or-take n (drop (at + 2) s) k 0 l ∙ get_or-drop (at + 2) s k 0))

  pub copy-behind : step_at s at left ≡ Copy n → at + 2 + n ≤ length s → n ≤ k → seek_on s at left k ≡ Behind (at + 2 + n) n
  unfolding seek_on
  copy-behind e h l = rw (e, length-copied s (at + 2) n h, le-ltb k n l)

  pub repeat-here : step_at s at left ≡ Repeat n → k < n → seek_on s at left k ≡ Byte (get_or s (at + 2) 0)
  unfolding seek_on
  repeat-here e l = rw (e, length-replicate n (get_or s (at + 2) 0), lt-ltb k n l) (ap Byte (get_or-replicate n k (get_or s (at + 2) 0) 0 l))

  pub repeat-behind : step_at s at left ≡ Repeat n → n ≤ k → seek_on s at left k ≡ Behind (at + 3) n
  unfolding seek_on
  repeat-behind e l = rw (e, length-replicate n (get_or s (at + 2) 0), le-ltb k n l)

module _ (s : List ℕ) (at left k : ℕ) where
  pub seek-end : step_at s at left ≡ End → seek_on s at left k ≡ Nowhere
  unfolding seek_on
  seek-end e = rw (e)

  pub seek-wrong : step_at s at left ≡ Wrong → seek_on s at left k ≡ Nowhere
  unfolding seek_on
  seek-wrong e = rw (e)

-- what a run keeps to: it lies within the section, and what it gives within the mask and before the byte sought
abbrev Fits : ℕ → ℕ → ℕ → ℕ → Sought → Type 0
Fits len at left k (Byte b) = Unit
Fits len at left k (Behind next n) = (at < next) × (next ≤ len) × (n ≤ left) × (n ≤ k)
Fits len at left k Nowhere = Unit

module _ (s : List ℕ) (at left k : ℕ) where
  run_fits : (next : ℕ) (out : List ℕ) → at < next → next ≤ length s → length out ≤ left
      → Fits (length s) at left k (cond (ltb k (length out)) (Byte (get_or out k 0)) (Behind next (length out)))
  run_fits next out forth inside few =
      cond-elim (Fits (length s) at left k) (ltb k (length out)) (λ t. tt) (λ t. (forth, inside, few, ltb-false k (length out) t))

  step-seeks : (t : Step) → Holds (Bytes s) (length s) at left t
      → Fits (length s) at left k (on_step s at t Nowhere Nowhere (λ next out. cond (ltb k (length out)) (Byte (get_or out k 0)) (Behind next (length out))))
  step-seeks (Copy n) h = run_fits (at + 2 + n) (take n (drop (at + 2) s)) (omega arith) h.1 (rw (length-copied s (at + 2) n h.1) h.2)
  step-seeks (Repeat n) h = run_fits (at + 3) (replicate n (get_or s (at + 2) 0)) (omega arith) h.1 (rw (length-replicate n (get_or s (at + 2) 0)) h.2)
  step-seeks End h = tt
  step-seeks Wrong h = tt

  seek-fits : Fits (length s) at left k (seek_on s at left k)
  unfolding seek_on
  seek-fits = step-seeks (step_at s at left) (step-holds s at left)

-- ---- between two runs

-- from `start` on; the byte that is sought from there is the one sought from p on
pub record Seeking (s : List ℕ) (want i : ℕ) (start p : RunPlace) : Type 0 where
  pub steps : ℕ
  pub enough : length s ≤ p.at + steps
  pub before : p.made ≤ i
  pub few : p.made ≤ want
  pub same : sought_from want s i (length s) start ≡ sought_from want s i steps p

pub seeking-start : (s : List ℕ) (want i : ℕ) (from : RunPlace) → Seeking s want i (begin_at want from i) (begin_at want from i)
unfolding begin_at
seeking-start s want i from =
    cond-elim (λ (q : RunPlace). Seeking s want i q q) (leb from.made i && leb from.made want)
    (λ t. let (a, b) = and_is (leb from.made i) (leb from.made want) t in record { steps = length s; enough = omega arith; before = leb-true _ _ a; few = leb-true _ _ b; same = refl })
    (λ t. record { steps = length s; enough = omega arith; before = omega arith; few = omega arith; same = refl })

-- what a run says is said of all
abbrev pub Said : List ℕ → ℕ → ℕ → RunPlace → RunPlace → Sought → Type 0
Said s want i start p (Byte b) = record { place = p; byte = b } ≡ sought_from want s i (length s) start
Said s want i start p (Behind next n) = Seeking s want i start (record { at = next; made = p.made + n }) × (p.at < next) × (next ≤ length s)
Said s want i start p Nowhere = record { place = p; byte = 0 } ≡ sought_from want s i (length s) start

module _ {s : List ℕ} {want i : ℕ} {start p : RunPlace} (w : Seeking s want i start p) where
  -- the place has a step, where the steps are enough
  one-step : (g : ℕ) → length s ≤ p.at + g
      → (f : ℕ) × (length s ≤ p.at + suc f) × (sought_from want s i g p ≡ on_sought p (seek_on s p.at (want - p.made) (i - p.made)) (sought_from want s i f))
  unfolding sought_from seek_on
  one-step zero l = (0, omega arith, rw (step-short s p.at (want - p.made) (omega arith)))
  one-step (suc f) l = (f, l, refl)

  said-by : (r : Sought) → seek_on s p.at (want - p.made) (i - p.made) ≡ r → Fits (length s) p.at (want - p.made) (i - p.made) r → Said s want i start p r
  said-by r e = go r (let (f, l, q) = one-step w.steps w.enough in (f, l, w.same ∙ q ∙ ap (λ (x : Sought). on_sought p x (sought_from want s i f)) e))
    where
      go : (r : Sought) → (f : ℕ) × (length s ≤ p.at + suc f) × (sought_from want s i (length s) start ≡ on_sought p r (sought_from want s i f))
          → Fits (length s) p.at (want - p.made) (i - p.made) r → Said s want i start p r
      go (Byte b) (f, l, q) fits = sym q
      go (Behind next n) (f, l, q) fits =
          (record { steps = f; enough = omega arith; before = omega (arith, w.before); few = omega (arith, w.few); same = q }, fits.0, fits.1)
      go Nowhere (f, l, q) fits = sym q

  pub seeking-said : {r : Sought} → r ≡ seek_on s p.at (want - p.made) (i - p.made) → Said s want i start p r
  seeking-said {r} e = said-by r (sym e) (rw (e) (seek-fits s p.at (want - p.made) (i - p.made)))
