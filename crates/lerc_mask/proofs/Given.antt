-- What the runs of a section give, and one byte of it from a place on.
-- Assumes nothing.
use mathlib.Core.Path.{◌≡◌, refl, sym, ap, ◌∙◌}
use mathlib.Core.Bool.{cond, ◌&&◌}
use mathlib.Core.List.{List, [], ◌++◌, append_assoc, append-nil}
use Prim.Native.Nat.{ℕ, zero, suc, ◌+◌, ◌-◌, ◌≤◌, ◌<◌}
use native.Mathlib.Omega.{arith}
use borrow.Author.Tests.{ltb-true, ltb-false, leb-true}
use lib.Dec.{leb, ltb}
use lib.ListN.{length, get_or, take, drop, replicate, length-append, get_or-append}
use lib.Seq.{get_or-drop, drop-drop, drop-append-add}
use Rattle.lerc_words.specs.Res.{ok, fail, refuse}
use Rattle.lerc_words.proofs.Binding.{cond-elim, and_is}
use Rattle.lerc_words.proofs.Little.{Bytes}
use Rattle.lerc_mask.specs.declared.Step.{Step}
use Rattle.lerc_mask.specs.declared.Step.TheVariants.{Copy, Repeat, End, Wrong}
use Rattle.lerc_mask.specs.declared.seek.RunPlace.{RunPlace}
use Rattle.lerc_mask.specs.declared.seek.RunFound.{RunFound}
use Rattle.lerc_mask.specs.declared.seek.Sought.TheVariants.{Byte, Behind, Nowhere}
use Rattle.lerc_mask.specs.Mask.{step_at, on_step, runs, mask_runs}
use Rattle.lerc_mask.specs.Seek.{given_from, given, front, begin_at, seek_on, on_sought, sought_from, sought, OnWay}
use Rattle.lerc_mask.proofs.Steps.{Holds, step-holds, step-short}

-- ---- a section that is accepted gives its mask

module _ (want : ℕ) (s : List ℕ) (f : ℕ) (made m : List ℕ) where
  given-on : (next : ℕ) (out : List ℕ) → m ≡ (made ++ out) ++ given_from want s f next (length (made ++ out)) → m ≡ made ++ (out ++ given_from want s f next (length made + length out))
  given-on next out e = e ∙ ap (λ (n : ℕ). (made ++ out) ++ given_from want s f next n) (length-append made out) ∙ append_assoc made out (given_from want s f next (length made + length out))

  given-step : (at : ℕ) → ((next : ℕ) (out : List ℕ) → runs want s f next (made ++ out) ≡ ok m → m ≡ (made ++ out) ++ given_from want s f next (length (made ++ out)))
      → (t : Step) → on_step s at t (ok made) (fail (refuse 6)) (λ next out. runs want s f next (made ++ out)) ≡ ok m
      → m ≡ made ++ on_step s at t [] [] (λ next out. out ++ given_from want s f next (length made + length out))
  given-step at h (Copy n) e = given-on _ _ (h _ _ e)
  given-step at h (Repeat n) e = given-on _ _ (h _ _ e)
  given-step at h End e = let z : m ≡ made = cc in z ∙ sym (append-nil made)
  given-step at h Wrong e = absurd (let z : ◌≡◌ {A = ℕ} 0 1 = cc in omega arith)

runs-given : (want : ℕ) (s : List ℕ) (f at : ℕ) (made m : List ℕ) → runs want s f at made ≡ ok m → m ≡ made ++ given_from want s f at (length made)
unfolding runs given_from
runs-given want s zero at made m e = absurd (let z : ◌≡◌ {A = ℕ} 0 1 = cc in omega arith)
runs-given want s (suc f) at made m e =
    given-step want s f made m at (λ next out. runs-given want s f next (made ++ out) m) (step_at s at (want - length made)) e

pub given-runs : (want : ℕ) (s m : List ℕ) → mask_runs want s ≡ ok m → given want s ≡ m
given-runs want s m e = sym (runs-given want s (length s) 0 [] m e)

-- ---- a byte of what is given

-- what is found is byte i, and its place is on the way
pub record Finds (want : ℕ) (s : List ℕ) (i : ℕ) (r : RunFound) : Type 0 where
  pub byte : r.byte ≡ get_or (given want s) i 0
  pub way : OnWay want s r.place

pub way-front : (want : ℕ) (s : List ℕ) → OnWay want s front
way-front want s = record { steps = length s; enough = omega arith; same = refl }

-- behind the section nothing is given
past : (want : ℕ) (s : List ℕ) (f at made : ℕ) → length s ≤ at → given_from want s f at made ≡ []
unfolding given_from
past want s zero at made l = refl
past want s (suc f) at made l = rw (step-short s at (want - made) (omega arith))

module _ (want : ℕ) (s : List ℕ) (i : ℕ) (p : RunPlace) (before : p.made ≤ i) where
  -- byte i, counted from the place on
  rest : get_or (drop p.made (given want s)) (i - p.made) 0 ≡ get_or (given want s) i 0
  rest = let z : p.made + (i - p.made) ≡ i = omega arith in get_or-drop p.made (given want s) (i - p.made) 0 ∙ ap (λ (k : ℕ). get_or (given want s) k 0) z

  finds-none : OnWay want s p → [] ≡ drop p.made (given want s) → Finds want s i (record { place = p; byte = 0 })
  finds-none w e = record { byte = ap (λ (l : List ℕ). get_or l (i - p.made) 0) e ∙ rest; way = w }

  module _ (f g : ℕ) (w : OnWay want s p) (further : (q : RunPlace) → length s ≤ q.at + f → q.made ≤ i → OnWay want s q → Finds want s i (sought_from want s i f q))
      (enough : length s ≤ p.at + suc f) (more : length s ≤ p.at + suc g) where
    -- a run that gives `out`, and ends at `next`
    finds-run : (next : ℕ) (out : List ℕ) → p.at < next → out ++ given_from want s g next (p.made + length out) ≡ drop p.made (given want s)
        → Finds want s i (on_sought p (cond (ltb (i - p.made) (length out)) (Byte (get_or out (i - p.made) 0)) (Behind next (length out))) (sought_from want s i f))
    finds-run next out forth e =
        cond-elim (λ r. Finds want s i (on_sought p r (sought_from want s i f))) (ltb (i - p.made) (length out))
        (λ t. record { byte = sym (get_or-append out _ 0 (i - p.made) (ltb-true _ _ t)) ∙ ap (λ (l : List ℕ). get_or l (i - p.made) 0) e ∙ rest; way = w })
        (λ t. let l = ltb-false (i - p.made) (length out) t in further (record { at = next; made = p.made + length out }) (omega arith) (omega arith)
        (record { steps = g; enough = omega arith; same = behind }))
      where
        behind : given_from want s g next (p.made + length out) ≡ drop (p.made + length out) (given want s)
        behind =
            let z : length out + 0 ≡ length out = omega arith in
            sym (drop-append-add out _ 0) ∙ rw (z) (ap (drop (length out)) e ∙ drop-drop (length out) p.made (given want s))

    finds-step : (t : Step) → Holds (Bytes s) (length s) p.at (want - p.made) t
        → on_step s p.at t [] [] (λ next out. out ++ given_from want s g next (p.made + length out)) ≡ drop p.made (given want s)
        → Finds want s i (on_sought p (on_step s p.at t Nowhere Nowhere (λ next out. cond (ltb (i - p.made) (length out)) (Byte (get_or out (i - p.made) 0)) (Behind next (length out)))) (sought_from want s i f))
    finds-step (Copy n) h e = finds-run (p.at + 2 + n) (take n (drop (p.at + 2) s)) (omega arith) e
    finds-step (Repeat n) h e = finds-run (p.at + 3) (replicate n (get_or s (p.at + 2) 0)) (omega arith) e
    finds-step End h e = finds-none w e
    finds-step Wrong h e = finds-none w e

  -- one step more
  finds-more : (f : ℕ) → length s ≤ p.at + suc f → ((q : RunPlace) → length s ≤ q.at + f → q.made ≤ i → OnWay want s q → Finds want s i (sought_from want s i f q))
      → (w : OnWay want s p) → Finds want s i (on_sought p (seek_on s p.at (want - p.made) (i - p.made)) (sought_from want s i f))
  unfolding seek_on given_from
  finds-more f l further w = go w.steps refl
    where
      go : (g : ℕ) → w.steps ≡ g → Finds want s i (on_sought p (seek_on s p.at (want - p.made) (i - p.made)) (sought_from want s i f))
      go zero q =
          let short = step-short s p.at (want - p.made) (omega (arith, rw (q) at w.enough)) in
          rw (short) (finds-none w (rw (q) at w.same))
      go (suc g) q = finds-step f g w further l (rw (q) at w.enough) (step_at s p.at (want - p.made)) (step-holds s p.at (want - p.made)) (rw (q) at w.same)

finds-from : (want : ℕ) (s : List ℕ) (i f : ℕ) (p : RunPlace) → length s ≤ p.at + f → p.made ≤ i → OnWay want s p → Finds want s i (sought_from want s i f p)
unfolding sought_from
finds-from want s i zero p l before w = finds-none want s i p before w (sym (past want s w.steps p.at p.made (omega arith)) ∙ w.same)
finds-from want s i (suc f) p l before w = finds-more want s i p before f l (finds-from want s i f) w

pub finds : (want : ℕ) (s : List ℕ) (p : RunPlace) (i : ℕ) → OnWay want s p → Finds want s i (sought want s p i)
unfolding begin_at
finds want s p i w =
    cond-elim (λ q. Finds want s i (sought_from want s i (length s) q)) (leb p.made i && leb p.made want)
    (λ t. finds-from want s i (length s) p (omega arith) (leb-true _ _ (and_is (leb p.made i) (leb p.made want) t).0) w)
    (λ t. finds-from want s i (length s) front (omega arith) (omega arith) (way-front want s))
