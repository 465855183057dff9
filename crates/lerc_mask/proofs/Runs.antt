-- The runs of a section: what one gives, and what all of them give.
-- Assumes nothing.
use mathlib.Core.Path.{◌≡◌, refl, sym, ap, ◌∙◌}
use mathlib.Core.Bool.{Bool, true, false}
use mathlib.Core.List.{List, [], ◌++◌}
use Prim.Native.Nat.{ℕ, zero, suc, ◌+◌, ◌-◌, ◌≤◌, ◌<◌}
use native.Mathlib.Omega.{arith}
use borrow.Author.Tests.{le-leb, lt-leb, eqb-true}
use lib.Dec.{eqb}
use lib.ListN.{length, get_or, take, drop, replicate, length-append, length-replicate}
use Rattle.lerc_words.specs.declared.Refusal.{Refusal}
use Rattle.lerc_words.specs.Res.{Res, ok, fail, ◌>>=◌, placed, marked, require, refuse, accepts}
use Rattle.lerc_words.proofs.Binding.{bind_is, require-is, accepts-is, accepts-not}
use Rattle.lerc_words.proofs.Marking.{Bare, marked-ok, marked-no}
use Rattle.lerc_words.proofs.Little.{Bytes}
use Rattle.lerc_mask.specs.declared.Step.{Step}
use Rattle.lerc_mask.specs.declared.Step.TheVariants.{Copy, Repeat, End, Wrong}
use Rattle.lerc_mask.specs.Mask.{valid_below, mask_bytes, step_at, on_step, runs, mask_runs, mask_field, coded, decoded}
use Rattle.lerc_mask.specs.Passes.{StepFits}
use Rattle.lerc_mask.proofs.Steps.{Holds, step-holds, step_fits, length-copied, bytes-part, bytes-repeat, bytes-append}

-- ---- one run: the bytes it gives, and the place behind it

pub record RunsGive (s : List ℕ) (want at : ℕ) (made : List ℕ) (next : ℕ) (out : List ℕ) : Type 0 where
  pub some : 1 ≤ length out
  pub few : length out ≤ want - length made
  pub forth : at < next
  pub inside : next ≤ length s
  pub bytes : Bytes out
  pub onward : (f : ℕ) → runs want s (suc f) at made ≡ runs want s f next (made ++ out)

-- what a run means for all that follows
abbrev pub Means : List ℕ → ℕ → ℕ → List ℕ → Step → Type 0
Means s want at made (Copy n) = RunsGive s want at made (at + 2 + n) (take n (drop (at + 2) s))
Means s want at made (Repeat n) = RunsGive s want at made (at + 3) (replicate n (get_or s (at + 2) 0))
Means s want at made End = ((f : ℕ) → length s ≤ at + f → runs want s f at made ≡ ok made) × (want ≤ length made)
Means s want at made Wrong = (f : ℕ) → runs want s f at made ≡ fail (refuse 6)

module _ (s : List ℕ) (b : Bytes s) (want at : ℕ) (made : List ℕ) where
  means : (t : Step) → step_at s at (want - length made) ≡ t → StepFits (length s) at (want - length made) t → Means s want at made t
  unfolding runs
  means (Copy n) e f =
      let l : length (take n (drop (at + 2) s)) ≡ n = length-copied s (at + 2) n f.1 in
      record { some = omega arith; few = omega arith; forth = omega arith; inside = f.1; bytes = bytes-part s (at + 2) n b; onward = λ g. rw (e) }
  means (Repeat n) e f =
      let l : length (replicate n (get_or s (at + 2) 0)) ≡ n = length-replicate n (get_or s (at + 2) 0) in
      record { some = omega arith; few = omega arith; forth = omega arith; inside = f.1; bytes = bytes-repeat n (get_or s (at + 2) 0) (b (at + 2)); onward = λ g. rw (e) }
  means End e f = (ended, omega arith)
    where
      ended : (g : ℕ) → length s ≤ at + g → runs want s g at made ≡ ok made
      ended zero h = absurd (omega arith)
      ended (suc g) h = rw (e)
  means Wrong e f = wrong
    where
      wrong : (g : ℕ) → runs want s g at made ≡ fail (refuse 6)
      wrong zero = refl
      wrong (suc g) = rw (e)

  pub step-means : Means s want at made (step_at s at (want - length made))
  step-means = means (step_at s at (want - length made)) refl (step_fits s at (want - length made) b)

-- ---- all runs

-- what each run keeps holds of the mask
module _ (s : List ℕ) (want : ℕ) (P : List ℕ → Type 0)
    (keeps : (made out : List ℕ) → P made → length out ≤ want - length made → (Bytes s → Bytes out) → P (made ++ out)) where
  keep-step : (f at : ℕ) (made m : List ℕ) → P made → ((next : ℕ) (out : List ℕ) → P (made ++ out) → runs want s f next (made ++ out) ≡ ok m → P m × (want ≤ length m))
      → (t : Step) → Holds (Bytes s) (length s) at (want - length made) t → on_step s at t (ok made) (fail (refuse 6)) (λ next out. runs want s f next (made ++ out)) ≡ ok m
      → P m × (want ≤ length m)
  keep-step f at made m p h (Copy n) g e =
      h (at + 2 + n) (take n (drop (at + 2) s)) (keeps made (take n (drop (at + 2) s)) p (rw (length-copied s (at + 2) n g.1) g.2) (bytes-part s (at + 2) n)) e
  keep-step f at made m p h (Repeat n) g e =
      let b = get_or s (at + 2) 0 in
      h (at + 3) (replicate n b) (keeps made (replicate n b) p (rw (length-replicate n b) g.2) (λ q. bytes-repeat n b (q (at + 2)))) e
  keep-step f at made m p h End g e = let z : made ≡ m = cc in rw (← z) (p, omega arith)
  keep-step f at made m p h Wrong g e = absurd (let z : ◌≡◌ {A = ℕ} 0 1 = cc in omega arith)

  pub runs-keep : (f at : ℕ) (made m : List ℕ) → P made → runs want s f at made ≡ ok m → P m × (want ≤ length m)
  unfolding runs
  runs-keep zero at made m p e = absurd (let z : ◌≡◌ {A = ℕ} 0 1 = cc in omega arith)
  runs-keep (suc f) at made m p e =
      keep-step f at made m p (λ next out. runs-keep f next (made ++ out) m) (step_at s at (want - length made)) (step-holds s at (want - length made)) e

-- "after exactly the mask length": an accepted section gives it
pub runs-length : (s : List ℕ) (want : ℕ) (m : List ℕ) → mask_runs want s ≡ ok m → length m ≡ want
runs-length s want m e =
    let k = runs-keep s want (λ made. length made ≤ want) (λ made out p l _. rw (length-append) (omega arith)) (length s) 0 [] m (omega arith) e in
    omega arith

pub runs-bytes : (s : List ℕ) → Bytes s → (want : ℕ) (m : List ℕ) → mask_runs want s ≡ ok m → Bytes m
runs-bytes s b want m e = (runs-keep s want Bytes (λ made out p _ q. bytes-append made out p (q b)) (length s) 0 [] m (λ i. omega arith) e).0

-- "Any breach is 6."
six-step : (want : ℕ) (s : List ℕ) (f at : ℕ) (made : List ℕ) (r : Refusal) → ((next : ℕ) (out : List ℕ) → runs want s f next (made ++ out) ≡ fail r → r ≡ refuse 6)
    → (t : Step) → on_step s at t (ok made) (fail (refuse 6)) (λ next out. runs want s f next (made ++ out)) ≡ fail r → r ≡ refuse 6
six-step want s f at made r h (Copy n) e = h (at + 2 + n) (take n (drop (at + 2) s)) e
six-step want s f at made r h (Repeat n) e = h (at + 3) (replicate n (get_or s (at + 2) 0)) e
six-step want s f at made r h End e = absurd (let z : ◌≡◌ {A = ℕ} 0 1 = cc in omega arith)
six-step want s f at made r h Wrong e = cc

pub runs-six : (want : ℕ) (s : List ℕ) (f at : ℕ) (made : List ℕ) (r : Refusal) → runs want s f at made ≡ fail r → r ≡ refuse 6
unfolding runs
runs-six want s zero at made r e = cc
runs-six want s (suc f) at made r e = six-step want s f at made r (λ next out. runs-six want s f next (made ++ out) r) (step_at s at (want - length made)) e

-- ---- a section that is accepted or refused

pub record RunsCoded (s : List ℕ) (pixels valid : ℕ) (m : List ℕ) : Type 0 where
  pub runs : mask_runs (mask_bytes pixels) s ≡ ok m
  pub counts : valid_below pixels m ≡ valid

pub coded-is : (s : List ℕ) (pixels valid : ℕ) (m : List ℕ) → coded s pixels valid ≡ ok m → RunsCoded s pixels valid m
unfolding coded
coded-is s pixels valid m e =
    let p = bind_is (mask_runs (mask_bytes pixels) s) (λ l. require (eqb (valid_below pixels l) valid) 6 >>= λ _. ok l) e in
    let q = bind_is (require (eqb (valid_below pixels p.0) valid) 6) (λ _. ok p.0) p.2 in
    let z : p.0 ≡ m = cc q.2 in
    let c = eqb-true (valid_below pixels p.0) valid (require-is (eqb (valid_below pixels p.0) valid) 6 q.1) in
    record { runs = rw (z) at p.1; counts = rw (z) at c }

pub coded-length : (s : List ℕ) (pixels valid : ℕ) (m : List ℕ) → coded s pixels valid ≡ ok m → length m ≡ mask_bytes pixels
coded-length s pixels valid m e = runs-length s (mask_bytes pixels) m (coded-is s pixels valid m e).runs

pub coded-bytes : (s : List ℕ) (pixels valid : ℕ) (m : List ℕ) → Bytes s → coded s pixels valid ≡ ok m → Bytes m
coded-bytes s pixels valid m b e = runs-bytes s b (mask_bytes pixels) m (coded-is s pixels valid m e).runs

pub coded-six : (s : List ℕ) (pixels valid : ℕ) (r : Refusal) → coded s pixels valid ≡ fail r → r ≡ refuse 6
unfolding coded
coded-six s pixels valid r e = go (mask_runs (mask_bytes pixels) s) refl
  where
    test : (m : List ℕ) (t : Bool) → (require t 6 >>= λ _. ok m) ≡ fail r → r ≡ refuse 6
    test m true d = absurd (let z : ◌≡◌ {A = ℕ} 0 1 = cc in omega arith)
    test m false d = cc

    go : (a : Res (List ℕ)) → mask_runs (mask_bytes pixels) s ≡ a → r ≡ refuse 6
    go (ok m) d = test m (eqb (valid_below pixels m) valid) (rw (d) at e)
    go (fail q) d = let x = rw (d) at e in let y : q ≡ r = cc in sym y ∙ runs-six (mask_bytes pixels) s (length s) 0 [] q d

-- a section tells no place
pub coded-bare : (s : List ℕ) (pixels valid : ℕ) → Bare (coded s pixels valid)
coded-bare s pixels valid = go (coded s pixels valid) refl
  where
    go : (m : Res (List ℕ)) → coded s pixels valid ≡ m → Bare m
    go (ok bytes) e = refl
    go (fail r) e = let d = coded-six s pixels valid r e in rw (d)

-- ---- room

pub decoded-room : (s : List ℕ) (pixels valid room : ℕ) → room < mask_bytes pixels → decoded s pixels valid room ≡ fail (refuse 5)
unfolding decoded
decoded-room s pixels valid room h = rw (lt-leb (mask_bytes pixels) room h)

pub decoded-coded : (s : List ℕ) (pixels valid room : ℕ) → mask_bytes pixels ≤ room → decoded s pixels valid room ≡ marked mask_field (coded s pixels valid)
unfolding decoded
decoded-coded s pixels valid room h = rw (le-leb (mask_bytes pixels) room h)

-- with room, what the first pass answers
pub record RunsDecoded (s : List ℕ) (pixels valid room : ℕ) : Type 0 where
  pub mask : List ℕ
  pub is : decoded s pixels valid room ≡ ok mask
  pub runs : mask_runs (mask_bytes pixels) s ≡ ok mask
  pub size : length mask ≡ mask_bytes pixels

module _ (s : List ℕ) (pixels valid room : ℕ) (h : mask_bytes pixels ≤ room) where
  pub decoded-is : accepts (coded s pixels valid) ≡ true → RunsDecoded s pixels valid room
  decoded-is t =
      let (m, e) = accepts-is (coded s pixels valid) t in
      record {
        mask = m;
        is = decoded-coded s pixels valid room h ∙ marked-ok mask_field e;
        runs = (coded-is s pixels valid m e).runs;
        size = coded-length s pixels valid m e;
      }

  pub decoded-six : accepts (coded s pixels valid) ≡ false → decoded s pixels valid room ≡ fail (placed mask_field (refuse 6))
  decoded-six t =
      let (r, e) = accepts-not (coded s pixels valid) t in
      decoded-coded s pixels valid room h ∙ marked-no mask_field (e ∙ ap fail (coded-six s pixels valid r e))
