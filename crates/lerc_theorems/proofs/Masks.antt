-- When the runs of a mask are refused: the table holds exactly.
-- Assumes nothing.
use mathlib.Core.Path.{◌≡◌, ◌∙◌, refl}
use mathlib.Core.Logic.{◌≢◌}
use mathlib.Core.Bool.{Bool, true, false, cond, ◌&&◌}
use mathlib.Core.List.{List, [], ◌++◌}
use Prim.Native.Nat.{ℕ, zero, suc, ◌+◌, ◌-◌, ◌≤◌, ◌<◌}
use native.Mathlib.Omega.{arith}
use lib.ListN.{length, get_or, take, drop, replicate}
use lib.Dec.{leb, ltb, eqb}
use borrow.Author.Tests.{ltb-true, ltb-false, lt-ltb, le-ltb, leb-true, leb-false, le-leb, lt-leb, eqb-true, eqb-false, eq-eqb, ne_eqb}
use Rattle.lerc_words.specs.Res.{Res, ok, fail, refuse, little}
use Rattle.lerc_words.proofs.Binding.{and_is}
use Rattle.lerc_mask.specs.Mask.{valid_below, mask_bytes, copy_at, repeat_at, end_at, signed_at, step_at, on_step, runs, mask_runs, coded}
use Rattle.lerc_theorems.specs.MaskTable.{StepWrong, run-cut, run_none, copy-cut, copy-long, repeat-cut, repeat-long, end-inside, end_short, CopyRight, RepeatRight, Reached, begun, copied, repeated, CodedWrong, run-wrong, count-wrong}
use Rattle.lerc_theorems.proofs.Demands.{demand, reading, not-refused, and_second}
use Rattle.lerc_theorems.proofs.Wrong.{either}

-- ---- one run

-- a function of a choice
choose : {S B P : Type 0} (F : S → B) {b : B} (t : Bool) (x y : S) → F (cond t x y) ≡ b → (t ≡ true → F x ≡ b → P) → (t ≡ false → F y ≡ b → P) → P
choose F true x y e f g = f refl e
choose F false x y e f g = g refl e

module _ (want : ℕ) (s : List ℕ) (at : ℕ) (made : List ℕ) (f : ℕ) where
  -- a step is wrong, or leads on
  step-cases : {P : Type 0} → runs want s (suc f) at made ≡ fail (refuse 6) → (StepWrong s at (want - length made) → P)
      → (CopyRight s at (want - length made) → runs want s f (at + 2 + little 2 s at) (made ++ take (little 2 s at) (drop (at + 2) s)) ≡ fail (refuse 6) → P)
      → (RepeatRight s at (want - length made) → runs want s f (at + 3) (made ++ replicate (65536 - little 2 s at) (get_or s (at + 2) 0)) ≡ fail (refuse 6) → P) → P
  unfolding runs step_at signed_at copy_at repeat_at end_at
  step-cases {P} e wrong copy again =
      let n = little 2 s at in
      let left = want - length made in
      let go : ℕ → List ℕ → Res (List ℕ) = λ next out. runs want s f next (made ++ out) in
      choose (λ t. on_step s at t (ok made) (fail (refuse 6)) go) (leb (at + 2) (length s)) _ _ e (λ t e. let l = leb-true (at + 2) (length s) t in
      choose (λ t. on_step s at t (ok made) (fail (refuse 6)) go) (eqb n 32768) _ _ e
      -- the end
      (λ z e. choose (λ t. on_step s at t (ok made) (fail (refuse 6)) go) (eqb (at + 2) (length s) && eqb left 0) _ _ e (λ t e. not-refused e) (λ t e.
      let k = eqb-true n 32768 z in
      either (eqb (at + 2) (length s)) (eqb left 0) (λ u. wrong (end-inside l k (eqb-false _ _ u))) (λ u. wrong (end_short l k (eqb-false _ _ u))) t))
      (λ z e. choose (λ t. on_step s at t (ok made) (fail (refuse 6)) go) (ltb n 32768) _ _ e
      -- a copy
      (λ k e. let k = ltb-true n 32768 k in
      choose (λ t. on_step s at t (ok made) (fail (refuse 6)) go) (ltb 0 n && leb (at + 2 + n) (length s) && leb n left) _ _ e
      (λ t e. let (a, c) = and_is (ltb 0 n && leb (at + 2 + n) (length s)) _ t in let (a, b) = and_is (ltb 0 n) _ a in
      copy (record { here = l; some = ltb-true _ _ a; positive = k; inside = leb-true _ _ b; few = leb-true _ _ c }) e)
      (λ t e. either (ltb 0 n && leb (at + 2 + n) (length s)) (leb n left)
      (λ u. either (ltb 0 n) (leb (at + 2 + n) (length s)) (λ v. wrong (run_none l (let w = ltb-false 0 n v in omega arith))) (λ v. wrong (copy-cut l k (leb-false _ _ v))) u)
      (λ u. wrong (copy-long l k (leb-false _ _ u))) t))
      -- a repetition
      (λ k e.
      let u = ltb-false n 32768 k in
      let v : n ≢ 32768 = eqb-false n 32768 z in
      let k : 32768 < n = omega (arith, v) in
      choose (λ t. on_step s at t (ok made) (fail (refuse 6)) go) (ltb (at + 2) (length s) && leb (65536 - n) left) _ _ e
      (λ t e. let (a, b) = and_is (ltb (at + 2) (length s)) _ t in again (record { negative = k; inside = ltb-true _ _ a; few = leb-true _ _ b }) e)
      (λ t e. either (ltb (at + 2) (length s)) (leb (65536 - n) left) (λ u. wrong (repeat-cut l k (ltb-false _ _ u))) (λ u. wrong (repeat-long l k (leb-false _ _ u))) t))))
      (λ t e. wrong (run-cut (leb-false _ _ t)))

  step-copies : CopyRight s at (want - length made) → runs want s (suc f) at made ≡ runs want s f (at + 2 + little 2 s at) (made ++ take (little 2 s at) (drop (at + 2) s))
  unfolding runs step_at signed_at copy_at
  step-copies c =
      let z : little 2 s at ≢ 32768 = λ e. absurd (omega (arith, c.positive)) in
      rw (le-leb _ _ c.here, ne_eqb _ _ z, lt-ltb _ _ c.positive, lt-ltb _ _ c.some, le-leb _ _ c.inside, le-leb _ _ c.few)

  step-repeats : RepeatRight s at (want - length made) → runs want s (suc f) at made ≡ runs want s f (at + 3) (made ++ replicate (65536 - little 2 s at) (get_or s (at + 2) 0))
  unfolding runs step_at signed_at repeat_at
  step-repeats c =
      let z : little 2 s at ≢ 32768 = λ e. absurd (omega (arith, c.negative)) in
      let k : 32768 ≤ little 2 s at = omega (arith, c.negative) in
      let l : at + 2 ≤ length s = omega (arith, c.inside) in
      rw (le-leb _ _ l, ne_eqb _ _ z, le-ltb _ _ k, lt-ltb _ _ c.inside, le-leb _ _ c.few)

  step-breaks : StepWrong s at (want - length made) → runs want s (suc f) at made ≡ fail (refuse 6)
  unfolding runs step_at signed_at copy_at repeat_at end_at
  step-breaks (run-cut l) = rw (lt-leb _ _ l)
  step-breaks (run_none l z) = rw (le-leb _ _ l, z)
  step-breaks (copy-cut l k c) =
      let z : little 2 s at ≢ 32768 = λ e. absurd (omega arith) in
      let t : (ltb 0 (little 2 s at) && leb (at + 2 + little 2 s at) (length s)) ≡ false = and_second (ltb 0 (little 2 s at)) _ (lt-leb _ _ c) in
      rw (le-leb _ _ l, ne_eqb _ _ z, lt-ltb _ _ k, t)
  step-breaks (copy-long l k c) =
      let z : little 2 s at ≢ 32768 = λ e. absurd (omega arith) in
      let t : (ltb 0 (little 2 s at) && leb (at + 2 + little 2 s at) (length s) && leb (little 2 s at) (want - length made)) ≡ false
      = and_second (ltb 0 (little 2 s at) && leb (at + 2 + little 2 s at) (length s)) _ (lt-leb _ _ c) in
      rw (le-leb _ _ l, ne_eqb _ _ z, lt-ltb _ _ k, t)
  step-breaks (repeat-cut l k c) =
      let z : little 2 s at ≢ 32768 = λ e. absurd (omega arith) in
      let j : 32768 ≤ little 2 s at = omega arith in
      rw (le-leb _ _ l, ne_eqb _ _ z, le-ltb _ _ j, le-ltb _ _ c)
  step-breaks (repeat-long l k c) =
      let z : little 2 s at ≢ 32768 = λ e. absurd (omega arith) in
      let j : 32768 ≤ little 2 s at = omega arith in
      let t : (ltb (at + 2) (length s) && leb (65536 - little 2 s at) (want - length made)) ≡ false = and_second (ltb (at + 2) (length s)) _ (lt-leb _ _ c) in
      rw (le-leb _ _ l, ne_eqb _ _ z, le-ltb _ _ j, t)
  step-breaks (end-inside l k c) = rw (le-leb _ _ l, eq-eqb _ _ k, ne_eqb _ _ c)
  step-breaks (end_short l k c) =
      let t : (eqb (at + 2) (length s) && eqb (want - length made) 0) ≡ false = and_second (eqb (at + 2) (length s)) _ (ne_eqb _ _ c) in
      rw (le-leb _ _ l, eq-eqb _ _ k, t)

-- ---- all runs

module _ (want : ℕ) (s : List ℕ) where
  -- a section that is refused has a wrong run behind right ones
  broken : {P : Type 0} (f at : ℕ) (made : List ℕ) → Reached want s at made → length s ≤ at + f → runs want s f at made ≡ fail (refuse 6)
      → ((at : ℕ) (made : List ℕ) → Reached want s at made → StepWrong s at (want - length made) → P) → P
  broken zero at made r l e found = found at made r (run-cut (omega arith))
  broken (suc f) at made r l e found =
      step-cases want s at made f e (found at made r)
      (λ c e. broken f (at + 2 + little 2 s at) (made ++ take (little 2 s at) (drop (at + 2) s)) (copied at made r c) (omega arith) e found)
      (λ c e. broken f (at + 3) (made ++ replicate (65536 - little 2 s at) (get_or s (at + 2) 0)) (repeated at made r c) (omega arith) e found)

  -- what is left to do at a place that was reached
  pub record Still (at : ℕ) (made : List ℕ) : Type 0 where
    pub steps : ℕ
    pub enough : length s ≤ at + steps
    pub same : mask_runs want s ≡ runs want s steps at made

  still : {at : ℕ} {made : List ℕ} → Reached want s at made → Still at made
  still begun = record { steps = length s; enough = omega arith; same = refl }
  still (copied at made r c) = on (still r)
    where
      on : Still at made → Still (at + 2 + little 2 s at) (made ++ take (little 2 s at) (drop (at + 2) s))
      on k = split k.steps refl
        where
          split : (f : ℕ) → k.steps ≡ f → Still (at + 2 + little 2 s at) (made ++ take (little 2 s at) (drop (at + 2) s))
          split zero e = absurd (omega (arith, k.enough, c.here, e))
          split (suc f) e = record { steps = f; enough = omega (arith, k.enough, e); same = k.same ∙ rw (e) (step-copies want s at made f c) }
  still (repeated at made r c) = on (still r)
    where
      on : Still at made → Still (at + 3) (made ++ replicate (65536 - little 2 s at) (get_or s (at + 2) 0))
      on k = split k.steps refl
        where
          split : (f : ℕ) → k.steps ≡ f → Still (at + 3) (made ++ replicate (65536 - little 2 s at) (get_or s (at + 2) 0))
          split zero e = absurd (omega (arith, k.enough, c.inside, e))
          split (suc f) e = record { steps = f; enough = omega (arith, k.enough, e); same = k.same ∙ rw (e) (step-repeats want s at made f c) }

  breaks : (f at : ℕ) (made : List ℕ) → StepWrong s at (want - length made) → runs want s f at made ≡ fail (refuse 6)
  unfolding runs
  breaks zero at made w = refl
  breaks (suc f) at made w = step-breaks want s at made f w

module _ (s : List ℕ) (count valid : ℕ) where
  pub coded-wrong : coded s count valid ≡ fail (refuse 6) → CodedWrong s count valid
  unfolding coded
  coded-wrong e =
      reading (λ _. CodedWrong s count valid) (mask_runs (mask_bytes count) s) _ e (λ d. broken (mask_bytes count) s (length s) 0 [] begun (omega arith) d run-wrong) (λ m d e.
      demand (λ _. CodedWrong s count valid) (eqb (valid_below count m) valid) 6 _ e (λ t. count-wrong m d (eqb-false _ _ t)) (λ t e. not-refused e))

  pub wrong-coded : CodedWrong s count valid → coded s count valid ≡ fail (refuse 6)
  unfolding coded
  wrong-coded (run-wrong at made r w) = let k = still (mask_bytes count) s r in rw (k.same ∙ breaks (mask_bytes count) s k.steps at made w)
  wrong-coded (count-wrong m d c) = rw (d, ne_eqb _ _ c)
