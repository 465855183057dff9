-- The second pass where the mask is compared with what is held: what holds between two runs, and the answer.
-- Assumes nothing.
use mathlib.Core.Path.{◌≡◌, refl, sym, ap, ◌∙◌}
use mathlib.Core.Bool.{Bool, true, false, cond, ◌&&◌}
use mathlib.Core.List.{List, [], ◌++◌}
use Prim.Native.Nat.{ℕ, zero, suc, ◌+◌, ◌-◌, ◌≤◌, ◌<◌}
use native.Mathlib.Omega.{arith}
use lib.ListN.{length, get_or, take, drop, replicate, length-append, length-drop, length-replicate}
use Rattle.lerc_words.specs.Res.{Res, ok, fail}
use Rattle.lerc_words.specs.declared.Refusal.{Refusal}
use Rattle.lerc_words.proofs.Little.{Bytes}
use Rattle.lerc_slices.specs.Slices.{begins_with}
use Rattle.lerc_slices.proofs.Begins.{begins-append, begins-front, begins-repeat, take_begins}
use Rattle.lerc_mask.specs.declared.Step.{Step}
use Rattle.lerc_mask.specs.declared.Step.TheVariants.{Copy, Repeat, End, Wrong}
use Rattle.lerc_mask.specs.declared.compared.RunsFound.{RunsFound}
use Rattle.lerc_mask.specs.Mask.{step_at, on_step, runs, mask_runs, RunsCompared}
use Rattle.lerc_mask.specs.Passes.{Met, met_on, met_all, meet_on}
use Rattle.lerc_mask.proofs.Steps.{length-copied}
use Rattle.lerc_mask.proofs.Runs.{RunsGive, Means, step-means, runs-keep}
use Rattle.lerc_mask.proofs.Passes.{fewer}

-- what came before is held
pub record Meeting (s : List ℕ) (want : ℕ) (held : List ℕ) (at n : ℕ) : Type 0 where
  pub made : List ℕ
  pub steps : ℕ
  pub size : length made ≡ n
  pub few : n ≤ want
  pub inside : at ≤ length s
  pub enough : length s ≤ at + steps
  pub begins : begins_with made held ≡ true
  pub same : mask_runs want s ≡ runs want s steps at made

pub meeting-start : (s : List ℕ) (want : ℕ) (held : List ℕ) → Meeting s want held 0 0
meeting-start s want held = record {
  made = [];
  steps = length s;
  size = refl;
  few = omega arith;
  inside = omega arith;
  enough = omega arith;
  begins = take_begins [] held refl;
  same = refl;
}

-- what differs in one part differs as a whole
differs-on : (held made out : List ℕ) → begins_with made held ≡ false → begins_with (made ++ out) held ≡ false
differs-on held made out e = begins-append made out held ∙ ap (λ (t : Bool). t && begins_with out (drop (length made) held)) e

-- what an answer means
abbrev pub Says : List ℕ → ℕ → List ℕ → ℕ → Met → Type 0
Says s want held at (met_on p) = Meeting s want held p.at p.made × (at < p.at)
Says s want held at (met_all t) = (m : List ℕ) → mask_runs want s ≡ ok m → t ≡ begins_with m held

module _ (s : List ℕ) (want : ℕ) (held : List ℕ) (at n : ℕ) (i : Meeting s want held at n) where
  meeting-on : (next : ℕ) (out : List ℕ) → RunsGive s want at i.made next out
      → Says s want held at (cond (begins_with out (drop n held)) (met_on (record { at = next; made = n + length out })) (met_all false))
  meeting-on next out g = go i.steps refl (begins_with out (drop n held)) refl
    where
      -- what this run adds to what came before
      both : begins_with (i.made ++ out) held ≡ begins_with out (drop n held)
      both =
          begins-append i.made out held ∙ ap (λ (t : Bool). t && begins_with out (drop (length i.made) held)) i.begins
          ∙ ap (λ (k : ℕ). begins_with out (drop k held)) i.size

      go : (f : ℕ) → i.steps ≡ f → (t : Bool) → begins_with out (drop n held) ≡ t → Says s want held at (cond t (met_on (record { at = next; made = n + length out })) (met_all false))
      go zero e t d = absurd (let a = g.forth in let b = g.inside in let c = i.enough in omega arith)
      go (suc f) e true d =
          let z = i.size in (
            record {
              made = i.made ++ out;
              steps = f;
              size = rw (length-append) (omega arith);
              few = let q = g.few in let r = i.few in let t = g.some in omega arith;
              inside = g.inside;
              enough = fewer f (length s) at next (rw (e) at i.enough) g.forth;
              begins = both ∙ d;
              same = i.same ∙ rw (e) (g.onward f);
            },
            g.forth,
          )
      go (suc f) e false d = λ m r.
          let x : runs want s f next (i.made ++ out) ≡ ok m = sym (g.onward f) ∙ (rw (e) at (sym i.same ∙ r)) in
          sym (runs-keep s want (λ l. begins_with l held ≡ false) (λ made out p _ _. differs-on held made out p) f next (i.made ++ out) m (both ∙ d) x).0

  meeting-by : (t : Step) → Means s want at i.made t
      → Says s want held at (on_step s at t (met_all true) (met_all false) (λ next out. cond (begins_with out (drop n held)) (met_on (record { at = next; made = n + length out })) (met_all false)))
  meeting-by (Copy k) g = meeting-on _ _ g
  meeting-by (Repeat k) g = meeting-on _ _ g
  meeting-by End g = λ m r.
      let x = g.0 i.steps i.enough in
      let y = i.same in
      let z : i.made ≡ m = cc in
      sym (rw (z) at i.begins)
  meeting-by Wrong g = λ m r.
      let x = g i.steps in
      let y = i.same in
      absurd (let z : ◌≡◌ {A = ℕ} 0 1 = cc in omega arith)

  pub meeting-told : Bytes s → Says s want held at (meet_on s at n (want - n) held)
  unfolding meet_on
  meeting-told b = meeting-by (step_at s at (want - n)) (rw i.size at (step-means s b want at i.made))

-- ---- one run

module _ (s : List ℕ) (at made left : ℕ) (held : List ℕ) where
  -- a part of what is held is compared with a part of the section
  pub meet-copy : (n : ℕ) → step_at s at left ≡ Copy n → at + 2 + n ≤ length s → (t : Bool) → t ≡ begins_with (take (at + 2 + n - (at + 2)) (drop (at + 2) s)) (take (made + n - made) (drop made held))
      → cond t (met_on (record { at = at + 2 + n; made = made + n })) (met_all false) ≡ meet_on s at made left held
  unfolding meet_on
  meet-copy n e f t h =
      let d : at + 2 + n - (at + 2) ≡ n = omega arith in
      let k : made + n - made ≡ n = omega arith in
      let l = length-copied s (at + 2) n f in
      let g = (rw (d, k) at h) ∙ begins-front (take n (drop (at + 2) s)) (drop made held) n l in
      rw (e, l) (ap (λ (u : Bool). cond u (met_on (record { at = at + 2 + n; made = made + n })) (met_all false)) g)

  -- and with one byte
  pub meet-repeat : (n : ℕ) → step_at s at left ≡ Repeat n → made + n ≤ length held → (t : Bool)
      → t ≡ begins_with (replicate (length (take (made + n - made) (drop made held))) (get_or s (at + 2) 0)) (take (made + n - made) (drop made held))
      → cond t (met_on (record { at = at + 3; made = made + n })) (met_all false) ≡ meet_on s at made left held
  unfolding meet_on
  meet-repeat n e f t h =
      let k : made + n - made ≡ n = omega arith in
      let l : n ≤ length (drop made held) = simp length-drop (omega arith) in
      let g = (rw (k) at h) ∙ begins-repeat (get_or s (at + 2) 0) n (drop made held) l in
      rw (e, length-replicate) (ap (λ (u : Bool). cond u (met_on (record { at = at + 3; made = made + n })) (met_all false)) g)

  pub meet-end : step_at s at left ≡ End → met_all true ≡ meet_on s at made left held
  unfolding meet_on
  meet-end e = rw (e)

  pub meet-wrong : step_at s at left ≡ Wrong → met_all false ≡ meet_on s at made left held
  unfolding meet_on
  meet-wrong e = rw (e)

-- ---- the whole

pub compared-no : {m : Res (List ℕ)} {r : Refusal} {held : List ℕ} → m ≡ fail r → RunsCompared m (fail r) held
compared-no e = rw e (record { says = refl })

pub compared : {m : Res (List ℕ)} (bytes : List ℕ) (n : ℕ) {t : Bool} {held : List ℕ} → m ≡ ok bytes → length bytes ≡ n → t ≡ begins_with bytes held → RunsCompared m (ok (record { length = n; same = t })) held
compared bytes n e l d = rw (e, d) (record { says = rw (l) })

-- ---- the promise leaves no room

pub compared_same : {m : Res (List ℕ)} {a b : Res RunsFound} {held : List ℕ} → RunsCompared m a held → RunsCompared m b held → a ≡ b
compared_same p q = p.says ∙ sym q.says
