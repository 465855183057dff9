-- The two passes over the runs of a section: what holds between two runs.
-- Assumes nothing.
use mathlib.Core.Path.{◌≡◌, refl, sym, ◌∙◌}
use mathlib.Core.Bool.{Bool, true, false}
use mathlib.Core.List.{List, [], ◌++◌}
use Rattle.std.proofs.Common.{Option, None, Some}
use Prim.Native.Nat.{ℕ, zero, suc, ◌+◌, ◌-◌, ◌^◌, ◌≤◌, ◌<◌}
use native.Mathlib.Omega.{arith}
use lib.Dec.{eqb}
use lib.ListN.{length, get_or, drop, length-append, length-drop}
use lib.Seq.{get_or-append-add, take_all, take_at, drop-append-add, drop-drop, paste}
use lib.Count.{ones, ones_in}
use Rattle.lerc_words.specs.Lists.{over}
use Rattle.lerc_words.specs.Res.{Res, ok, fail, ◌>>=◌, require, refuse, accepts}
use Rattle.lerc_words.specs.declared.Refusal.{Refusal}
use Rattle.lerc_words.proofs.Little.{Bytes}
use Rattle.lerc_mask.specs.declared.Step.{Step}
use Rattle.lerc_mask.specs.declared.Step.TheVariants.{Copy, Repeat, End, Wrong}
use Rattle.lerc_mask.specs.declared.Walk.{Walk}
use Rattle.lerc_mask.specs.declared.seek.RunPlace.{RunPlace}
use Rattle.lerc_mask.specs.Mask.{valid_below, mask_bytes, step_at, on_step, runs, mask_runs, coded, RunsUnrolled}
use Rattle.lerc_mask.specs.Passes.{ones_all, Countable, walked, Went, on_with, ended, go_on, put_on, put_out}
use Rattle.lerc_mask.proofs.Tally.{all_append, all-last, all-le}
use Rattle.lerc_mask.proofs.Steps.{bytes-append}
use Rattle.lerc_mask.proofs.Runs.{RunsGive, Means, step-means}

-- one turn takes one of the steps that are left
pub fewer : (f l at next : ℕ) → l ≤ at + suc f → at < next → l ≤ next + f
fewer f l at next h k = omega arith

-- ---- the first pass

pub record Going (s : List ℕ) (want : ℕ) (w : Walk) : Type 0 where
  pub made : List ℕ
  pub steps : ℕ
  pub inside : w.at ≤ length s
  pub enough : length s ≤ w.at + steps
  pub room : length made + w.left ≡ want
  pub bytes : Bytes made
  pub sum : w.total + ones w.last ≡ ones_all made
  pub last : w.last ≡ get_or made (length made - 1) 0
  pub same : mask_runs want s ≡ runs want s steps w.at made

pub going_start : (s : List ℕ) (want : ℕ) → Going s want (record { at = 0; left = want; total = 0; last = 0 })
unfolding ones_all ones ones_in
going_start s want = record {
  made = [];
  steps = length s;
  inside = omega arith;
  enough = omega arith;
  room = omega arith;
  bytes = λ i. omega arith;
  sum = refl;
  last = refl;
  same = refl;
}

last-append : (xs ys : List ℕ) → 1 ≤ length ys → get_or (xs ++ ys) (length (xs ++ ys) - 1) 0 ≡ get_or ys (length ys - 1) 0
last-append xs ys h =
    let e : length xs + length ys - 1 ≡ length xs + (length ys - 1) = omega arith in
    rw (length-append xs ys, e, get_or-append-add)

-- what an answer means, where `made` came before it
abbrev pub Told : List ℕ → ℕ → ℕ → List ℕ → Went → Type 0
Told s want at made (on_with n) = Going s want n × (at < n.at)
Told s want at made (ended true) = (mask_runs want s ≡ ok made) × (length made ≡ want)
Told s want at made (ended false) = mask_runs want s ≡ fail (refuse 6)

module _ (s : List ℕ) (want : ℕ) (w : Walk) (i : Going s want w) where
  going_on : (next : ℕ) (out : List ℕ) → RunsGive s want w.at i.made next out → Going s want (walked w next out) × (w.at < next)
  going_on next out g = (go i.steps refl, g.forth)
    where
      go : (f : ℕ) → i.steps ≡ f → Going s want (walked w next out)
      go zero e = absurd (let a = g.forth in let b = g.inside in let c = i.enough in omega arith)
      go (suc f) e = record {
        made = i.made ++ out;
        steps = f;
        inside = g.inside;
        enough = fewer f (length s) w.at next (rw (e) at i.enough) g.forth;
        room = let r = i.room in let q = g.few in rw (length-append) (omega arith);
        bytes = bytes-append i.made out i.bytes g.bytes;
        sum = let a = all-last out g.some in let r = i.sum in rw (all_append) (omega arith);
        last = sym (last-append i.made out g.some);
        same = i.same ∙ rw (e) (g.onward f);
      }

  going-by : (t : Step) → Means s want w.at i.made t → Told s want w.at i.made (on_step s w.at t (ended true) (ended false) (λ next out. on_with (walked w next out)))
  going-by (Copy n) g = going_on _ _ g
  going-by (Repeat n) g = going_on _ _ g
  going-by End g = (i.same ∙ g.0 i.steps i.enough, let q = g.1 in let r = i.room in omega arith)
  going-by Wrong g = i.same ∙ g i.steps

  pub going-told : Bytes s → Told s want w.at i.made (go_on s w)
  unfolding go_on
  going-told b =
      let l : want - length i.made ≡ w.left = let r = i.room in omega arith in
      going-by (step_at s w.at w.left) (rw (l) at (step-means s b want w.at i.made))

-- room for what is added up
pub going-room : (s : List ℕ) (pixels : ℕ) (w : Walk) → Going s (mask_bytes pixels) w → pixels < 2 ^ 64 → Countable w
going-room s pixels w i h =
    let a = all-le i.made i.bytes in
    let q = i.sum in
    let r = i.room in
    omega arith

-- ---- the second pass

pub record Putting (s : List ℕ) (want : ℕ) (old : List ℕ) (at n : ℕ) (new : List ℕ) : Type 0 where
  pub made : List ℕ
  pub steps : ℕ
  pub size : length made ≡ n
  pub few : n ≤ want
  pub inside : at ≤ length s
  pub enough : length s ≤ at + steps
  pub now : new ≡ made ++ drop n old
  pub same : mask_runs want s ≡ runs want s steps at made

pub putting-start : (s : List ℕ) (want : ℕ) (old : List ℕ) → Putting s want old 0 0 old
putting-start s want old = record {
  made = [];
  steps = length s;
  size = refl;
  few = omega arith;
  inside = omega arith;
  enough = omega arith;
  now = refl;
  same = refl;
}

pub putting-length : (s : List ℕ) (want : ℕ) (old : List ℕ) (at n : ℕ) (new : List ℕ) → Putting s want old at n new → want ≤ length old → length new ≡ length old
putting-length s want old at n new i h =
    let a = i.size in
    let b = i.few in
    rw i.now (simp (length-append, length-drop) (omega arith))

pasted : (made old out : List ℕ) (n : ℕ) → length made ≡ n → paste (made ++ drop n old) n out (length out) ≡ (made ++ out) ++ drop (n + length out) old
pasted made old out n e =
    let d : drop (n + length out) (made ++ drop n old) ≡ drop (n + length out) old =
    rw (← e) (drop-append-add made (drop (length made) old) (length out) ∙ drop-drop (length out) (length made) old) in
    rw (take_at made (drop n old) n e, take_all (length out) out (omega arith), d)

-- what an answer means, where `newer` is the mask behind it
abbrev pub Wrote : List ℕ → ℕ → List ℕ → ℕ → List ℕ → Option RunPlace → Type 0
Wrote s want old at newer (Some p) = Putting s want old p.at p.made newer × (at < p.at)
Wrote s want old at newer None = (m : List ℕ) → mask_runs want s ≡ ok m → newer ≡ over m old

module _ (s : List ℕ) (want : ℕ) (old : List ℕ) (at n : ℕ) (new : List ℕ) (i : Putting s want old at n new) where
  putting-on : (next : ℕ) (out : List ℕ) → RunsGive s want at i.made next out → Putting s want old next (n + length out) (paste new n out (length out)) × (at < next)
  putting-on next out g = (go i.steps refl, g.forth)
    where
      go : (f : ℕ) → i.steps ≡ f → Putting s want old next (n + length out) (paste new n out (length out))
      go zero e = absurd (let a = g.forth in let b = g.inside in let c = i.enough in omega arith)
      go (suc f) e =
          let z = i.size in record {
            made = i.made ++ out;
            steps = f;
            size = rw (length-append) (omega arith);
            few = let q = g.few in let r = i.few in let t = g.some in omega arith;
            inside = g.inside;
            enough = fewer f (length s) at next (rw (e) at i.enough) g.forth;
            now = rw i.now (pasted i.made old out n z);
            same = i.same ∙ rw (e) (g.onward f);
          }

  putting-by : (t : Step) → Means s want at i.made t
      → Wrote s want old at (on_step s at t new new (λ next out. paste new n out (length out))) (on_step s at t None None (λ next out. Some (record { at = next; made = n + length out })))
  putting-by (Copy k) g = putting-on _ _ g
  putting-by (Repeat k) g = putting-on _ _ g
  putting-by End g = λ m r.
      let x = g.0 i.steps i.enough in
      let y = i.same in
      let z : i.made ≡ m = cc in
      rw (i.now, ← i.size, z)
  putting-by Wrong g = λ m r.
      let x = g i.steps in
      let y = i.same in
      absurd (let z : ◌≡◌ {A = ℕ} 0 1 = cc in omega arith)

  pub putting-told : Bytes s → Wrote s want old at (put_out s at n (want - n) new) (put_on s at n (want - n))
  unfolding put_on put_out
  putting-told b = putting-by (step_at s at (want - n)) (rw i.size at (step-means s b want at i.made))

-- ---- what the first pass answers

pub accepts-made : (s : List ℕ) (pixels valid : ℕ) (made : List ℕ) → mask_runs (mask_bytes pixels) s ≡ ok made → eqb (valid_below pixels made) valid ≡ accepts (coded s pixels valid)
unfolding coded
accepts-made s pixels valid made e = rw (e) (go (eqb (valid_below pixels made) valid))
  where
    go : (t : Bool) → t ≡ accepts (require t 6 >>= λ _. ok made)
    go true = refl
    go false = refl

pub accepts-wrong : (s : List ℕ) (pixels valid : ℕ) {r : Refusal} → mask_runs (mask_bytes pixels) s ≡ fail r → false ≡ accepts (coded s pixels valid)
unfolding coded
accepts-wrong s pixels valid e = rw (e)

-- ---- the whole

pub unrolled-no : {m : Res (List ℕ)} {r : Refusal} {old : List ℕ} → m ≡ fail r → RunsUnrolled m (fail r) old old
unrolled-no e = rw e (record { says = refl; left = refl })

pub unrolled : {m : Res (List ℕ)} (bytes : List ℕ) (n : ℕ) {old new : List ℕ} → m ≡ ok bytes → length bytes ≡ n → new ≡ over bytes old → RunsUnrolled m (ok n) old new
unrolled bytes n e l d = rw (e, d) (record { says = rw (l); left = refl })

-- ---- the promise leaves no room

pub unrolled-same : {m : Res (List ℕ)} {a b : Res ℕ} {old x y : List ℕ} → RunsUnrolled m a old x → RunsUnrolled m b old y → (a ≡ b) × (x ≡ y)
unrolled-same p q = (p.says ∙ sym q.says, p.left ∙ sym q.left)
