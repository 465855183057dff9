-- Stage then publish: the whole read, what is accepted, and what is refused.
-- Assumes nothing.
use mathlib.Core.Path.{◌≡◌, ◌∙◌, sym, ap, ap₂, refl}
use mathlib.Core.Logic.{◌⊎◌, inl, inr}
use mathlib.Core.Bool.{Bool, true, false}
use mathlib.Core.List.{List}
use Prim.Native.Nat.{ℕ, ◌*◌}
use native.Mathlib.Omega.{arith}
use Rattle.lerc_words.specs.declared.Refusal.{Refusal}
use Rattle.lerc_words.specs.Res.{Res, ok, fail, ◌>>=◌, refuse}
use Rattle.lerc_words.proofs.Binding.{bind-fail, bind-counts}
use Rattle.lerc_slices.proofs.Begins.{over-begins}
use Rattle.lerc_image.specs.Paint.{among}
use Rattle.lerc.specs.declared.Staged.{Staged}
use Rattle.lerc.specs.Meaning.{Meaning, end_of, starts_of}
use Rattle.lerc.specs.Read.{Lent, masked, read_says, read_count, read_after, WholeRead, ReadTold}
use Rattle.lerc.specs.Stage.{staged_of, was_staged, publish_says, StageRead, Publishing, PublishTold}
use Rattle.lerc.proofs.Both.{read-refused, read_done, publishes, means}
use Rattle.lerc_theorems.proofs.Calls.{read-call}
use Rattle.lerc_theorems.proofs.Demands.{fail-is, not-refused}
use Rattle.lerc_theorems.proofs.Entries.{whole-exactly}
use Rattle.lerc_theorems.proofs.Given.{whole_in}
use Rattle.lerc_theorems.proofs.Refusals.{whole-keeps}
use Rattle.lerc_staged.specs.Calls.{as_staged, as_published}
use Rattle.lerc_staged.specs.Staged.{RefusedInTwo, AcceptedInTwo, MeantInTwo, Gave, PublishAccepts, PublishKeeps, StageKeeps, StageRefuses, StageAsRead, NotGiven, PublishRefuses, numbers, StageNumbers, PublishNumbers}
use Rattle.lerc_staged.proofs.Calls.{stage-call, publish-call}
use Rattle.lerc_staged.proofs.Done.{spare-kept, kept-spare, kept-list, Done, done-is, done-of, done-says, staged-refused, staged-answer, staged-spare, staged-list, is-done}

-- ---- the whole read

-- two outcomes of a whole read coincide
pub read_alike : {b : List ℕ} {reuse : Bool} {r q : Res ReadTold} {old x y : Lent} → WholeRead b reuse r old x → WholeRead b reuse q old y → (q ≡ r) × (y ≡ x)
read_alike {r = r} {q = q} p u = ((u.says ∙ sym p.says), u.lent ∙ sym p.lent)

pub refused-in-two : RefusedInTwo
refused-in-two b reuse why answer old left spare list t c = read_alike (read-refused b reuse old (stage-call t)) (read-call c)

-- publishing what staging gave
module _ {b : List ℕ} {reuse : Bool} {found : Staged} {old : Lent} {spare list : List ℕ} (t : StageRead b reuse (ok found) old spare list) where
  abbrev whole : Meaning
  whole = (means b reuse old t).0

  pub gives : Done b reuse (ok found) (as_staged old spare list) whole
  gives = done-is b reuse (ok found) (as_staged old spare list) whole (publishes b reuse old t)

pub accepted-in-two : AcceptedInTwo
accepted-in-two b reuse found done answer old left kept spare list image t p c =
    let g = stage-call t in
    let says = done-says (gives g) (publish-call p) in
    let same = read_alike (read_done b reuse old g (publish-call p) says) (read-call c) in
    record {
      end = _;
      words = _;
      accepted = says;
      answered = same.0;
      leaves = same.1;
    }

pub meant-in-two : MeantInTwo
meant-in-two b reuse found done old kept spare list image t p =
    let g = stage-call t in
    let (m, e, f) = means b reuse old g in
    let says = done-says (gives g) (publish-call p) in
    let w = read_done b reuse old g (publish-call p) says in
    (m, e, says, w.lent ∙ ap (λ (x : Res Meaning). read_after x (masked b reuse old) old) e)

-- ---- what is accepted

-- staging a meaning that it gave already
module _ {b : List ℕ} {reuse : Bool} {given answer : Res Staged} {old : Lent} {spare list : List ℕ} (t : StageRead b reuse answer old spare list) where
  pub done-gave : {m : Meaning} → Done b reuse given old m → Gave given answer old spare list
  done-gave {m} d = record {
    found = staged_of m;
    staged = staged-answer t d.means;
    same = d.answer ∙ sym (staged-answer t d.means);
    spare = staged-spare t d.means ∙ spare-kept m.mask old.spare d.spare;
    list = staged-list t d.means ∙ over-begins (starts_of m.body) old.list d.list;
  }

  pub gave-done : Gave given answer old spare list → (m : Meaning) × Done b reuse given old m
  gave-done g =
      let (m, e, _) = bind-counts (read_says b reuse old) _ (sym t.says ∙ g.staged) in (
        m,
        record {
          means = e;
          spare = kept-spare m.mask old.spare (sym (staged-spare t e) ∙ g.spare);
          answer = g.same ∙ staged-answer t e;
          list = kept-list (starts_of m.body) old.list (sym (staged-list t e) ∙ g.list);
        },
      )

pub publish-accepts : PublishAccepts
publish-accepts b reuse given answer said old kept image spare list p t = (
  (λ a. let (m, d) = done-of (publish-call p) a.2 in done-gave (stage-call t) d),
  (λ g. let (m, d) = gave-done (stage-call t) g in (end_of m.body, m.header.valid * m.header.depth, done-says d (publish-call p))),
)

-- ---- refusals

pub publish-keeps : PublishKeeps
publish-keeps b reuse given why old kept image p =
    let u = publish-call p in
    let e = bind-fail (publish_says b reuse given old) _ (sym u.says) in
    let k : kept ≡ old.kept = u.kept ∙ rw (e) in
    let i : image ≡ old.image = u.image ∙ rw (e) in
    ap₂ (as_published old) k i

pub stage-keeps : StageKeeps
stage-keeps b reuse why old spare list t = whole-keeps b reuse old (as_staged old spare list) why (read-refused b reuse old (stage-call t))

pub stage-refuses : StageRefuses
stage-refuses b reuse said why old spare list t = (
  (λ e. (whole-exactly b reuse old why).0 (staged-refused (stage-call t) e)),
  (λ w. ((stage-call t).says ∙ rw ((whole-exactly b reuse old why).1 w))),
)

pub stage-as-read : StageAsRead
stage-as-read b reuse said answer why old left spare list t c = (
  (λ e. ((read-call c).says ∙ ap (λ (x : Res Meaning). x >>= read_count) (staged-refused (stage-call t) e))),
  (λ e.
      let n = bind-fail (read_says b reuse old) _ (sym (read-call c).says ∙ e) in
      ((stage-call t).says ∙ ap (λ (x : Res Meaning). x >>= λ m. ok (staged_of m)) n)),
)

-- what publishing says, by what was read
module _ (b : List ℕ) (reuse : Bool) (given : Res Staged) (old : Lent) where
  refused-read : {why : Refusal} → read_says b reuse old ≡ fail why → publish_says b reuse given old ≡ fail why
  unfolding publish_says
  refused-read e = rw (e)

  refused-other : {m : Meaning} → read_says b reuse old ≡ ok m → was_staged m given old ≡ false → publish_says b reuse given old ≡ fail (refuse 3)
  unfolding publish_says
  refused-other e t = rw (e, t)

  was-done : {m : Meaning} → read_says b reuse old ≡ ok m → was_staged m given old ≡ true → Done b reuse given old m
  unfolding publish_says
  was-done {m} e t = done-is b reuse given old m (rw (e, t))

  -- one of three
  pub data Ends : Type 0 where
    blob : (why : Refusal) → read_says b reuse old ≡ fail why → Ends
    other : (m : Meaning) → read_says b reuse old ≡ ok m → was_staged m given old ≡ false → Ends
    done : (m : Meaning) → Done b reuse given old m → Ends

  pub ends : Ends
  ends = go (read_says b reuse old) refl
    where
      test : (m : Meaning) → read_says b reuse old ≡ ok m → (t : Bool) → was_staged m given old ≡ t → Ends
      test m e true u = done m (was-done e u)
      test m e false u = other m e u

      go : (x : Res Meaning) → read_says b reuse old ≡ x → Ends
      go (ok m) e = test m e (was_staged m given old) refl
      go (fail why) e = blob why e

module _ {b : List ℕ} {reuse : Bool} {given : Res Staged} {said : Res PublishTold} {old : Lent} {kept image : List ℕ} (p : Publishing b reuse given said old kept image) where
  pub refused-by : {why : Refusal} → publish_says b reuse given old ≡ fail why → said ≡ fail why
  refused-by {why} e = (p.says ∙ rw (e))

  pub refused_says : {why : Refusal} → said ≡ fail why → publish_says b reuse given old ≡ fail why
  refused_says e = bind-fail (publish_says b reuse given old) _ (sym p.says ∙ e)

-- a refusal is no acceptance
pub clash : {A : Type 0} {P : Type 0} {a : A} {r : Refusal} {m : Res A} → m ≡ ok a → m ≡ fail r → P
clash e f = not-refused (sym e ∙ f)

module _ {b : List ℕ} {reuse : Bool} {given answer : Res Staged} {old : Lent} {spare list : List ℕ} (t : StageRead b reuse answer old spare list) where
  -- a meaning that was not staged so was not given
  not-given : {m : Meaning} → read_says b reuse old ≡ ok m → publish_says b reuse given old ≡ fail (refuse 3) → NotGiven given answer old spare list
  not-given {m} e n = record {
    found = staged_of m;
    staged = staged-answer t e;
    other = λ g. let (k, d) = gave-done t g in clash (is-done b reuse given old k d) n;
  }

  by_end : (why : Refusal) → publish_says b reuse given old ≡ fail why → Ends b reuse given old → (answer ≡ fail why) ⊎ ((why ≡ refuse 3) × NotGiven given answer old spare list)
  by_end why e (blob r q) =
      let z : r ≡ why = fail-is (sym (refused-read b reuse given old q) ∙ e) in
      inl ((t.says ∙ rw (q, z)))
  by_end why e (other m q u) =
      let n = refused-other b reuse given old q u in
      inr (fail-is (sym e ∙ n), not-given q n)
  by_end why e (done m d) = clash (is-done b reuse given old m d) e

  not-gave : NotGiven given answer old spare list → Ends b reuse given old → publish_says b reuse given old ≡ fail (refuse 3)
  not-gave n (blob r q) = absurd (let u : (ok n.found) ≡ fail r = sym n.staged ∙ t.says ∙ rw (q) in let z : ◌≡◌ {A = ℕ} 0 1 = cc in omega arith)
  not-gave n (other m q u) = refused-other b reuse given old q u
  not-gave n (done m d) = absurd (n.other (done-gave t d))

pub publish-refuses : PublishRefuses
publish-refuses b reuse given answer said why old kept image spare list p t = (
  (λ e. by_end (stage-call t) why (refused_says (publish-call p) e) (ends b reuse given old)),
  (λ s. refused-by (publish-call p) (go s)),
)
  where
    go : (answer ≡ fail why) ⊎ ((why ≡ refuse 3) × NotGiven given answer old spare list) → publish_says b reuse given old ≡ fail why
    go (inl e) = refused-read b reuse given old (staged-refused (stage-call t) e)
    go (inr (e, n)) = not-gave (stage-call t) n (ends b reuse given old) ∙ ap fail (sym e)

pub stage-numbers : StageNumbers
stage-numbers b reuse why old spare list t = whole_in (λ n. among numbers n ≡ true) refl refl refl refl refl refl refl refl refl refl ((stage-refuses b reuse _ why old spare list t).0 refl)

pub publish-numbers : PublishNumbers
publish-numbers b reuse given why old kept image p = go (ends b reuse given old)
  where
    e : publish_says b reuse given old ≡ fail why
    e = refused_says (publish-call p) refl

    go : Ends b reuse given old → among numbers why.number ≡ true
    go (blob r q) =
        let z : r ≡ why = fail-is (sym (refused-read b reuse given old q) ∙ e) in
        whole_in (λ n. among numbers n ≡ true) refl refl refl refl refl refl refl refl refl refl ((whole-exactly b reuse old why).0 (q ∙ ap fail z))
    go (other m q u) = let z : refuse 3 ≡ why = fail-is (sym (refused-other b reuse given old q u) ∙ e) in rw (← z)
    go (done m d) = clash (is-done b reuse given old m d) e
