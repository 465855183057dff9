-- What was published: the meaning, with staging's answer, spare and list as staging left them; and where it can be published again.
-- Assumes nothing.
use mathlib.Core.Path.{◌≡◌, ◌∙◌, sym, ap, refl}
use mathlib.Core.Bool.{Bool, true, ◌&&◌}
use mathlib.Core.List.{List}
use Prim.Native.Nat.{ℕ}
use lib.ListN.{length, take, drop}
use lib.Seq.{take-append_seam}
use Rattle.lerc_words.specs.declared.Refusal.{Refusal}
use Rattle.lerc_words.specs.Res.{Res, ok, fail, ◌>>=◌, require, after}
use Rattle.lerc_words.specs.Lists.{over}
use Rattle.lerc_words.proofs.Binding.{bind_is, bind-fail, bind-counts, ok-is, require-is, and_is}
use Rattle.lerc_slices.specs.Slices.{begins_with}
use Rattle.lerc_slices.proofs.Begins.{begins-over, over-begins}
use Rattle.lerc_validity.specs.Validity.{MaskInForce, reused, new, spare_with, holds_mask}
use Rattle.lerc.specs.Meaning.{Meaning, starts_of, end_of}
use Rattle.lerc.specs.Read.{Lent, read_says, published}
use Rattle.lerc.specs.Stage.{staged_of, is_answer, was_staged, publish_says, body_told, StageRead, Publishing, PublishTold}
use Rattle.lerc.proofs.Answers.{answer-self, answer-is}
use Rattle.lerc.proofs.Both.{read-masked}
use Rattle.lerc.specs.declared.Staged.{Staged}

-- ---- a slice that already holds what is put there

pub spare-kept : (f : MaskInForce) (spare : List ℕ) → holds_mask f spare ≡ true → spare_with f spare ≡ spare
spare-kept (reused m) spare e = refl
spare-kept (new m) spare e = over-begins m spare e

pub kept-spare : (f : MaskInForce) (spare : List ℕ) → spare_with f spare ≡ spare → holds_mask f spare ≡ true
kept-spare (reused m) spare e = refl
kept-spare (new m) spare e = ap (begins_with m) (sym e) ∙ begins-over m spare

pub kept-list : (starts list : List ℕ) → over starts list ≡ list → begins_with starts list ≡ true
kept-list starts list e = ap (begins_with starts) (sym e) ∙ begins-over starts list

-- the front of a slice where new entries were put
pub front_of : (front old : List ℕ) {n : ℕ} {list : List ℕ} → n ≡ length front → list ≡ over front old → take n list ≡ front
front_of front old n e = rw (n, e) (take-append_seam front (drop (length front) old))

-- ---- what publishing asks

pub record Done (b : List ℕ) (reuse : Bool) (a : Res Staged) (l : Lent) (m : Meaning) : Type 0 where
  pub means : read_says b reuse l ≡ ok m
  pub spare : holds_mask m.mask l.spare ≡ true
  pub answer : a ≡ ok (staged_of m)
  pub list : begins_with (starts_of m.body) l.list ≡ true

module _ (b : List ℕ) (reuse : Bool) (a : Res Staged) (l : Lent) (m : Meaning) where
  pub done-is : publish_says b reuse a l ≡ ok m → Done b reuse a l m
  unfolding publish_says
  done-is e =
      let (n, p, e) = bind_is (read_says b reuse l) _ e in
      let (_, q, e) = bind_is (require (was_staged n a l) 3) _ e in
      let (t, listed) = and_is (holds_mask n.mask l.spare && is_answer a (staged_of n)) (begins_with (starts_of n.body) l.list) (require-is (was_staged n a l) 3 q) in
      let (held, given) = and_is (holds_mask n.mask l.spare) (is_answer a (staged_of n)) t in
      rw (← ok-is e) (record { means = p; spare = held; answer = answer-is a (staged_of n) given; list = listed })

  pub is-done : Done b reuse a l m → publish_says b reuse a l ≡ ok m
  unfolding publish_says
  is-done d = rw (d.means, d.spare, d.answer, answer-self m, d.list)

module _ {b : List ℕ} {reuse : Bool} {a : Res Staged} {l : Lent} where
  -- an accepted publish has a meaning
  pub done-of : {r : Res PublishTold} {kept image : List ℕ} {end words : ℕ} → Publishing b reuse a r l kept image → r ≡ ok (record { end = end; words = words }) → (m : Meaning) × Done b reuse a l m
  done-of p e =
      let (m, q, _) = bind-counts (publish_says b reuse a l) _ (sym p.says ∙ e) in
      (m, done-is b reuse a l m q)

  module _ {m : Meaning} (d : Done b reuse a l m) where
    -- and then the answer and both slices are the meaning's
    pub done-says : {r : Res PublishTold} {kept image : List ℕ} → Publishing b reuse a r l kept image → r ≡ ok (record { end = end_of m.body; words = (body_told m.header m.body).words })
    done-says {r} p = (p.says ∙ ap (λ (x : Res Meaning). x >>= λ n. ok (body_told n.header n.body)) (is-done b reuse a l m d))

    pub done-kept : {r : Res PublishTold} {kept image : List ℕ} → Publishing b reuse a r l kept image → kept ≡ (published m l).kept
    done-kept p = p.kept ∙ ap (λ (x : Res Meaning). after x l.kept (λ n. (published n l).kept)) (is-done b reuse a l m d)

    pub done-image : {r : Res PublishTold} {kept image : List ℕ} → Publishing b reuse a r l kept image → image ≡ (published m l).image
    done-image p = p.image ∙ ap (λ (x : Res Meaning). after x l.image (λ n. (published n l).image)) (is-done b reuse a l m d)

-- ---- staging a blob with a meaning

module _ {b : List ℕ} {reuse : Bool} {l : Lent} {r : Res Staged} {spare list : List ℕ} (t : StageRead b reuse r l spare list) where
  pub staged-refused : {why : Refusal} → r ≡ fail why → read_says b reuse l ≡ fail why
  staged-refused e = bind-fail (read_says b reuse l) _ (sym t.says ∙ e)

  module _ {m : Meaning} (e : read_says b reuse l ≡ ok m) where
    pub staged-answer : r ≡ ok (staged_of m)
    staged-answer = (t.says ∙ rw (e))

    pub staged-spare : spare ≡ spare_with m.mask l.spare
    staged-spare = t.spare ∙ rw (read-masked b reuse l e)

    pub staged-list : list ≡ over (starts_of m.body) l.list
    staged-list = t.list ∙ rw (e)
