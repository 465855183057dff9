-- What staging and publishing do not look at.
-- Assumes nothing.
use mathlib.Core.Path.{◌≡◌, ◌∙◌, sym, ap, refl}
use mathlib.Core.Bool.{Bool, true, false}
use mathlib.Core.List.{List}
use Prim.Native.Nat.{ℕ}
use native.Mathlib.Omega.{arith}
use lib.ListN.{length, take}
use Rattle.lerc_words.specs.Res.{Res, ok, fail, ◌>>=◌, require, after}
use Rattle.lerc_words.specs.Lists.{over}
use Rattle.lerc_slices.specs.Slices.{begins_with}
use Rattle.lerc_slices.proofs.Begins.{begins-front}
use Rattle.lerc_header.specs.Shape.{mask_length}
use Rattle.lerc_header.specs.Header.{shape_of}
use Rattle.lerc_validity.specs.Validity.{MaskInForce, reused, new, bytes_of, spare_with, holds_mask}
use Rattle.lerc.specs.declared.Staged.{Staged}
use Rattle.lerc.specs.Meaning.{Meaning, starts_of}
use Rattle.lerc.specs.Read.{Lent, room, Masked, masked, read_says, published, refused_after, read_after, WholeRead, ReadTold}
use Rattle.lerc.specs.Stage.{mask_named, staged_of, is_answer, was_staged, publish_says}
use Rattle.lerc.proofs.Answers.{answer-is}
use Rattle.lerc.proofs.Both.{means}
use Rattle.lerc_theorems.proofs.Calls.{read-call}
use Rattle.lerc_theorems.proofs.Demands.{and_first, and_second}
use Rattle.lerc_theorems.proofs.Meanings.{mask-kept, rooms}
use Rattle.lerc_staged.specs.Staged.{AsLong, StageUnread, ReadUnread, StageLeaves, PublishUnread}
use Rattle.lerc_staged.proofs.Calls.{stage-call, publish-call}
use Rattle.lerc_staged.proofs.Done.{front_of, staged-spare, staged-list}
use Rattle.lerc_staged.proofs.Fills.{read-room, read-parts}
use Rattle.lerc_staged.proofs.Writes.{staged-is}
use Rattle.lerc_validity.specs.declared.Mask.TheVariants as mask

module _ (b : List ℕ) (reuse : Bool) (old other : Lent) (a : AsLong old other) where
  pub same_read : read_says b reuse other ≡ read_says b reuse old
  unfolding read_says masked room
  same_read = rw (a.kept, a.spare, a.list, a.image)

pub stage-unread : StageUnread
stage-unread b reuse said told old other spare list other-spare other-list a t u =
    ((stage-call u).says ∙ ap (λ (x : Res Meaning). x >>= λ m. ok (staged_of m)) (same_read b reuse old other a) ∙ sym (stage-call t).says)

-- what a whole read keeps
module _ (b : List ℕ) (reuse : Bool) (l : Lent) where
  kept-after : (x : Res Meaning) (k : Res Masked) → (read_after x k l).kept ≡ after x l.kept (λ m. over (bytes_of m.mask) l.kept)
  unfolding published refused_after
  kept-after (ok m) k = refl
  kept-after (fail r) (ok k) = refl
  kept-after (fail r) (fail q) = refl

  pub kept-left : {said : Res ReadTold} {left : Lent} → WholeRead b reuse said l left → left.kept ≡ after (read_says b reuse l) l.kept (λ m. over (bytes_of m.mask) l.kept)
  kept-left w = ap (λ (x : Lent). x.kept) w.lent ∙ kept-after (read_says b reuse l) (masked b reuse l)

pub read-unread : ReadUnread
read-unread b reuse said told old other left other-left a c d =
    let e = same_read b reuse old other a in (
      ((read-call d).says ∙ rw (e) (sym (read-call c).says)),
      kept-left b reuse other (read-call d) ∙ rw (e, a.kept) (sym (kept-left b reuse old (read-call c))),
    )

-- what staging leaves
mask-of : (f : MaskInForce) (n : ℕ) (old : List ℕ) {spare : List ℕ} → mask_named f ≡ ok (mask.Spare n) → spare ≡ spare_with f old → take n spare ≡ bytes_of f
mask-of (reused w) n old e p = absurd (let z : ◌≡◌ {A = ℕ} 0 1 = cc in omega arith)
mask-of (new w) n old e p = let z : n ≡ length w = cc in front_of w old z p

pub stage-leaves : StageLeaves
stage-leaves b reuse found old other spare list other-spare other-list a t u =
    let (m, e, s) = means b reuse old (stage-call t) in
    let f = same_read b reuse old other a ∙ e in
    let starts = starts_of m.body in
    let n : found.blocks ≡ length starts = ap (λ (q : Staged). q.blocks) s in
    let named : mask_named m.mask ≡ found.mask = sym (ap (λ (q : Staged). q.mask) s) in (
      front_of starts other.list n (staged-list (stage-call u) f) ∙ sym (front_of starts old.list n (staged-list (stage-call t) e)),
      λ k q. mask-of m.mask k other.spare (named ∙ q) (staged-spare (stage-call u) f) ∙ sym (mask-of m.mask k old.spare (named ∙ q) (staged-spare (stage-call t) e)),
    )

-- ---- publishing

-- a test that looks at no more than this is the same for slices that agree so far
begins-alike : (front s t : List ℕ) (n : ℕ) → length front ≡ n → take n t ≡ take n s → begins_with front t ≡ begins_with front s
begins-alike front s t n e same = sym (begins-front front t n e) ∙ ap (begins_with front) same ∙ begins-front front s n e

holds-alike : (f : MaskInForce) (s t : List ℕ) (n : ℕ) → length (bytes_of f) ≡ n → take n t ≡ take n s → holds_mask f t ≡ holds_mask f s
holds-alike (reused w) s t n e same = refl
holds-alike (new w) s t n e same = begins-alike w s t n e same

module _ (b : List ℕ) (reuse : Bool) (found : Staged) (old other : Lent) (a : AsLong old other)
    (spare : take (mask_length (shape_of found.header)) other.spare ≡ take (mask_length (shape_of found.header)) old.spare) (list : take found.blocks other.list ≡ take found.blocks old.list) where
  -- compared alike: an answer that is staging's tells how much there is to compare, and any other is refused
  was-same : (m : Meaning) → read_says b reuse old ≡ ok m → was_staged m (ok found) other ≡ was_staged m (ok found) old
  was-same m e = go (is_answer (ok found) (staged_of m)) refl
    where
      size : length (bytes_of m.mask) ≡ mask_length (shape_of m.header)
      size = (mask-kept b reuse old.kept m (read-parts b reuse old m e) (rooms m.header old (read-room b reuse old m e)).kept).size

      none : (l : Lent) → is_answer (ok found) (staged_of m) ≡ false → was_staged m (ok found) l ≡ false
      none l q = and_first _ _ (and_second (holds_mask m.mask l.spare) _ q)

      go : (t : Bool) → is_answer (ok found) (staged_of m) ≡ t → was_staged m (ok found) other ≡ was_staged m (ok found) old
      go true q =
          let is : found ≡ staged_of m = staged-is (answer-is (ok found) (staged_of m) q) in
          let n : length (bytes_of m.mask) ≡ mask_length (shape_of found.header) = size ∙ ap (λ (s : Staged). mask_length (shape_of s.header)) (sym is) in
          let k : length (starts_of m.body) ≡ found.blocks = ap (λ (s : Staged). s.blocks) (sym is) in
          rw (holds-alike m.mask old.spare other.spare _ n spare, begins-alike (starts_of m.body) old.list other.list _ k list)
      go false q = none other q ∙ sym (none old q)

  pub says-unread : publish_says b reuse (ok found) other ≡ publish_says b reuse (ok found) old
  unfolding publish_says
  says-unread = rw (same_read b reuse old other a) (go (read_says b reuse old) refl)
    where
      go : (x : Res Meaning) → read_says b reuse old ≡ x → (x >>= λ m. require (was_staged m (ok found) other) 3 >>= λ _. ok m) ≡ (x >>= λ m. require (was_staged m (ok found) old) 3 >>= λ _. ok m)
      go (ok m) e = rw (was-same m e)
      go (fail why) e = refl

pub publish-unread : PublishUnread
unfolding published
publish-unread b reuse found said told old other kept image other-kept other-image a same spare list p q =
    let u = publish-call p in
    let v = publish-call q in
    let e = says-unread b reuse found old other a spare list in (
      (v.says ∙ rw (e) (sym u.says)),
      v.kept ∙ rw (e, a.kept) (sym u.kept),
      v.image ∙ rw (e, same) (sym u.image),
    )
