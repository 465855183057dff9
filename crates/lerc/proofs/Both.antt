-- Stage, then publish: the whole read.
-- Assumes nothing.
use mathlib.Core.Path.{◌≡◌, ◌∙◌, refl, sym, ap}
use mathlib.Core.Bool.{Bool, true, ◌&&◌}
use mathlib.Core.List.{List}
use Prim.Native.Nat.{ℕ, ◌≤◌}
use native.Mathlib.Omega.{arith}
use lib.ListN.{length, take, length-append, length-drop}
use lib.Dec.{leb}
use borrow.Author.Tests.{le-leb, leb-true}
use Rattle.lerc_words.specs.declared.Refusal.{Refusal}
use Rattle.lerc_words.specs.Res.{Res, ok, fail, require}
use Rattle.lerc_words.specs.Lists.{over}
use Rattle.lerc_words.proofs.Binding.{and_is, bind_is, bind-fail, bind-counts, require-is, ok-is}
use Rattle.lerc_slices.specs.Slices.{begins_with}
use Rattle.lerc_slices.proofs.Begins.{begins-over}
use Rattle.lerc_header.specs.declared.Header.{Header}
use Rattle.lerc_header.specs.Header.{shape_of, header_says}
use Rattle.lerc_header.specs.Shape.{cells, mask_length, block_count}
use Rattle.lerc_validity.specs.Validity.{MaskInForce, reused, new, bytes_of, mask_says, spare_with, holds_mask}
use Rattle.lerc.specs.declared.Staged.{Staged}
use Rattle.lerc.specs.Meaning.{Meaning, body_says, meaning_from, starts_of, end_of}
use Rattle.lerc.specs.Read.{Lent, room, Masked, masked, read_says, published, refused_after, ReadTold, read_count, WholeRead}
use Rattle.lerc.specs.Stage.{staged_of, staged_spare, is_answer, publish_says, PublishTold, body_told, StageRead, Publishing}
use Rattle.lerc.proofs.Answers.{answer-self}

-- ---- more room is room

-- what is written over a slice does not shorten it
longer : (front old : List ℕ) → length old ≤ length (over front old)
longer front old = rw (length-append) (omega (arith, length-drop (length front) old))

spare-longer : (f : MaskInForce) (spare : List ℕ) → length spare ≤ length (spare_with f spare)
spare-longer (reused m) spare = omega arith
spare-longer (new m) spare = longer m spare

module _ (h : Header) (l l' : Lent) where
  pub room-more : length l.kept ≤ length l'.kept → length l.spare ≤ length l'.spare → length l.list ≤ length l'.list → length l.image ≤ length l'.image
      → room h l ≡ true → room h l' ≡ true
  unfolding room
  room-more a b c d e =
      let s = shape_of h in
      let one = leb (mask_length s) (length l.kept) in
      let two = leb (mask_length s) (length l.spare) in
      let three = leb (block_count s) (length l.list) in
      let (u, k4) = and_is (one && two && three) (leb (cells s) (length l.image)) e in
      let (v, k3) = and_is (one && two) three u in
      let (k1, k2) = and_is one two v in
      let n1 : mask_length s ≤ length l'.kept = omega (arith, leb-true (mask_length s) (length l.kept) k1) in
      let n2 : mask_length s ≤ length l'.spare = omega (arith, leb-true (mask_length s) (length l.spare) k2) in
      let n3 : block_count s ≤ length l'.list = omega (arith, leb-true (block_count s) (length l.list) k3) in
      let n4 : cells s ≤ length l'.image = omega (arith, leb-true (cells s) (length l.image) k4) in
      rw (le-leb _ _ n1, le-leb _ _ n2, le-leb _ _ n3, le-leb _ _ n4)

-- ---- what was read is read again, where there is as much room and the kept mask is the same

module _ (b : List ℕ) (reuse : Bool) (l l' : Lent) where
  masked_again : {w : Masked} → l'.kept ≡ l.kept → ((h : Header) → room h l ≡ true → room h l' ≡ true) → masked b reuse l ≡ ok w → masked b reuse l' ≡ ok w
  unfolding masked
  masked_again k roomy e =
      let (h, p1, e) = bind_is (header_says b) _ e in
      let (_, p2, e) = bind_is (require (room h l) 5) _ e in
      let (f, p3, e) = bind_is (mask_says (take h.size b) h reuse l.kept) _ e in
      rw (p1, roomy h (require-is (room h l) 5 p2), k, p3) e

  pub read_again : {m : Meaning} → l'.kept ≡ l.kept → length l.spare ≤ length l'.spare → length l.list ≤ length l'.list → length l.image ≤ length l'.image
      → read_says b reuse l ≡ ok m → read_says b reuse l' ≡ ok m
  unfolding read_says
  read_again k s n i e =
      let (w, p, q) = bind_is (masked b reuse l) _ e in
      rw (masked_again k (λ h. room-more h l l' (omega (arith, ap length k)) s n i) p) q

-- ---- the two after another

-- a refusal leaves what it found, and the spare as staging left it
left : (l : Lent) (x : Res Masked) {spare list : List ℕ} → spare ≡ staged_spare x l.spare → list ≡ l.list
    → record { kept = l.kept; spare = spare; list = list; image = l.image } ≡ refused_after x l
unfolding refused_after
left l (ok k) p n = rw (p, n)
left l (fail r) p n = rw (p, n)

holds-spare : (f : MaskInForce) (spare : List ℕ) → holds_mask f (spare_with f spare) ≡ true
holds-spare (reused m) spare = refl
holds-spare (new m) spare = begins-over m spare

-- what was staged is found staged
spare-held : (f : MaskInForce) (old : List ℕ) {spare : List ℕ} → spare ≡ spare_with f old → holds_mask f spare ≡ true
spare-held f old e = rw (e) (holds-spare f old)

list_held : (starts old : List ℕ) {list : List ℕ} → list ≡ over starts old → begins_with starts list ≡ true
list_held starts old e = rw (e) (begins-over starts old)

answer-held : (m : Meaning) {found : Staged} → found ≡ staged_of m → is_answer (ok found) (staged_of m) ≡ true
answer-held m e = rw (e) (answer-self m)

-- and what was published is what a whole read tells and leaves
told_is : (m : Meaning) {found : Staged} {end : ℕ} → found ≡ staged_of m → end ≡ end_of m.body → ◌≡◌ {A = Res ReadTold} (ok (record { header = found.header; blocks = found.blocks; end = end })) (read_count m)
told_is m e n = rw (e, n)

lent_is : (m : Meaning) (l : Lent) {kept spare list image : List ℕ} → kept ≡ (published m l).kept → spare ≡ spare_with m.mask l.spare → list ≡ over (starts_of m.body) l.list → image ≡ (published m l).image
    → record { kept = kept; spare = spare; list = list; image = image } ≡ published m l
unfolding published
lent_is m l k s n i = rw (k, s, n, i)

module _ (b : List ℕ) (reuse : Bool) (l : Lent) where
  -- a blob that staging refuses is refused
  pub read-refused : {why : Refusal} {spare list : List ℕ} → StageRead b reuse (fail why) l spare list
      → WholeRead b reuse (fail why) l (record { kept = l.kept; spare = spare; list = list; image = l.image })
  read-refused t =
      let e = bind-fail (read_says b reuse l) _ (sym t.says) in
      record { says = rw (e); lent = rw (e) (left l (masked b reuse l) t.spare (rw (e) at t.list)) }

  -- a meaning has the mask that was found
  pub read-masked : {m : Meaning} → read_says b reuse l ≡ ok m → masked b reuse l ≡ ok (record { header = m.header; mask = m.mask })
  unfolding read_says meaning_from
  read-masked e =
      let (w, p, q) = bind_is (masked b reuse l) _ e in
      let (y, _, r) = bind_is (body_says (take w.header.size b) w.header (bytes_of w.mask)) _ q in
      p ∙ ap (λ (x : Meaning). ok (record { header = x.header; mask = x.mask })) (ok-is r)

  module _ {found : Staged} {spare list : List ℕ} (t : StageRead b reuse (ok found) l spare list) where
    -- as staging left it
    abbrev pub staged : Lent
    staged = record { kept = l.kept; spare = spare; list = list; image = l.image }

    pub means : (m : Meaning) × (read_says b reuse l ≡ ok m) × (found ≡ staged_of m)
    means = bind-counts (read_says b reuse l) _ (sym t.says)

    spare-is : spare ≡ spare_with means.0.mask l.spare
    spare-is = rw (read-masked means.1) at t.spare

    list-is : list ≡ over (starts_of means.0.body) l.list
    list-is = rw means.1 at t.list

    -- publishing gives the same meaning
    pub publishes : publish_says b reuse (ok found) staged ≡ ok means.0
    unfolding publish_says
    publishes =
        let (m, e, f) = means in
        let again : read_says b reuse staged ≡ ok m = read_again b reuse l staged refl (rw (spare-is) (spare-longer m.mask l.spare)) (rw (list-is) (longer (starts_of m.body) l.list)) (omega arith) e in
        rw (again, spare-held m.mask l.spare spare-is, answer-held m f, list_held (starts_of m.body) l.list list-is)

    module _ {done : Res PublishTold} {kept image : List ℕ} (p : Publishing b reuse (ok found) done staged kept image) where
      told : done ≡ ok (body_told means.0.header means.0.body)
      told = rw (publishes) at p.says

      pub read-not : {why : Refusal} → done ≡ fail why → ⊥
      read-not e = let u = sym e ∙ told in let z : ◌≡◌ {A = ℕ} 0 1 = cc in omega arith

      pub read_done : {at : PublishTold} → done ≡ ok at
          → WholeRead b reuse (ok (record { header = found.header; blocks = found.blocks; end = at.end })) l (record { kept = kept; spare = spare; list = list; image = image })
      unfolding published
      read_done {at} e =
          let (m, q, f) = means in
          let n : at.end ≡ end_of m.body = ap (λ (x : PublishTold). x.end) (ok-is (sym e ∙ told)) in
          let k = rw (publishes) at p.kept in
          let i = rw (publishes) at p.image in
          record { says = rw (q) (told_is m f n); lent = rw (q) (lent_is m l k spare-is list-is i) }
