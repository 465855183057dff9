-- What staging and publishing write.
-- Assumes nothing.
use mathlib.Core.Path.{◌≡◌, ◌∙◌, sym, ap, refl, subst}
use mathlib.Core.Logic.{◌≢◌}
use mathlib.Core.Bool.{Bool, true, false}
use mathlib.Core.List.{List}
use Prim.Native.Nat.{ℕ, ◌*◌, ◌/◌, ◌≤◌}
use native.Mathlib.Omega.{arith}
use lib.ListN.{length}
use Rattle.lerc_words.specs.Res.{ok, Res}
use borrow.Author.Tests.{lt-ltb}
use Rattle.lerc_words.specs.Lists.{over, count}
use Rattle.lerc_words.proofs.Counts.{count_same, count-rows}
use Rattle.lerc_header.specs.declared.Header.{Header}
use Rattle.lerc_mask.specs.Mask.{pixel_valid, valid_below}
use Rattle.lerc_words.proofs.Binding.{ok-is}
use Rattle.lerc_header.specs.Shape.{pixels, cells, mask_length}
use Rattle.lerc_header.specs.Header.{shape_of}
use Rattle.lerc_validity.specs.Validity.{MaskInForce, reused, new, bytes_of, spare_with, in_force}
use Rattle.lerc_image.specs.Geometry.{is_valid_cell}
use Rattle.lerc_image.proofs.Upto.{valid-below}
use Rattle.lerc.specs.declared.BodyKind.TheVariants as kind
use Rattle.lerc.specs.declared.Staged.{Staged}
use Rattle.lerc.specs.Meaning.{Meaning, Body, empty, constant, raw, blocks, huffman, starts_of, end_of}
use Rattle.lerc.specs.Read.{Lent, read_says, published, WholeRead}
use Rattle.lerc.specs.Stage.{kind_of, mask_named, staged_of, PublishTold}
use Rattle.lerc.proofs.Both.{means}
use Rattle.lerc_theorems.specs.Writes.{AlikeFrom, AlikeBut}
use Rattle.lerc_theorems.proofs.Meanings.{mask-kept, rooms}
use Rattle.lerc_theorems.proofs.Writes.{whole-writes}
use Rattle.lerc_staged.specs.Staged.{StageWritten, StageWrites, PublishWritten, PublishWrites, PublishWords}
use Rattle.lerc_staged.proofs.Calls.{stage-call, publish-call}
use Rattle.lerc_staged.proofs.Done.{Done, spare-kept, done-of, done-says, done-kept, done-image, staged-spare, staged-list}
use Rattle.lerc_staged.proofs.Fills.{read-room, read-parts, read-handed}
use Rattle.lerc_validity.specs.declared.Mask.TheVariants as mask

-- a whole read with this meaning writes no more
pub record Writes (m : Meaning) (l : Lent) : Type 0 where
  pub kept : AlikeFrom (mask_length (shape_of m.header)) l.kept (published m l).kept
  pub spare : AlikeFrom (mask_length (shape_of m.header)) l.spare (spare_with m.mask l.spare)
  pub list : AlikeFrom (length (starts_of m.body)) l.list (over (starts_of m.body) l.list)
  pub image : AlikeBut (is_valid_cell (shape_of m.header) (bytes_of m.mask)) l.image (published m l).image

module _ (b : List ℕ) (reuse : Bool) (l : Lent) (m : Meaning) (e : read_says b reuse l ≡ ok m) where
  whole : WholeRead b reuse (ok (record { header = m.header; blocks = (length (starts_of m.body)); end = (end_of m.body) })) l (published m l)
  whole = record { says = rw (e); lent = rw (e) }

  pub writes : Writes m l
  unfolding published
  writes =
      let w = whole-writes b reuse l (published m l) _ _ _ whole in
      let z : w.meaning ≡ m = ok-is (sym w.is ∙ e) in
      record {
        kept = subst (λ (n : Meaning). AlikeFrom (mask_length (shape_of n.header)) l.kept (published m l).kept) z w.kept;
        spare = subst (λ (n : Meaning). AlikeFrom (mask_length (shape_of n.header)) l.spare (published m l).spare) z w.spare;
        list = w.list;
        image = subst (λ (n : Meaning). AlikeBut (is_valid_cell (shape_of n.header) (bytes_of n.mask)) l.image (published m l).image) z w.image;
      }

-- ---- staging

reused-spare : (f : MaskInForce) (spare : List ℕ) (n : ℕ) → mask_named f ≡ ok (mask.Kept n) → spare_with f spare ≡ spare
reused-spare (reused w) spare n e = refl
reused-spare (new w) spare n e = absurd (let z : ◌≡◌ {A = ℕ} 0 1 = cc in omega arith)

no-starts : (y : Body) (list : List ℕ) → kind_of y ≢ kind.Blocks → over (starts_of y) list ≡ list
no-starts empty list e = refl
no-starts (constant words end) list e = refl
no-starts (raw words end) list e = refl
no-starts (blocks c) list e = absurd (e refl)
no-starts (huffman delta symbols end) list e = refl

pub stage-writes : StageWrites
stage-writes b reuse found old spare list t = let (m, e, s) = means b reuse old (stage-call t) in rw (s) (go m e)
  where
    go : (m : Meaning) → read_says b reuse old ≡ ok m → StageWritten (staged_of m) old spare list
    go m e =
        let w = writes b reuse old m e in
        let p = staged-spare (stage-call t) e in
        let q = staged-list (stage-call t) e in
        record {
          spare = rw (p) w.spare;
          list = rw (q) w.list;
          reused = λ n k. p ∙ reused-spare m.mask old.spare n k;
          no_blocks = λ k. q ∙ no-starts m.body old.list k;
        }

-- ---- publishing

pub staged-is : {a b : Staged} → ok a ≡ ok b → a ≡ b
staged-is e = cc

-- what publishing was lent holds the mask in force
module _ {b : List ℕ} {reuse : Bool} {a : Res Staged} {l : Lent} {m : Meaning} (d : Done b reuse a l m) where
  pub done-handed : in_force (mask_named m.mask) l.kept l.spare ≡ bytes_of m.mask
  done-handed = ap (in_force (mask_named m.mask) l.kept) (sym (spare-kept m.mask l.spare d.spare)) ∙ read-handed b reuse l m d.means

pub publish-writes : PublishWrites
publish-writes b reuse found end words old kept image p = let (m, d) = done-of (publish-call p) refl in rw (staged-is d.answer) (go m d)
  where
    go : (m : Meaning) → Done b reuse (ok found) old m → PublishWritten (staged_of m) old kept image
    go m d =
        let h = m.header in
        let w = writes b reuse old m d.means in
        let painted = rw (← done-image d (publish-call p)) at w.image in
        record {
          kept = rw (done-kept d (publish-call p)) w.kept;
          image = subst (λ (k : List ℕ). AlikeBut (is_valid_cell (shape_of h) k) old.image image) (sym (done-handed d)) painted;
          past = λ c l. painted.rest c (outside c l (is_valid_cell (shape_of h) (bytes_of m.mask) c) refl);
        }
      where
        outside : (c : ℕ) → cells (shape_of m.header) ≤ c → (v : Bool) → is_valid_cell (shape_of m.header) (bytes_of m.mask) c ≡ v → is_valid_cell (shape_of m.header) (bytes_of m.mask) c ≡ false
        outside c l true e = absurd (let k = valid-below (shape_of m.header) (bytes_of m.mask) c e in omega (arith, k))
        outside c l false e = e

-- as many words as valid cells
cells-valid : (h : Header) (m : List ℕ) → count (cells (shape_of h)) (is_valid_cell (shape_of h) m) ≡ valid_below (pixels (shape_of h)) m * h.depth
unfolding is_valid_cell
cells-valid h m = count_same (cells (shape_of h)) _ (λ c. pixel_valid m (c / h.depth)) (λ c l. rw (lt-ltb _ _ l)) ∙ count-rows h.depth (pixels (shape_of h)) (pixel_valid m)

pub publish-words : PublishWords
publish-words b reuse found end words old kept image p =
    let (m, d) = done-of (publish-call p) refl in
    let h = m.header in
    let counts = (mask-kept b reuse old.kept m (read-parts b reuse old m d.means) (rooms h old (read-room b reuse old m d.means)).kept).counts in
    words_are (done-says d (publish-call p))
    ∙ ap (λ (v : ℕ). v * h.depth) (sym counts)
    ∙ sym (cells-valid h (bytes_of m.mask))
    ∙ ap (λ (k : List ℕ). count (cells (shape_of h)) (is_valid_cell (shape_of h) k)) (sym (done-handed d))
    ∙ ap (λ (s : Staged). count (cells (shape_of s.header)) (is_valid_cell (shape_of s.header) (in_force s.mask old.kept old.spare))) (sym (staged-is d.answer))
  where
    words_are : {e n k j : ℕ} → ok {A = PublishTold} (record { end = e; words = n }) ≡ ok {A = PublishTold} (record { end = k; words = j }) → n ≡ j
    words_are q = ap (λ (t : PublishTold). t.words) (ok-is q)
