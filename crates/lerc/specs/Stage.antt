-- Stage, then publish: their answers, and every lent slice afterwards.
-- Assumes nothing.
use Rattle.std.specs.Prelude.{ℕ, ◌*◌, ◌≡◌, Bool, false, ◌&&◌, List, length, eqb}
use Rattle.lerc_words.specs.Res.{Res, ok, fail, ◌>>=◌, require, after}
use Rattle.lerc_words.specs.Lists.{over}
use Rattle.lerc_slices.specs.Slices.{begins_with}
use Rattle.lerc_header.specs.declared.Header.{Header}
use Rattle.lerc_validity.specs.declared.Mask.{Mask}
use Rattle.lerc_validity.specs.declared.Mask.TheVariants as mask
use Rattle.lerc_validity.specs.Validity.{MaskInForce, reused, new, spare_with}
use Rattle.lerc_validity.specs.Validity.{holds_mask}
use Rattle.lerc.specs.declared.BodyKind.{BodyKind}
use Rattle.lerc.specs.declared.BodyKind.TheVariants as kind
use Rattle.lerc.specs.declared.Staged.{Staged}
use Rattle.lerc.specs.declared.Published.{Published}
use Rattle.lerc.specs.Meaning.{Body, empty, constant, raw, blocks, huffman, Meaning, end_of, starts_of}
use Rattle.lerc.specs.Read.{Lent, Masked, masked, read_says, published}

-- ---- the answer of staging

-- "For a body without blocks it reports which kind it is"
abbrev pub kind_of : Body → BodyKind
kind_of empty = kind.Empty
kind_of (constant words end) = kind.Constant
kind_of (raw words end) = kind.Raw
kind_of (blocks c) = kind.Blocks
kind_of (huffman delta symbols end) = kind.Huffman

-- which mask is in force, and how long it is
abbrev pub mask_named : MaskInForce → Res Mask
mask_named (reused m) = ok (mask.Kept (length m))
mask_named (new m) = ok (mask.Spare (length m))

-- the kind of a body, "the count of blocks, the end", beside the header and the mask
abbrev pub staged_body : Header → Res Mask → Body → Staged
staged_body h said y = record { header = h; body = kind_of y; blocks = length (starts_of y); end = end_of y; mask = said }

-- what staging tells of a meaning
abbrev pub staged_of : Meaning → Staged
staged_of m = staged_body m.header (mask_named m.mask) m.body

-- "Staging refuses as whole read did, image room included"
abbrev pub stage_says : List ℕ → Bool → Lent → Res Staged
stage_says b reuse l = read_says b reuse l >>= λ m. ok (staged_of m)

-- "leaves the new mask in the spare", also where the body is then refused
abbrev pub staged_spare : Res Masked → List ℕ → List ℕ
staged_spare k spare = after k spare (λ m. spare_with m.mask spare)

-- "and the block list in its slice"
abbrev pub staged_list : Res Meaning → List ℕ → List ℕ
staged_list m list = after m list (λ w. over (starts_of w.body) list)

-- "it touches neither image nor kept mask", which are lent to be looked at alone
pub record StageRead (b : List ℕ) (reuse : Bool) (r : Res Staged) (old : Lent) (new-spare new-list : List ℕ) : Type 0 where
  pub says : r ≡ stage_says b reuse old
  pub spare : new-spare ≡ staged_spare (masked b reuse old) old.spare
  pub list : new-list ≡ staged_list (read_says b reuse old) old.list

-- ---- an answer that staging gave

abbrev pub same_header : Header → Header → Bool
same_header a b =
    eqb a.rows b.rows && eqb a.columns b.columns && eqb a.depth b.depth && eqb a.valid b.valid
    && eqb a.side b.side && eqb a.size b.size && eqb a.kind b.kind && eqb a.error b.error
    && eqb a.min b.min && eqb a.max b.max && eqb a.mask b.mask

abbrev pub kind_number : BodyKind → ℕ
kind_number kind.Empty = 0
kind_number kind.Constant = 1
kind_number kind.Raw = 2
kind_number kind.Blocks = 3
kind_number kind.Huffman = 4

abbrev pub same_mask : Res Mask → Res Mask → Bool
same_mask (ok (mask.Kept n)) (ok (mask.Kept k)) = eqb n k
same_mask (ok (mask.Kept n)) (ok (mask.Spare k)) = false
same_mask (ok (mask.Kept n)) (fail r) = false
same_mask (ok (mask.Spare n)) (ok (mask.Kept k)) = false
same_mask (ok (mask.Spare n)) (ok (mask.Spare k)) = eqb n k
same_mask (ok (mask.Spare n)) (fail r) = false
same_mask (fail r) b = false

unfoldable pub same_staged : Staged → Staged → Bool
same_staged a b =
    same_header a.header b.header && eqb (kind_number a.body) (kind_number b.body) && eqb a.blocks b.blocks && eqb a.end b.end
    && same_mask a.mask b.mask

-- the answer given is this one; a refused one is not
abbrev pub is_answer : Res Staged → Staged → Bool
is_answer (ok a) b = same_staged a b
is_answer (fail r) b = false

-- staging gave this answer for this meaning, "spare and list included": a new mask stands in the spare, and the starts in the list
abbrev pub was_staged : Meaning → Res Staged → Lent → Bool
was_staged m a l = holds_mask m.mask l.spare && is_answer a (staged_of m) && begins_with (starts_of m.body) l.list

-- ---- publishing

-- "with an answer that staging did not give for these inputs .. it refuses 3, or what the blob itself earns first"
unfoldable pub publish_says : List ℕ → Bool → Res Staged → Lent → Res Meaning
publish_says b reuse a l = do
  m ← read_says b reuse l
  _ ← require (was_staged m a l) 3
  ok m

-- where the body ends, and how many words were written: one for each valid cell
abbrev pub PublishTold : Type 0
PublishTold = Published

abbrev pub body_told : Header → Body → PublishTold
body_told h y = record { end = end_of y; words = h.valid * h.depth }

-- "fills, then copies the mask"; "its refusal changes no lent slice". Spare and list are lent to be looked at alone
pub record Publishing (b : List ℕ) (reuse : Bool) (a : Res Staged) (r : Res PublishTold) (old : Lent) (new-kept new-image : List ℕ) : Type 0 where
  pub says : r ≡ (publish_says b reuse a old >>= λ m. ok (body_told m.header m.body))
  pub kept : new-kept ≡ after (publish_says b reuse a old) old.kept (λ m. (published m old).kept)
  pub image : new-image ≡ after (publish_says b reuse a old) old.image (λ m. (published m old).image)
