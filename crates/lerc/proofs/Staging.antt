-- Staging: one law for each way it ends.
-- Assumes nothing.
use mathlib.Core.Path.{◌≡◌, ◌∙◌, refl, sym, ap}
use mathlib.Core.Bool.{Bool, true}
use mathlib.Core.List.{List}
use lib.ListN.{length, take}
use Prim.Native.Nat.{ℕ, ◌≤◌}
use Rattle.lerc_words.specs.declared.Refusal.{Refusal}
use Rattle.lerc_words.specs.Res.{Res, ok, fail, ◌>>=◌, after}
use Rattle.lerc_header.specs.declared.Header.{Header}
use Rattle.lerc_header.specs.Header.{shape_of, header_says}
use Rattle.lerc_header.specs.Shape.{block_count}
use Rattle.lerc_validity.specs.declared.Mask.{Mask}
use Rattle.lerc_validity.specs.Validity.{MaskInForce, bytes_of, spare_with, Prepared, in_force}
use Rattle.lerc.specs.declared.Staged.{Staged}
use Rattle.lerc.specs.Meaning.{Body, Meaning, body_says}
use Rattle.lerc.specs.Read.{Lent, room, Masked, masked}
use Rattle.lerc.specs.Stage.{mask_named, staged_body, staged_of, staged_list, StageRead}
use Rattle.lerc.specs.Parts.{Ready, answer_of, body_in, list_after, Checked, StagedBehind}
use Rattle.lerc.specs.declared.body.BodyChecked.{BodyChecked}
use Rattle.lerc.proofs.Endings.{checked-no, read_no, read_behind}
use Rattle.lerc.proofs.MaskKept.{asked, rooms, refuses, accepted, names, masked-no, masked-yes, ready, part-found}

-- the meaning with this body
abbrev pub with : Header → MaskInForce → Body → Meaning
with h f y = record { header = h; mask = f; body = y }

-- what is told of a body is told of its meaning
told : (h : Header) (f : MaskInForce) (y : Res Body) → (y >>= λ b. ok (staged_body h (mask_named f) b)) ≡ ((y >>= λ b. ok (with h f b)) >>= λ m. ok (staged_of m))
told h f (ok b) = refl
told h f (fail r) = refl

listed : (h : Header) (f : MaskInForce) (y : Res Body) (list : List ℕ) → list_after y list ≡ staged_list (y >>= λ b. ok (with h f b)) list
listed h f (ok b) list = refl
listed h f (fail r) list = refl

module _ (b : List ℕ) (reuse : Bool) (l : Lent) where
  -- a refusal as far as the mask leaves everything
  pub stage-no : {why : Refusal} → masked b reuse l ≡ fail why → StageRead b reuse (fail why) l l.spare l.list
  stage-no e = let r = read_no b reuse l e in record { says = rw (r); spare = rw (e); list = rw (r) }

  -- behind an accepted mask the body decides
  pub stage_body : {k : Masked} {said : Res Mask} {r : Res Staged} {spare list : List ℕ} → masked b reuse l ≡ ok k → said ≡ mask_named k.mask → spare ≡ spare_with k.mask l.spare
      → StagedBehind (body_says (take k.header.size b) k.header (bytes_of k.mask)) k.header said r l.list list → StageRead b reuse r l spare list
  stage_body {k} e n p t =
      let y = body_says (take k.header.size b) k.header (bytes_of k.mask) in
      let u = read_behind b reuse l e in
      let t' = rw (n) at t in
      record { says = rw (u) (t'.says ∙ told k.header k.mask y); spare = rw (e) p; list = rw (u) (t'.list ∙ listed k.header k.mask y l.list) }

-- ---- a body that was checked, then listed

-- a refusal leaves the list
pub staged-left : {y : Res Body} {s : List ℕ} {h : Header} {m : List ℕ} {why : Refusal} (t : Checked y s h m (fail why)) (said : Res Mask) {list : List ℕ} → StagedBehind y h said (fail why) list list
staged-left t said = let n = checked-no t in record { says = rw (n); list = rw (n) }

module _ {y : Res Body} {s : List ℕ} {h : Header} {m : List ℕ} {c : BodyChecked} (t : Checked y s h m (ok c)) (said : Res Mask) where
  pub staged-listed : {list list' : List ℕ} → list' ≡ list_after (body_in s h m c.words c.found) list → StagedBehind y h said (ok (answer_of h said c.found)) list list'
  staged-listed {list} p = record { says = t.says said; list = p ∙ ap (λ (x : Res Body). list_after x list) (sym t.means) }

-- ---- behind a mask that was found

module _ (b : List ℕ) (reuse : Bool) (l : Lent) (h : Header) (e : header_says b ≡ ok h) (d : room h l ≡ true) {said : Res Mask} {newer : List ℕ}
    (p : Prepared (asked b reuse l h e d) said l.spare newer) where
  -- a refused mask leaves everything
  pub mask-refused : {why : Refusal} → said ≡ fail why → StageRead b reuse (fail why) l newer l.list
  mask-refused {why} q =
      let i = refuses {x = asked b reuse l h e d} p.says q in
      let n : newer ≡ l.spare = rw (i) at p.spare in
      rw (n) (stage-no b reuse l (masked-no b reuse l h e d i))

  module _ {next : Mask} (q : said ≡ ok next) where
    found : (f : MaskInForce) × (asked b reuse l h e d ≡ ok f)
    found = accepted said p.says q

    part : in_force said l.kept newer ≡ bytes_of found.0
    part = part-found b reuse l h e d found.0 found.1 p

    -- what the rest needs
    pub stage-asked : Ready (take h.size b) h (in_force said l.kept newer) × (block_count (shape_of h) ≤ length l.list)
    stage-asked = (rw (part) (ready b reuse l h e d found.0 found.1), (rooms b reuse l h e d).list)

    -- and what it gives
    pub staged-behind : {r : Res Staged} {list : List ℕ} → StagedBehind (body_says (take h.size b) h (in_force said l.kept newer)) h said r l.list list → StageRead b reuse r l newer list
    staged-behind t =
        let (f, i) = found in
        stage_body b reuse l (masked-yes b reuse l h e d f i) (names said p.says f i)
        (p.spare ∙ ap (λ (x : Res MaskInForce). after x l.spare (λ g. spare_with g l.spare)) i) (rw (part) at t)
