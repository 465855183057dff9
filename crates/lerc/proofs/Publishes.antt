-- Publishing: one law for each way it ends.
-- Assumes nothing.
use mathlib.Core.Path.{◌≡◌, ◌∙◌, refl, sym, ap}
use mathlib.Core.Bool.{Bool, true, false, ◌&&◌}
use mathlib.Core.List.{List}
use lib.ListN.{take}
use Prim.Native.Nat.{ℕ, ◌*◌}
use lib.Dec.{eqb}
use borrow.Author.Tests.{eqb-true, eqb-false}
use Rattle.lerc_words.specs.declared.Refusal.{Refusal}
use Rattle.lerc_words.specs.Res.{Res, ok, fail, ◌>>=◌, refuse, after}
use Rattle.lerc_words.specs.Lists.{over}
use Rattle.lerc_words.proofs.Binding.{bind-fail, bind-counts}
use Rattle.lerc_header.specs.declared.Header.{Header}
use Rattle.lerc_header.specs.Header.{header_says}
use Rattle.lerc_validity.specs.declared.compared.MaskFound.{MaskFound}
use Rattle.lerc_validity.specs.Validity.{MaskInForce, bytes_of, told, Compared, in_force}
use Rattle.lerc_validity.proofs.Comparing.{same-prepared}
use Rattle.lerc_image.specs.Own.{own_mask}
use Rattle.lerc_slices.specs.Slices.{begins_with}
use Rattle.lerc_validity.specs.Validity.{holds_mask}
use Rattle.lerc.specs.declared.Staged.{Staged}
use Rattle.lerc_validity.specs.declared.Mask.{Mask}
use Rattle.lerc.specs.declared.body.BodyChecked.{BodyChecked}
use Rattle.lerc.specs.Meaning.{Body, Meaning, body_says, starts_of}
use Rattle.lerc.specs.Read.{Lent, room, Masked, masked, read_says, published}
use Rattle.lerc.specs.Stage.{mask_named, staged_body, is_answer, publish_says, PublishTold, body_told, Publishing}
use Rattle.lerc.specs.Parts.{Ready, answer_of, body_in, list_holds, image_after, Checked, Behind, given_body, PublishedBehind, not_held}
use Rattle.lerc.proofs.Endings.{checked-no, checked-ok, read_no, read_behind, body-none}
use Rattle.lerc.proofs.MaskKept.{asked, rooms, which-is, is-new, masked-no, masked-yes, ready, part-found, fits, own_is}
use Rattle.lerc.proofs.Staging.{with}

module _ (b : List ℕ) (reuse : Bool) (a : Res Staged) (l : Lent) where
  -- a refusal changes nothing
  pub publish-refused : {why : Refusal} → publish_says b reuse a l ≡ fail why → Publishing b reuse a (fail why) l l.kept l.image
  publish-refused e = record {
    says = sym (ap (λ (x : Res Meaning). x >>= λ m. ok (body_told m.header m.body)) e);
    kept = sym (ap (λ (x : Res Meaning). after x l.kept (λ m. (published m l).kept)) e);
    image = sym (ap (λ (x : Res Meaning). after x l.image (λ m. (published m l).image)) e);
  }

  -- what the blob itself earns
  pub publish-no : {why : Refusal} → read_says b reuse l ≡ fail why → Publishing b reuse a (fail why) l l.kept l.image
  unfolding publish_says
  publish-no {why} e = let n : publish_says b reuse a l ≡ fail why = rw (e) in publish-refused n

  module _ {k : Masked} (e : masked b reuse l ≡ ok k) where
    abbrev body : Res Body
    body = body_says (take k.header.size b) k.header (bytes_of k.mask)

    -- the spare holds the mask: the answer and the list decide
    pub publish-body : {said : Res Mask} {r : Res PublishTold} {kept image : List ℕ} → said ≡ mask_named k.mask → holds_mask k.mask l.spare ≡ true
        → PublishedBehind (given_body body k.header said a l.list) k.header (bytes_of k.mask) r l.kept kept l.image image → Publishing b reuse a r l kept image
    unfolding publish_says given_body published
    publish-body {said} {r} {kept} {image} n t p = go body (read_behind b reuse l e) (rw (n) at p)
      where
        go : (y : Res Body) → read_says b reuse l ≡ (y >>= λ z. ok (with k.header k.mask z))
            → PublishedBehind (given_body y k.header (mask_named k.mask) a l.list) k.header (bytes_of k.mask) r l.kept kept l.image image → Publishing b reuse a r l kept image
        go (fail why) u q = record { says = rw (u) q.says; kept = rw (u) q.kept; image = rw (u) q.image }
        go (ok y) u q = on (is_answer a (staged_body k.header (mask_named k.mask) y) && begins_with (starts_of y) l.list) refl
          where
            on : (v : Bool) → (is_answer a (staged_body k.header (mask_named k.mask) y) && begins_with (starts_of y) l.list) ≡ v → Publishing b reuse a r l kept image
            on true c = record { says = rw (u, t, c) (rw (c) at q.says); kept = rw (u, t, c) (rw (c) at q.kept); image = rw (u, t, c) (rw (c) at q.image) }
            on false c = record { says = rw (u, t, c) (rw (c) at q.says); kept = rw (u, t, c) (rw (c) at q.kept); image = rw (u, t, c) (rw (c) at q.image) }

    -- it does not: the body's own refusal, else 3
    pub publish-changed : {r : Res PublishTold} → holds_mask k.mask l.spare ≡ false → r ≡ not_held body → Publishing b reuse a r l l.kept l.image
    unfolding publish_says
    publish-changed {r} t p = go body (read_behind b reuse l e) p
      where
        go : (y : Res Body) → read_says b reuse l ≡ (y >>= λ z. ok (with k.header k.mask z)) → r ≡ not_held y → Publishing b reuse a r l l.kept l.image
        go (fail why) u q = record { says = rw (u) q; kept = rw (u); image = rw (u) }
        go (ok y) u q = record { says = rw (u, t) q; kept = rw (u, t); image = rw (u, t) }

-- ---- a body that was checked, held against what was given, then written

pub ap2 : {A B C : Type 0} (f : A → B → C) {a a' : A} {b b' : B} → a ≡ a' → b ≡ b' → f a b ≡ f a' b'
ap2 f p q = rw (p, q)

same_test : (a : Res Staged) (list : List ℕ) {x : Res Body} {b : Body} {found other : Staged} → x ≡ ok b → found ≡ other
    → (is_answer a found && list_holds x list) ≡ (is_answer a other && begins_with (starts_of b) list)
same_test a list p q = rw (p, q)

-- a refusal leaves all
pub body-left : {y : Res Body} {s : List ℕ} {h : Header} {m : List ℕ} {why : Refusal} (t : Checked y s h m (fail why)) (said : Res Mask) (a : Res Staged) (list : List ℕ) {kept image : List ℕ}
    → PublishedBehind (given_body y h said a list) h m (fail why) kept kept image image
unfolding given_body
body-left t said a list = rw (checked-no t) (record { says = refl; kept = refl; image = refl })

module _ {y : Res Body} {s : List ℕ} {h : Header} {m : List ℕ} {c : BodyChecked} (t : Checked y s h m (ok c)) (said : Res Mask) where
  module _ {found : Staged} (e : found ≡ answer_of h said c.found) (a : Res Staged) (list : List ℕ) where
    abbrev test : Bool
    test = is_answer a found && list_holds (body_in s h m c.words c.found) list

    given : (b : Body) × (y ≡ ok b) × (found ≡ staged_body h said b)
    given = let (b, p, q) = checked-ok t said in (b, p, e ∙ q)

    -- what the code compares is what was staged
    test-is : test ≡ (is_answer a (staged_body h said given.0) && begins_with (starts_of given.0) list)
    test-is = same_test a list (sym t.means ∙ given.1) given.2

    pub not-staged : {r : Res PublishTold} {kept image : List ℕ} → test ≡ false → r ≡ fail (refuse 3) → PublishedBehind (given_body y h said a list) h m r kept kept image image
    unfolding given_body
    not-staged c q = let c' = sym test-is ∙ c in rw (given.1, c') (record { says = q; kept = refl; image = refl })

    pub body-published : {kept kept' image image' : List ℕ} → test ≡ true → kept' ≡ over m kept → image' ≡ image_after (body_in s h m c.words c.found) h m image
        → PublishedBehind (given_body y h said a list) h m (ok (record { end = found.end; words = h.valid * h.depth })) kept kept' image image'
    unfolding given_body
    body-published {image = image} c k i =
        let c' = sym test-is ∙ c in
        let i' = i ∙ ap (λ (x : Res Body). image_after x h m image) (sym t.means ∙ given.1) in
        let told = ap {B = Res PublishTold} (λ (x : Staged). ok (record { end = x.end; words = h.valid * h.depth })) given.2 in
        rw (given.1, c') (record { says = told; kept = k; image = i' })

-- ---- behind a mask that was compared

module _ (b : List ℕ) (reuse : Bool) (l : Lent) (h : Header) (e : header_says b ≡ ok h) (d : room h l ≡ true) where
  abbrev s : List ℕ
  s = take h.size b

  pub mask-refused : {why : Refusal} (a : Res Staged) → Compared (asked b reuse l h e d) (fail why) l.spare → Publishing b reuse a (fail why) l l.kept l.image
  mask-refused a p = publish-no b reuse a l (read_no b reuse l (masked-no b reuse l h e d (bind-fail (asked b reuse l h e d) _ (sym p.says))))

  module _ {r : MaskFound} (p : Compared (asked b reuse l h e d) (ok r) l.spare) where
    found : (f : MaskInForce) × (asked b reuse l h e d ≡ ok f) × (r ≡ record { mask = told f; same = holds_mask f l.spare })
    found = bind-counts (asked b reuse l h e d) _ (sym p.says)

    named : ok r.mask ≡ mask_named found.0
    named = ap (λ (x : MaskFound). ok x.mask) found.2 ∙ which-is found.0

    same_is : r.same ≡ holds_mask found.0 l.spare
    same_is = ap (λ (x : MaskFound). x.same) found.2

    -- the spare holds it
    module _ (q : r.same ≡ true) where
      part : in_force (ok r.mask) l.kept l.spare ≡ bytes_of found.0
      part = part-found b reuse l h e d found.0 found.1 (same-prepared (asked b reuse l h e d) l.spare p q)

      -- what the rest needs
      pub behind : Behind s h (ok r.mask) l.kept l.spare l.list l.image
      behind = record {
        ready = rw (part) (ready b reuse l h e d found.0 found.1);
        room = (rooms b reuse l h e d).image;
        blocks = (rooms b reuse l h e d).list;
        fits = fits b reuse l h e d found.0 found.1 named;
      }

      -- and what it gives
      pub published-behind : {a : Res Staged} {done : Res PublishTold} {kept image : List ℕ}
          → PublishedBehind (given_body (body_says s h (in_force (ok r.mask) l.kept l.spare)) h (ok r.mask) a l.list) h (in_force (ok r.mask) l.kept l.spare) done l.kept kept l.image image
          → Publishing b reuse a done l kept image
      published-behind {a} t = publish-body b reuse a l (masked-yes b reuse l h e d found.0 found.1) named (sym same_is ∙ q) (rw (part) at t)

    -- it does not
    module _ (q : r.same ≡ false) where
      lacks : holds_mask found.0 l.spare ≡ false
      lacks = sym same_is ∙ q

      own : (h.valid ≡ 0 → ⊥) → own_mask s h ≡ bytes_of found.0
      own v = let (w, is) = is-new found.0 l.spare lacks in own_is b reuse l h e d found.0 found.1 w is v ∙ ap bytes_of (sym is)

      pub changed : (h.valid ≡ 0 → ⊥) → Ready s h (own_mask s h)
      changed v = rw (own v) (ready b reuse l h e d found.0 found.1)

      -- the body is judged by the same mask
      alike : body_says s h (own_mask s h) ≡ body_says s h (bytes_of found.0)
      alike = go (eqb h.valid 0) refl
        where
          go : (t : Bool) → eqb h.valid 0 ≡ t → body_says s h (own_mask s h) ≡ body_says s h (bytes_of found.0)
          go true c = let z = eqb-true h.valid 0 c in body-none s h (own_mask s h) z ∙ sym (body-none s h (bytes_of found.0) z)
          go false c = ap (body_says s h) (own (eqb-false h.valid 0 c))

      pub published-changed : (a : Res Staged) {done : Res PublishTold} → done ≡ not_held (body_says s h (own_mask s h)) → Publishing b reuse a done l l.kept l.image
      published-changed a t = publish-changed b reuse a l (masked-yes b reuse l h e d found.0 found.1) lacks (t ∙ ap not_held alike)
