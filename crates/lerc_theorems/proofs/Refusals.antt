-- What a refusal leaves.
-- Assumes nothing.
use mathlib.Core.Path.{◌≡◌, ◌∙◌, sym, ap, refl}
use mathlib.Core.Bool.{Bool, true}
use mathlib.Core.List.{List, [], ◌∷◌, ◌++◌}
use Prim.Native.Nat.{ℕ, ◌+◌}
use native.Mathlib.Nat.{zero-add}
use native.Mathlib.Omega.{arith}
use lib.ListN.{length, take, drop}
use lib.Seq.{take-append_seam}
use Rattle.lerc_words.specs.declared.Refusal.{Refusal}
use Rattle.lerc_words.specs.Res.{Res, ok, fail, ◌>>=◌, require, after}
use Rattle.lerc_words.specs.Lists.{over}
use Rattle.lerc_words.proofs.Binding.{bind_is, require-is, ok-is, bind-fail}
use Rattle.lerc_header.specs.declared.Header.{Header}
use Rattle.lerc_header.specs.Header.{shape_of, header_says}
use Rattle.lerc_header.specs.Shape.{mask_length}
use Rattle.lerc_bits.specs.Bits.{Counts, CountsDecoded}
use Rattle.lerc_mask.specs.Mask.{RunsUnrolled}
use Rattle.lerc_block.specs.Block.{Block, BlockRead}
use Rattle.lerc_image.specs.Blocks.{Chain}
use Rattle.lerc_image.specs.Walk.{walk_says, walk_list, BlocksWalked}
use Rattle.lerc_image.specs.Fill.{fill_says, fill_image, Filled}
use Rattle.lerc_image.specs.Tiles.{Tiled}
use Rattle.lerc_ranges.specs.declared.Ranges.{Ranges}
use Rattle.lerc_validity.specs.Validity.{Prepared, MaskInForce, reused, new, which, mask_says, prepare_says, in_force, MaskTold}
use Rattle.lerc_validity.proofs.Prepared.{mask-right, prepared-right}
use Rattle.lerc.specs.Read.{Lent, room, Masked, masked, read_says, refused_after, WholeRead}
use Rattle.lerc.specs.Stage.{publish_says, StageRead, Publishing}
use Rattle.lerc_fills.specs.Each.{filled_of, fill_each}
use Rattle.lerc_fills.proofs.Turns.{length-fill}
use Rattle.lerc_theorems.specs.Promises.{HandedBack}
use Rattle.lerc_theorems.specs.Calls.{FillCall}
use Rattle.lerc_theorems.specs.Refusals.{RefusalsKeep, RefusalsEmpty, NewMask, WholeKeeps}
use Rattle.lerc_theorems.proofs.Calls.{fill-call, each-call}
use Rattle.lerc_theorems.proofs.Meanings.{rooms}
use Rattle.lerc_validity.specs.declared.Mask.TheVariants as mask
use Rattle.lerc.specs.declared.Staged.{Staged}
use Rattle.std.specs.Prelude.{◌≢◌}

-- ---- slices that are lent

decoded-keeps : (m : Res Counts) {why : Refusal} {old x : List ℕ} → CountsDecoded m (fail why) old x → x ≡ old
decoded-keeps m p = let e = bind-fail m _ (sym p.says) in p.left ∙ rw (e)

unrolled-keeps : (m : Res (List ℕ)) {why : Refusal} {old x : List ℕ} → RunsUnrolled m (fail why) old x → x ≡ old
unrolled-keeps m p = let e = bind-fail m _ (sym p.says) in p.left ∙ rw (e)

-- an accepted mask says which it is
which-refused : (m : Res MaskInForce) {why : Refusal} → (m >>= which) ≡ fail why → m ≡ fail why
which-refused (ok (reused m)) e = absurd (let z : ◌≡◌ {A = ℕ} 0 1 = cc in omega arith)
which-refused (ok (new m)) e = absurd (let z : ◌≡◌ {A = ℕ} 0 1 = cc in omega arith)
which-refused (fail r) e = cc

prepared-keeps : (m : Res MaskInForce) {why : Refusal} {old x : List ℕ} → Prepared m (fail why) old x → x ≡ old
prepared-keeps m p = let e = which-refused m (sym p.says) in p.spare ∙ rw (e)

read_keeps : (m : Res Block) {why : Refusal} {old x : List ℕ} → BlockRead m (fail why) old x → x ≡ old
read_keeps m p = let e = bind-fail m _ (sym p.says) in p.words ∙ rw (e)

walked_keeps : (b : List ℕ) (h : Header) (g : Ranges) (m : List ℕ) {why : Refusal} {old x : List ℕ} → BlocksWalked b h g m (fail why) old x → x ≡ old
unfolding walk_list
walked_keeps b h g m {old = old} p = let e = bind-fail (walk_says b h g m (length old)) _ (sym p.says) in p.list ∙ rw (e)

filled_keeps : (b : List ℕ) (h : Header) (g : Ranges) (m list : List ℕ) (n : ℕ) {why : Refusal} {old x : List ℕ} → Filled b h g m list n (fail why) old x → x ≡ old
unfolding fill_image
filled_keeps b h g m list n {old = old} p = let e = bind-fail (fill_says b h g m list n (length old)) _ (sym p.says) in p.image ∙ rw (e)

tiled-keeps : (c : Res Chain) {h : Header} {m : List ℕ} {why : Refusal} {list l image x : List ℕ} → Tiled c h m (fail why) list l image x → (l ≡ list) × (x ≡ image)
tiled-keeps c p = let e = bind-fail c _ (sym p.says) in (p.list ∙ rw (e), p.image ∙ rw (e))

-- ---- a list of fills

module _ (b : List ℕ) (h : Header) (r : Ranges) (m list : List ℕ) where
  refused_says : (n : ℕ) {why : Refusal} {image any : List ℕ} → FillCall b h r m list n (fail why) image any → fill_says b h r m list n (length image) ≡ fail why
  refused_says n {image = image} f = bind-fail (fill_says b h r m list n (length image)) _ (sym (fill-call f).says)

  skipped : (n : ℕ) (image : List ℕ) {why : Refusal} → fill_says b h r m list n (length image) ≡ fail why → fill_image b h r m list n image ≡ image
  unfolding fill_image
  skipped n image e = rw (e)

  -- a refused number is as good as left out
  each-skips : (ms : List ℕ) (n : ℕ) (ns image : List ℕ) (why : Refusal) → fill_says b h r m list n (length image) ≡ fail why → fill_each b h r m list (ms ++ n ∷ ns) image ≡ fill_each b h r m list (ms ++ ns) image
  unfolding fill_each
  each-skips [] n ns image why e = ap (fill_each b h r m list ns) (skipped n image e)
  each-skips (i ∷ ms) n ns image why e = each-skips ms n ns (fill_image b h r m list i image) why (rw (length-fill b h r m list i image) e)

  count-skips : (room : ℕ) (ms : List ℕ) (n : ℕ) (ns : List ℕ) {why : Refusal} → fill_says b h r m list n room ≡ fail why → filled_of b h r m list room (ms ++ n ∷ ns) ≡ filled_of b h r m list room (ms ++ ns)
  unfolding filled_of
  count-skips room [] n ns e = rw (e) (zero-add (filled_of b h r m list room ns))
  count-skips room (i ∷ ms) n ns e = rw (count-skips room ms n ns e)

  -- none was filled
  none_left : (ns image : List ℕ) → filled_of b h r m list (length image) ns ≡ 0 → fill_each b h r m list ns image ≡ image
  unfolding filled_of fill_each
  none_left [] image z = refl
  none_left (n ∷ ns) image z = go (fill_says b h r m list n (length image)) refl (none_left ns image)
    where
      go : (x : Res Block) → fill_says b h r m list n (length image) ≡ x → (filled_of b h r m list (length image) ns ≡ 0 → fill_each b h r m list ns image ≡ image) → fill_each b h r m list ns (fill_image b h r m list n image) ≡ image
      go (ok k) e left = absurd (let y : 1 + filled_of b h r m list (length image) ns ≡ 0 = rw (e) at z in omega arith)
      go (fail why) e left = rw (skipped n image e) (left (sym (count-skips (length image) [] n ns e) ∙ z))

-- ---- staging and publishing

staged-keeps : {b : List ℕ} {reuse : Bool} {l : Lent} {why : Refusal} {spare list : List ℕ} → StageRead b reuse (fail why) l spare list → list ≡ l.list
staged-keeps {b} {reuse} {l} p = let e = bind-fail (read_says b reuse l) _ (sym p.says) in p.list ∙ rw (e)

published-keeps : {b : List ℕ} {reuse : Bool} {a : Res Staged} {l : Lent} {why : Refusal} {kept image : List ℕ} → Publishing b reuse a (fail why) l kept image
    → (kept ≡ l.kept) × (image ≡ l.image)
published-keeps {b} {reuse} {a} {l} p = let e = bind-fail (publish_says b reuse a l) _ (sym p.says) in (p.kept ∙ rw (e), p.image ∙ rw (e))

pub refusals-keep : RefusalsKeep
refusals-keep = record {
  decode-plan = λ k a x why p. decoded-keeps _ p;
  decode-counts = λ k a x why p. decoded-keeps _ p;
  decode-mask = λ k a x why p. unrolled-keeps _ p;
  prepare-mask = λ k a x why p. prepared-keeps _ p;
  find-mask = λ k a x why p. prepared-keeps _ p;
  read-block = λ k a x why p. read_keeps _ p;
  walk = λ k a x why p. walked_keeps _ _ _ _ p;
  fill = λ k a x why p. filled_keeps _ _ _ _ _ _ p;
  tiles-list = λ k a x why p. (tiled-keeps _ p).0;
  fill-each = λ b h r m list ms n ns why image any f said told new other p q.
      let e = refused_says b h r m list n f in (
        (each-call p).says ∙ count-skips b h r m list (length image) ms n ns e ∙ sym (each-call q).says,
        (each-call p).image ∙ each-skips b h r m list ms n ns image why e ∙ sym (each-call q).image,
      );
  none_filled = λ k a x p. p.image ∙ none_left _ _ _ _ _ _ _ (sym p.says);
  tiles-image = λ k a x why p. (tiled-keeps _ p).1;
  stage-list = λ k a x why p. staged-keeps p;
  publish-kept = λ k a x why p. (published-keeps p).0;
  publish-image = λ k a x why p. (published-keeps p).1;
}

-- ---- what is handed out with a refusal

nothing_beside : {A : Type 0} {r : Res A} {why : Refusal} → r ≡ fail why → (a : A) → r ≢ ok a
nothing_beside e a d = let z : ◌≡◌ {A = ℕ} 0 1 = cc in omega arith

no-mask : (m : Res MaskTold) {why : Refusal} (old spare : List ℕ) {r : List ℕ} → r ≡ in_force m old spare → m ≡ fail why → r ≡ []
unfolding in_force
no-mask m old spare e d = rw (d) at e

pub refusals-empty : RefusalsEmpty
refusals-empty = record {
  ranges = λ k a r x why p e g. nothing_beside e g;
  ranges-found = λ k a r x why p e g. nothing_beside e g;
  constants = λ k a r x why p e words. nothing_beside e words;
  mask = λ k a r x why p. no-mask _ _ _ p.0;
}

-- ---- the mask that is handed back

module _ (b : List ℕ) (h : Header) (reuse : Bool) (old : List ℕ) (r : Res MaskTold) (spare newer : List ℕ) (p : Prepared (prepare_says b h reuse old (length spare)) r spare newer) (m : List ℕ) where
  said-kept : prepare_says b h reuse old (length spare) ≡ ok (reused m) → (r ≡ ok (mask.Kept (mask_length (shape_of h)))) × (m ≡ take (mask_length (shape_of h)) old)
  said-kept e =
      let w = prepared-right b h reuse old (length spare) (reused m) e in
      ((p.says ∙ rw (e, w.size)), w.part.1 ∙ ap (λ (n : ℕ). take n old) w.size)

  said-spare : prepare_says b h reuse old (length spare) ≡ ok (new m) → (r ≡ ok (mask.Spare (mask_length (shape_of h)))) × (m ≡ take (mask_length (shape_of h)) newer)
  said-spare e =
      let w = prepared-right b h reuse old (length spare) (new m) e in (
        (p.says ∙ rw (e, w.size)),
        sym (let i : newer ≡ over m spare = p.spare ∙ rw (e) in rw (i, ← w.size) (take-append_seam m (drop (length m) spare))),
      )

pub handed-back : HandedBack
unfolding in_force
handed-back = record {
  reuse = λ k a r x m p e. said-kept _ _ _ _ _ _ _ p m e;
  otherwise = λ k a r x m p e. said-spare _ _ _ _ _ _ _ p m e;
  kept = λ k a r x n p e. (p.1 ∙ rw (e), p.0 ∙ rw (e));
  spare = λ k a r x n p e. (p.1 ∙ rw (e), p.0 ∙ rw (e));
  refused = λ k a r x why p e. (p.1 ∙ rw (e), p.0 ∙ rw (e));
}

-- ---- whole read

module _ (b : List ℕ) (reuse : Bool) (l : Lent) where
  -- as far as the mask, where each part is accepted
  masked-right : (h : Header) (m : MaskInForce) → header_says b ≡ ok h → room h l ≡ true → mask_says (take h.size b) h reuse l.kept ≡ ok m → masked b reuse l ≡ ok (record { header = h; mask = m })
  unfolding masked
  masked-right h m e t d = rw (e, t, d)

  -- and back
  pub record Reached (k : Masked) : Type 0 where
    pub header : header_says b ≡ ok k.header
    pub room : room k.header l ≡ true
    pub mask : mask_says (take k.header.size b) k.header reuse l.kept ≡ ok k.mask

  pub masked-is : (k : Masked) → masked b reuse l ≡ ok k → Reached k
  unfolding masked
  masked-is k e =
      let (h, p, e) = bind_is (header_says b) _ e in
      let (_, q, e) = bind_is (require (room h l) 5) _ e in
      let (m, d, e) = bind_is (mask_says (take h.size b) h reuse l.kept) _ e in
      let z : record { header = h; mask = m } ≡ k = ok-is e in
      rw (← z) (record { header = p; room = require-is _ 5 q; mask = d })

  new-length : (h : Header) (m : List ℕ) → NewMask b reuse l h m → length m ≡ mask_length (shape_of h)
  new-length h m n = (mask-right (take h.size b) h l.kept reuse (new m) (rooms h l n.room).kept n.mask).size

  pub whole-keeps : (after : Lent) (why : Refusal) → WholeRead b reuse (fail why) l after → WholeKeeps b reuse l after
  unfolding refused_after
  whole-keeps after why w = go (masked b reuse l) refl (w.lent ∙ rw (bind-fail (read_says b reuse l) _ (sym w.says)))
    where
      go : (k : Res Masked) → masked b reuse l ≡ k → after ≡ refused_after k l → WholeKeeps b reuse l after
      go (fail r) e d =
          rw (d) (record {
            kept = refl;
            list = refl;
            image = refl;
            spare = λ h m n. absurd (let f = masked-right h (new m) n.header n.room n.mask in let z : ◌≡◌ {A = ℕ} 0 1 = cc in omega arith);
            other = λ f. refl;
          })
      go (ok k) e d = split k.mask refl
        where
          split : (f : MaskInForce) → k.mask ≡ f → WholeKeeps b reuse l after
          split (reused m) i = rw (d, i) (record {
            kept = refl;
            list = refl;
            image = refl;
            spare = λ h n w. absurd (let f = masked-right h (new n) w.header w.room w.mask in let y : k.mask ≡ new n = cc in let z : ◌≡◌ {A = ℕ} 0 1 = cc in omega arith);
            other = λ f. refl;
          })
          split (new m) i = rw (d, i) (record {
            kept = refl;
            list = refl;
            image = refl;
            spare = λ h n w. let f = masked-right h (new n) w.header w.room w.mask in let y : k.mask ≡ new n = cc in let z : m ≡ n = cc in (rw (z), new-length h n w);
            other = λ f. absurd (let r = masked-is k e in f k.header m (record { header = r.header; room = r.room; mask = r.mask ∙ ap ok i }));
          })
