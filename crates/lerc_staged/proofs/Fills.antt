-- Fills between staging and publishing.
-- Assumes nothing.
use mathlib.Core.Path.{◌≡◌, ◌∙◌, sym, ap, refl}
use mathlib.Core.Bool.{Bool, true, false, cond, ◌&&◌}
use mathlib.Core.List.{List}
use Prim.Native.Nat.{ℕ, ◌*◌, ◌<◌}
use native.Mathlib.Omega.{arith}
use lib.ListN.{length, get_or, take}
use Rattle.lerc_words.specs.Res.{Res, ok}
use Rattle.lerc_words.specs.Lists.{over}
use Rattle.lerc_words.proofs.Binding.{bind_is, ok-is}
use Rattle.lerc_slices.proofs.Begins.{Begins, begins-is, take_begins}
use Rattle.lerc_header.specs.declared.Header.{Header}
use Rattle.lerc_header.specs.Shape.{block_count}
use Rattle.lerc_header.specs.Header.{shape_of}
use Rattle.lerc_validity.specs.Validity.{MaskInForce, reused, new, bytes_of, spare_with, which, in_force}
use Rattle.lerc_validity.proofs.Prepared.{in-force}
use Rattle.lerc_image.specs.Geometry.{block_of, is_valid_cell}
use Rattle.lerc_image.specs.Paint.{among, painted}
use Rattle.lerc_image.specs.Blocks.{Chain}
use Rattle.lerc_image.proofs.Partition.{block-lt}
use Rattle.lerc_image.proofs.Painting.{length-painted, painted-cell, is-painted}
use Rattle.lerc_image.proofs.Upto.{valid-below}
use Rattle.lerc_header.proofs.Kept.{held-shaped}
use Rattle.lerc.specs.declared.Staged.{Staged}
use Rattle.lerc.specs.Meaning.{Meaning, Body, empty, constant, raw, blocks, huffman, body_says, cell_word, meaning, meaning_from}
use Rattle.lerc.specs.Read.{Lent, room, masked, read_says, published, read_after, ReadTold}
use Rattle.lerc.specs.Stage.{mask_named, staged_body, staged_of, StageRead, PublishTold}
use Rattle.lerc.proofs.Both.{read-masked, read_again, means}
use Rattle.lerc_theorems.specs.Calls.{FillCalls, ReadCall}
use Rattle.lerc_theorems.specs.DemandThree.{InHand, Case, case_of, Found, AnyOrder}
use Rattle.lerc_theorems.proofs.Calls.{handed-call, read-call}
use Rattle.lerc_theorems.proofs.DemandTwo.{rise}
use Rattle.lerc_theorems.proofs.Meanings.{Means, meaning-is, means_is, keeps, mask-kept, rooms}
use Rattle.lerc_theorems.proofs.OpenedFills as fills
use Rattle.lerc_theorems.proofs.Refusals.{masked-is}
use Rattle.lerc_staged.specs.Staged.{staged_in, ByStage, OpenedByStage, FillsAnyOrder, Accepted, before_stage, ThenPublish, FillsBetween, FillsThenRead, FillsComplete}
use Rattle.lerc_staged.proofs.Calls.{stage-call, publish-call}
use Rattle.lerc_staged.proofs.Done.{front_of, Done, done-says, done-kept, done-image, staged-spare, staged-list}
use Rattle.lerc_staged.proofs.InTwo.{gives}

-- ---- what was read

module _ (b : List ℕ) (reuse : Bool) (l : Lent) (m : Meaning) (e : read_says b reuse l ≡ ok m) where
  body-read : body_says (take m.header.size b) m.header (bytes_of m.mask) ≡ ok m.body
  unfolding read_says meaning_from
  body-read =
      let (w, _, q) = bind_is (masked b reuse l) _ e in
      let (y, p, r) = bind_is (body_says (take w.header.size b) w.header (bytes_of w.mask)) _ q in
      rw (← ok-is r) p

  -- there was room
  pub read-room : room m.header l ≡ true
  read-room = (masked-is b reuse l _ (read-masked b reuse l e)).room

  pub read-parts : Means b reuse l.kept m
  read-parts = let g = masked-is b reuse l _ (read-masked b reuse l e) in record { header = g.header; mask = g.mask; body = body-read }

  -- it is the blob's meaning
  pub read-means : meaning b reuse l.kept ≡ ok m
  read-means = means_is b reuse l.kept m read-parts

  -- what is handed back behind it is the mask in force
  pub read-handed : in_force (mask_named m.mask) l.kept (spare_with m.mask l.spare) ≡ bytes_of m.mask
  read-handed =
      let r = mask-kept b reuse l.kept m read-parts (rooms m.header l read-room).kept in
      in-force m.mask (ok m.mask) (mask_named m.mask) l.kept l.spare _ refl r.part (record { says = named m.mask; spare = refl })
    where
      named : (f : MaskInForce) → (mask_named f) ≡ which f
      named (reused w) = refl
      named (new w) = refl

-- ---- opened by staging

module _ (x : InHand) (w : ByStage x) where
  abbrev old : Lent
  old = before_stage x w

  -- what was staged
  module _ (f : MaskInForce) (c : Chain) (e : read_says x.blob x.reuse old ≡ ok (record { header = x.header; mask = f; body = blocks c }))
      (named : w.said ≡ mask_named f) (counted : x.count ≡ length c.starts) (ended : x.end ≡ c.end) where
    abbrev whole : Meaning
    whole = record { header = x.header; mask = f; body = blocks c }

    many : length c.starts ≡ block_count (shape_of x.header)
    many = (rise x.blob x.reuse x.kept x.header f c (read-means x.blob x.reuse old whole e)).0

    t : StageRead x.blob x.reuse (ok (staged_in x w.said)) old w.prepared w.listed
    t = stage-call w.stage

    -- the list begins with the starts
    front : Begins c.starts x.list
    front =
        let n = front_of c.starts w.unlisted counted (staged-list t e) in
        begins-is c.starts x.list (take_begins c.starts x.list (rw (← counted) (w.list ∙ n)))

    -- the part is the mask in force
    in-part : w.part ≡ bytes_of f
    in-part = handed-call w.handed ∙ rw (named, staged-spare t e) (read-handed x.blob x.reuse old whole e)

    pub found-blocks : Found x
    found-blocks =
        let r = rooms x.header old (read-room x.blob x.reuse old whole e) in
        record {
          means = f;
          chain = c;
          opened = record {
            means = read-means x.blob x.reuse old whole e;
            kept = r.kept;
            ranges = w.ranges;
            mask = w.mask ∙ in-part;
            long = rw (← many) front.fits;
            starts = λ n l. front.at n (rw (many) l);
            room = r.image;
          };
          count = counted ∙ many;
          end = ended;
        }

  -- staging told of blocks, so the body is one
  by-body : (f : MaskInForce) (y : Body) → read_says x.blob x.reuse old ≡ ok (record { header = x.header; mask = f; body = y })
      → staged_in x w.said ≡ staged_of (record { header = x.header; mask = f; body = y }) → Found x
  by-body f empty e s = absurd (let k = ap (λ (q : Staged). q.body) s in let z : ◌≡◌ {A = ℕ} 0 1 = cc in omega arith)
  by-body f (constant words end) e s = absurd (let k = ap (λ (q : Staged). q.body) s in let z : ◌≡◌ {A = ℕ} 0 1 = cc in omega arith)
  by-body f (raw words end) e s = absurd (let k = ap (λ (q : Staged). q.body) s in let z : ◌≡◌ {A = ℕ} 0 1 = cc in omega arith)
  by-body f (huffman delta symbols end) e s = absurd (let k = ap (λ (q : Staged). q.body) s in let z : ◌≡◌ {A = ℕ} 0 1 = cc in omega arith)
  by-body f (blocks c) e s = found-blocks f c e (ap (λ (q : Staged). q.mask) s) (ap (λ (q : Staged). q.blocks) s) (ap (λ (q : Staged). q.end) s)

pub opened-by-stage : OpenedByStage
opened-by-stage x w = let (m, e, s) = means x.blob x.reuse (old x w) (stage-call w.stage) in go m (ap (λ (q : Staged). q.header) s) e s
  where
    go : (m : Meaning) → x.header ≡ m.header → read_says x.blob x.reuse (old x w) ≡ ok m → staged_in x w.said ≡ staged_of m → Found x
    go m h e s = by-body x w m.mask m.body (rw (h) e) (s ∙ ap (λ (g : Header). staged_body g (mask_named m.mask) m.body) (sym h))

-- ---- any order

pub any_order : FillsAnyOrder
any_order x w ns said filled calls = go (opened-by-stage x w)
  where
    go : Found x → AnyOrder x ns said filled
    go t =
        let c = case_of x t.means t.chain in
        record {
          found = t;
          answers = fills.answered c t.opened ns said x.image filled t.opened.room calls ∙ fills.answer-same c t.opened ns;
          long = fills.long c t.opened ns said filled calls;
          cells = fills.by-lent c t.opened ns said filled calls;
          as_read = λ left q. fills.by_read c t.opened ns said filled calls left q;
          complete = λ g left q. fills.complete c t.opened ns said filled calls (λ n l. g n (rw t.count l)) left q;
        }

-- ---- an image that was filled in part, then painted

module _ (im filled : List ℕ) (which named : ℕ → Bool) (word : ℕ → ℕ) (long : length filled ≡ length im)
    (exact : (c : ℕ) → c < length im → get_or filled c 0 ≡ cond (which c && named c) (word c) (get_or im c 0)) where
  pub painted-over : painted filled which word ≡ painted im which word
  painted-over = is-painted im word which (painted filled which word) (length-painted filled word which ∙ long)
      (λ c l. let k : c < length filled = rw (long) l in painted-cell filled word which c k ∙ rw (exact c l) (go (which c) (named c) (word c) (get_or im c 0)))
    where
      go : (v a : Bool) (x y : ℕ) → cond v x (cond (v && a) x y) ≡ cond v x y
      go true a x y = refl
      go false a x y = refl

  pub painted-whole : ((c : ℕ) → which c ≡ true → named c ≡ true) → filled ≡ painted im which word
  painted-whole all = is-painted im word which filled long (λ c l. exact c l ∙ go c (which c) refl)
    where
      go : (c : ℕ) (v : Bool) → which c ≡ v → cond (v && named c) (word c) (get_or im c 0) ≡ cond v (word c) (get_or im c 0)
      go c true e = rw (all c e)
      go c false e = refl

-- ---- and publishing

module _ (x : InHand) (w : ByStage x) (t : Found x) where
  abbrev case : Case
  case = case_of x t.means t.chain

  abbrev meant : Meaning
  meant = record { header = x.header; mask = t.means; body = blocks t.chain }

  abbrev whole-read : (m : Meaning) × (read_says x.blob x.reuse (old x w) ≡ ok m) × (staged_in x w.said ≡ staged_of m)
  whole-read = means x.blob x.reuse (old x w) (stage-call w.stage)

  -- what fills were opened for is what is published
  is-meant : whole-read.0 ≡ meant
  is-meant = ok-is (sym (read-means x.blob x.reuse (old x w) whole-read.0 whole-read.1) ∙ t.opened.means)

  abbrev with-image : List ℕ → Lent
  with-image image = record { kept = x.kept; spare = w.prepared; list = w.listed; image = image }

  -- also from an image that is as long
  pub given-again : (image : List ℕ) → length image ≡ length x.image → Done x.blob x.reuse (ok (staged_in x w.said)) (with-image image) meant
  given-again image long =
      let d = rw (is-meant) at (gives (stage-call w.stage)) in
      record {
        means = read_again x.blob x.reuse (with-image x.image) (with-image image) refl (omega arith) (omega arith) (omega (arith, long)) d.means;
        spare = d.spare;
        answer = d.answer;
        list = d.list;
      }

  abbrev valid : ℕ → Bool
  valid = is_valid_cell (shape_of x.header) (bytes_of t.means)

  abbrev word : ℕ → ℕ
  word = cell_word x.header (bytes_of t.means) (blocks t.chain)

  image-is : (image : List ℕ) → (published meant (with-image image)).image ≡ painted image valid word
  unfolding published
  image-is image = refl

  kept-is : (image : List ℕ) → (published meant (with-image image)).kept ≡ (published meant (with-image x.image)).kept
  unfolding published
  kept-is image = refl

  -- what a whole read leaves, slice by slice
  published-is : (image : List ℕ) {kept spare list new-image : List ℕ} → kept ≡ (published meant (with-image image)).kept → spare ≡ spare_with t.means w.spare → list ≡ over t.chain.starts w.unlisted
      → new-image ≡ painted x.image valid word → record { kept = kept; spare = spare; list = list; image = new-image } ≡ published meant (old x w)
  unfolding published
  published-is image k s n i = rw (k, s, n, i)

  module _ (ns : List ℕ) (said : List (Res ℕ)) (filled : List ℕ) (calls : FillCalls x.blob x.header x.ranges x.mask x.list ns said x.image filled) where
    long : length filled ≡ length x.image
    long = fills.long case t.opened ns said filled calls

    exact : (c : ℕ) → c < length x.image → get_or filled c 0 ≡ cond (valid c && among ns (block_of (shape_of x.header) c)) (word c) (get_or x.image c 0)
    exact = fills.exact case t.opened ns said filled calls

    pub between : (done told : Res PublishTold) (kept image other-kept other-image : List ℕ) → ThenPublish x w x.image done kept image → ThenPublish x w filled told other-kept other-image
        → Accepted told × (told ≡ done) × (other-kept ≡ kept) × (other-image ≡ image)
    between done told kept image other-kept other-image p q =
        let d = given-again x.image refl in
        let e = given-again filled long in
        let says = done-says e (publish-call q) in (
          (_, _, says),
          says ∙ sym (done-says d (publish-call p)),
          done-kept e (publish-call q) ∙ kept-is filled ∙ sym (done-kept d (publish-call p)),
          done-image e (publish-call q)
              ∙ image-is filled
              ∙ painted-over x.image filled valid (λ c. among ns (block_of (shape_of x.header) c)) word long exact
              ∙ sym (image-is x.image)
              ∙ sym (done-image d (publish-call p)),
        )

    pub then-read : (told : Res PublishTold) (answer : Res ReadTold) (kept image : List ℕ) (left : Lent) → ThenPublish x w filled told kept image → ReadCall x.blob x.reuse answer (old x w) left
        → (told ≡ ok (record { end = x.end; words = (x.header.valid * x.header.depth) })) × (answer ≡ ok (record { header = x.header; blocks = x.count; end = x.end }))
        × (left ≡ record { kept = kept; spare = w.prepared; list = w.listed; image = image })
    then-read told answer kept image left q c =
        let r = whole-read.1 ∙ ap ok is-meant in
        let s = whole-read.2 ∙ ap staged_of is-meant in
        let e = given-again filled long in
        let v = read-call c in
        let over-filled = painted-over x.image filled valid (λ c. among ns (block_of (shape_of x.header) c)) word long exact in (
          done-says e (publish-call q) ∙ ap (λ (n : ℕ). ok (record { end = n; words = (x.header.valid * x.header.depth) })) (sym t.end),
          (v.says ∙ rw (r) (ap {B = Res ReadTold} (λ (g : Staged). ok (record { header = x.header; blocks = g.blocks; end = g.end })) (sym s))),
          v.lent
              ∙ ap (λ (y : Res Meaning). read_after y (masked x.blob x.reuse (old x w)) (old x w)) r
              ∙ sym (published-is filled (done-kept e (publish-call q)) (staged-spare (stage-call w.stage) r) (staged-list (stage-call w.stage) r) (done-image e (publish-call q) ∙ image-is filled ∙ over-filled)),
        )

    pub complete : ((n : ℕ) → n < x.count → among ns n ≡ true) → (done : Res PublishTold) (kept image : List ℕ) → ThenPublish x w x.image done kept image → filled ≡ image
    complete all done kept image p =
        let h = x.header in
        let held = keeps x.blob x.reuse x.kept meant (meaning-is x.blob x.reuse x.kept meant t.opened.means) in
        let shaped = held-shaped h (length x.blob) held in
        let named : (c : ℕ) → valid c ≡ true → among ns (block_of (shape_of h) c) ≡ true = λ c e. all (block_of (shape_of h) c) (rw t.count (block-lt (shape_of h) shaped c (valid-below (shape_of h) (bytes_of t.means) c e))) in
        painted-whole x.image filled valid (λ c. among ns (block_of (shape_of h) c)) word long exact named ∙ sym (image-is x.image) ∙ sym (done-image (given-again x.image refl) (publish-call p))

pub fills-between : FillsBetween
fills-between x w ns said filled calls = between x w (opened-by-stage x w) ns said filled calls

pub fills-then-read : FillsThenRead
fills-then-read x w ns said filled calls = then-read x w (opened-by-stage x w) ns said filled calls

pub fills-complete : FillsComplete
fills-complete x w ns said filled calls = complete x w (opened-by-stage x w) ns said filled calls
