-- Fills of a blob that is open for them: what each answers, and what they leave.
-- Assumes nothing.
use mathlib.Core.Path.{◌≡◌, ◌∙◌, sym, ap, refl}
use mathlib.Core.Bool.{Bool, true, false, cond, ◌&&◌}
use mathlib.Core.List.{List, [], ◌∷◌, map}
use Prim.Native.Nat.{ℕ, suc, ◌+◌, ◌*◌, ◌≤◌, ◌<◌}
use native.Mathlib.Decide.{dec_lt}
use native.Mathlib.Nat.{zero-add, zero-mul, one-mul, add-mul, mul-le-mul}
use native.Mathlib.Omega.{arith}
use lib.ListN.{length, get_or, take}
use lib.Dec.{ltb, eqb}
use borrow.Author.Tests.{le-leb, lt-ltb, le-ltb, ltb-true}
use Rattle.lerc_words.specs.Res.{Res, ok, ◌>>=◌, refuse, require, after, accepts as accepted, fail}
use Rattle.lerc_words.specs.Lists.{over, count, total}
use Rattle.lerc_words.proofs.Binding.{bind_is, bind-counts, require-is, ok-is}
use Rattle.lerc_header.specs.declared.Header.{Header}
use Rattle.lerc_header.specs.Shape.{cells, block_count, Shaped}
use Rattle.lerc_header.specs.Header.{shape_of, held, extent_of}
use Rattle.lerc_header.proofs.Kept.{held-is, held-shaped}
use Rattle.lerc_ranges.specs.declared.Ranges.{Ranges}
use Rattle.lerc_validity.specs.Validity.{MaskInForce, bytes_of, prepare_says, MaskTold}
use Rattle.lerc_validity.proofs.Prepared.{Right, prepared-right, in-force}
use Rattle.lerc_image.specs.Geometry.{block_of, tile_of, valid_in_tile, is_valid_cell}
use Rattle.lerc_image.specs.Paint.{in_block, among, painted, word_of, fills}
use Rattle.lerc_image.specs.Blocks.{Chain, block_at}
use Rattle.lerc_image.specs.Fill.{fill_says, fill_count, fill_image}
use Rattle.lerc_image.specs.Walk.{Walk, walk_says, walk_count}
use Rattle.lerc_image.specs.Tiles.{tiles_says, tiles_image}
use Rattle.lerc_image.proofs.Partition.{block-lt}
use Rattle.lerc_image.proofs.Chain.{chain-lengths, chain_first}
use Rattle.lerc_image.proofs.Stages.{get_d_any}
use Rattle.lerc_image.proofs.Painting.{length-painted, painted-cell}
use Rattle.lerc_image.proofs.Upto.{valid-below}
use Rattle.lerc_image.proofs.WordsSum as sums
use Rattle.lerc_image.proofs.Fills as fills-laws
use Rattle.lerc_fills.specs.Each.{filled_of, fill_each}
use Rattle.lerc_fills.proofs.Turns.{length-fill, length-each, one-is}
use Rattle.lerc.specs.Meaning.{Meaning, blocks, cell_word, meaning}
use Rattle.lerc.specs.Read.{Lent, masked, read_says, published, read_after}
use Rattle.lerc_theorems.specs.Calls.{PrepareCall, HandedCall, FillCall, FillCalls, none, more, EachCall, TilesCall, WalkCall}
use Rattle.lerc_theorems.specs.DemandThree.{Case, Opened, CaseFill, CaseFills, CaseRead, answer_to, reported_by, times, filled_among, shape, in_mask, blocks_of, reported, below}
use Rattle.lerc_theorems.specs.DemandTwo.{Roomy}
use Rattle.lerc_theorems.proofs.Calls.{prepare-call, handed-call, ranges-from, walk_call, fill-call, fill-calls, each-call, tiles-call, read-call}
use Rattle.lerc_theorems.proofs.Longer.{MaskAlike, alike-take, tile-same, valid_same, index_same, block_same as longer-block, chain_same as longer-chain, fill-same as longer-fill, image-same as longer-image, each_same as longer-each, filled-same as longer-count}
use Rattle.lerc_theorems.proofs.Meanings.{Means, meaning-is, mask-kept, read_is, kept-front, kept-unread}
use Rattle.lerc_theorems.proofs.Fills.{Walking, means-walking, here, fill-ok, fill-no, each-is, count-is, left-long, left-starts, total-same, total-plus, total-none, once}

module _ (x : Case) (o : Opened x) where
  abbrev whole : Meaning
  whole = record { header = x.header; mask = x.means; body = blocks x.chain }

  parts : Means x.blob x.reuse x.kept whole
  parts = meaning-is x.blob x.reuse x.kept whole o.means

  right : Right (take x.header.size x.blob) x.header x.kept x.means
  right = mask-kept x.blob x.reuse x.kept whole parts o.kept

  walk : Walking x.blob x.header x.ranges (in_mask x) (blocks_of x) x.chain
  walk = means-walking x.blob x.reuse x.kept x.header x.means x.chain o.means o.kept x.ranges (ranges-from o.ranges) (blocks_of x) (omega arith)

  shaped : Shaped (shape x)
  shaped = held-shaped x.header (length x.blob) walk.kept

  -- the lent mask may be longer than the mask in force
  alike : MaskAlike (shape x) x.mask (in_mask x)
  alike = let z = right.size in alike-take (shape x) x.mask (in_mask x) o.mask (omega (arith, z))

  -- ---- one fill

  -- on any image with room
  module _ (image : List ℕ) (wide : cells (shape x) ≤ length image) (n : ℕ) (said : Res ℕ) (new : List ℕ) (f : CaseFill x n said image new) where
    says : said ≡ (fill_says x.blob x.header x.ranges (in_mask x) x.list n (length image) >>= fill_count x.header x.mask n)
    says = (fill-call f).says ∙ rw (longer-fill x.blob x.header walk.kept x.mask (in_mask x) alike x.ranges x.list n (length image))

    pub accepts : n < blocks_of x → said ≡ ok (valid_in_tile (shape x) (in_mask x) (tile_of (shape x) n))
    accepts l =
        says ∙ rw (fill-ok _ _ _ _ _ _ walk x.list o.long o.starts n (length image) l wide, tile-same (shape x) shaped x.mask (in_mask x) alike n l)

    pub refuses : blocks_of x ≤ n → (said ≡ fail (refuse 11)) × (new ≡ image)
    unfolding fill_image
    refuses l =
        let e = fill-no _ _ _ _ _ _ walk x.list o.long o.starts n (length image) l in (
          (says ∙ rw (e)),
          (fill-call f).image ∙ longer-image x.blob x.header walk.kept x.mask (in_mask x) alike x.ranges x.list n image ∙ rw (e),
        )

    answers : said ≡ answer_to (shape x) (in_mask x) n
    answers = go (dec_lt n (blocks_of x))
      where
        go : Dec (n < blocks_of x) → said ≡ answer_to (shape x) (in_mask x) n
        go (yes l) = rw (lt-ltb n (blocks_of x) l) (accepts l)
        go (no l) = rw (le-ltb n (blocks_of x) (omega arith)) (refuses (omega arith)).0

  -- one answer after the other
  pub answered : (ns : List ℕ) (said : List (Res ℕ)) (image new : List ℕ) → cells (shape x) ≤ length image → FillCalls x.blob x.header x.ranges x.mask x.list ns said image new
      → said ≡ map (answer_to (shape x) (in_mask x)) ns
  answered ns said image new wide (none image') = refl
  answered ns said image new wide (more n rest one others old mid new' f c) =
      let i : length mid ≡ length image = ap length (fill-call f).image ∙ length-fill x.blob x.header x.ranges x.mask x.list n image in
      rw (answers image wide n one mid f, answered rest others mid new (omega (arith, wide)) c)

  -- the lent mask gives the same answers
  pub answer-same : (ns : List ℕ) → map (answer_to (shape x) (in_mask x)) ns ≡ map (answer_to (shape x) x.mask) ns
  answer-same [] = refl
  answer-same (n ∷ ns) = rw (answer-same ns) (ap (λ (a : Res ℕ). a ∷ map (answer_to (shape x) x.mask) ns) (go (dec_lt n (blocks_of x))))
    where
      go : Dec (n < blocks_of x) → answer_to (shape x) (in_mask x) n ≡ answer_to (shape x) x.mask n
      go (yes l) = rw (tile-same (shape x) shaped x.mask (in_mask x) alike n l)
      go (no l) = rw (le-ltb n (blocks_of x) (omega arith))

  pub words-add : (said : ℕ → Res ℕ) (new : ℕ → List ℕ) → ((n : ℕ) → n < blocks_of x → CaseFill x n (said n) x.image (new n))
      → total (blocks_of x) (λ n. reported (said n)) ≡ x.header.valid * x.header.depth
  words-add said new f =
      total-same (blocks_of x) _ (λ n. valid_in_tile (shape x) (in_mask x) (tile_of (shape x) n)) (λ n l. ap reported (accepts x.image o.room n (said n) (new n) (f n l) l))
      ∙ sums.words-sum (shape x) shaped (in_mask x)
      ∙ ap (λ (v : ℕ). v * x.header.depth) right.counts

  -- the block at its listed start, with the lent mask
  pub block-is : (n : ℕ) → n < blocks_of x → block_at (take x.header.size x.blob) x.header x.ranges.max x.mask n (get_or x.list n 0)
      ≡ ok (record { words = get_or x.chain.words n []; next = get_or x.chain.starts (suc n) x.chain.end })
  block-is n l =
      longer-block x.blob x.header walk.kept x.mask (in_mask x) alike (take x.header.size x.blob) x.ranges.max n (get_or x.list n 0) l
      ∙ here _ _ _ _ _ _ walk x.list o.long o.starts n (cells (shape x)) l (omega arith)

  -- the words of calls in a row
  abbrev words_at : ℕ → ℕ
  words_at n = reported (answer_to (shape x) (in_mask x) n)

  by-times : (ns : List ℕ) → reported_by (map (answer_to (shape x) (in_mask x)) ns) ≡ total (blocks_of x) (λ n. times n ns * words_at n)
  by-times [] = sym (total-none (blocks_of x) _ (λ n l. zero-mul (words_at n)))
  by-times (i ∷ ns) =
      rw (by-times ns, ← once (blocks_of x) i words_at (λ l. rw (le-ltb i (blocks_of x) l)))
      (total-plus (blocks_of x) _ _ ∙ total-same (blocks_of x) _ _ (λ n l. sym (add-mul (cond (eqb n i) 1 0) (times n ns) (words_at n))))

  pub words-once : (ns : List ℕ) (said : List (Res ℕ)) (new : List ℕ) → CaseFills x ns said new → ((n : ℕ) → n < blocks_of x → times n ns ≡ 1) → reported_by said ≡ x.header.valid * x.header.depth
  words-once ns said new f each =
      ap reported_by (answered ns said x.image new o.room f)
      ∙ by-times ns
      ∙ total-same (blocks_of x) _ (λ n. valid_in_tile (shape x) (in_mask x) (tile_of (shape x) n)) (λ n l. rw (each n l, lt-ltb n (blocks_of x) l, one-mul))
      ∙ sums.words-sum (shape x) shaped (in_mask x)
      ∙ ap (λ (v : ℕ). v * x.header.depth) right.counts

  -- ---- a whole read from the same start

  module _ (left : Lent) (c : CaseRead x left) where
    same-meaning : (t : Bool) → x.reuse ≡ t → meaning x.blob x.reuse c.lent.kept ≡ ok whole
    same-meaning true e = kept-front x.blob x.reuse c.lent.kept x.kept x.header parts.header (c.same-mask e) ∙ o.means
    same-meaning false e = rw (e, kept-unread x.blob c.lent.kept x.kept) (rw (e) at o.means)

    read-image : left.image ≡ painted x.image (is_valid_cell (shape x) (in_mask x)) (cell_word x.header (in_mask x) (blocks x.chain))
    unfolding published
    read-image =
        let l = c.lent in
        let roomy : Roomy x.blob l = λ h e. rw (← ok-is (sym parts.header ∙ e)) c.room in
        let r : read_says x.blob x.reuse l ≡ ok whole = read_is x.blob x.reuse l roomy ∙ same-meaning x.reuse refl in
        ap (λ (y : Lent). y.image) (read-call c.read).lent
        ∙ ap (λ (y : Res Meaning). (read_after y (masked x.blob x.reuse l) l).image) r
        ∙ ap (λ (y : List ℕ). painted y (is_valid_cell (shape x) (in_mask x)) (cell_word x.header (in_mask x) (blocks x.chain))) c.same_start

    read_cell : (i : ℕ) → i < length x.image → get_or left.image i 0 ≡ cond (is_valid_cell (shape x) (in_mask x) i) (cell_word x.header (in_mask x) (blocks x.chain) i) (get_or x.image i 0)
    read_cell i l = rw (read-image) (painted-cell x.image (cell_word x.header (in_mask x) (blocks x.chain)) (is_valid_cell (shape x) (in_mask x)) i l)

  -- ---- any fills

  abbrev words : ℕ → List ℕ
  words n = get_or x.chain.words n []

  -- the image after a list of numbers
  abbrev filled_by : List ℕ → List ℕ
  filled_by ns = fills (shape x) (in_mask x) words ns x.image

  each : (ns : List ℕ) → fill_each x.blob x.header x.ranges x.mask x.list ns x.image ≡ filled_by ns
  each ns =
      longer-each x.blob x.header walk.kept x.mask (in_mask x) alike x.ranges x.list ns x.image
      ∙ each-is _ _ _ _ _ _ walk x.list o.long o.starts ns x.image o.room

  module _ (ns : List ℕ) (said : List (Res ℕ)) (new : List ℕ) (f : CaseFills x ns said new) where
    is : new ≡ filled_by ns
    is = fill-calls ns said x.image new f ∙ each ns

    pub long : length new ≡ length x.image
    long = rw (fill-calls ns said x.image new f) (length-each x.blob x.header x.ranges x.mask x.list ns x.image)

    pub exact : (c : ℕ) → c < length x.image
        → get_or new c 0 ≡ cond (is_valid_cell (shape x) (in_mask x) c && among ns (block_of (shape x) c)) (cell_word x.header (in_mask x) (blocks x.chain) c) (get_or x.image c 0)
    unfolding cell_word
    exact c l = rw (is) (fills-laws.fills-cell (shape x) shaped (in_mask x) words ns x.image c l)

    pub by-each : (other : List ℕ) (filled : ℕ) → EachCall x.blob x.header x.ranges x.mask x.list ns filled x.image other → (filled ≡ below (blocks_of x) ns) × (other ≡ new)
    by-each other filled c =
        let p = each-call c in (
          p.says
              ∙ longer-count x.blob x.header walk.kept x.mask (in_mask x) alike x.ranges x.list (length x.image) ns
              ∙ count-is _ _ _ _ _ _ walk x.list o.long o.starts (length x.image) o.room ns,
          p.image ∙ each ns ∙ sym is,
        )

    pub complete : ((n : ℕ) → n < blocks_of x → among ns n ≡ true) → (left : Lent) → CaseRead x left → new ≡ left.image
    unfolding cell_word
    complete g left c = is ∙ fills-laws.fills-all (shape x) shaped (in_mask x) words ns x.image g ∙ sym (read-image left c)

    -- by the lent mask
    pub by-lent : (c : ℕ) → c < length x.image
        → get_or new c 0 ≡ cond (is_valid_cell (shape x) x.mask c && among ns (block_of (shape x) c)) (cell_word x.header (in_mask x) (blocks x.chain) c) (get_or x.image c 0)
    by-lent c l = rw (valid_same (shape x) shaped x.mask (in_mask x) alike c) (exact c l)

    -- and by a whole read's image
    pub by_read : (left : Lent) → CaseRead x left → (c : ℕ) → c < length x.image
        → get_or new c 0 ≡ cond (is_valid_cell (shape x) x.mask c && among ns (block_of (shape x) c)) (get_or left.image c 0) (get_or x.image c 0)
    by_read left q c l = exact c l ∙ rw (read_cell left q c l, valid_same (shape x) shaped x.mask (in_mask x) alike c) (go (is_valid_cell (shape x) (in_mask x) c) (among ns (block_of (shape x) c)))
      where
        go : (v a : Bool) → cond (v && a) (cell_word x.header (in_mask x) (blocks x.chain) c) (get_or x.image c 0)
            ≡ cond (v && a) (cond v (cell_word x.header (in_mask x) (blocks x.chain) c) (get_or x.image c 0)) (get_or x.image c 0)
        go true true = refl
        go true false = refl
        go false a = refl

  -- ---- all blocks at once

  some_block : 0 < blocks_of x
  some_block =
      let a = mul-le-mul (mul-le-mul shaped.rows.0 shaped.columns.0) shaped.depth.0 in
      let c : 0 < cells (shape x) = omega (arith, a) in
      let d = block-lt (shape x) shaped 0 c in
      omega (arith, d)

  first : get_or x.list 0 0 ≡ walk.from
  first =
      let s = take x.header.size x.blob in
      let n = blocks_of x in
      let p : 0 < n = some_block in
      let l : 0 < length x.chain.starts = rw (chain-lengths s x.header x.ranges.max (in_mask x) n 0 walk.from x.chain walk.blocks).0 p in
      o.starts 0 p ∙ get_d_any x.chain.starts 0 0 x.chain.end l ∙ chain_first s x.header x.ranges.max (in_mask x) n 0 walk.from x.chain walk.blocks

  tiled : tiles_says x.blob x.header x.mask x.ranges.max (get_or x.list 0 0) (length x.list) (length x.image) ≡ ok x.chain
  unfolding tiles_says
  tiled =
      rw (walk.kept, le-leb _ _ alike.long, le-leb _ _ o.long, le-leb _ _ o.room, first)
      (longer-chain x.blob x.header walk.kept x.mask (in_mask x) alike (take x.header.size x.blob) x.ranges.max (blocks_of x) 0 walk.from (omega arith) ∙ walk.blocks)

  word_same : (c : ℕ) → cond (is_valid_cell (shape x) x.mask c) (word_of (shape x) x.mask words c) (get_or x.image c 0)
      ≡ cond (is_valid_cell (shape x) (in_mask x) c) (word_of (shape x) (in_mask x) words c) (get_or x.image c 0)
  word_same c = rw (valid_same (shape x) shaped x.mask (in_mask x) alike c) (on (is_valid_cell (shape x) (in_mask x) c) refl)
    where
      on : (t : Bool) → is_valid_cell (shape x) (in_mask x) c ≡ t → cond t (word_of (shape x) x.mask words c) (get_or x.image c 0) ≡ cond t (word_of (shape x) (in_mask x) words c) (get_or x.image c 0)
      on true e = rw (index_same (shape x) shaped x.mask (in_mask x) alike c (valid-below (shape x) (in_mask x) c e))
      on false e = refl

  pub by-tiles : (said : Res Walk) (list image : List ℕ) → TilesCall x.blob x.header x.mask x.ranges.max (get_or x.list 0 0) said x.list list x.image image
      → (said ≡ ok (record { blocks = (blocks_of x); end = x.chain.end })) × (list ≡ over x.chain.starts x.list) × (length image ≡ length x.image)
      × ((c : ℕ) → c < length x.image → get_or image c 0 ≡ cond (is_valid_cell (shape x) (in_mask x) c) (cell_word x.header (in_mask x) (blocks x.chain) c) (get_or x.image c 0))
  unfolding cell_word
  by-tiles said list image k =
      let p = tiles-call k in
      let i : image ≡ painted x.image (is_valid_cell (shape x) x.mask) (word_of (shape x) x.mask words) = p.image ∙ ap (λ (y : Res Chain). after y x.image (tiles_image x.header x.mask x.image)) tiled in (
        (p.says ∙ ap (λ (y : Res Chain). y >>= walk_count x.header) tiled),
        p.list ∙ ap (λ (y : Res Chain). after y x.list (λ c. over c.starts x.list)) tiled,
        ap length i ∙ length-painted x.image _ _,
        λ c l. rw (i) (painted-cell x.image (word_of (shape x) x.mask words) (is_valid_cell (shape x) x.mask) c l ∙ word_same c),
      )

  pub order : (ns ms : List ℕ) (said told : List (Res ℕ)) (new other : List ℕ) → CaseFills x ns said new → CaseFills x ms told other → ((n : ℕ) → n < blocks_of x → among ns n ≡ among ms n) → new ≡ other
  order ns ms said told new other f g e = is ns said new f ∙ fills-laws.fills-order (shape x) shaped (in_mask x) words ns ms x.image e ∙ sym (is ms told other g)

pub listed : (b : List ℕ) (h : Header) (r : Ranges) (m old new : List ℕ) (n end : ℕ) (c : Chain) → WalkCall b h r m (ok (record { blocks = n; end = end })) old new → walk_says b h r m (length old) ≡ ok c
    → (n ≡ block_count (shape_of h)) × (end ≡ c.end) × (n ≤ length new) × ((i : ℕ) → i < n → get_or new i 0 ≡ get_or c.starts i 0)
listed b h r m old new n end c w e =
    let p = walk_call w in
    let z : ◌≡◌ {A = Walk} (record { blocks = n; end = end }) (record { blocks = block_count (shape_of h); end = c.end }) = ok-is (p.says ∙ ap (λ (y : Res Chain). y >>= walk_count h) e) in
    let i : n ≡ block_count (shape_of h) = ap (λ (y : Walk). y.blocks) z in
    (i, ap (λ (y : Walk). y.end) z, rw (p.list, i) (left-long b h r m old c e), λ j l. rw p.list (left-starts b h r m old c e j (rw (← i) l)))

-- an accepted fill reports the valid cells of its block
pub reports : (b : List ℕ) (h : Header) (r : Ranges) (m list : List ℕ) (n words : ℕ) (old new : List ℕ) → FillCall b h r m list n (ok words) old new
    → words ≡ count (cells (shape_of h)) (in_block (shape_of h) m n)
unfolding fill_says
reports b h r m list n words old new f =
    let (k, e, w) = bind-counts (fill_says b h r m list n (length old)) _ (sym (fill-call f).says) in
    let (y, p, e) = bind_is (held h (length b)) _ e in
    let (_, q, _) = bind_is (require (ltb n y.blocks) 11) _ e in
    let i : y ≡ extent_of h = held-is h (length b) p in
    w ∙ sums.tile-count (shape_of h) (held-shaped h (length b) p) m n (rw (i) at (ltb-true n y.blocks (require-is _ 11 q)))

-- one call with a list of numbers is as many calls
pub as-calls : (b : List ℕ) (h : Header) (r : Ranges) (m list ns : List ℕ) (said : List (Res ℕ)) (old new : List ℕ) → FillCalls b h r m list ns said old new
    → (filled : ℕ) (other : List ℕ) → EachCall b h r m list ns filled old other → (filled ≡ filled_among said) × (other ≡ new)
unfolding filled_of
as-calls b h r m list ns said old new c filled other e = ((each-call e).says ∙ go ns said old new c, (each-call e).image ∙ sym (fill-calls ns said old new c))
  where
    one : (a : Res ℕ) (rest : List (Res ℕ)) → cond (accepted a) 1 0 + filled_among rest ≡ filled_among (a ∷ rest)
    one (ok n) rest = refl
    one (fail why) rest = zero-add (filled_among rest)

    go : (ns : List ℕ) (said : List (Res ℕ)) (old new : List ℕ) → FillCalls b h r m list ns said old new → filled_of b h r m list (length old) ns ≡ filled_among said
    go ns said old new (none image) = refl
    go ns said old new (more n rest a others old' mid new' f c) =
        let i : length mid ≡ length old = ap length (fill-call f).image ∙ length-fill b h r m list n old in
        let u : filled_of b h r m list (length old) rest ≡ filled_among others = ap (λ (z : ℕ). filled_of b h r m list z rest) (sym i) ∙ go rest others mid new c in
        ap (λ (z : ℕ). z + filled_of b h r m list (length old) rest) (one-is b h r m list n old (fill-call f)) ∙ ap (λ (z : ℕ). cond (accepted a) 1 0 + z) u ∙ one a others

pub mask-handed : (b : List ℕ) (h : Header) (reuse : Bool) (kept spare new m : List ℕ) (f : MaskInForce) (said : Res MaskTold)
    → PrepareCall b h reuse kept said spare new → HandedCall kept new said m → prepare_says b h reuse kept (length spare) ≡ ok f → m ≡ bytes_of f
mask-handed b h reuse kept spare new m f said p q e =
    handed-call q ∙ in-force f (prepare_says b h reuse kept (length spare)) said kept spare new e (prepared-right b h reuse kept (length spare) f e).part (prepare-call p)
