-- Demand 2, proved.
-- Assumes nothing.
use mathlib.Core.Path.{◌≡◌, ◌∙◌, sym, ap, refl}
use mathlib.Core.Logic.{◌↔◌}
use mathlib.Core.Bool.{Bool, true, false, cond, ◌||◌, or-true}
use mathlib.Core.List.{List, []}
use Prim.Native.Nat.{ℕ, zero, suc, ◌+◌, ◌≤◌, ◌<◌, min}
use native.Mathlib.Decide.{dec_lt}
use native.Mathlib.Nat.{mul-le-mul}
use native.Mathlib.Omega.{arith}
use lib.ListN.{length, get_or, take, length-take, get_or-eq_default}
use lib.Dec.{eqb}
use lib.Seq.{take_all}
use borrow.Author.Tests.{le-leb, le-ltb, eq-eqb}
use Rattle.lerc_words.specs.declared.Refusal.{Refusal}
use Rattle.lerc_words.specs.Res.{Res, ok, fail, ◌>>=◌, accepts, after}
use Rattle.lerc_words.specs.Lists.{over, from, tabulate}
use Rattle.lerc_words.proofs.Binding.{bind_is, bind-fail}
use Rattle.lerc_header.specs.declared.Header.{Header}
use Rattle.lerc_header.specs.declared.Shape.{Shape}
use Rattle.lerc_header.specs.Shape.{cells, mask_length, block_count, Shaped}
use Rattle.lerc_header.specs.Header.{shape_of, extent_of, held}
use Rattle.lerc_header.proofs.Kept.{header-held, held-shaped}
use Rattle.lerc_ranges.specs.declared.Ranges.{Ranges}
use Rattle.lerc_validity.specs.Validity.{MaskInForce, bytes_of, spare_with, which as answered, prepare_says, in_force, MaskTold}
use Rattle.lerc_ranges.specs.Ranges.{read_ranges_says}
use Rattle.lerc_validity.proofs.Prepared.{prepare-found, mask-length}
use Rattle.lerc_image.specs.Geometry.{tile_size, tile_of, cell_of, rank, is_valid_cell}
use Rattle.lerc_image.specs.Paint.{painted, index_of, among}
use Rattle.lerc_image.specs.Blocks.{Chain}
use Rattle.lerc_image.specs.Walk.{walk_says, walk_list, walk_count, Walk}
use Rattle.lerc_image.proofs.Partition.{block-lt, place-lt, cell-back, cell-lt, cell-block, cell-place}
use Rattle.lerc_image.proofs.Steps.{position_first, position-next, tile-here}
use Rattle.lerc_image.proofs.Painting.{length-painted, painted-cell}
use Rattle.lerc_image.proofs.Chain.{chain-lengths}
use Rattle.lerc_image.proofs.Upto.{valid-below}
use Rattle.lerc.specs.Meaning.{blocks, Meaning, starts_of, cell_word, meaning}
use Rattle.lerc.specs.Read.{Lent, masked, published, read_after, read_count, WholeRead, ReadTold}
use Rattle.lerc_theorems.specs.Promises.{lent}
use Rattle.lerc_theorems.specs.Calls.{HeaderCall, PrepareCall, HandedCall, ReadRanges, WalkCall, FillCalls, ReadCall}
use Rattle.lerc_theorems.specs.DemandTwo.{Roomy, Exact, WalkAndFills, WalkMeans, DemandTwo}
use Rattle.lerc_theorems.specs.DemandThree.{Case, Opened}
use Rattle.lerc_theorems.proofs.Calls.{ranges-held, header-call, prepare-call, handed-call, ranges-call, ranges-from, walk_call, read-call}
use Rattle.lerc_theorems.proofs.Longer.{alike-take, walk_same as longer-walk}
use Rattle.lerc_theorems.proofs.Bodies.{BlocksCoded, coded-is, starts-up, starts-end}
use Rattle.lerc_theorems.proofs.Meanings.{Means, meaning-is, means_is, keeps, mask-kept, ends, Rooms, rooms, read_is, kept-front, kept-unread, meaning-same, means-front}
use Rattle.lerc_theorems.proofs.Unread.{unread}
use Rattle.lerc_theorems.proofs.Nine.{nine-flat, flat-nine}
use Rattle.lerc_theorems.proofs.Fills.{walk_is, walked-body, means-walking, walking-says, left_is, left-long, left-starts}
use Rattle.lerc_theorems.proofs.OpenedFills.{complete, mask-handed, listed}

-- ---- what a whole read leaves

module _ (b : List ℕ) (reuse : Bool) (r : Res ReadTold) (old new : Lent) (w : WholeRead b reuse r old new) (f : Roomy b old) where
  says : r ≡ (meaning b reuse old.kept >>= read_count)
  says = w.says ∙ ap (λ (x : Res Meaning). x >>= read_count) (read_is b reuse old f)

  alike : (x : Res Meaning) → accepts (x >>= read_count) ≡ accepts x
  alike (ok m) = refl
  alike (fail q) = refl

  accepted : accepts r ≡ accepts (meaning b reuse old.kept)
  accepted = ap accepts says ∙ alike (meaning b reuse old.kept)

  refused : (why : Refusal) → (r ≡ fail why) ↔ (meaning b reuse old.kept ≡ fail why)
  refused why = (
    λ e. bind-fail (meaning b reuse old.kept) _ (sym says ∙ e),
    λ e. (says ∙ ap (λ (x : Res Meaning). x >>= read_count) e),
  )

  module _ (m : Meaning) (e : meaning b reuse old.kept ≡ ok m) where
    left : new ≡ published m old
    left = w.lent ∙ ap (λ (x : Res Meaning). read_after x (masked b reuse old) old) (read_is b reuse old f ∙ e)

    image : new.image ≡ painted old.image (is_valid_cell (shape_of m.header) (bytes_of m.mask)) (cell_word m.header (bytes_of m.mask) m.body)
    unfolding published
    image = ap (λ (l : Lent). l.image) left

    wide : cells (shape_of m.header) ≤ length old.image
    wide = (rooms m.header old (f m.header (meaning-is b reuse old.kept m e).header)).image

    kept-as : new.kept ≡ over (bytes_of m.mask) old.kept
    unfolding published
    kept-as = ap (λ (l : Lent). l.kept) left

    spare-as : new.spare ≡ spare_with m.mask old.spare
    unfolding published
    spare-as = ap (λ (l : Lent). l.spare) left

    list-as : new.list ≡ over (starts_of m.body) old.list
    unfolding published
    list-as = ap (λ (l : Lent). l.list) left

    long : length new.image ≡ length old.image
    long = rw (image) (length-painted old.image _ _)

    abbrev which : ℕ → Bool
    which = is_valid_cell (shape_of m.header) (bytes_of m.mask)

    abbrev word : ℕ → ℕ
    word = cell_word m.header (bytes_of m.mask) m.body

    cell : (c : ℕ) → c < length old.image → get_or new.image c 0 ≡ cond (which c) (word c) (get_or old.image c 0)
    cell c l = rw (image) (painted-cell old.image word which c l)

    valid : (c : ℕ) → which c ≡ true → get_or new.image c 0 ≡ word c
    valid c v =
        let l = valid-below (shape_of m.header) (bytes_of m.mask) c v in
        cell c (omega (arith, wide)) ∙ rw (v)

    other : (c : ℕ) → which c ≡ false → get_or new.image c 0 ≡ get_or old.image c 0
    other c v = go (dec_lt c (length old.image))
      where
        go : Dec (c < length old.image) → get_or new.image c 0 ≡ get_or old.image c 0
        go (yes l) = cell c l ∙ rw (v)
        go (no l) =
            let p : length old.image ≤ c = omega arith in
            let q : length new.image ≤ c = omega (arith, long) in
            get_or-eq_default new.image 0 q ∙ sym (get_or-eq_default old.image 0 p)

    outside : (c : ℕ) → cells (shape_of m.header) ≤ c → which c ≡ false
    unfolding is_valid_cell
    outside c l = rw (le-ltb c (cells (shape_of m.header)) l)

    pub exact : Exact m r old new
    exact = record {
      answer = says ∙ ap (λ (x : Res Meaning). x >>= read_count) e;
      kept = kept-as;
      spare = spare-as;
      list = list-as;
      long = long;
      valid = valid;
      other = other;
      past = λ c l. other c (outside c l);
    }

-- ---- a body in blocks

module _ (b : List ℕ) (reuse : Bool) (kept : List ℕ) (h : Header) (f : MaskInForce) (c : Chain) (e : meaning b reuse kept ≡ ok (record { header = h; mask = f; body = blocks c })) where
  parts : Means b reuse kept (record { header = h; mask = f; body = blocks c })
  parts = meaning-is b reuse kept _ e

  coded : BlocksCoded (take h.size b) h (bytes_of f) c
  coded = coded-is (take h.size b) h (bytes_of f) c parts.body

  pub rise : (length c.starts ≡ block_count (shape_of h)) × ((i j : ℕ) → i < j → j < length c.starts → get_or c.starts i 0 < get_or c.starts j 0)
      × ((i : ℕ) → i < length c.starts → get_or c.starts i 0 < c.end)
  rise =
      let s = take h.size b in
      let x = coded.ranges.max in
      let n = block_count (shape_of h) in
      ((chain-lengths s h x (bytes_of f) n 0 coded.from c coded.is).0, starts-up s h x (bytes_of f) n coded.from c coded.is, starts-end s h x (bytes_of f) n coded.from c coded.is)

-- ---- by parts

-- all numbers below k are among them
named : (k i n : ℕ) → i ≤ n → n < i + k → among (from k i (λ x. x)) n ≡ true
unfolding from
named zero i n l q = absurd (omega arith)
named (suc k) i n l q = go (dec_lt i n) (λ p. named k (suc i) n p (omega arith))
  where
    go : Dec (i < n) → (i < n → among (from k (suc i) (λ x. x)) n ≡ true) → (eqb n i || among (from k (suc i) (λ x. x)) n) ≡ true
    go (yes p) r = rw (r p) (or-true (eqb n i))
    go (no p) r = let z : n ≡ i = omega arith in rw (eq-eqb n i z)

module _ (b : List ℕ) (reuse : Bool) (r : Res ReadTold) (old new : Lent) (h : Header) (f : MaskInForce) (c : Chain) (z : ReadCall b reuse r old new) (y : Roomy b old)
    (e : meaning b reuse old.kept ≡ ok (record { header = h; mask = f; body = blocks c })) where
  abbrev whole : Meaning
  whole = record { header = h; mask = f; body = blocks c }

  left_so : Exact whole r old new
  left_so = exact b reuse r old new (read-call z) y whole e

  p : Means b reuse old.kept whole
  p = parts b reuse old.kept h f c e

  hold : held h (length b) ≡ ok (extent_of h)
  hold = keeps b reuse old.kept whole p

  o : Rooms h old
  o = rooms h old (y h p.header)

  prepared : prepare_says b h reuse old.kept (length old.spare) ≡ ok f
  unfolding prepare_says
  prepared = rw (hold, le-leb _ _ o.kept, le-leb _ _ o.spare) p.mask

  read : read_ranges_says b h ≡ ok (coded b reuse old.kept h f c e).ranges
  read = ranges-held b h hold ∙ (coded b reuse old.kept h f c e).read

  -- with the ranges that were read
  module _ (g : Ranges) (q : ReadRanges b h g) where
    walks : walk_says b h g (bytes_of f) (length old.list) ≡ ok c
    walks = walking-says b h g (bytes_of f) (length old.list) c (means-walking b reuse old.kept h f c e o.kept g (ranges-from q) (length old.list) o.list)

    same-list : walk_list b h g (bytes_of f) old.list ≡ new.list
    same-list = left_is b h g (bytes_of f) old.list c walks ∙ sym left_so.list

    abbrev opened : Case
    opened = record {
      blob = b;
      reuse = reuse;
      kept = old.kept;
      header = h;
      means = f;
      chain = c;
      ranges = g;
      mask = bytes_of f;
      list = new.list;
      image = old.image;
    }

    is-opened : Opened opened
    is-opened = record {
      means = e;
      kept = o.kept;
      ranges = q;
      mask = let i = (mask-kept b reuse old.kept whole p o.kept).size in take_all (mask_length (shape_of h)) (bytes_of f) (omega (arith, i));
      long = rw (← same-list) (left-long b h g (bytes_of f) old.list c walks);
      starts = λ n l. rw (← same-list) (left-starts b h g (bytes_of f) old.list c walks n l);
      room = o.image;
    }

    by-fills : (answers : List (Res ℕ)) (image : List ℕ) → FillCalls b h g (bytes_of f) new.list (tabulate (block_count (shape_of h)) (λ n. n)) answers old.image image → image ≡ new.image
    by-fills answers image k =
        complete opened is-opened (tabulate (block_count (shape_of h)) (λ n. n)) answers image k (λ n l. named (block_count (shape_of h)) 0 n (omega arith) (omega (arith, l))) new
        (record { answer = r; lent = old; read = z; room = y h p.header; same-mask = λ t. refl; same_start = refl })

    by-walk : (said : Res Walk) (list : List ℕ) → WalkCall b h g (bytes_of f) said old.list list → (said ≡ ok (record { blocks = (block_count (shape_of h)); end = c.end })) × (list ≡ new.list)
    by-walk said list k =
        let w = walk_call k in
        ((w.says ∙ ap (λ (x : Res Chain). x >>= walk_count h) walks), w.list ∙ same-list)

  by_mask : (said : Res MaskTold) (spare m : List ℕ) → PrepareCall b h reuse old.kept said old.spare spare → HandedCall old.kept spare said m → (m ≡ bytes_of f) × (spare ≡ new.spare)
  by_mask said spare m k q = (
    mask-handed b h reuse old.kept old.spare spare m f said k q prepared,
    (prepare-call k).spare ∙ ap (λ (x : Res MaskInForce). after x old.spare (λ i. spare_with i old.spare)) prepared ∙ sym left_so.spare,
  )

  by_parts : WalkAndFills b reuse old new h f c
  by_parts = record {
    header = λ said k. (header-call k ∙ p.header);
    mask = by_mask;
    ranges = λ said k. ap accepts (ranges-call k ∙ read);
    walk = by-walk;
    fills = by-fills;
  }

-- ---- the cell at a place

placed-word : (h : Header) (s : Shaped (shape_of h)) (n k : ℕ) → n < block_count (shape_of h) → k < tile_size (tile_of (shape_of h) n) → (m : List ℕ) (c : Chain)
    → cell_word h m (blocks c) (cell_of (shape_of h) n k) ≡ get_or (get_or c.words n []) (rank (shape_of h) m (tile_of (shape_of h) n) k) 0
unfolding cell_word index_of
placed-word h s n k l i m c = rw (cell-block (shape_of h) s n k l i, cell-place (shape_of h) s n k l i)

-- ---- what calls tell

-- a mask has at least one byte
some_byte : (h : Shape) → Shaped h → 0 < mask_length h
some_byte h s = let z = mul-le-mul s.rows.0 s.columns.0 in omega (arith, z)

module _ (b : List ℕ) (reuse : Bool) (kept : List ℕ) (h : Header) (said : Res MaskTold) (spare prepared m q : List ℕ) (r : Ranges) (n end : ℕ) (old new : List ℕ) (at-header : HeaderCall b (ok h))
    (at-mask : PrepareCall b h reuse kept said spare prepared) (at_part : HandedCall kept prepared said m) (at-ranges : ReadRanges b h r) (longer : take (mask_length (shape_of h)) q ≡ m)
    (at-walk : WalkCall b h r q (ok (record { blocks = n; end = end })) old new) where
  -- a refused mask hands nothing back, and a walk asks for a mask
  accepted-mask : (x : Res MaskInForce) → prepare_says b h reuse kept (length spare) ≡ x → mask_length (shape_of h) ≤ length q → 0 < mask_length (shape_of h) → (f : MaskInForce) × (prepare_says b h reuse kept (length spare) ≡ ok f)
  unfolding in_force
  accepted-mask (ok f) e l k = (f, e)
  accepted-mask (fail why) e l k =
      let s : said ≡ fail why = ((prepare-call at-mask).says ∙ ap (λ (x : Res MaskInForce). x >>= answered) e) in
      let i : m ≡ [] = handed-call at_part ∙ ap (λ (x : Res MaskTold). in_force x kept prepared) s in
      let z : min (mask_length (shape_of h)) (length q) ≡ 0 = sym (length-take (mask_length (shape_of h)) q) ∙ ap length (longer ∙ i) in
      absurd (omega arith)

  pub found : WalkMeans b reuse kept h m n end old new
  found =
      let (c, e, _) = bind_is (walk_says b h r q (length old)) _ (sym (walk_call at-walk).says) in
      let w = walk_is b h r q (length old) c e in
      let (f, p) = accepted-mask (prepare_says b h reuse kept (length spare)) refl w.mask (some_byte (shape_of h) (held-shaped h (length b) w.kept)) in
      let t = prepare-found b h reuse kept (length spare) f p in
      let i : m ≡ bytes_of f = mask-handed b h reuse kept spare prepared m f said at-mask at_part p in
      let a = alike-take (shape_of h) q (bytes_of f) (longer ∙ i) (let z = mask-length b h reuse kept (length spare) f p in omega (arith, z)) in
      let v = sym (longer-walk b h w.kept q (bytes_of f) a r (length old)) ∙ e in
      let l = listed b h r q old new n end c at-walk e in
      record {
        mask = f;
        chain = c;
        means = means_is b reuse kept (record { header = h; mask = f; body = blocks c })
            (record { header = sym (header-call at-header); mask = t.mask; body = walked-body b h r (bytes_of f) (length old) c (walk_is b h r (bytes_of f) (length old) c v) (ranges-from at-ranges) });
        kept-long = t.here;
        handed = i;
        count = l.0;
        ends = l.1;
        list = (walk_call at-walk).list ∙ left_is b h r q old c e;
      }

pub demand-two : DemandTwo
demand-two = record {
  accepted-iff = λ k a r x p f. accepted a.0.now a.1.0 r (lent a) (lent x) p f;
  refused_as = λ k a r x p f. refused a.0.now a.1.0 r (lent a) (lent x) p f;
  cells-exact = λ k a r x p f m e. exact a.0.now a.1.0 r (lent a) (lent x) p f m e;
  mask-right = λ b reuse kept m e l. let q = mask-kept b reuse kept m (meaning-is b reuse kept m e) l in (q.size, q.counts);
  below-size = λ b c reuse kept n p q e. meaning-same b c n p e q reuse kept;
  behind-end = λ b c reuse kept m e p q l x. means_is c reuse kept m (means-front b reuse kept m (meaning-is b reuse kept m e) c p q l x);
  unread = unread;
  kept-front = kept-front;
  kept-unread = kept-unread;
  end-bounds = λ b reuse kept m e. ends b reuse kept m (meaning-is b reuse kept m e);
  starts-rise = rise;
  order = λ b h e. let s = held-shaped h (length b) (header-held b h e).1 in (position_first (shape_of h) s, λ n l. (sym (position-next (shape_of h) s n l), sym (tile-here (shape_of h) s n l)));
  places = λ b h e. let s = held-shaped h (length b) (header-held b h e).1 in (
    λ n k l i. (cell-lt (shape_of h) s n k l i, cell-block (shape_of h) s n k l i, cell-place (shape_of h) s n k l i, placed-word h s n k l i),
    λ c l. (block-lt (shape_of h) s c l, place-lt (shape_of h) s c l, cell-back (shape_of h) s c l),
  );
  read-is-walk-and-fills = by_parts;
  walk-is-read = found;
  nine-only-constant = nine-flat;
  nine-constant = flat-nine;
}
