-- What calls tell before the first fill, and demand 3 from them alone.
-- Assumes nothing.
use mathlib.Core.Path.{◌≡◌, ◌∙◌, sym, ap}
use mathlib.Core.Bool.{true}
use mathlib.Core.List.{List}
use Prim.Native.Nat.{ℕ, suc, ◌+◌, ◌≤◌, ◌<◌, min}
use native.Mathlib.Decide.{dec_lt}
use native.Mathlib.Numerals.{add-one}
use native.Mathlib.Omega.{arith}
use lib.ListN.{length, get_or, take, drop, length-take, get_or-eq_default}
use lib.Seq.{get_or-take, take-append_seam}
use borrow.Author.Tests.{lt-ltb, le-ltb}
use Rattle.lerc_words.specs.Res.{ok, Res}
use Rattle.lerc_words.specs.Lists.{over}
use Rattle.lerc_words.proofs.Binding.{bind_is, bind-counts, ok-is}
use Rattle.lerc_header.specs.declared.Header.{Header}
use Rattle.lerc_header.specs.Shape.{cells, mask_length, block_count}
use Rattle.lerc_header.specs.Header.{shape_of}
use Rattle.lerc_validity.specs.Validity.{MaskInForce, bytes_of}
use Rattle.lerc_image.proofs.Stages.{get_d_any}
use Rattle.lerc_image.specs.Blocks.{Chain}
use Rattle.lerc.specs.Meaning.{Meaning, Body, empty, constant, raw, blocks, huffman, starts_of, end_of, meaning}
use Rattle.lerc.specs.Read.{ReadTold, room, masked, read_says}
use Rattle.lerc_theorems.specs.Calls.{FillCall, FillCalls}
use Rattle.lerc_theorems.specs.Unread.{SameWithin}
use Rattle.lerc_theorems.specs.DemandTwo.{Roomy, Exact}
use Rattle.lerc_theorems.specs.DemandThree.{InHand, ByWalk, ByRead, Surveyed, by-walk, by_read, case_of, ends_at, Found, AnyOrder}
use Rattle.lerc_theorems.proofs.Calls.{read-call}
use Rattle.lerc_theorems.proofs.Meanings.{meaning-is, mask-kept, read_is, rooms}
use Rattle.lerc_theorems.proofs.Refusals.{masked-is}
use Rattle.lerc_theorems.proofs.DemandTwo.{exact, rise, found}
use Rattle.lerc_theorems.proofs.Unread.{fill-own as own}
use Rattle.lerc_theorems.proofs.OpenedFills as fills

-- a list that begins as another does whose front was replaced
module _ (front old new list : List ℕ) (n : ℕ) (many : length front ≡ n) (e : new ≡ over front old) (same : take n list ≡ take n new) where
  begins : take n list ≡ front
  begins = same ∙ rw (e, ← many) (take-append_seam front (drop (length front) old))

  front_long : n ≤ length list
  front_long = let z : min n (length list) ≡ length front = sym (length-take n list) ∙ ap length begins in omega (arith, many)

  front_at : (i : ℕ) → i < n → get_or list i 0 ≡ get_or front i 0
  front_at i l = sym (get_or-take n list i 0 l) ∙ ap (λ (x : List ℕ). get_or x i 0) begins

-- ---- by a walk

pub opened-by-walk : (x : InHand) → ByWalk x → Found x
opened-by-walk x w =
    let h = x.header in
    let m = found x.blob x.reuse x.kept h w.said w.spare w.prepared w.part w.longer x.ranges x.count x.end w.unlisted w.listed w.header w.prepare w.handed w.ranges w.begins w.walk in
    let many : length m.chain.starts ≡ block_count (shape_of h) = (rise x.blob x.reuse x.kept h m.mask m.chain m.means).0 in
    let same : take (block_count (shape_of h)) x.list ≡ take (block_count (shape_of h)) w.listed = rw (← m.count) w.list in
    record {
      means = m.mask;
      chain = m.chain;
      opened = record {
        means = m.means;
        kept = m.kept-long;
        ranges = w.ranges;
        mask = w.mask ∙ m.handed;
        long = front_long m.chain.starts w.unlisted w.listed x.list (block_count (shape_of h)) many m.list same;
        starts = front_at m.chain.starts w.unlisted w.listed x.list (block_count (shape_of h)) many m.list same;
        room = w.room;
      };
      count = m.count;
      end = m.ends;
    }

-- ---- by a whole read

module _ (x : InHand) (w : ByRead x) where
  abbrev h : Header
  h = x.header

  -- what it read, and that there was room
  pub record Accepted (m : Meaning) : Type 0 where
    pub header : m.header ≡ h
    pub blocks : x.count ≡ length (starts_of m.body)
    pub end : x.end ≡ end_of m.body
    pub room : room h w.old ≡ true
    pub roomy : Roomy x.blob w.old
    pub means : meaning x.blob x.reuse x.kept ≡ ok m

  accepted : (m : Meaning) × Accepted m
  unfolding read_says
  accepted =
      let (m, r, c) = bind-counts (read_says x.blob x.reuse w.old) _ (sym (read-call w.read).says) in
      let (k, p, _) = bind_is (masked x.blob x.reuse w.old) _ r in
      let g = masked-is x.blob x.reuse w.old k p in
      let i : h ≡ m.header = ap (λ (v : ReadTold). v.header) c in
      let roomy : Roomy x.blob w.old = λ j e. rw (← ok-is (sym g.header ∙ e)) g.room in
      let e : meaning x.blob x.reuse w.old.kept ≡ ok m = sym (read_is x.blob x.reuse w.old roomy) ∙ r in
      let j = (meaning-is x.blob x.reuse w.old.kept m e).header in (
        m,
        record {
          header = sym i;
          blocks = ap (λ (v : ReadTold). v.blocks) c;
          end = ap (λ (v : ReadTold). v.end) c;
          room = rw (i) (roomy m.header j);
          roomy = roomy;
          means = rw (← w.kept) e;
        },
      )

  -- the mask that it left is the mask in force, in the first bytes
  mask-left : (f : MaskInForce) → length (bytes_of f) ≡ mask_length (shape_of h) → w.new.kept ≡ over (bytes_of f) w.old.kept → take (mask_length (shape_of h)) x.mask ≡ bytes_of f
  mask-left f i e = w.mask ∙ rw (e, ← i) (take-append_seam (bytes_of f) (drop (length (bytes_of f)) w.old.kept))

  module _ (f : MaskInForce) (c : Chain) (a : Accepted (record { header = h; mask = f; body = blocks c })) where
    abbrev whole : Meaning
    whole = record { header = h; mask = f; body = blocks c }

    means-old : meaning x.blob x.reuse w.old.kept ≡ ok whole
    means-old = rw w.kept a.means

    left_so : Exact whole (ok (record { header = h; blocks = x.count; end = x.end })) w.old w.new
    left_so = exact x.blob x.reuse _ w.old w.new (read-call w.read) a.roomy whole means-old

    many : length c.starts ≡ block_count (shape_of h)
    many = (rise x.blob x.reuse x.kept h f c a.means).0

    room-kept : mask_length (shape_of h) ≤ length x.kept
    room-kept = rw (← w.kept) (rooms h w.old a.room).kept

    in_blocks : Found x
    in_blocks =
        let size = (mask-kept x.blob x.reuse x.kept whole (meaning-is x.blob x.reuse x.kept whole a.means) room-kept).size in
        let count : x.count ≡ block_count (shape_of h) = a.blocks ∙ many in
        let same : take (block_count (shape_of h)) x.list ≡ take (block_count (shape_of h)) w.new.list = rw (← count) w.list in
        record {
          means = f;
          chain = c;
          opened = record {
            means = a.means;
            kept = room-kept;
            ranges = w.ranges;
            mask = mask-left f size left_so.kept;
            long = front_long c.starts w.old.list w.new.list x.list (block_count (shape_of h)) many left_so.list same;
            starts = front_at c.starts w.old.list w.new.list x.list (block_count (shape_of h)) many left_so.list same;
            room = w.room;
          };
          count = count;
          end = a.end;
        }

  -- a body without blocks has no starts, and the read told of some
  by-body : (f : MaskInForce) (y : Body) → Accepted (record { header = h; mask = f; body = y }) → Found x
  by-body f empty a = absurd (omega (arith, a.blocks, w.some))
  by-body f (constant words end) a = absurd (omega (arith, a.blocks, w.some))
  by-body f (raw words end) a = absurd (omega (arith, a.blocks, w.some))
  by-body f (blocks c) a = in_blocks f c a
  by-body f (huffman delta symbols end) a = absurd (omega (arith, a.blocks, w.some))

  pub opened-by-read : Found x
  opened-by-read = let (m, a) = accepted in by-body m.mask m.body (go m a)
    where
      go : (m : Meaning) → Accepted m → Accepted (record { header = h; mask = m.mask; body = m.body })
      go m a = rw a.header at a

-- ---- either way

opened-by : (x : InHand) → Surveyed x → Found x
opened-by x (by-walk w) = opened-by-walk x w
opened-by x (by_read w) = opened-by-read x w

-- a block's own bytes end where the next one begins, or at the end
module _ (x : InHand) (t : Found x) (n : ℕ) (l : n < x.count) where
  abbrev starts : List ℕ
  starts = t.chain.starts

  next-is : get_or starts (suc n) t.chain.end ≡ ends_at x n
  next-is = go (dec_lt (n + 1) x.count)
    where
      many : length starts ≡ x.count
      many = (rise x.blob x.reuse x.kept x.header t.means t.chain t.opened.means).0 ∙ sym t.count

      go : Dec (n + 1 < x.count) → get_or starts (suc n) t.chain.end ≡ ends_at x n
      go (yes m) =
          let k : suc n < length starts = omega (arith, many) in
          let i : suc n < block_count (shape_of x.header) = omega (arith, t.count) in
          rw (lt-ltb (n + 1) x.count m, add-one) (get_d_any starts (suc n) t.chain.end 0 k ∙ sym (t.opened.starts (suc n) i))
      go (no m) =
          let k : length starts ≤ suc n = omega (arith, many) in
          rw (le-ltb (n + 1) x.count (omega arith)) (get_or-eq_default starts t.chain.end k ∙ sym t.end)

pub fill-own : (x : InHand) → Surveyed x → (c : List ℕ) (n : ℕ) (said told : Res ℕ) (old new other : List ℕ) → n < x.count → cells (shape_of x.header) ≤ length old → x.header.size ≤ length c
    → SameWithin (get_or x.list n 0) (ends_at x n) x.blob c → FillCall x.blob x.header x.ranges x.mask x.list n said old new
    → FillCall c x.header x.ranges x.mask x.list n told old other → (told ≡ said) × (other ≡ new)
fill-own x s c n said told old new other l wide long same p q =
    let t = opened-by x s in
    let k = case_of x t.means t.chain in
    let i : n < block_count (shape_of x.header) = rw (← t.count) l in
    let e : said ≡ ok _ = fills.accepts k t.opened old wide n said new p i in
    let b = fills.block-is k t.opened n i in
    rw (e) (own x.blob c x.header x.ranges x.mask x.list n _ told old new other _ b long (rw (next-is x t n l) same) (rw (e) at p) q)

-- ---- any order

pub any_order : (x : InHand) → Surveyed x → (ns : List ℕ) (said : List (Res ℕ)) (new : List ℕ) → FillCalls x.blob x.header x.ranges x.mask x.list ns said x.image new
    → AnyOrder x ns said new
any_order x s ns said new calls = go (opened-by x s)
  where
    go : Found x → AnyOrder x ns said new
    go t =
        let c = case_of x t.means t.chain in
        record {
          found = t;
          answers = fills.answered c t.opened ns said x.image new t.opened.room calls ∙ fills.answer-same c t.opened ns;
          long = fills.long c t.opened ns said new calls;
          cells = fills.by-lent c t.opened ns said new calls;
          as_read = λ left q. fills.by_read c t.opened ns said new calls left q;
          complete = λ g left q. fills.complete c t.opened ns said new calls (λ n l. g n (rw t.count l)) left q;
        }
