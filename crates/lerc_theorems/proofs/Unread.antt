-- What is not looked at, proved.
-- Assumes nothing.
use mathlib.Core.Path.{◌≡◌, ◌∙◌, sym, ap, refl, subst}
use mathlib.Core.Bool.{Bool, cond, ◌&&◌}
use mathlib.Core.List.{List, [], ◌∷◌}
use Prim.Native.Nat.{ℕ, ◌+◌, ◌≤◌, min}
use native.Mathlib.Decide.{dec_le}
use native.Mathlib.Omega.{arith}
use lib.ListN.{length, get_or, take, length-take}
use lib.Seq.{length-take-le}
use lib.Dec.{leb}
use borrow.Author.Tests.{le-leb, lt-leb}
use denote.Ref.{Bor, MutBor}
use Rattle.lerc_words.specs.Res.{Res, ok, fail, ◌>>=◌, marked, require, after}
use Rattle.lerc_words.specs.Lists.{over}
use Rattle.lerc_words.proofs.Binding.{bind_is, bind-counts}
use Rattle.lerc_numeric.specs.Numeric.{same as same'}
use Rattle.lerc_header.specs.declared.Header.{Header}
use Rattle.lerc_header.specs.Header.{shape_of, header_bytes, ranges_at, header_of, header_says, open_says, held, extent_of}
use Rattle.lerc_header.specs.declared.Extent.{Extent}
use Rattle.lerc_header.specs.Shape.{block_count}
use Rattle.lerc_header.proofs.Kept.{header-held, held-is, held-size}
use Rattle.lerc_ranges.specs.declared.Ranges.{Ranges}
use Rattle.lerc_ranges.specs.Ranges.{uniform_ranges, ranges_end, coded_ranges, pairs_right, wrong_number_at, ranges_says, read_ranges_says}
use Rattle.lerc_validity.specs.Validity.{MaskInForce, unrolled, mask_in, mask_says, prepare_says, spare_with, which}
use Rattle.lerc_block.specs.Block.{Block}
use Rattle.lerc_sweep.specs.Sweep.{blocks_from}
use Rattle.lerc_image.specs.Blocks.{Chain, block_at}
use Rattle.lerc_image.specs.Paint.{scattered}
use Rattle.lerc_image.specs.Walk.{Walk, walk_says, walk_count, walk_of, walk_list}
use Rattle.lerc_image.specs.Fill.{fill_says, fill_count, fill_image}
use Rattle.lerc_image.specs.Own.{own_tiles}
use Rattle.lerc_image.specs.Tiles.{checked_tiles, room_to_list, listed_tiles, tiles_listed, room_to_fill, filled_tiles, written_list, written_image, tiles_says, tiles_image}
use Rattle.lerc_byte_image.specs.Symbols.{Coded}
use Rattle.lerc_byte_image.specs.Image.{checked_image, ended, write_table, written_image as written_bytes}
use Rattle.lerc_byte_image.proofs.Front.{image-front, image-bounds}
use Rattle.lerc_fills.specs.Each.{filled_of, fill_each}
use Rattle.lerc.specs.Meaning.{Meaning, meaning_from}
use Rattle.lerc.specs.Read.{Lent, room, Masked, masked, read_says, read_count, published}
use Rattle.lerc.specs.Stage.{staged_of, staged_spare, staged_list, publish_says, body_told, StageRead, Publishing, PublishTold}
use Rattle.lerc_theorems.specs.Calls.{WalkCall, FillCall}
use Rattle.lerc_theorems.specs.Unread.{declared, SameDeclared, SameBelow, SameWithin, Unread}
use Rattle.lerc_theorems.proofs.Determined.{staged-same, published-same}
use Rattle.lerc_theorems.proofs.Calls.{header-call, prepare-call, ranges-call, walk_call, fill-call, each-call, tiles-call, read-call}
use Rattle.lerc_theorems.proofs.Bodies.{swept-in, block_in, chain-in}
use Rattle.lerc_theorems.proofs.Front.{section-same, at-agrees, chain-agrees, sweep-agrees, coded-agrees}
use Rattle.lerc_theorems.proofs.Meanings.{held_any, part_same, header-alike, header-other, cut, agree}
use Rattle.lerc_theorems.proofs.Refusals.{masked-is}
use Rattle.lerc_theorems.proofs.Fills.{Walking, walk_is, walking-says}
use Rattle.lerc.specs.declared.Staged.{Staged}

-- ---- a blob with its header

module _ (b c : List ℕ) (same : SameDeclared b c) where
  pub header-as : header_says b ≡ header_says c
  header-as = header-alike b c (declared b) (omega arith) same (omega arith)

  open-as : open_says b ≡ open_says c
  unfolding open_says
  open-as = rw (header-as)

  -- an accepted header has the declared size
  below_as : {h : Header} → header_says b ≡ ok h → SameBelow h b c
  below_as {h} e = let z : h ≡ header_of b = (header-held b h e).0 in part_same b c (declared b) (omega arith) same h.size (rw (z) (omega arith))

  module _ (reuse : Bool) (l : Lent) where
    abbrev behind : List ℕ → Header → Res Masked
    behind s h = require (room h l) 5 >>= λ _. mask_says (take h.size s) h reuse l.kept >>= λ m. ok (record { header = h; mask = m })

    pub masked-as : masked b reuse l ≡ masked c reuse l
    unfolding masked
    masked-as = rw (← header-as) (go (header_says b) refl)
      where
        go : (x : Res Header) → header_says b ≡ x → (x >>= behind b) ≡ (x >>= behind c)
        go (ok h) e = rw (below_as e)
        go (fail r) e = refl

    pub read_as : read_says b reuse l ≡ read_says c reuse l
    unfolding read_says meaning_from
    read_as = rw (← masked-as) (go (masked b reuse l) refl)
      where
        go : (x : Res Masked) → masked b reuse l ≡ x → (x >>= λ (m : Masked). meaning_from b m.header m.mask) ≡ (x >>= λ (m : Masked). meaning_from c m.header m.mask)
        go (ok m) e = rw (below_as (masked-is b reuse l m e).header)
        go (fail r) e = refl

    -- staging and publishing the one blob is staging and publishing the other
    stage-as : {r : Res Staged} {spare list : List ℕ} → StageRead c reuse r l spare list → StageRead b reuse r l spare list
    stage-as p = record {
      says = p.says ∙ ap (λ (x : Res Meaning). x >>= λ m. ok (staged_of m)) (sym read_as);
      spare = p.spare ∙ ap (λ (x : Res Masked). staged_spare x l.spare) (sym masked-as);
      list = p.list ∙ ap (λ (x : Res Meaning). staged_list x l.list) (sym read_as);
    }

    publish-says-as : (a : Res Staged) → publish_says c reuse a l ≡ publish_says b reuse a l
    unfolding publish_says
    publish-says-as a = rw (read_as)

    publish-as : {a : Res Staged} {r : Res PublishTold} {kept image : List ℕ} → Publishing c reuse a r l kept image → Publishing b reuse a r l kept image
    publish-as {a} p = record {
      says = p.says ∙ ap (λ (x : Res Meaning). x >>= λ m. ok (body_told m.header m.body)) (publish-says-as a);
      kept = p.kept ∙ ap (λ (x : Res Meaning). after x l.kept (λ m. (published m l).kept)) (publish-says-as a);
      image = p.image ∙ ap (λ (x : Res Meaning). after x l.image (λ m. (published m l).image)) (publish-says-as a);
    }

-- ---- a blob with a header by value

module _ (b c : List ℕ) (h : Header) (same : SameBelow h b c) where
  held-as : held h (length b) ≡ held h (length c)
  unfolding held
  held-as =
      let long : min h.size (length b) ≡ min h.size (length c) = sym (length-take h.size b) ∙ ap length same ∙ length-take h.size c in
      rw (go (dec_le h.size (length b)) long)
    where
      go : Dec (h.size ≤ length b) → min h.size (length b) ≡ min h.size (length c) → leb h.size (length b) ≡ leb h.size (length c)
      go (yes l) e = rw (le-leb _ _ l, le-leb h.size (length c) (omega arith))
      go (no l) e = rw (lt-leb h.size (length b) (omega arith), lt-leb h.size (length c) (omega arith))

  pub prepare-as : (reuse : Bool) (kept : List ℕ) (room : ℕ) → prepare_says b h reuse kept room ≡ prepare_says c h reuse kept room
  unfolding prepare_says
  prepare-as reuse kept room = rw (held-as, same)

  pub ranges-as : read_ranges_says b h ≡ read_ranges_says c h
  unfolding read_ranges_says
  ranges-as = rw (held-as, same)

  pub walk-as : (r : Ranges) (m : List ℕ) (room : ℕ) → walk_says b h r m room ≡ walk_says c h r m room
  unfolding walk_says
  walk-as r m room = rw (held-as, same)

  list-as : (r : Ranges) (m list : List ℕ) → walk_list b h r m list ≡ walk_list c h r m list
  unfolding walk_list
  list-as r m list = rw (walk-as r m (length list))

  pub fill-as : (r : Ranges) (m list : List ℕ) (n room : ℕ) → fill_says b h r m list n room ≡ fill_says c h r m list n room
  unfolding fill_says
  fill-as r m list n room = rw (held-as, same)

  image-as : (r : Ranges) (m list : List ℕ) (n : ℕ) (image : List ℕ) → fill_image b h r m list n image ≡ fill_image c h r m list n image
  unfolding fill_image
  image-as r m list n image = rw (fill-as r m list n (length image))

  each-as : (r : Ranges) (m list ns image : List ℕ) → fill_each b h r m list ns image ≡ fill_each c h r m list ns image
  unfolding fill_each
  each-as r m list [] image = refl
  each-as r m list (n ∷ ns) image = each-as r m list ns (fill_image b h r m list n image) ∙ ap (fill_each c h r m list ns) (image-as r m list n image)

  count-as : (r : Ranges) (m list : List ℕ) (room : ℕ) (ns : List ℕ) → filled_of b h r m list room ns ≡ filled_of c h r m list room ns
  unfolding filled_of
  count-as r m list room [] = refl
  count-as r m list room (n ∷ ns) = rw (fill-as r m list n room, count-as r m list room ns)

  tiles-as : (m maxima : List ℕ) (at entries room : ℕ) → tiles_says b h m maxima at entries room ≡ tiles_says c h m maxima at entries room
  unfolding tiles_says
  tiles-as m maxima at entries room = rw (held-as, same)

  checked-as : (m maxima : List ℕ) (at : ℕ) → checked_tiles b h m maxima at ≡ checked_tiles c h m maxima at
  unfolding checked_tiles
  checked-as m maxima at = rw (held-as, same)

  listed-as : (m : List ℕ) (at : ℕ) (list : List ℕ) → listed_tiles b h m at list ≡ listed_tiles c h m at list
  unfolding listed_tiles room_to_list
  listed-as m at list = rw (held-as, same)

  own-as : (maxima : List ℕ) (at : ℕ) → own_tiles b h maxima at ≡ own_tiles c h maxima at
  unfolding own_tiles
  own-as maxima at = rw (held-as, same)

  compared-as : (m : List ℕ) (at : ℕ) (list : List ℕ) → tiles_listed b h m at list ≡ tiles_listed c h m at list
  unfolding tiles_listed room_to_list
  compared-as m at list = rw (held-as, same)

  filled-as : (m maxima list image : List ℕ) → filled_tiles b h m maxima list image ≡ filled_tiles c h m maxima list image
  unfolding filled_tiles room_to_fill
  filled-as m maxima list image = rw (held-as, same)

  written-list-as : (m maxima : List ℕ) (at : ℕ) (list : List ℕ) (room : ℕ) → written_list b h m maxima at list room ≡ written_list c h m maxima at list room
  unfolding written_list room_to_fill
  written-list-as m maxima at list room = rw (held-as, same)

  written-image-as : (m maxima : List ℕ) (at entries : ℕ) (image : List ℕ) → written_image b h m maxima at entries image ≡ written_image c h m maxima at entries image
  unfolding written_image room_to_fill
  written-image-as m maxima at entries image = rw (held-as, same)

  checked-image-as : (mode : ℕ) → checked_image b h mode ≡ checked_image c h mode
  unfolding checked_image
  checked-image-as mode = rw (held-as, same)

  written-bytes-as : (mode : ℕ) (delta : Bool) (m image : List ℕ) → written_bytes b h mode delta m image ≡ written_bytes c h mode delta m image
  unfolding written_bytes write_table
  written-bytes-as mode delta m image = rw (held-as, same)

-- ---- the mask section's and the ranges' own bytes

module _ (b c : List ℕ) (h : Header) (long-b : h.size ≤ length b) (long-c : h.size ≤ length c) where
  -- behind an accepted header by value
  behind-held : {A : Type 0} (f : List ℕ → Extent → Res A) → ((e : Extent) → held h (length b) ≡ ok e → f b e ≡ f c e) → (held h (length b) >>= f b) ≡ (held h (length c) >>= f c)
  behind-held f g = rw (← held_any h (length b) (length c) long-b long-c) (go (held h (length b)) refl)
    where
      go : (x : Res Extent) → held h (length b) ≡ x → (x >>= f b) ≡ (x >>= f c)
      go (ok e) d = g e d
      go (fail r) d = refl

  mask-own : ranges_at h ≤ h.size → SameWithin header_bytes (ranges_at h) b c → (reuse : Bool) (kept : List ℕ) → mask_says (take h.size b) h reuse kept ≡ mask_says (take h.size c) h reuse kept
  unfolding mask_in unrolled
  mask-own l same reuse kept =
      let p = length-take-le h.size b long-b in
      let q = length-take-le h.size c long-c in
      rw (section-same (take h.size b) (take h.size c) header_bytes h.mask (omega (arith, p)) (omega (arith, q)) (cut h.size b c l same))

  prepare-other : SameWithin header_bytes (ranges_at h) b c → (reuse : Bool) (kept : List ℕ) (room : ℕ) → prepare_says b h reuse kept room ≡ prepare_says c h reuse kept room
  unfolding prepare_says
  prepare-other same reuse kept room =
      behind-held (λ d e. require (leb e.mask (length kept) && leb e.mask room) 5 >>= λ _. mask_says (take h.size d) h reuse kept)
      (λ e d. rw (mask-own (held-size h (length b) d).0 same reuse kept))

  ranges-other : SameWithin (ranges_at h) (ranges_end h) b c → read_ranges_says b h ≡ read_ranges_says c h
  unfolding read_ranges_says ranges_says
  ranges-other same = behind-held (λ d e. ranges_says (take h.size d) h) (λ e d. rw (length-take-le h.size b long-b, length-take-le h.size c long-c) (go (dec_le (ranges_end h) h.size)))
    where
      abbreviated : List ℕ → Bool → Res Ranges
      abbreviated s x = cond (same' h.min h.max) (ok (uniform_ranges h)) (marked (ranges_at h) (require x 1) >>= λ _. marked (wrong_number_at h (coded_ranges s h)) (require (pairs_right h.depth (coded_ranges s h)) 7) >>= λ _. ok (coded_ranges s h))

      go : Dec (ranges_end h ≤ h.size) → abbreviated (take h.size b) (leb (ranges_end h) h.size) ≡ abbreviated (take h.size c) (leb (ranges_end h) h.size)
      go (yes l) =
          rw (coded-agrees (agree h.size b c long-c l same) h (omega arith) (omega arith))
      go (no l) = rw (lt-leb (ranges_end h) h.size (omega arith))

-- ---- the blocks' own bytes

module _ (b c : List ℕ) (h : Header) (long : h.size ≤ length c) (held-b : held h (length b) ≡ ok (extent_of h)) where
  long-b : h.size ≤ length b
  long-b = (held-size h (length b) held-b).1

  held-c : held h (length c) ≡ ok (extent_of h)
  held-c = sym (held_any h (length b) (length c) long-b long) ∙ held-b

module _ (b c : List ℕ) (h : Header) (r : Ranges) (m : List ℕ) (entries : ℕ) (k : Chain) (w : Walking b h r m entries k) (long : h.size ≤ length c) (same : SameWithin r.at k.end b c) where
  abbrev s : List ℕ
  s = take h.size b

  -- the body's place, where its blocks begin, and its end
  inside : (r.at ≤ w.from) × (w.from ≤ k.end) × (k.end ≤ h.size)
  inside =
      let p = swept-in s h.kind h.error r.at (blocks_from w.from) w.sweep in
      let q = chain-in s h r.max m (block_count (shape_of h)) 0 w.from k p.1 w.blocks in
      let z = length-take-le h.size b (long-b b c h long w.kept) in
      (omega (arith, p.0), q.0, omega (arith, q.1, z))

  walk-other : walk_says c h r m entries ≡ ok k
  walk-other =
      let a = agree h.size b c long inside.2 same in
      walking-says c h r m entries k
      (record {
        kept = held-c b c h long w.kept;
        mask = w.mask;
        list = w.list;
        pairs = w.pairs;
        some = w.some;
        coded = w.coded;
        from = w.from;
        sweep = sweep-agrees a h.kind h.error r.at (blocks_from w.from) (omega arith) inside.1 w.sweep;
        blocks = chain-agrees a h r.max m (block_count (shape_of h)) 0 w.from k inside.0 (omega arith) w.blocks;
      })

walk-own : (b c : List ℕ) (h : Header) (r : Ranges) (m : List ℕ) (n end : ℕ) (told : Res Walk) (old new other : List ℕ) → h.size ≤ length c → SameWithin r.at end b c
    → WalkCall b h r m (ok (record { blocks = n; end = end })) old new → WalkCall c h r m told old other → (told ≡ ok (record { blocks = n; end = end })) × (other ≡ new)
unfolding walk_list
walk-own b c h r m n end told old new other long same p q =
    let (k, e, d) = bind-counts (walk_says b h r m (length old)) _ (sym (walk_call p).says) in
    let z : end ≡ k.end = ap (λ (x : Walk). x.end) d in
    let f : walk_says c h r m (length old) ≡ ok k = walk-other b c h r m (length old) k (walk_is b h r m (length old) k e) long (rw (z) at same) in (
      ((walk_call q).says ∙ ap (λ (x : Res Chain). x >>= walk_count h) (f ∙ sym e) ∙ sym (walk_call p).says),
      (walk_call q).list ∙ ap (λ (x : Res Chain). after x old (λ y. over y.starts old)) (f ∙ sym e) ∙ sym (walk_call p).list,
    )

module _ (b c : List ℕ) (h : Header) (r : Ranges) (m list : List ℕ) (n room : ℕ) (k x : Block) (is : block_at (take h.size b) h r.max m n (get_or list n 0) ≡ ok k)
    (long : h.size ≤ length c) (same : SameWithin (get_or list n 0) k.next b c) where
  fill-other : fill_says b h r m list n room ≡ ok x → fill_says c h r m list n room ≡ ok x
  unfolding fill_says
  fill-other e =
      let (y, p, _) = bind_is (held h (length b)) _ e in
      let i : y ≡ extent_of h = held-is h (length b) p in
      let held-b : held h (length b) ≡ ok (extent_of h) = rw (i) at p in
      let z = block_in (take h.size b) h r.max m n (get_or list n 0) k is in
      let l : k.next ≤ h.size = omega (arith, z.1, length-take-le h.size b (long-b b c h long held-b)) in
      let a = agree h.size b c long l same in
      let f : block_at (take h.size c) h r.max m n (get_or list n 0) ≡ ok k = at-agrees a h r.max m n (get_or list n 0) k (omega arith) (omega arith) is in
      rw (held-c b c h long held-b, f) (rw (held-b, is) at e)

pub fill-own : (b c : List ℕ) (h : Header) (r : Ranges) (m list : List ℕ) (n words : ℕ) (told : Res ℕ) (old new other : List ℕ) (k : Block)
    → block_at (take h.size b) h r.max m n (get_or list n 0) ≡ ok k → h.size ≤ length c → SameWithin (get_or list n 0) k.next b c
    → FillCall b h r m list n (ok words) old new → FillCall c h r m list n told old other → (told ≡ ok words) × (other ≡ new)
unfolding fill_image
fill-own b c h r m list n words told old new other k is long same p q =
    let (x, e, _) = bind-counts (fill_says b h r m list n (length old)) _ (sym (fill-call p).says) in
    let f : fill_says c h r m list n (length old) ≡ ok x = fill-other b c h r m list n (length old) k x is long same e in (
      ((fill-call q).says ∙ ap (λ (y : Res Block). y >>= fill_count h m n) (f ∙ sym e) ∙ sym (fill-call p).says),
      (fill-call q).image ∙ ap (λ (y : Res Block). after y old (λ u. scattered (shape_of h) m n u.words old)) (f ∙ sym e) ∙ sym (fill-call p).image,
    )

-- ---- a Huffman image's own bytes

module _ (b c : List ℕ) (h : Header) (mode : ℕ) (long : h.size ≤ length c) where
  image-other : (x : Coded) → SameWithin (mode + 1) x.end b c → checked_image b h mode ≡ ok x → checked_image c h mode ≡ ok x
  unfolding checked_image
  image-other x same e =
      let (k, d, e) = bind_is (held h (length b)) _ e in
      let i : k ≡ extent_of h = held-is h (length b) d in
      let kept : held h (length b) ≡ ok (extent_of h) = d ∙ ap ok i in
      let all = length-take-le h.size b (long-b b c h long kept) in
      let in_size : x.end ≤ h.size = omega (arith, (image-bounds (take h.size b) h mode e).1, all) in
      rw (held-c b c h long kept) (image-front (take h.size b) (take h.size c) h mode e (cut h.size b c in_size same) (rw (length-take-le h.size c long) in_size))

  image-own : (end : ℕ) (told : Res ℕ) → SameWithin (mode + 1) end b c → ok end ≡ ended (checked_image b h mode) → told ≡ ended (checked_image c h mode) → told ≡ ok end
  image-own end told same p q =
      let (x, e, z) = bind-counts (checked_image b h mode) _ (sym p) in
      let i : x.end ≡ end = sym z in
      (q ∙ ap ended (image-other x (rw (i) same) e) ∙ ap ok i)

-- ---- each operation

pub unread : Unread
unread = record {
  header = λ b c said told s p q. (header-call p ∙ header-as b c s ∙ sym (header-call q));
  read = λ b c reuse said told old new other s p q. (
    ((read-call p).says ∙ ap (λ (x : Res Meaning). x >>= read_count) (read_as b c s reuse old) ∙ sym (read-call q).says),
    (read-call p).lent ∙ rw (read_as b c s reuse old, masked-as b c s reuse old) (sym (read-call q).lent),
  );
  stage = λ k a c r q x y e s p t.
      let t' = subst (λ (z : Bool × (Bor (List ℕ) × (MutBor (List ℕ) × (MutBor (List ℕ) × (Bor (List ℕ) × Unit {0}))))).
      StageRead c.0.now z.0 q (record { kept = z.1.0.now; spare = z.1.1.0.now; list = z.1.1.1.0.now; image = z.1.1.1.1.0.now }) y.1.1.1.0.now y.1.1.1.1.0.now) (sym e) t in
      staged-same p (stage-as a.0.now c.0.now s _ _ t');
  publish = λ k a c r q x y e s p t.
      let t' = subst (λ (z : Bool × (Res Staged × (MutBor (List ℕ) × (Bor (List ℕ) × (Bor (List ℕ) × (MutBor (List ℕ) × Unit {0})))))).
      Publishing c.0.now z.0 z.1.0 q (record { kept = z.1.1.0.now; spare = z.1.1.1.0.now; list = z.1.1.1.1.0.now; image = z.1.1.1.1.1.0.now }) y.1.1.1.0.now y.1.1.1.1.1.1.0.now) (sym e) t in
      published-same p (publish-as a.0.now c.0.now s _ _ t');
  prepare = λ b c h reuse kept said told old new other s p q.
      let e = prepare-as b c h s reuse kept (length old) in (
        ((prepare-call p).says ∙ ap (λ (x : Res MaskInForce). x >>= which) e ∙ sym (prepare-call q).says),
        (prepare-call p).spare ∙ ap (λ (x : Res MaskInForce). after x old (λ f. spare_with f old)) e ∙ sym (prepare-call q).spare,
      );
  ranges = λ b c h said told s p q. ranges-call p ∙ (ranges-as b c h s) ∙ sym (ranges-call q);
  walk = λ b c h r m said told old new other s p q. (
    ((walk_call p).says ∙ ap (λ (x : Res Chain). x >>= walk_count h) (walk-as b c h s r m (length old)) ∙ sym (walk_call q).says),
    (walk_call p).list ∙ list-as b c h s r m old ∙ sym (walk_call q).list,
  );
  fill = λ b c h r m list n said told old new other s p q. (
    ((fill-call p).says ∙ ap (λ (x : Res Block). x >>= fill_count h m n) (fill-as b c h s r m list n (length old)) ∙ sym (fill-call q).says),
    (fill-call p).image ∙ image-as b c h s r m list n old ∙ sym (fill-call q).image,
  );
  fill-each = λ b c h r m list ns said told old new other s p q. (
    (each-call p).says ∙ count-as b c h s r m list (length old) ns ∙ sym (each-call q).says,
    (each-call p).image ∙ each-as b c h s r m list ns old ∙ sym (each-call q).image,
  );
  tiles = λ b c h m maxima at said told list new-list other-list image new-image other-image s p q.
      let e = tiles-as b c h s m maxima at (length list) (length image) in (
        ((tiles-call p).says ∙ ap (λ (x : Res Chain). x >>= walk_count h) e ∙ sym (tiles-call q).says),
        (tiles-call p).list ∙ ap (λ (x : Res Chain). after x list (λ y. over y.starts list)) e ∙ sym (tiles-call q).list,
        (tiles-call p).image ∙ ap (λ (x : Res Chain). after x image (tiles_image h m image)) e ∙ sym (tiles-call q).image,
      );
  open-blob = λ k a c r q x y s p t. (p ∙ open-as a.0.now c.0.now s ∙ sym t);
  check-tiles = λ k a c r q x y e s p t. (
    (
        p
        ∙ ap (walk_of a.1.0) (checked-as a.0.now c.0.now a.1.0 s a.1.1.0.now a.1.1.1.0.now a.1.1.1.1.0)
        ∙ ap (λ (z : Header × (Bor (List ℕ) × (Bor (List ℕ) × (ℕ × Unit {0})))). walk_of z.0 (checked_tiles c.0.now z.0 z.1.0.now z.1.1.0.now z.1.1.1.0)) e
        ∙ sym t
        ),
    refl,
  );
  check-own-tiles = λ k a c r q x y e s p t. (
    (
        p
        ∙ ap (walk_of a.1.0) (own-as a.0.now c.0.now a.1.0 s a.1.1.0.now a.1.1.1.0)
        ∙ ap (λ (z : Header × (Bor (List ℕ) × (ℕ × Unit {0}))). walk_of z.0 (own_tiles c.0.now z.0 z.1.0.now z.1.1.0)) e
        ∙ sym t
        ),
    refl,
  );
  are-listed = λ k a c r q x y e s p t. (
    p
        ∙ compared-as a.0.now c.0.now a.1.0 s a.1.1.0.now a.1.1.1.0 a.1.1.1.1.0.now
        ∙ ap (λ (z : Header × (Bor (List ℕ) × (ℕ × (Bor (List ℕ) × Unit {0})))). tiles_listed c.0.now z.0 z.1.0.now z.1.1.0 z.1.1.1.0.now) e
        ∙ sym t,
    refl,
  );
  list-tiles = λ k a c r q x y e s p t. (
    refl,
    p
        ∙ listed-as a.0.now c.0.now a.1.0 s a.1.1.0.now a.1.1.1.0 a.1.1.1.1.0.now
        ∙ ap (λ (z : Header × (Bor (List ℕ) × (ℕ × (MutBor (List ℕ) × Unit {0})))). listed_tiles c.0.now z.0 z.1.0.now z.1.1.0 z.1.1.1.0.now) e
        ∙ sym t,
  );
  fill-tiles = λ k a c r q x y e s p t. (
    refl,
    p
        ∙ filled-as a.0.now c.0.now a.1.0 s a.1.1.0.now a.1.1.1.0.now a.1.1.1.1.0.now a.1.1.1.1.1.0.now
        ∙ ap (λ (z : Header × (Bor (List ℕ) × (Bor (List ℕ) × (Bor (List ℕ) × (MutBor (List ℕ) × Unit {0}))))). filled_tiles c.0.now z.0 z.1.0.now z.1.1.0.now z.1.1.1.0.now z.1.1.1.1.0.now) e
        ∙ sym t,
  );
  write-list = λ k a c r q x y e s p t. (
    refl,
    p.0
        ∙ written-list-as a.0.now c.0.now a.1.0 s a.1.1.0.now a.1.1.1.0.now a.1.1.1.1.0 a.1.1.1.1.1.0.now (length a.1.1.1.1.1.1.0.now)
        ∙ ap (λ (z : Header × (Bor (List ℕ) × (Bor (List ℕ) × (ℕ × (MutBor (List ℕ) × (MutBor (List ℕ) × Unit {0})))))). written_list c.0.now z.0 z.1.0.now z.1.1.0.now z.1.1.1.0 z.1.1.1.1.0.now (length z.1.1.1.1.1.0.now)) e
        ∙ sym t.0,
  );
  write-image = λ k a c r q x y e s p t. (
    refl,
    p.1
        ∙ written-image-as a.0.now c.0.now a.1.0 s a.1.1.0.now a.1.1.1.0.now a.1.1.1.1.0 (length a.1.1.1.1.1.0.now) a.1.1.1.1.1.1.0.now
        ∙ ap (λ (z : Header × (Bor (List ℕ) × (Bor (List ℕ) × (ℕ × (MutBor (List ℕ) × (MutBor (List ℕ) × Unit {0})))))). written_image c.0.now z.0 z.1.0.now z.1.1.0.now z.1.1.1.0 (length z.1.1.1.1.0.now) z.1.1.1.1.1.0.now) e
        ∙ sym t.1,
  );
  check-huffman = λ k a c r q x y e s p t. (
    (
        p
        ∙ ap ended (checked-image-as a.0.now c.0.now a.1.0 s a.1.1.0)
        ∙ ap (λ (z : Header × (ℕ × Unit {0})). ended (checked_image c.0.now z.0 z.1.0)) e
        ∙ sym t
        ),
    refl,
  );
  write-huffman = λ k a c r q x y e s p t. (
    refl,
    p
        ∙ written-bytes-as a.0.now c.0.now a.1.0 s a.1.1.0 a.1.1.1.0 a.1.1.1.1.0.now a.1.1.1.1.1.0.now
        ∙ ap (λ (z : Header × (ℕ × (Bool × (Bor (List ℕ) × (MutBor (List ℕ) × Unit {0}))))). written_bytes c.0.now z.0 z.1.0 z.1.1.0 z.1.1.1.0.now z.1.1.1.1.0.now) e
        ∙ sym t,
  );
  huffman-own = λ k a c end told x y e l s p t.
      image-own a.0.now c.0.now a.1.0 a.1.1.0 l end told s p
      (t ∙ ap (λ (z : Header × (ℕ × Unit {0})). ended (checked_image c.0.now z.0 z.1.0)) (sym e));
  header-own = λ b c h told l x s t p q. (header-call q ∙ header-other b c s t h l x (sym (header-call p)));
  prepare-own = λ b c h reuse kept said told old new other l m s p q.
      let e = prepare-other b c h l m s reuse kept (length old) in (
        ((prepare-call p).says ∙ ap (λ (x : Res MaskInForce). x >>= which) e ∙ sym (prepare-call q).says),
        (prepare-call p).spare ∙ ap (λ (x : Res MaskInForce). after x old (λ f. spare_with f old)) e ∙ sym (prepare-call q).spare,
      );
  ranges-own = λ b c h said told l m s p q. ranges-call p ∙ (ranges-other b c h l m s) ∙ sym (ranges-call q);
  walk-own = walk-own;
  fill-own = fill-own;
}
