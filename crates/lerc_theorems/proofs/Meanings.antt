-- The meaning of a blob: its parts, which bytes it depends on, and that a whole read with room is it.
-- Assumes nothing.
use mathlib.Core.Path.{◌≡◌, ◌∙◌, sym, ap, refl}
use mathlib.Core.Bool.{Bool, true, false}
use mathlib.Core.List.{List}
use Prim.Native.Nat.{ℕ, ◌+◌, ◌-◌, ◌≤◌, ◌<◌, min}
use native.Mathlib.Decide.{dec_lt}
use native.Mathlib.Omega.{arith}
use lib.ListN.{length, take, drop, length-take}
use lib.Seq.{length-take-le, take_all, take-take, get_or-take}
use lib.Dec.{leb}
use borrow.Author.Tests.{le-leb, leb-true}
use Rattle.lerc_words.specs.Res.{Res, ok, fail, ◌>>=◌, require, little}
use Rattle.lerc_words.proofs.Binding.{bind_is, ok-is, and_is, require-is}
use Rattle.lerc_words.proofs.Little.{little-same}
use Rattle.lerc_header.specs.declared.Header.{Header}
use Rattle.lerc_header.specs.Shape.{cells, mask_length, block_count}
use Rattle.lerc_header.specs.Header.{shape_of, header_bytes, ranges_at, key_right, extent_of, held, header_of, checksum_right, header_says}
use Rattle.lerc_header.proofs.Kept.{header-held, held-shaped, held-size, held-pair}
use Rattle.lerc_ranges.specs.declared.Ranges.{Ranges}
use Rattle.lerc_ranges.specs.Ranges.{ranges_says}
use Rattle.lerc_ranges.proofs.Judged.{RangesKept, ranges-kept}
use Rattle.lerc_validity.proofs.Prepared.{Right, mask-right}
use Rattle.lerc_validity.specs.Validity.{MaskInForce, bytes_of, kept as kept_mask, mask_in, mask_says}
use Rattle.lerc.specs.Meaning.{Meaning, end_of, body_says, meaning_from, meaning}
use Rattle.lerc.specs.Read.{Lent, room, Masked, masked, read_says}
use Rattle.lerc_theorems.specs.DemandTwo.{Roomy}
use Rattle.lerc_theorems.specs.Unread.{SameWithin}
use Rattle.lerc_theorems.proofs.Bodies.{body-ends, body-behind}
use Rattle.lerc_theorems.proofs.Front.{take-drop, Agree, body-agrees, mask-agrees}

-- ---- its parts

pub record Means (b : List ℕ) (reuse : Bool) (kept : List ℕ) (m : Meaning) : Type 0 where
  pub header : header_says b ≡ ok m.header
  pub mask : mask_says (take m.header.size b) m.header reuse kept ≡ ok m.mask
  pub body : body_says (take m.header.size b) m.header (bytes_of m.mask) ≡ ok m.body

module _ (b : List ℕ) (reuse : Bool) (kept : List ℕ) (m : Meaning) where
  pub meaning-is : meaning b reuse kept ≡ ok m → Means b reuse kept m
  unfolding meaning meaning_from
  meaning-is e =
      let (h, p, e) = bind_is (header_says b) _ e in
      let (f, q, e) = bind_is (mask_says (take h.size b) h reuse kept) _ e in
      let (y, r, e) = bind_is (body_says (take h.size b) h (bytes_of f)) _ e in
      rw (← ok-is e) (record { header = p; mask = q; body = r })

  pub means_is : Means b reuse kept m → meaning b reuse kept ≡ ok m
  unfolding meaning meaning_from
  means_is k = rw (k.header, k.mask, k.body)

-- ---- what it keeps

module _ (b : List ℕ) (reuse : Bool) (kept : List ℕ) (m : Meaning) (k : Means b reuse kept m) where
  pub keeps : held m.header (length b) ≡ ok (extent_of m.header)
  keeps = (header-held b m.header k.header).1

  size : (ranges_at m.header ≤ m.header.size) × (m.header.size ≤ length b)
  size = let s = held-size m.header (length b) keeps in (s.0, s.1)

  declared : length (take m.header.size b) ≡ m.header.size
  declared = length-take-le m.header.size b size.1

  pub pairs-kept : (r : Ranges) → ranges_says (take m.header.size b) m.header ≡ ok r → RangesKept (take m.header.size b) m.header r
  pairs-kept =
      ranges-kept (take m.header.size b) m.header (held-shaped m.header (length b) keeps).depth.1 (held-pair m.header (length b) keeps)
      (let z : ranges_at m.header ≤ length (take m.header.size b) = rw (declared) size.0 in z)

  pub mask-kept : mask_length (shape_of m.header) ≤ length kept → Right (take m.header.size b) m.header kept m.mask
  mask-kept l = mask-right (take m.header.size b) m.header kept reuse m.mask l k.mask

  pub ends : (header_bytes ≤ end_of m.body) × (end_of m.body ≤ m.header.size) × (m.header.size ≤ length b)
  ends =
      let l : header_bytes ≤ length (take m.header.size b) = rw (declared) (omega (arith, size.0)) in
      let i = body-ends (take m.header.size b) m.header (bytes_of m.mask) m.body pairs-kept l k.body in
      (i.0, rw (declared) at i.1, size.1)

-- ---- the kept mask

-- the kept mask's first bytes alone are looked at, as many as the mask has
pub kept-front : (b : List ℕ) (reuse : Bool) (kept other : List ℕ) (h : Header) → header_says b ≡ ok h → take (mask_length (shape_of h)) kept ≡ take (mask_length (shape_of h)) other
    → meaning b reuse kept ≡ meaning b reuse other
unfolding meaning mask_in kept_mask
kept-front b reuse kept other h e same = rw (e, same)

-- and without reuse none of it
pub kept-unread : (b kept other : List ℕ) → meaning b false kept ≡ meaning b false other
unfolding meaning mask_in kept_mask
kept-unread b kept other = refl

-- ---- a whole read with room

pub record Rooms (h : Header) (l : Lent) : Type 0 where
  pub kept : mask_length (shape_of h) ≤ length l.kept
  pub spare : mask_length (shape_of h) ≤ length l.spare
  pub list : block_count (shape_of h) ≤ length l.list
  pub image : cells (shape_of h) ≤ length l.image

pub rooms : (h : Header) (l : Lent) → room h l ≡ true → Rooms h l
unfolding room
rooms h l e =
    let (e, image) = and_is _ _ e in
    let (e, list) = and_is _ _ e in
    let (kept, spare) = and_is _ _ e in
    record { kept = leb-true _ _ kept; spare = leb-true _ _ spare; list = leb-true _ _ list; image = leb-true _ _ image }

pub read_is : (b : List ℕ) (reuse : Bool) (l : Lent) → Roomy b l → read_says b reuse l ≡ meaning b reuse l.kept
unfolding read_says masked meaning
read_is b reuse l f = go (header_says b) f
  where
    mask : (h : Header) (x : Res MaskInForce) → ((x >>= λ m. ok (record { header = h; mask = m })) >>= λ (k : Masked). meaning_from b k.header k.mask) ≡ (x >>= λ m. meaning_from b h m)
    mask h (ok m) = refl
    mask h (fail r) = refl

    go : (x : Res Header) → ((h : Header) → x ≡ ok h → room h l ≡ true)
        → ((x >>= λ h. require (room h l) 5 >>= λ _. mask_says (take h.size b) h reuse l.kept >>= λ m. ok (record { header = h; mask = m })) >>= λ (k : Masked). meaning_from b k.header k.mask)
        ≡ (x >>= λ h. mask_says (take h.size b) h reuse l.kept >>= λ m. meaning_from b h m)
    go (ok h) g = rw (g h refl) (mask h (mask_says (take h.size b) h reuse l.kept))
    go (fail r) g = refl

-- ---- the bytes that it depends on

module _ (b : List ℕ) (k : ℕ) where
  little-front : (n at : ℕ) → at + n ≤ k → little n b at ≡ little n (take k b) at
  little-front n at l = little-same n b (take k b) at at (λ i r. let z : at + i < k = omega arith in sym (get_or-take k b (at + i) 0 z))

  header-front : header_bytes ≤ k → header_of b ≡ header_of (take k b)
  unfolding header_of
  header-front l =
      rw (
        little-front 4 14 (omega arith),
        little-front 4 18 (omega arith),
        little-front 4 22 (omega arith),
        little-front 4 26 (omega arith),
        little-front 4 30 (omega arith),
        little-front 4 34 (omega arith),
        little-front 4 38 (omega arith),
        little-front 8 42 (omega arith),
        little-front 8 50 (omega arith),
        little-front 8 58 (omega arith),
        little-front 4 66 (omega arith),
      )

  key-front : header_bytes ≤ k → key_right b ≡ key_right (take k b)
  unfolding key_right
  key-front l = rw (little-front 6 0 (omega arith), little-front 4 6 (omega arith))

  -- what is summed lies below the size, and the checksum in the header
  checksum-front : (size : ℕ) → header_bytes ≤ k → size ≤ k → checksum_right b size ≡ checksum_right (take k b) size
  unfolding checksum_right
  checksum-front size few l =
      let summed : take (size - 14) (drop 14 b) ≡ take (size - 14) (drop 14 (take k b)) = take-drop 14 (size - 14) b ∙ ap (drop 14) (sym (take-take (14 + (size - 14)) k b (omega arith))) ∙ sym (take-drop 14 (size - 14) (take k b)) in
      rw (little-front 4 10 (omega arith), summed)

-- a header is held alike by any two slices that are long enough
pub held_any : (h : Header) (n m : ℕ) → h.size ≤ n → h.size ≤ m → held h n ≡ held h m
unfolding held
held_any h n m p q = rw (le-leb _ _ p, le-leb _ _ q)

module _ (b c : List ℕ) (n : ℕ) (few : header_bytes ≤ n) (same : take n b ≡ take n c) where
  header-same : header_of b ≡ header_of c
  header-same = header-front b n few ∙ ap header_of same ∙ sym (header-front c n few)

  key-same : key_right b ≡ key_right c
  key-same = key-front b n few ∙ ap key_right same ∙ sym (key-front c n few)

  checksum-same : (size : ℕ) → size ≤ n → checksum_right b size ≡ checksum_right c size
  checksum-same size l = checksum-front b n size few l ∙ ap (λ (s : List ℕ). checksum_right s size) same ∙ sym (checksum-front c n size few l)

  pub part_same : (k : ℕ) → k ≤ n → take k b ≡ take k c
  part_same k l = sym (take-take k n b l) ∙ ap (take k) same ∙ take-take k n c l

  long_same : min n (length b) ≡ min n (length c)
  long_same = sym (length-take n b) ∙ ap length same ∙ length-take n c

  says_same : header_bytes ≤ length b → header_bytes ≤ length c → (header_of b).size ≤ length b → (header_of b).size ≤ length c → (header_of b).size ≤ n → header_says b ≡ header_says c
  unfolding header_says
  says_same x y p q size =
      rw (
        le-leb header_bytes (length b) x,
        le-leb header_bytes (length c) y,
        key-same,
        held_any (header_of b) (length b) (length c) p q,
        checksum-same (header_of b).size size,
        header-same,
      )

  pub header-alike : (header_of b).size ≤ n → header_says b ≡ header_says c
  header-alike size = go (dec_lt (length b) n)
    where
      go : Dec (length b < n) → header_says b ≡ header_says c
      go (yes l) =
          let z : b ≡ c = sym (take_all n b (omega arith)) ∙ same ∙ take_all n c (omega (arith, long_same)) in
          ap header_says z
      go (no l) =
          let q : n ≤ length c = omega (arith, long_same) in
          says_same (omega arith) (omega arith) (omega arith) (omega arith) size

  module _ (size : (header_of b).size ≤ n) (reuse : Bool) (kept : List ℕ) where
    from-header : (x : Res Header) → header_says b ≡ x → header_says c ≡ x → meaning b reuse kept ≡ meaning c reuse kept
    unfolding meaning meaning_from
    from-header (ok h) e d =
        let z : h ≡ header_of b = (header-held b h e).0 in
        let p : take h.size b ≡ take h.size c = part_same h.size (rw (z) size) in
        rw (e, d, p)
    from-header (fail r) e d = rw (e, d)

    pub meaning-same : meaning b reuse kept ≡ meaning c reuse kept
    meaning-same = from-header (header_says c) (header-alike size) refl

-- ---- a header's own bytes

module _ (b c : List ℕ) (key-bytes : SameWithin 0 10 b c) (field-bytes : SameWithin 14 header_bytes b c) where
  key-own : (n at : ℕ) → at + n ≤ 10 → little n b at ≡ little n c at
  key-own n at l = little-same n b c at at (λ i r. key-bytes (at + i) (omega arith) (omega arith))

  field-own : (n at : ℕ) → 14 ≤ at → at + n ≤ header_bytes → little n b at ≡ little n c at
  field-own n at o l = little-same n b c at at (λ i r. field-bytes (at + i) (omega arith) (omega arith))

  key-as : key_right b ≡ key_right c
  unfolding key_right
  key-as = rw (key-own 6 0 (omega arith), key-own 4 6 (omega arith))

  fields-as : header_of b ≡ header_of c
  unfolding header_of
  fields-as =
      rw (
        field-own 4 14 (omega arith) (omega arith),
        field-own 4 18 (omega arith) (omega arith),
        field-own 4 22 (omega arith) (omega arith),
        field-own 4 26 (omega arith) (omega arith),
        field-own 4 30 (omega arith) (omega arith),
        field-own 4 34 (omega arith) (omega arith),
        field-own 4 38 (omega arith) (omega arith),
        field-own 8 42 (omega arith) (omega arith),
        field-own 8 50 (omega arith) (omega arith),
        field-own 8 58 (omega arith) (omega arith),
        field-own 4 66 (omega arith) (omega arith),
      )

  pub header-other : (h : Header) → h.size ≤ length c → checksum_right c h.size ≡ true → header_says b ≡ ok h → header_says c ≡ ok h
  unfolding header_says
  header-other h long summed e =
      let (is, kept) = header-held b h e in
      let (_, _, e) = bind_is (require (leb header_bytes (length b)) 1) _ e in
      let (_, k, _) = bind_is (require (key_right b) 2) _ e in
      let size = held-size h (length b) kept in
      let same : header_of c ≡ h = sym fields-as ∙ sym is in
      let held-c : held h (length c) ≡ ok (extent_of h) = sym (held_any h (length b) (length c) size.1 long) ∙ kept in
      let key-c : key_right c ≡ true = sym key-as ∙ require-is (key_right b) 2 k in
      let few : header_bytes ≤ length c = omega (arith, size.0) in
      rw (le-leb header_bytes (length c) few, key-c, same, held-c, summed)

-- in the slices cut at the size
pub cut : (n : ℕ) (b c : List ℕ) {j k : ℕ} → k ≤ n → SameWithin j k b c → SameWithin j k (take n b) (take n c)
cut n b c l same i o r = let z : i < n = omega arith in get_or-take n b i 0 z ∙ same i o r ∙ sym (get_or-take n c i 0 z)

pub agree : (n : ℕ) (b c : List ℕ) → n ≤ length c → {j k : ℕ} → k ≤ n → SameWithin j k b c → Agree (take n b) (take n c) j k
agree n b c long l same = record { bytes = cut n b c l same; room = rw (length-take n c) (omega arith) }

-- ---- and the bytes behind the end, on which it depends by the checksum alone

module _ (b : List ℕ) (reuse : Bool) (kept : List ℕ) (m : Meaning) (k : Means b reuse kept m) where
  module _ (c : List ℕ) (key-bytes : SameWithin 0 10 b c) (same : SameWithin 14 (end_of m.body) b c) (long : m.header.size ≤ length c) (summed : checksum_right c m.header.size ≡ true) where
    abbrev s : List ℕ
    s = take m.header.size b

    abbrev t : List ℕ
    t = take m.header.size c

    end : (header_bytes ≤ end_of m.body) × (end_of m.body ≤ m.header.size) × (m.header.size ≤ length b)
    end = ends b reuse kept m k

    behind : Agree s t header_bytes (end_of m.body)
    behind = agree m.header.size b c long end.1 (λ i o l. same i (omega arith) l)

    header-as : header_says c ≡ ok m.header
    header-as = header-other b c key-bytes (λ i o l. same i o (omega (arith, end.0))) m.header long summed k.header

    pub means-front : Means c reuse kept m
    means-front = record {
      header = header-as;
      mask = sym (mask-agrees behind (rw (length-take m.header.size b) (omega (arith, end))) m.header reuse kept (λ v. body-behind s m.header (bytes_of m.mask) m.body (pairs-kept b reuse kept m k) v k.body)) ∙ k.mask;
      body = body-agrees behind m.header (bytes_of m.mask) m.body (omega arith) k.body;
    }
