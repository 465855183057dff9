-- What is not looked at: "Bytes after size .. are never looked at." Two calls on blobs that differ there alone have one outcome. Between the body's end and the size, the checksum of
-- a header that is read, or of a whole read, is all that looks.
-- Assumes nothing.
use Rattle.std.specs.Prelude.{ℕ, ◌+◌, ◌≤◌, ◌<◌, max, ◌≡◌, Bool, true, List, length, get_or, take}
use Rattle.std.specs.Borrow.{Bor}
use Rattle.lerc_words.specs.Res.{ok, Res}
use Rattle.lerc_header.specs.declared.Header.{Header}
use Rattle.lerc_header.specs.Header.{header_bytes, ranges_at, header_of, checksum_right}
use Rattle.lerc_header.proofs.open_blob.Reads as opening
use Rattle.lerc_ranges.specs.declared.Ranges.{Ranges}
use Rattle.lerc_ranges.specs.Ranges.{ranges_end}
use Rattle.lerc_block.specs.Block.{Block}
use Rattle.lerc_image.specs.Blocks.{block_at}
use Rattle.lerc_image.proofs.check_tiles.Reads as checking
use Rattle.lerc_image.proofs.check_own_tiles.Reads as checking-own
use Rattle.lerc_image.proofs.list_tiles.Reads as listing
use Rattle.lerc_image.proofs.are_listed.Reads as comparing
use Rattle.lerc_image.proofs.fill_tiles.Reads as filling
use Rattle.lerc_image.proofs.write_tiles.Reads as writing
use Rattle.lerc_byte_image.proofs.check.Reads as checking-image
use Rattle.lerc_byte_image.proofs.write.Reads as writing-image
use Rattle.lerc.specs.Read.{Lent, ReadTold}
use Rattle.lerc.proofs.stage.Reads as staging
use Rattle.lerc.proofs.publish.Reads as publishing
use Rattle.lerc_theorems.specs.Calls.{HeaderCall, PrepareCall, RangesCall, WalkCall, FillCall, EachCall, TilesCall, ReadCall}
use Rattle.lerc_image.specs.Walk.{Walk}
use Rattle.lerc_validity.specs.Validity.{MaskTold}

-- the size that a blob declares, and at least its header
abbrev pub declared : List ℕ → ℕ
declared b = max header_bytes (header_of b).size

-- the blobs agree below the size that the first one declares
abbrev pub SameDeclared : List ℕ → List ℕ → Type 0
SameDeclared b c = take (declared b) b ≡ take (declared b) c

-- they agree below the size of a header by value
abbrev pub SameBelow : Header → List ℕ → List ℕ → Type 0
SameBelow h b c = take h.size b ≡ take h.size c

-- they agree from one place up to another
abbrev pub SameWithin : ℕ → ℕ → List ℕ → List ℕ → Type 0
SameWithin from to b c = (i : ℕ) → from ≤ i → i < to → get_or b i 0 ≡ get_or c i 0

-- The same of a promise whose inputs are a blob, a header by value and others: the same call on another blob that agrees below the size has the same outcome. `left` is what
-- the outputs hold.
abbrev pub BehindSize : {K Q R O S : Type 0} → (K → Bor (List ℕ) × (Header × Q) → R → O → Type 0) → (O → S) → Type 0
BehindSize {K} {Q} {R} {O} Post left =
    (k : K) (a c : Bor (List ℕ) × (Header × Q)) (r q : R) (x y : O) → a.1 ≡ c.1 → SameBelow a.1.0 a.0.now c.0.now → Post k a r x → Post k c q y → (r ≡ q) × (left x ≡ left y)

-- The same of a promise whose inputs are a blob, of which no header is given, and others.
abbrev pub BehindDeclared : {K Q R O S : Type 0} → (K → Bor (List ℕ) × Q → R → O → Type 0) → (O → S) → Type 0
BehindDeclared {K} {Q} {R} {O} Post left =
    (k : K) (a c : Bor (List ℕ) × Q) (r q : R) (x y : O) → a.1 ≡ c.1 → SameDeclared a.0.now c.0.now → Post k a r x → Post k c q y → (r ≡ q) × (left x ≡ left y)

pub record Unread : Type 0 where
  -- "Bytes after size .. are never looked at", by any function that is lent a whole blob
  pub open-blob : (k : _) (a c : Bor (List ℕ) × Unit {0}) (r q : _) (x y : _) → SameDeclared a.0.now c.0.now → opening.Post k a r x → opening.Post k c q y → r ≡ q
  pub header : (b c : List ℕ) (said told : Res Header) → SameDeclared b c → HeaderCall b said → HeaderCall c told → said ≡ told
  pub read : (b c : List ℕ) (reuse : Bool) (said told : Res ReadTold) (old new other : Lent) → SameDeclared b c → ReadCall b reuse said old new → ReadCall c reuse told old other
      → (said ≡ told) × (new ≡ other)
  pub stage : BehindDeclared {S = List ℕ × List ℕ} staging.Post (λ o. (o.1.1.1.0.now, o.1.1.1.1.0.now))
  pub publish : BehindDeclared {S = List ℕ × List ℕ} publishing.Post (λ o. (o.1.1.1.0.now, o.1.1.1.1.1.1.0.now))
  pub prepare : (b c : List ℕ) (h : Header) (reuse : Bool) (kept : List ℕ) (said told : Res MaskTold) (old new other : List ℕ) → SameBelow h b c
      → PrepareCall b h reuse kept said old new → PrepareCall c h reuse kept told old other → (said ≡ told) × (new ≡ other)
  pub ranges : (b c : List ℕ) (h : Header) (said told : Res Ranges) → SameBelow h b c → RangesCall b h said → RangesCall c h told → said ≡ told
  pub walk : (b c : List ℕ) (h : Header) (r : Ranges) (m : List ℕ) (said told : Res Walk) (old new other : List ℕ) → SameBelow h b c
      → WalkCall b h r m said old new → WalkCall c h r m told old other → (said ≡ told) × (new ≡ other)
  pub fill : (b c : List ℕ) (h : Header) (r : Ranges) (m list : List ℕ) (n : ℕ) (said told : Res ℕ) (old new other : List ℕ) → SameBelow h b c
      → FillCall b h r m list n said old new → FillCall c h r m list n told old other → (said ≡ told) × (new ≡ other)
  pub fill-each : (b c : List ℕ) (h : Header) (r : Ranges) (m list ns : List ℕ) (said told : ℕ) (old new other : List ℕ) → SameBelow h b c
      → EachCall b h r m list ns said old new → EachCall c h r m list ns told old other → (said ≡ told) × (new ≡ other)
  pub tiles : (b c : List ℕ) (h : Header) (m maxima : List ℕ) (at : ℕ) (said told : Res Walk) (list new-list other-list image new-image other-image : List ℕ) → SameBelow h b c
      → TilesCall b h m maxima at said list new-list image new-image → TilesCall c h m maxima at told list other-list image other-image
      → (said ≡ told) × (new-list ≡ other-list) × (new-image ≡ other-image)
  pub check-tiles : BehindSize {S = Unit {0}} checking.Post (λ o. tt)
  pub check-own-tiles : BehindSize {S = Unit {0}} checking-own.Post (λ o. tt)
  pub list-tiles : BehindSize listing.Post (λ o. o.1.1.1.1.0.now)
  pub are-listed : BehindSize {S = Unit {0}} comparing.Post (λ o. tt)
  pub fill-tiles : BehindSize filling.Post (λ o. o.1.1.1.1.1.0.now)
  pub write-list : BehindSize writing.Post (λ o. o.1.1.1.1.1.0.now)
  pub write-image : BehindSize writing.Post (λ o. o.1.1.1.1.1.1.0.now)
  pub check-huffman : BehindSize {S = Unit {0}} checking-image.Post (λ o. tt)
  pub write-huffman : BehindSize writing-image.Post (λ o. o.1.1.1.1.1.0.now)
  -- where the checksum is right, an accepted header depends on the other bytes of the header alone
  pub header-own : (b c : List ℕ) (h : Header) (told : Res Header) → h.size ≤ length c → checksum_right c h.size ≡ true → SameWithin 0 10 b c → SameWithin 14 header_bytes b c
      → HeaderCall b (ok h) → HeaderCall c told → told ≡ ok h
  -- preparing looks at the mask section alone, and reading ranges at the ranges
  pub prepare-own : (b c : List ℕ) (h : Header) (reuse : Bool) (kept : List ℕ) (said told : Res MaskTold) (old new other : List ℕ) → h.size ≤ length b → h.size ≤ length c
      → SameWithin header_bytes (ranges_at h) b c → PrepareCall b h reuse kept said old new → PrepareCall c h reuse kept told old other → (said ≡ told) × (new ≡ other)
  pub ranges-own : (b c : List ℕ) (h : Header) (said told : Res Ranges) → h.size ≤ length b → h.size ≤ length c → SameWithin (ranges_at h) (ranges_end h) b c
      → RangesCall b h said → RangesCall c h told → said ≡ told
  -- an accepted walk looks at the bytes from the body's place up to its end alone: the sweep and mode bytes, and the blocks
  pub walk-own : (b c : List ℕ) (h : Header) (r : Ranges) (m : List ℕ) (n end : ℕ) (told : Res Walk) (old new other : List ℕ) → h.size ≤ length c → SameWithin r.at end b c
      → WalkCall b h r m (ok (record { blocks = n; end = end })) old new → WalkCall c h r m told old other → (told ≡ ok (record { blocks = n; end = end })) × (other ≡ new)
  -- an accepted fill looks at the bytes of its block alone: from the listed start up to where the block ends
  pub fill-own : (b c : List ℕ) (h : Header) (r : Ranges) (m list : List ℕ) (n words : ℕ) (told : Res ℕ) (old new other : List ℕ) (k : Block)
      → block_at (take h.size b) h r.max m n (get_or list n 0) ≡ ok k → h.size ≤ length c → SameWithin (get_or list n 0) k.next b c
      → FillCall b h r m list n (ok words) old new → FillCall c h r m list n told old other → (told ≡ ok words) × (other ≡ new)
  -- an accepted check of a Huffman image looks at the bytes behind the mode byte up to its end alone
  pub huffman-own : (k : _) (a c : Bor (List ℕ) × (Header × (ℕ × Unit {0}))) (end : ℕ) (told : Res ℕ) (x y : _) → a.1 ≡ c.1 → a.1.0.size ≤ length c.0.now
      → SameWithin (a.1.1.0 + 1) end a.0.now c.0.now → checking-image.Post k a (ok end) x → checking-image.Post k c told y → told ≡ ok end
