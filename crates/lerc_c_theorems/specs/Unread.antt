-- What is not looked at, for C: "Bytes after size .. are never looked at". Two calls of an entry on blobs that differ there alone end alike: the number that is returned, the
-- place and every other slice that is written. The size is the one that the blob declares, or that the header's record holds.
-- Assumes nothing.
use Rattle.std.specs.Prelude.{◌≡◌, Bool, List, ℕ}
use Rattle.lerc.specs.Read.{Lent}
use Rattle.lerc_c.specs.Records.{header_at}
use Rattle.lerc_theorems.specs.Unread.{SameDeclared, SameBelow}
use Rattle.lerc_c_theorems.specs.Calls.{Told, HeaderInC, PrepareInC, RangesInC, WalkInC, FillInC, ReadInC, StageInC, PublishInC}

-- staging and publishing go by the size that the blob declares
abbrev pub StageUnread : Type 0
StageUnread = (b c : List ℕ) (reuse : Bool) (t u : Told) (lent₀ : Lent) (spare₁ spare₂ list₁ list₂ staged₀ staged₁ staged₂ : List ℕ) → t.place₀ ≡ u.place₀ → SameDeclared b c
    → StageInC b reuse t lent₀ spare₁ list₁ staged₀ staged₁ → StageInC c reuse u lent₀ spare₂ list₂ staged₀ staged₂ → (t ≡ u) × (spare₁ ≡ spare₂) × (list₁ ≡ list₂) × (staged₁ ≡ staged₂)

abbrev pub PublishUnread : Type 0
PublishUnread = (b c : List ℕ) (reuse : Bool) (staged : List ℕ) (t u : Told) (lent₀ : Lent) (said₀ said₁ said₂ kept₁ kept₂ image₁ image₂ : List ℕ) → t.place₀ ≡ u.place₀ → SameDeclared b c
    → PublishInC b reuse staged t lent₀ kept₁ image₁ said₀ said₁ → PublishInC c reuse staged u lent₀ kept₂ image₂ said₀ said₂ → (t ≡ u) × (kept₁ ≡ kept₂) × (image₁ ≡ image₂) × (said₁ ≡ said₂)

-- the first call is on b, tells t and leaves the list marked 1; the second is on c, tells u and leaves the one marked 2
pub record UnreadInC : Type 0 where
  -- behind the size that the blob declares
  pub read-header : (b c : List ℕ) (t u : Told) (header₀ header₁ header₂ : List ℕ) → t.place₀ ≡ u.place₀ → SameDeclared b c
      → HeaderInC b t header₀ header₁ → HeaderInC c u header₀ header₂ → (t ≡ u) × (header₁ ≡ header₂)
  pub read : (b c : List ℕ) (reuse : Bool) (t u : Told) (lent₀ lent₁ lent₂ : Lent) (said₀ said₁ said₂ : List ℕ) → t.place₀ ≡ u.place₀ → SameDeclared b c
      → ReadInC b reuse t lent₀ lent₁ said₀ said₁ → ReadInC c reuse u lent₀ lent₂ said₀ said₂ → (t ≡ u) × (lent₁ ≡ lent₂) × (said₁ ≡ said₂)
  pub stage : StageUnread
  pub publish : PublishUnread
  -- behind the size that the header's record holds
  pub prepare-mask : (b c header : List ℕ) (reuse : Bool) (kept : List ℕ) (t u : Told) (spare₀ spare₁ spare₂ said₀ said₁ said₂ : List ℕ) → t.place₀ ≡ u.place₀ → SameBelow (header_at header) b c
      → PrepareInC b header reuse kept t spare₀ spare₁ said₀ said₁ → PrepareInC c header reuse kept u spare₀ spare₂ said₀ said₂
      → (t ≡ u) × (spare₁ ≡ spare₂) × (said₁ ≡ said₂)
  pub read-ranges : (b c header : List ℕ) (t u : Told) (ranges₀ ranges₁ ranges₂ : List ℕ) → t.place₀ ≡ u.place₀ → SameBelow (header_at header) b c
      → RangesInC b header t ranges₀ ranges₁ → RangesInC c header u ranges₀ ranges₂ → (t ≡ u) × (ranges₁ ≡ ranges₂)
  pub walk : (b c header ranges mask : List ℕ) (t u : Told) (list₀ list₁ list₂ said₀ said₁ said₂ : List ℕ) → t.place₀ ≡ u.place₀ → SameBelow (header_at header) b c
      → WalkInC b header ranges mask t list₀ list₁ said₀ said₁ → WalkInC c header ranges mask u list₀ list₂ said₀ said₂
      → (t ≡ u) × (list₁ ≡ list₂) × (said₁ ≡ said₂)
  pub fill : (b c header ranges mask list : List ℕ) (block : ℕ) (t u : Told) (image₀ image₁ image₂ said₀ said₁ said₂ : List ℕ) → t.place₀ ≡ u.place₀ → SameBelow (header_at header) b c
      → FillInC b header ranges mask list block t image₀ image₁ said₀ said₁ → FillInC c header ranges mask list block u image₀ image₂ said₀ said₂
      → (t ≡ u) × (image₁ ≡ image₂) × (said₁ ≡ said₂)
