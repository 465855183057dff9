-- What `list_starts` has done before block n: the starts below it stand in the list, and it begins at `start`.
-- Assumes nothing.
use mathlib.Core.Path.{◌≡◌}
use mathlib.Core.List.{List}
use Prim.Native.Nat.{ℕ, zero, suc, ◌+◌, ◌-◌, ◌≤◌, ◌<◌}
use native.Mathlib.Numerals.{add-one}
use native.Mathlib.Omega.{arith}
use lib.ListN.{length, set}
use Rattle.lerc_words.specs.declared.Refusal.{Refusal}
use Rattle.lerc_words.specs.Res.{ok, fail}
use Rattle.lerc_words.specs.Lists.{over}
use Rattle.lerc_header.specs.declared.Header.{Header}
use Rattle.lerc_image.specs.Tiles.{block_end, head_starts}
use Rattle.lerc_image.proofs.Heads.{heads-none, heads-last, heads-more}
use Rattle.lerc_image.proofs.Listing.{Listing, listing_none, listing-all, listing-last, listing-next}

pub record Heads (s : List ℕ) (h : Header) (m : List ℕ) (k at : ℕ) (old list : List ℕ) (n start : ℕ) : Type 0 where
  pub listing : Listing k (head_starts s h m k 0 at) old list n (head_starts s h m (k - n) n start)

pub heads-begin : (s : List ℕ) (h : Header) (m : List ℕ) (k at : ℕ) (old : List ℕ) → k ≤ length old → Heads s h m k at old old 0 at
heads-begin s h m k at old r = let z : k - 0 ≡ k = omega arith in record { listing = listing_none (head_starts s h m k 0 at) r (rw (z)) }

module _ {s : List ℕ} {h : Header} {m : List ℕ} {k at : ℕ} {old list : List ℕ} {n start : ℕ} (i : Heads s h m k at old list n start) where
  pub heads-all : k ≤ n → list ≡ over (head_starts s h m k 0 at) old
  heads-all l = let z : k - n ≡ zero = omega arith in listing-all i.listing (rw (z) (heads-none s h m n start))

  module _ (l : n < k) where
    left : k - n ≡ suc (k - suc n)
    left = omega arith

    -- the head here cannot be read
    pub heads-no : {why : Refusal} → block_end s h m n start ≡ fail why → set list n start ≡ over (head_starts s h m k 0 at) old
    heads-no e = listing-last i.listing l start (rw (left) (heads-last s h m (k - suc n) n start e))

    pub heads-next : {to : ℕ} → block_end s h m n start ≡ ok to → Heads s h m k at old (set list n start) (n + 1) to
    heads-next e = record { listing = listing-next i.listing l start (rw (add-one, left) (heads-more s h m (k - suc n) n start e)) }
