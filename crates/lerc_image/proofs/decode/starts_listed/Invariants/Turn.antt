-- What `starts_listed` has found before block n, which begins at `start`: the starts below it stand in the list, and those from it on decide.
-- Assumes nothing.
use mathlib.Core.Path.{◌≡◌, ◌∙◌, sym}
use mathlib.Core.Bool.{true, false}
use mathlib.Core.Logic.{◌≢◌}
use mathlib.Core.List.{List, [], ◌∷◌}
use Prim.Native.Nat.{ℕ, zero, suc, ◌+◌, ◌-◌, ◌≤◌, ◌<◌}
use native.Mathlib.Numerals.{add-one}
use native.Mathlib.Omega.{arith}
use lib.ListN.{length, get_or, drop}
use lib.Seq.{drop-cons}
use Rattle.lerc_words.specs.declared.Refusal.{Refusal}
use Rattle.lerc_words.specs.Res.{ok, fail}
use Rattle.lerc_header.specs.declared.Header.{Header}
use Rattle.lerc_slices.specs.Slices.{begins_with}
use Rattle.lerc_image.specs.Tiles.{block_end, head_starts}
use Rattle.lerc_image.proofs.Heads.{heads-none, heads-first, heads-last, heads-more}
use Rattle.lerc_image.proofs.Beginning.{begins-none, begins-not, begins-more}

pub record Found (s : List ℕ) (h : Header) (m : List ℕ) (k at : ℕ) (list : List ℕ) (n start : ℕ) : Type 0 where
  pub room : k ≤ length list
  pub same : begins_with (head_starts s h m k 0 at) list ≡ begins_with (head_starts s h m (k - n) n start) (drop n list)

pub found_none : (s : List ℕ) (h : Header) (m : List ℕ) (k at : ℕ) (list : List ℕ) → k ≤ length list → Found s h m k at list 0 at
found_none s h m k at list r = let z : k - 0 ≡ k = omega arith in record { room = r; same = rw (z) }

module _ {s : List ℕ} {h : Header} {m : List ℕ} {k at : ℕ} {list : List ℕ} {n start : ℕ} (i : Found s h m k at list n start) where
  pub found_all : k ≤ n → true ≡ begins_with (head_starts s h m k 0 at) list
  found_all l =
      let z : k - n ≡ zero = omega arith in
      sym (i.same ∙ rw (z, heads-none s h m n start) (begins-none (drop n list)))

  module _ (l : n < k) where
    left : k - n ≡ suc (k - suc n)
    left = omega arith

    here : drop n list ≡ get_or list n 0 ∷ drop (suc n) list
    here = drop-cons list n 0 (omega (arith, i.room))

    -- another start is listed
    pub found-other : get_or list n 0 ≢ start → false ≡ begins_with (head_starts s h m k 0 at) list
    found-other d = sym (i.same ∙ rw (left, heads-first s h m (k - suc n) n start, here) (begins-not start (get_or list n 0) _ (drop (suc n) list) d))

    module _ (e : get_or list n 0 ≡ start) where
      -- the head here cannot be read
      pub found-last : {why : Refusal} → block_end s h m n start ≡ fail why → true ≡ begins_with (head_starts s h m k 0 at) list
      found-last q =
          sym (i.same ∙ rw (left, heads-last s h m (k - suc n) n start q, here)
          (begins-more start (get_or list n 0) [] (drop (suc n) list) e ∙ begins-none (drop (suc n) list)))

      pub found-next : {to : ℕ} → block_end s h m n start ≡ ok to → Found s h m k at list (n + 1) to
      found-next {to} q =
          record {
            room = i.room;
            same =
                i.same ∙ rw (add-one, left, heads-more s h m (k - suc n) n start q, here)
                (begins-more start (get_or list n 0) (head_starts s h m (k - suc n) (suc n) to) (drop (suc n) list) e);
          }
