-- What a loop that lists starts has done before block n: the first n entries of the list, of k at most.
-- Assumes nothing.
use mathlib.Core.Path.{◌≡◌, ◌∙◌, sym, ap, refl}
use mathlib.Core.List.{List, [], ◌∷◌, ◌++◌, append-nil}
use Prim.Native.Nat.{ℕ, suc, ◌+◌, ◌≤◌, ◌<◌}
use native.Mathlib.Numerals.{add-one}
use native.Mathlib.Omega.{arith}
use lib.ListN.{length, get_or, drop, set, length-set, length-append}
use lib.Seq.{set_at, drop-cons, append_snoc}
use Rattle.lerc_words.specs.Lists.{over}

-- one start more
start-more : (front old : List ℕ) (n v : ℕ) → length front ≡ n → n < length old → set (front ++ drop n old) n v ≡ (front ++ (v ∷ [])) ++ drop (n + 1) old
start-more front old n v e l =
    rw (add-one, drop-cons old n 0 l, set_at front (get_or old n 0) (drop (suc n) old) v n e) (sym (append_snoc front v (drop (suc n) old)))

-- of all starts those that are left
pub record Listing (k : ℕ) (all old list : List ℕ) (n : ℕ) (left : List ℕ) : Type 0 where
  pub room : k ≤ length old
  pub long : length list ≡ length old
  pub front : List ℕ
  pub size : length front ≡ n
  pub is : list ≡ front ++ drop n old
  pub whole : all ≡ front ++ left

pub listing_none : {k : ℕ} (all : List ℕ) {old left : List ℕ} → k ≤ length old → all ≡ left → Listing k all old old 0 left
listing_none all r e = record { room = r; long = refl; front = []; size = refl; is = refl; whole = e }

module _ {k : ℕ} {all old list : List ℕ} {n : ℕ} {left : List ℕ} (i : Listing k all old list n left) where
  pub listing-all : left ≡ [] → list ≡ over all old
  listing-all e =
      let w : all ≡ i.front = i.whole ∙ rw (e) (append-nil i.front) in
      rw (w, i.size) i.is

  module _ (l : n < k) (start : ℕ) where
    stored : set list n start ≡ (i.front ++ (start ∷ [])) ++ drop (n + 1) old
    stored = rw i.is (start-more i.front old n start i.size (omega (arith, i.room)))

    longer : length (i.front ++ (start ∷ [])) ≡ n + 1
    longer = simp length-append (ap (λ (x : ℕ). x + 1) i.size)

    -- the last start
    pub listing-last : left ≡ start ∷ [] → set list n start ≡ over all old
    listing-last e =
        let w : all ≡ i.front ++ (start ∷ []) = i.whole ∙ rw (e) in
        rw (w, longer) stored

    pub listing-next : {others : List ℕ} → left ≡ start ∷ others → Listing k all old (set list n start) (n + 1) others
    listing-next {others} e =
        record {
          room = i.room;
          long = simp length-set i.long;
          front = i.front ++ (start ∷ []);
          size = longer;
          is = stored;
          whole = i.whole ∙ rw (e) (sym (append_snoc i.front start others));
        }
