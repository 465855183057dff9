-- The pass over the entries, one turn at a time.
-- Assumes nothing.
use mathlib.Core.Path.{◌≡◌, ◌∙◌, sym, ap, refl}
use mathlib.Core.Bool.{Bool, true, false, ◌&&◌}
use mathlib.Core.List.{List}
use Prim.Native.Nat.{ℕ, ◌+◌, ◌≤◌, ◌<◌}
use native.Mathlib.Omega.{arith}
use native.Mathlib.Numerals.{add-one}
use lib.ListN.{length}
use lib.Dec.{leb, eqb}
use Rattle.lerc_words.specs.Lists.{all_to}
use Rattle.lerc_words.proofs.Tables.{all_more, all-fails, all_none}
use Rattle.lerc_pack.specs.declared.Entry.{Entry}
use Rattle.lerc_pack.specs.Contents.{depth_most, entry_place, body_end, body_place}
use Rattle.lerc_pack.specs.Pack.{entry_part, entry_at, zeros_right, tile_of}
use Rattle.lerc_pack.specs.Parts.{key_of, least_key, key_at, entry_right, entry_matched, entries_right}

pub and_no : (a b : Bool) → a ≡ false → (a && b) ≡ false
and_no a b e = rw (e)

-- the tests of an entry, as the code makes them
pub entry-test : (b : List ℕ) (n i : ℕ) (e : Entry) (zeros : Bool) (key at least : ℕ) → e ≡ entry_at b i → zeros ≡ zeros_right (entry_part b i) → key ≡ key_of e.row e.column
    → at ≡ body_place n (tile_of b) i → least ≡ least_key (key_at b) i
    → (zeros && leb e.depth depth_most && eqb e.start at && leb least key && leb (e.start + e.length) (length b)) ≡ entry_right b n i
unfolding entry_right
entry-test b n i e zeros key at least is z k a l = rw (z, k, a, l, is)

pub matched-no : (b : List ℕ) (n i : ℕ) → entry_right b n i ≡ false → entry_matched b n i ≡ false
matched-no b n i h = and_no _ _ h

-- ---- entries: the first i are right, the next body begins at `at`, the next key is `least` or more

pub record Passed (b : List ℕ) (n i at least : ℕ) : Type 0 where
  pub below : i ≤ n
  pub right : all_to i (entry_matched b n) ≡ true
  pub next : at ≡ body_place n (tile_of b) i
  pub key : least ≡ least_key (key_at b) i

module _ (b : List ℕ) (n : ℕ) where
  pub passed_none : Passed b n 0 (entry_place n) 0
  passed_none = record { below = omega arith; right = all_none (entry_matched b n); next = refl; key = refl }

  module _ {i at least : ℕ} (p : Passed b n i at least) where
    -- an entry that is wrong, or does not match its blob, decides
    pub passed-wrong : i < n → entry_matched b n i ≡ false → entries_right b n ≡ false
    unfolding entries_right
    passed-wrong l e = and_no _ _ (all-fails n i (entry_matched b n) l e)

    pub passed-more : i < n → entry_matched b n i ≡ true → Passed b n (i + 1) (body_end (entry_at b i)) (key_at b i + 1)
    passed-more l e =
        record {
          below = omega arith;
          right = all_more i (entry_matched b n) p.right e;
          next = ap (body_place n (tile_of b)) (sym (add-one i));
          key = add-one (key_at b i) ∙ ap (least_key (key_at b)) (sym (add-one i));
        }

    pub passed-all : n ≤ i → eqb at (length b) ≡ entries_right b n
    unfolding entries_right
    passed-all h =
        let e : i ≡ n = omega (arith, h, p.below) in
        let right : all_to n (entry_matched b n) ≡ true = ap (λ (k : ℕ). all_to k (entry_matched b n)) (sym e) ∙ p.right in
        let next : at ≡ body_place n (tile_of b) n = p.next ∙ ap (body_place n (tile_of b)) e in
        rw (right, next)
