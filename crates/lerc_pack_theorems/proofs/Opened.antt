-- A pack that is accepted, as plain facts; and the one refusal of a pack.
-- Assumes nothing.
use mathlib.Core.Path.{◌≡◌, sym}
use mathlib.Core.Bool.{Bool, true, false}
use mathlib.Core.List.{List}
use Prim.Native.Nat.{ℕ, suc, ◌≤◌, ◌<◌}
use native.Mathlib.Omega.{arith}
use lib.ListN.{length}
use lib.Dec.{eqb}
use borrow.Author.Tests.{leb-true, eqb-true, le-leb, eq-eqb}
use Rattle.lerc_words.specs.declared.Refusal.{Refusal}
use Rattle.lerc_words.specs.Res.{Res, ok, fail, ◌>>=◌, require, refuse, little}
use Rattle.lerc_words.specs.Lists.{all_to}
use Rattle.lerc_words.proofs.Binding.{bind_is, ok-is, require-is, and_is}
use Rattle.lerc_words.proofs.Tables.{all_true, all-each}
use Rattle.lerc_pack.specs.Contents.{entry_place, body_end, body_place, tiles_right}
use Rattle.lerc_pack.specs.Pack.{count_of, head_right, entry_part, entry_at, zeros_right, tile_of, pack_says}
use Rattle.lerc_pack.proofs.Rules.{TileKept, TilesKept, tiles-is, tiles-right, place-rises}

pub record Opened (b : List ℕ) : Type 0 where
  pub head : 8 ≤ length b
  pub version : little 1 b 0 ≡ 1
  pub zeros : little 3 b 1 ≡ 0
  pub few : count_of b ≤ 256
  pub whole : entry_place (count_of b) ≤ length b
  pub gaps : (i : ℕ) → i < count_of b → zeros_right (entry_part b i) ≡ true
  pub each : (i : ℕ) → i < count_of b → TileKept (count_of b) (tile_of b) i
  pub all : body_place (count_of b) (tile_of b) (count_of b) ≡ length b

refused-first : {A : Type 0} (t : Bool) (n : ℕ) (m : Res A) {r : Refusal} → (require t n >>= λ _. m) ≡ fail r → (m ≡ fail r → r ≡ refuse n) → r ≡ refuse n
refused-first true n m e f = f e
refused-first false n m e f = cc

-- the second and the fourth of a pack's tests
abbrev gaps_right : List ℕ → Bool
gaps_right b = all_to (count_of b) (λ i. zeros_right (entry_part b i))

abbrev end_right : List ℕ → Bool
end_right b = eqb (body_place (count_of b) (tile_of b) (count_of b)) (length b)

never : {A : Type 0} {a : A} {r q : Refusal} → ok a ≡ fail r → r ≡ q
never e = cc

module _ (b : List ℕ) where
  pub pack-opened : {n : ℕ} → pack_says b ≡ ok n → (n ≡ count_of b) × Opened b
  unfolding pack_says head_right
  pack-opened p =
      let (_, head, p) = bind_is (require (head_right b) 12) _ p in
      let (_, gaps, p) = bind_is (require (gaps_right b) 12) _ p in
      let (_, tiles, p) = bind_is (require (tiles_right (count_of b) (tile_of b)) 12) _ p in
      let (_, all, p) = bind_is (require (end_right b) 12) _ p in
      let (h, whole) = and_is _ _ (require-is (head_right b) 12 head) in
      let (h, few) = and_is _ _ h in
      let (h, zeros) = and_is _ _ h in
      let (head, version) = and_is _ _ h in
      let kept = tiles-is (count_of b) (tile_of b) (require-is (tiles_right (count_of b) (tile_of b)) 12 tiles) in
      let o : Opened b =
      record {
        head = leb-true _ _ head;
        version = eqb-true _ _ version;
        zeros = eqb-true _ _ zeros;
        few = leb-true _ _ few;
        whole = leb-true _ _ whole;
        gaps = λ i l. all-each (count_of b) i (λ k. zeros_right (entry_part b k)) (require-is (gaps_right b) 12 gaps) l;
        each = kept.each;
        all = eqb-true _ _ (require-is (end_right b) 12 all);
      } in
      (sym (ok-is p), o)

  pub opened-kept : Opened b → TilesKept (count_of b) (tile_of b)
  opened-kept o = record { few = o.few; each = o.each }

  pub opened-pack : Opened b → pack_says b ≡ ok (count_of b)
  unfolding pack_says head_right
  opened-pack o =
      let gaps = all_true (count_of b) (λ i. zeros_right (entry_part b i)) o.gaps in
      let tiles = tiles-right (count_of b) (tile_of b) (opened-kept o) in
      rw (le-leb _ _ o.head, eq-eqb _ _ o.version, eq-eqb _ _ o.zeros, le-leb _ _ o.few, le-leb _ _ o.whole, gaps, tiles, eq-eqb _ _ o.all)

  -- "A breach is new refusal 12."
  pub pack-refused : {r : Refusal} → pack_says b ≡ fail r → r ≡ refuse 12
  unfolding pack_says
  pack-refused p =
      refused-first (head_right b) 12 _ p (λ p.
      refused-first (gaps_right b) 12 _ p (λ p.
      refused-first (tiles_right (count_of b) (tile_of b)) 12 _ p (λ p.
      refused-first (end_right b) 12 _ p never)))

  -- bodies lie behind the contents, and inside the pack
  pub body-inside : Opened b → (i : ℕ) → i < count_of b → (entry_place (count_of b) ≤ (entry_at b i).start) × (body_end (entry_at b i) ≤ length b)
  body-inside o i l =
      let kept = opened-kept o in
      let behind = place-rises (count_of b) (tile_of b) kept 0 i (omega arith) (omega arith) in
      let inside = place-rises (count_of b) (tile_of b) kept (suc i) (count_of b) l (omega arith) in
      (omega (arith, (o.each i l).start), omega (arith, o.all))
