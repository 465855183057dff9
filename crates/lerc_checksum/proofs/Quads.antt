-- Four words at a time: what the lanes hold, how large it gets, and that it makes the sums.
-- Assumes nothing.
use mathlib.Core.Path.{◌≡◌, ◌∙◌, sym, refl}
use mathlib.Core.List.{List}
use Prim.Native.Nat.{ℕ, zero, suc, ◌+◌, ◌*◌, ◌/◌, ◌%◌, ◌^◌, ◌≤◌, ◌<◌}
use native.Mathlib.Omega.{arith}
use native.Mathlib.Nat.{add-zero}
use native.Mathlib.Numerals.{add-one}
use lib.ListN.{get_or}
use Rattle.lerc_words.proofs.Counts.{total-zero, total-more}
use Rattle.lerc_checksum.specs.declared.Sums.{Sums}
use Rattle.lerc_checksum.specs.Checksum.{word, group_words}
use Rattle.lerc_checksum.specs.Parts.{run, four_words, fourths, running, in_lanes, lanes_of, low_words, lane_sum, excess, gathered, Gathers, RoomFor, Small}
use Rattle.lerc_checksum.specs.Laws.{Bytes}
use Rattle.lerc_checksum.proofs.Bounds.{word_lt}
use Rattle.lerc_checksum.proofs.Groups.{run_none, run-run, room-left}

-- four words by their bytes
pub by_bytes : (s : List ℕ) (k : ℕ) → let b : ℕ → ℕ = λ i. get_or s (2 * k + i) 0 in
    2 ^ 32 * (((256 * get_or s (2 * k) 0 + b 1) * 256 + b 2) * 256 + b 3) + (((256 * b 4 + b 5) * 256 + b 6) * 256 + b 7) ≡ four_words s k
unfolding word
by_bytes s k =
    let place : (i j : ℕ) → 2 * (k + i) + j ≡ 2 * k + (2 * i + j) = λ i j. omega arith in
    let even : (i : ℕ) → 2 * (k + i) ≡ 2 * k + 2 * i = λ i. omega arith in
    rw (place 1 1, place 2 1, place 3 1, even 1, even 2, even 3) (omega arith)

-- ---- every fourth word

fourths-none : (s : List ℕ) (k : ℕ) → fourths s k 0 ≡ 0
unfolding fourths
fourths-none s k = sym (total-zero _)

fourths-more : (s : List ℕ) (k m : ℕ) → fourths s k (m + 1) ≡ fourths s k m + word s (k + 4 * m)
unfolding fourths
fourths-more s k m = sym (total-more m _)

running_none : (s : List ℕ) (k : ℕ) → running s k 0 ≡ 0
unfolding running
running_none s k = sym (total-zero _)

running_more : (s : List ℕ) (k m : ℕ) → running s k (m + 1) ≡ running s k m + fourths s k (m + 1)
unfolding running
running_more s k m = sym (total-more m _) ∙ rw (add-one)

-- the word l places behind a quad's first
fourths-next : (s : List ℕ) (k l m : ℕ) → fourths s (k + l) (m + 1) ≡ fourths s (k + l) m + word s (k + 4 * m + l)
fourths-next s k l m = let e : k + 4 * m + l ≡ k + l + 4 * m = omega arith in rw (e) (fourths-more s (k + l) m)

-- how large they get; a group has 89 quads
fourths-le : (s : List ℕ) → Bytes s → (k m : ℕ) → fourths s k m ≤ m * 65535
fourths-le s b k zero = omega (arith, fourths-none s k)
fourths-le s b k (suc m) = rw (← add-one m) (omega (arith, fourths-more s k m, fourths-le s b k m, word_lt s b (k + 4 * m)))

running-le : (s : List ℕ) → Bytes s → (k m : ℕ) → 4 * m ≤ group_words → running s k m ≤ m * (89 * 65535)
running-le s b k zero h = omega (arith, running_none s k)
running-le s b k (suc m) h =
    rw (← add-one m) (omega (arith, h, running_more s k m, running-le s b k m (omega arith), fourths-le s b k (m + 1)))

-- a running sum counts its last word too
running-ge : (s : List ℕ) (k m : ℕ) → fourths s k m ≤ running s k m
running-ge s k zero = omega (arith, fourths-none s k)
running-ge s k (suc m) = rw (← add-one m) (omega (arith, running_more s k m))

-- ---- lanes

-- what the lanes hold of a group's quads is a number of 64 bits
pub record Held (s : List ℕ) (k m : ℕ) : Type 0 where
  pub even : (lanes_of s k m).even < 2 ^ 64
  pub odd : (lanes_of s k m).odd < 2 ^ 64
  pub both : (lanes_of s k m).both < 2 ^ 64

pub held : (s : List ℕ) → Bytes s → (k m : ℕ) → 4 * m ≤ group_words → Held s k m
held s b k m h =
    let f : (l : ℕ) → fourths s l m ≤ 89 * 65535 = λ l. omega (arith, h, fourths-le s b l m) in
    let r : (l : ℕ) → running s l m ≤ 89 * (89 * 65535) = λ l. omega (arith, h, running-le s b l m h) in
    record {
      even = omega (arith, f k, f (k + 2));
      odd = omega (arith, f (k + 1), f (k + 3));
      both = omega (arith, r k, r (k + 1), r (k + 2), r (k + 3));
    }

-- none yet
pub lanes-none : (s : List ℕ) (k : ℕ) → lanes_of s k 0 ≡ record { even = 0; odd = 0; both = 0 }
lanes-none s k = simp (fourths-none, running_none) refl

-- a quad's words, taken apart
fields : (a b c d : ℕ) → a < 65536 → b < 65536 → c < 65536 → d < 65536
    → let v : ℕ = ((a * 65536 + b) * 65536 + c) * 65536 + d in (low_words (v / 65536) ≡ in_lanes a c) × (low_words v ≡ in_lanes b d)
fields a b c d ha hb hc hd = (omega arith, omega arith)

-- one quad more
pub record More (s : List ℕ) (k m : ℕ) : Type 0 where
  pub even : (lanes_of s k m).even + low_words (four_words s (k + 4 * m) / 65536) ≡ (lanes_of s k (m + 1)).even
  pub odd : (lanes_of s k m).odd + low_words (four_words s (k + 4 * m)) ≡ (lanes_of s k (m + 1)).odd
  pub both : (lanes_of s k m).both + (lanes_of s k (m + 1)).even + (lanes_of s k (m + 1)).odd ≡ (lanes_of s k (m + 1)).both

pub more : (s : List ℕ) → Bytes s → (k m : ℕ) → More s k m
more s b k m =
    let at = k + 4 * m in
    let w = fields _ _ _ _ (word_lt s b at) (word_lt s b (at + 1)) (word_lt s b (at + 2)) (word_lt s b (at + 3)) in
    record {
      even = rw w.0 (omega (arith, fourths-more s k m, fourths-next s k 2 m));
      odd = rw w.1 (omega (arith, fourths-next s k 1 m, fourths-next s k 3 m));
      both = omega (arith, running_more s k m, running_more s (k + 1) m, running_more s (k + 2) m, running_more s (k + 3) m);
    }

-- ---- the sums they make

-- four times the running sums count every word of a quad as often as its first
record Made (s : List ℕ) (k m : ℕ) (t : Sums) : Type 0 where
  first : (run s k (4 * m) t).first ≡ t.first + fourths s k m + fourths s (k + 1) m + fourths s (k + 2) m + fourths s (k + 3) m
  second : (run s k (4 * m) t).second + fourths s (k + 1) m + 2 * fourths s (k + 2) m + 3 * fourths s (k + 3) m
      ≡ t.second + 4 * m * t.first + 4 * (running s k m + running s (k + 1) m + running s (k + 2) m + running s (k + 3) m)

-- four words more
record Four (s : List ℕ) (k m : ℕ) (t : Sums) : Type 0 where
  first : (run s k (4 * (m + 1)) t).first
      ≡ (run s k (4 * m) t).first + word s (k + 4 * m) + word s (k + 4 * m + 1) + word s (k + 4 * m + 2) + word s (k + 4 * m + 3)
  second : (run s k (4 * (m + 1)) t).second
      ≡ (run s k (4 * m) t).second + 4 * (run s k (4 * m) t).first + 4 * word s (k + 4 * m) + 3 * word s (k + 4 * m + 1) + 2 * word s (k + 4 * m + 2) + word s (k + 4 * m + 3)

four : (s : List ℕ) (k m : ℕ) (t : Sums) → Four s k m t
unfolding run
four s k m t =
    let e : 4 * (m + 1) ≡ 4 * m + 4 = omega arith in
    let z = add-zero (k + 4 * m) in
    record { first = rw (e, ← run-run s k (4 * m) 4 t, z) (omega arith); second = rw (e, ← run-run s k (4 * m) 4 t, z) (omega arith) }

made : (s : List ℕ) (k m : ℕ) (t : Sums) → Made s k m t
made s k zero t =
    let f = fourths-none s in
    let r = running_none s in
    let e = run_none s k t in
    record {
      first = rw (e) (omega (arith, f k, f (k + 1), f (k + 2), f (k + 3)));
      second = rw (e) (omega (arith, f (k + 1), f (k + 2), f (k + 3), r k, r (k + 1), r (k + 2), r (k + 3)));
    }
made s k (suc m) t =
    let h = made s k m t in
    let w = four s k m t in
    let f = fourths-next s k in
    let r = running_more s in
    let p : 4 * (m + 1) * t.first ≡ 4 * m * t.first + 4 * t.first = omega arith in
    rw (← add-one m)
    (record {
      first = omega (arith, h.first, w.first, fourths-more s k m, f 1 m, f 2 m, f 3 m);
      second = omega (arith, p, h.first, h.second, w.second, fourths-more s k m, f 1 m, f 2 m, f 3 m, r k m, r (k + 1) m, r (k + 2) m, r (k + 3) m);
    })

-- two lanes, taken apart
apart : (high low : ℕ) → low < 2 ^ 32 → (lane_sum (in_lanes high low) ≡ high + low) × (in_lanes high low % 2 ^ 32 ≡ low)
apart high low h = (omega arith, omega arith)

-- m quads, gathered, are a run of their words
module _ (s : List ℕ) (b : Bytes s) (k m : ℕ) (few : 4 * m ≤ group_words) (t : Sums) where
  even : (lane_sum (lanes_of s k m).even ≡ fourths s k m + fourths s (k + 2) m) × ((lanes_of s k m).even % 2 ^ 32 ≡ fourths s (k + 2) m)
  even = apart _ _ (omega (arith, few, fourths-le s b (k + 2) m))

  odd : (lane_sum (lanes_of s k m).odd ≡ fourths s (k + 1) m + fourths s (k + 3) m) × ((lanes_of s k m).odd % 2 ^ 32 ≡ fourths s (k + 3) m)
  odd = apart _ _ (omega (arith, few, fourths-le s b (k + 3) m))

  both : lane_sum (lanes_of s k m).both ≡ running s k m + running s (k + 1) m + (running s (k + 2) m + running s (k + 3) m)
  both =
      let h : running s (k + 2) m + running s (k + 3) m < 2 ^ 32 = omega (arith, few, running-le s b (k + 2) m few, running-le s b (k + 3) m few) in
      (apart _ _ h).0

  enough : excess (lanes_of s k m) ≤ 4 * lane_sum (lanes_of s k m).both
  enough = rw (odd.0, even.1, odd.1, both) (omega (arith, running-ge s (k + 1) m, running-ge s (k + 2) m, running-ge s (k + 3) m))

  first : (gathered m (lanes_of s k m) t).first ≡ (run s k (4 * m) t).first
  first = rw (even.0, odd.0) (omega (arith, (made s k m t).first))

  second : (gathered m (lanes_of s k m) t).second ≡ (run s k (4 * m) t).second
  second = rw (odd.0, even.1, odd.1, both) (omega (arith, (made s k m t).second))

  pub gathered-run : gathered m (lanes_of s k m) t ≡ run s k (4 * m) t
  gathered-run = rw (first, second)

  pub gathers : Small t → Gathers m (lanes_of s k m) t
  gathers h =
      let room : RoomFor 1 (run s k (4 * m) t) = room-left s b k (4 * m) 1 t h (omega arith) in
      record { few = few; enough = enough; first = rw (first) (omega (arith, room)); second = rw (second) (omega (arith, room)) }
