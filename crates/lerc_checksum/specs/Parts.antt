-- What private functions promise and ask; not part of the rule.
-- Assumes nothing.
use Rattle.std.specs.Prelude.{ℕ, zero, suc, ◌+◌, ◌-◌, ◌*◌, ◌/◌, ◌%◌, ◌^◌, ◌≤◌, ◌<◌, List}
use Rattle.lerc_checksum.specs.declared.Sums.{Sums}
use Rattle.lerc_checksum.specs.declared.Lanes.{Lanes}
use Rattle.lerc_words.specs.Lists.{total}
use Rattle.lerc_checksum.specs.Checksum.{word, counted, group_words}

-- n words from the k-th on
unfoldable pub run : List ℕ → ℕ → ℕ → Sums → Sums
run s k zero t = t
run s k (suc n) t = counted (run s k n t) (word s (k + n))

-- ---- four words at a time

-- four words from the k-th on, the first highest
abbrev pub four_words : List ℕ → ℕ → ℕ
four_words s k = ((word s k * 65536 + word s (k + 1)) * 65536 + word s (k + 2)) * 65536 + word s (k + 3)

-- the sum of the k-th word and every fourth behind it: m words
unfoldable pub fourths : List ℕ → ℕ → ℕ → ℕ
fourths s k m = total m (λ j. word s (k + 4 * j))

-- the sum of their running sums
unfoldable pub running : List ℕ → ℕ → ℕ → ℕ
running s k m = total m (λ j. fourths s k (suc j))

-- two numbers in one, a lane of 32 bits for each
abbrev pub in_lanes : ℕ → ℕ → ℕ
in_lanes high low = high * 2 ^ 32 + low

-- the low word of either half, in a lane each
abbrev pub low_words : ℕ → ℕ
low_words v = in_lanes (v / 2 ^ 32 % 65536) (v % 65536)

-- both lanes together
abbrev pub lane_sum : ℕ → ℕ
lane_sum x = x / 2 ^ 32 + x % 2 ^ 32

-- m quads from the k-th word on: the first and third words, the second and fourth, and the running sums of both
abbrev pub lanes_of : List ℕ → ℕ → ℕ → Lanes
lanes_of s k m =
    record {
      even = in_lanes (fourths s k m) (fourths s (k + 2) m);
      odd = in_lanes (fourths s (k + 1) m) (fourths s (k + 3) m);
      both = in_lanes (running s k m + running s (k + 1) m) (running s (k + 2) m + running s (k + 3) m);
    }

-- four times the running sums count all words of a quad as often as the first: the second once too often, the third twice, the fourth three times
abbrev pub excess : Lanes → ℕ
excess l = lane_sum l.odd + 2 * (l.even % 2 ^ 32 + l.odd % 2 ^ 32)

-- what m quads make of the sums before them
abbrev pub gathered : ℕ → Lanes → Sums → Sums
gathered m l t =
    record {
      first = t.first + lane_sum l.even + lane_sum l.odd;
      second = t.second + 4 * m * t.first + 4 * lane_sum l.both - excess l;
    }

-- so that both are numbers of 32 bits
pub record Gathers (m : ℕ) (l : Lanes) (t : Sums) : Type 0 where
  pub few : 4 * m ≤ group_words
  pub enough : excess l ≤ 4 * lane_sum l.both
  pub first : (gathered m l t).first < 2 ^ 32
  pub second : (gathered m l t).second < 2 ^ 32

-- ---- room

-- 1 + 2 + .. + n
abbrev pub up_to : ℕ → ℕ
up_to zero = 0
up_to (suc n) = up_to n + suc n

-- n more words keep both sums below 2^32
abbrev pub RoomFor : ℕ → Sums → Type 0
RoomFor n t = t.second + n * t.first + up_to n * 65535 < 2 ^ 32

-- sums as a fold leaves them: at most 65,535 and the high part of what a group adds up to
pub record Small (t : Sums) : Type 0 where
  pub first : t.first ≤ 65895
  pub second : t.second ≤ 130517
