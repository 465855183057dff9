-- What is wrong with a mask's runs: each line is a breach of a rule of the rules, "Mask"; "Any breach is 6."
-- Assumes nothing.
use Rattle.std.specs.Prelude.{◌≡◌, ◌≢◌, List, [], ◌++◌, ℕ, ◌+◌, ◌-◌, ◌≤◌, ◌<◌, length, get_or, take, drop, replicate}
use Rattle.lerc_words.specs.Res.{ok, little}
use Rattle.lerc_mask.specs.Mask.{valid_below, mask_bytes, mask_runs}

-- one run of a section s, where `left` bytes of the mask are still to come; its two bytes are n, or n - 65536 where they are above 32767
pub data StepWrong (s : List ℕ) (at left : ℕ) : Type 0 where
  run-cut : length s < at + 2 → StepWrong s at left
  -- "n = 0 is wrong"
  run_none : at + 2 ≤ length s → little 2 s at ≡ 0 → StepWrong s at left
  -- "n > 0 copies n bytes", which lie within the section and within the mask
  copy-cut : at + 2 ≤ length s → little 2 s at < 32768 → length s < at + 2 + little 2 s at → StepWrong s at left
  copy-long : at + 2 ≤ length s → little 2 s at < 32768 → left < little 2 s at → StepWrong s at left
  -- "n < 0 repeats the next byte -n times"
  repeat-cut : at + 2 ≤ length s → 32768 < little 2 s at → length s ≤ at + 2 → StepWrong s at left
  repeat-long : at + 2 ≤ length s → 32768 < little 2 s at → left < 65536 - little 2 s at → StepWrong s at left
  -- "-32768 ends, exactly at the section's end and after exactly the mask length"
  end-inside : at + 2 ≤ length s → little 2 s at ≡ 32768 → at + 2 ≢ length s → StepWrong s at left
  end_short : at + 2 ≤ length s → little 2 s at ≡ 32768 → left ≢ 0 → StepWrong s at left

-- a right run that copies, and one that repeats
pub record CopyRight (s : List ℕ) (at left : ℕ) : Type 0 where
  pub here : at + 2 ≤ length s
  pub some : 0 < little 2 s at
  pub positive : little 2 s at < 32768
  pub inside : at + 2 + little 2 s at ≤ length s
  pub few : little 2 s at ≤ left

pub record RepeatRight (s : List ℕ) (at left : ℕ) : Type 0 where
  pub negative : 32768 < little 2 s at
  pub inside : at + 2 < length s
  pub few : 65536 - little 2 s at ≤ left

-- the places that right runs lead to, and the bytes that they have made
pub data Reached (want : ℕ) (s : List ℕ) : ℕ → List ℕ → Type 0 where
  begun : Reached want s 0 []
  copied : (at : ℕ) (made : List ℕ) → Reached want s at made → CopyRight s at (want - length made) → Reached want s (at + 2 + little 2 s at) (made ++ take (little 2 s at) (drop (at + 2) s))
  repeated : (at : ℕ) (made : List ℕ) → Reached want s at made → RepeatRight s at (want - length made)
      → Reached want s (at + 3) (made ++ replicate (65536 - little 2 s at) (get_or s (at + 2) 0))

pub data CodedWrong (s : List ℕ) (count valid : ℕ) : Type 0 where
  run-wrong : (at : ℕ) (made : List ℕ) → Reached (mask_bytes count) s at made → StepWrong s at (mask_bytes count - length made) → CodedWrong s count valid
  -- "Valid pixels must number `valid`."
  count-wrong : (m : List ℕ) → mask_runs (mask_bytes count) s ≡ ok m → valid_below count m ≢ valid → CodedWrong s count valid
