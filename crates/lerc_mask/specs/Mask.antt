-- The validity mask and its runs: the rules, "Mask".
-- Assumes nothing.
use Rattle.std.specs.Prelude.{ℕ, zero, suc, ◌+◌, ◌-◌, ◌/◌, ◌%◌, ◌^◌, ◌≡◌, Bool, cond, ◌&&◌, List, [], ◌++◌, length, get_or, take, drop, replicate, leb, ltb, eqb}
use Rattle.lerc_words.specs.Res.{Res, ok, fail, ◌>>=◌, refuse, marked, require, little, after}
use Rattle.lerc_words.specs.Lists.{count, over}
use Rattle.lerc_slices.specs.Slices.{begins_with}
use Rattle.lerc_mask.specs.declared.Step.{Step}
use Rattle.lerc_mask.specs.declared.Step.TheVariants.{Copy, Repeat, End, Wrong}
use Rattle.lerc_mask.specs.declared.compared.RunsFound.{RunsFound}

-- ---- pixels

-- "Pixel p is bit 7 - p%8 of byte p/8."
abbrev pub bit : List ℕ → ℕ → ℕ
bit m p = get_or m (p / 8) 0 / 2 ^ (7 - p % 8) % 2

-- it is valid where that bit is set; past the end none is
unfoldable pub pixel_valid : List ℕ → ℕ → Bool
pixel_valid m p = eqb (bit m p) 1

-- how many of the first n pixels are valid
abbrev pub valid_below : ℕ → List ℕ → ℕ
valid_below n m = count n (pixel_valid m)

-- how many of the n pixels from `first` on are valid
abbrev pub valid_from : ℕ → ℕ → List ℕ → ℕ
valid_from first n m = count n (λ i. pixel_valid m (first + i))

-- "Length is (pixels+7)/8."
abbrev pub mask_bytes : ℕ → ℕ
mask_bytes pixels = (pixels + 7) / 8

-- ---- one run, of a section of `len` bytes, where `left` bytes of the mask are still to come

-- "n > 0 copies n bytes", which lie within the section and within the mask; "n = 0 is wrong"
unfoldable pub copy_at : ℕ → ℕ → ℕ → ℕ → Step
copy_at len at left n = cond (ltb 0 n && leb (at + n) len && leb n left) (Copy n) Wrong

-- "n < 0 repeats the next byte -n times"
unfoldable pub repeat_at : ℕ → ℕ → ℕ → ℕ → Step
repeat_at len at left n = cond (ltb at len && leb n left) (Repeat n) Wrong

-- "-32768 ends, exactly at the section's end and after exactly the mask length"
unfoldable pub end_at : ℕ → ℕ → ℕ → Step
end_at len at left = cond (eqb at len && eqb left 0) End Wrong

-- "signed 16-bit n": from 32768 on it stands for n - 65536
unfoldable pub signed_at : ℕ → ℕ → ℕ → ℕ → Step
signed_at len at left n = cond (eqb n 32768) (end_at len at left) (cond (ltb n 32768) (copy_at len at left n) (repeat_at len at left (65536 - n)))

unfoldable pub step_at : List ℕ → ℕ → ℕ → Step
step_at s at left = cond (leb (at + 2) (length s)) (signed_at (length s) (at + 2) left (little 2 s at)) Wrong

-- ---- "Else runs"

-- go on behind a run with the bytes that it gives
abbrev pub on_step : {A : Type 0} → List ℕ → ℕ → Step → A → A → (ℕ → List ℕ → A) → A
on_step s at (Copy n) end wrong go = go (at + 2 + n) (take n (drop (at + 2) s))
on_step s at (Repeat n) end wrong go = go (at + 3) (replicate n (get_or s (at + 2) 0))
on_step s at End end wrong go = end
on_step s at Wrong end wrong go = wrong

-- the runs of s from `at` on, where `made` came before and `want` bytes are wanted; f bounds the steps; "Any breach is 6."
unfoldable pub runs : ℕ → List ℕ → ℕ → ℕ → List ℕ → Res (List ℕ)
runs want s zero at made = fail (refuse 6)
runs want s (suc f) at made =
    on_step s at (step_at s at (want - length made)) (ok made) (fail (refuse 6)) (λ next out. runs want s f next (made ++ out))

-- all of a section: a run takes at least two of its bytes
abbrev pub mask_runs : ℕ → List ℕ → Res (List ℕ)
mask_runs want s = runs want s (length s) 0 []

-- the mask of so many pixels; "Valid pixels must number `valid`."
unfoldable pub coded : List ℕ → ℕ → ℕ → Res (List ℕ)
coded s pixels valid = do
  m ← mask_runs (mask_bytes pixels) s
  _ ← require (eqb (valid_below pixels m) valid) 6
  ok m

-- ---- the answer of `decode`

-- where a header has the count of mask bytes: "66 for 6"
abbrev pub mask_field : ℕ
mask_field = 66

-- 5: "spare mask .. too short"
unfoldable pub decoded : List ℕ → ℕ → ℕ → ℕ → Res (List ℕ)
decoded s pixels valid room = do
  _ ← require (leb (mask_bytes pixels) room) 5
  marked mask_field (coded s pixels valid)

-- how long the mask is, and "the spare's first (pixels+7)/8 bytes hold the new mask"
pub record RunsUnrolled (m : Res (List ℕ)) (r : Res ℕ) (old new : List ℕ) : Type 0 where
  pub says : r ≡ (m >>= λ bytes. ok (length bytes))
  pub left : new ≡ after m old (λ bytes. over bytes old)

-- the same answer, and beside the length whether a slice begins with the mask
pub record RunsCompared (m : Res (List ℕ)) (r : Res RunsFound) (held : List ℕ) : Type 0 where
  pub says : r ≡ (m >>= λ bytes. ok (record { length = length bytes; same = begins_with bytes held }))
