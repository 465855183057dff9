-- What the private functions of the symbols promise; not part of the rules.
-- Assumes nothing.
use Rattle.std.specs.Prelude.{◌≡◌, ℕ, ◌-◌, ◌/◌, ◌^◌, ◌<◌, ◌≤◌, min, Bool, true, false, cond, ◌&&◌, List, length, ◌==◌, nat_le, nat_lt, slice_index}
use Rattle.lerc_words.specs.Res.{Res, ok, ◌>>=◌, require}
use Rattle.lerc_byte_image.specs.Table.{Table, bits_at}
use Rattle.lerc_byte_image.specs.Symbols.{first_of, bits_there, agrees, Run, symbols_from, end_of}

-- a code agrees with the 32 bits of w, of which only the first `there` count
unfoldable pub begun : ℕ → ℕ → ℕ → ℕ → Bool
begun w there len code =
    let n = min len there in
    nat_lt 0 len && code / 2 ^ (len - n) == w / 2 ^ (32 - n)

-- none of the first k codes does
pub record NoneBegun (w there : ℕ) (lengths codes : List ℕ) (k : ℕ) : Type 0 where
  pub each : (i : ℕ) → i < k → begun w there (slice_index lengths i) (slice_index codes i) ≡ false

-- some code that agrees with the bits at p; the number of codes where none does
pub data Found (s : List ℕ) (t : Table) (p r : ℕ) : Type 0 where
  one : r < t.range.count → agrees s t p r ≡ true → Found s t p r
  none : r ≡ t.range.count → first_of t.range.count (agrees s t p) ≡ t.range.count → Found s t p r

-- what an entry is after a code of `len` bits was put into the table: as before, a hint, or that code's, whose bits begin v's 12
pub data Entry (len code entry old new v : ℕ) : Type 0 where
  old : new ≡ old → Entry len code entry old new v
  hint : new < 256 → Entry len code entry old new v
  new : 0 < len → len ≤ 12 → v / 2 ^ (12 - len) ≡ code → new ≡ entry → Entry len code entry old new v

pub record Put (len code entry : ℕ) (before behind : List ℕ) : Type 0 where
  pub wide : length behind ≡ length before
  pub each : (v : ℕ) → v < 4096 → Entry len code entry (slice_index before v) (slice_index behind v) v

-- ---- all symbols

abbrev pub bits_in : Res Run → Res ℕ
bits_in r = r >>= λ x. ok x.bits

-- of n symbols some are left, from bit p on
pub record Counted (s : List ℕ) (t : Table) (n left p : ℕ) : Type 0 where
  pub inside : p ≤ bits_there s t.start
  pub same : bits_in (symbols_from s t n 0) ≡ bits_in (symbols_from s t left p)

-- the word after them must fit
unfoldable pub end_within : ℕ → ℕ → ℕ → Res ℕ
end_within len start bits = do
  _ ← require (nat_le (end_of start bits) len) 1
  ok (end_of start bits)

-- n symbols behind a table, and that word
abbrev pub end_from : List ℕ → Table → ℕ → Res ℕ
end_from s t n = bits_in (symbols_from s t n 0) >>= end_within (length s) t.start

-- what a table by the first 12 bits has for those from bit p on, where a whole word stands behind theirs
unfoldable pub glanced : List ℕ → ℕ → List ℕ → ℕ → ℕ
glanced s start entries p = cond (nat_lt p (bits_there s start - 32)) (slice_index entries (bits_at s start p 12)) 0
