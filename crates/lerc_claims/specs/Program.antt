-- The program: its text for every input, over the promise of `lerc_program::answer` as the checker reads it.
-- Assumes nothing.
use Rattle.std.specs.Prelude.{ℕ, ◌≤◌, ◌<◌, ◌≡◌, List, length, take, drop}
use Rattle.std.specs.Borrow.{Bor, MutBor}
use Rattle.lerc_text.specs.Ascii.{ascii}
use Rattle.lerc_program.specs.Program.{bytes_most, program_text}
use Rattle.lerc_program.proofs.answer.Reads as answer

-- what it is lent: the input, and a buffer, before the call or after it
abbrev pub Lent : Type 0
Lent = Bor (List ℕ) × (MutBor (List ℕ) × Unit {0})

abbrev pub input : Lent → List ℕ
input a = a.0.now

abbrev pub buffer : Lent → List ℕ
buffer a = a.1.0.now

-- the length that the buffer's type gives it
abbrev pub room : ℕ
room = 131072

-- what a call that answers r leaves
pub record Texted (a : Lent) (r : ℕ) (x : Lent) : Type 0 where
  -- "and writes exactly": the first r bytes are the text
  pub text : take r (buffer x) ≡ program_text (input a)
  -- and the text has no more
  pub count : r ≡ length (program_text (input a))
  -- every byte behind the text is as it was
  pub behind : drop r (buffer x) ≡ drop r (buffer a)
  -- and there are as many of them
  pub long : length (buffer a) ≡ room → length (buffer x) ≡ room

pub record ProgramClaims : Type 0 where
  -- "For every input": it asks nothing
  pub asks_nothing : (k : _) (a : _) → answer.Pre k a
  -- "any two outcomes it allows coincide"
  pub same : (k : _) (a : _) (r q : ℕ) (x y : _) → answer.Post k a r x → answer.Post k a q y → (r ≡ q) × (buffer x ≡ buffer y)
  -- "The program reads one blob .. and writes exactly"
  pub answers : (k : _) (a : _) (r : ℕ) (x : _) → answer.Post k a r x → Texted a r x
  -- one byte more than 16,384 of an input is enough to tell its text
  pub front : (k : _) (a : _) (r : ℕ) (x : _) (whole : List ℕ) (n : ℕ) → bytes_most < n → input a ≡ take n whole → answer.Post k a r x → take r (buffer x) ≡ program_text whole
  -- the text of every input fits the buffer
  pub fits : (b : List ℕ) → length (program_text b) ≤ room
  -- "over 16,384 bytes: 4", at 0, whatever the bytes
  pub refused-four : (k : _) (a : _) (r : ℕ) (x : _) → bytes_most < length (input a) → answer.Post k a r x → take r (buffer x) ≡ ascii "refused 4 at 0\n"
