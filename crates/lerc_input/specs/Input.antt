-- What is read of an input.
-- Assumes nothing.
use Rattle.std.specs.Prelude.{ℕ, ◌≡◌, List, length, take}

-- the buffer's first n bytes are the input, or as much of its front as the buffer has room for
abbrev pub FrontOf : List ℕ → List ℕ → ℕ → Type 0
FrontOf input buffer n = take n buffer ≡ take (length buffer) input
