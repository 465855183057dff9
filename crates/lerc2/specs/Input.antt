-- What the program reads of its input.
-- Assumes nothing.
use Rattle.std.specs.Prelude.{ℕ, List}
use Rattle.lerc_input.specs.Input.{FrontOf}

-- something holds of every input of which this was read
abbrev pub OfEachInput : List ℕ → ℕ → (List ℕ → Type 0) → Type 0
OfEachInput buffer n holds = (input : List ℕ) → FrontOf input buffer n → holds input
