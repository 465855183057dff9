-- Laws of what the program reads and writes.
-- Assumes nothing.
use Rattle.std.proofs.Common.{ℕ, ◌≡◌, ◌≤◌, ◌<◌, ◌∙◌, sym, ap, List, length, take, arith, length-take}
use lib.Seq.{take_all}
use Rattle.lerc_words.specs.Lists.{over}
use Rattle.lerc_program.specs.Program.{bytes_most, program_text, Answered}
use Rattle.lerc_program.proofs.Program.{front-text, answered-within, answered-count, answered-text}
use Rattle.lerc_input.specs.Input.{FrontOf}
use Rattle.lerc2.specs.Input.{OfEachInput}

module _ (buffer : List ℕ) (n : ℕ) where
  -- what was read is one of the inputs of which it was read
  front-itself : FrontOf (take n buffer) buffer n
  front-itself =
      let h : length (take n buffer) ≤ length buffer = simp length-take (omega arith) in
      sym (take_all (length buffer) (take n buffer) h)

  module _ {old : List ℕ} {r : ℕ} {new : List ℕ} where
    -- a buffer with room for a byte more than the longest blob tells the text of its input
    pub front-answered : bytes_most < length buffer → Answered (take n buffer) old r new → OfEachInput buffer n (λ input. Answered input old r new)
    front-answered room a input front =
        let e : program_text (take n buffer) ≡ program_text input = ap program_text front ∙ front-text (length buffer) input room in
        record { count = a.count ∙ ap length e; holds = a.holds ∙ ap (λ (text : List ℕ). over text old) e }

    module _ (a : OfEachInput buffer n (λ input. Answered input old r new)) where
      pub read-within : r ≤ length new
      read-within = answered-within (a (take n buffer) front-itself)

      pub read_count : r ≡ length (take r new)
      read_count = answered-count (a (take n buffer) front-itself)

      pub read-text : OfEachInput buffer n (λ input. take r new ≡ program_text input)
      read-text input front = answered-text (a input front)
