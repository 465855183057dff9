-- The claims on the program hold.
-- Assumes nothing.
use Prim.Native.Nat.{ℕ, ◌<◌}
use mathlib.Core.Path.{◌≡◌, ◌∙◌, sym, ap}
use mathlib.Core.List.{List}
use native.Mathlib.Omega.{arith}
use lib.ListN.{length, take, drop, length-append, length-drop}
use lib.Seq.{drop-append_seam}
use Rattle.lerc_text.specs.Ascii.{ascii}
use Rattle.lerc_text.specs.Text.{digits, line, refusal_line}
use Rattle.lerc_program.specs.Program.{bytes_most, program_text, said_text, Answered}
use Rattle.lerc_program.proofs.Program.{front-text, long-says, text-long, answered-text}
use Rattle.lerc_claims.specs.Program.{room, ProgramClaims}

module _ {given old : List ℕ} {r : ℕ} {new : List ℕ} (p : Answered given old r new) where
  behind : drop r new ≡ drop r old
  behind = rw (p.count, p.holds) (drop-append_seam (program_text given) (drop (length (program_text given)) old))

  long : length old ≡ room → length new ≡ room
  long e = rw (p.holds, length-append, length-drop, e) (omega (arith, text-long given))

  front : (whole : List ℕ) (n : ℕ) → bytes_most < n → given ≡ take n whole → take r new ≡ program_text whole
  front whole n more e = answered-text p ∙ ap program_text e ∙ front-text n whole more

  refused-four : bytes_most < length given → take r new ≡ ascii "refused 4 at 0\n"
  unfolding refusal_line line digits
  refused-four l = answered-text p ∙ ap said_text (long-says given l)

pub program : ProgramClaims
program =
    record {
      asks_nothing = λ k a. tt;
      same = λ k a r q x y p s. (p.count ∙ sym s.count, p.holds ∙ sym s.holds);
      answers = λ k a r x p. record { text = answered-text p; count = p.count; behind = behind p; long = long p };
      front = λ k a r x whole n more e p. front p whole n more e;
      fits = text-long;
      refused-four = λ k a r x l p. refused-four p l;
    }
