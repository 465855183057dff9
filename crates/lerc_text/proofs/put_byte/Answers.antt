use mathlib.Core.Path.{refl, sym}
use native.Mathlib.Omega.{arith}
use lib.Seq.{set_out}
use Rattle.lerc_text.proofs.put_byte.Goals as goal

pub returns-then-at-out : goal.returns-then-at-out
returns-then-at-out c = record { holds = refl; behind = omega arith }

-- no room: nothing is put
pub returns : goal.returns
returns c = record { holds = sym (set_out _ _ _ c.if-at-out.false); behind = omega arith }
