use Rattle.std.proofs.Common.{◌≡◌, ◌+◌, sym, mod-eq_of_lt, arith}
use native.Mathlib.Nat.{mod_self}
use Rattle.lerc_byte_image.proofs.image.next_column.Goals as goal

pub returns-then-x-columns : goal.returns-then-x-columns
returns-then-x-columns c = sym (mod-eq_of_lt c.if-x-columns.true)

pub returns-else-x-columns : goal.returns-else-x-columns
returns-else-x-columns c = let a = c.args in let e : a.x + 1 ≡ a.columns = omega (arith, c.requires) in rw (e) (sym (mod_self a.columns))
