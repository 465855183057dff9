-- The bytes of a head and of an entry, one by one.
-- Assumes nothing.
use mathlib.Core.Path.{◌≡◌, sym, ap}
use mathlib.Core.List.{[], ◌∷◌}
use Prim.Native.Nat.{ℕ, ◌-◌, ◌/◌, ◌%◌}
use native.Mathlib.Omega.{arith}
use lib.ListN.{length}
use Rattle.lerc_pack.specs.declared.Entry.{Entry}
use Rattle.lerc_pack.specs.Contents.{in_bytes, head_bytes, entry_bytes}

-- a quotient by two bytes, and by three, at once
two : (v : ℕ) → v / 256 / 256 ≡ v / 65536
two v = omega arith

three : (v : ℕ) → v / 256 / 256 / 256 ≡ v / 16777216
three v = omega arith

pub head-is : (n : ℕ) → 1 ∷ 0 ∷ 0 ∷ 0 ∷ n % 256 ∷ n / 256 % 256 ∷ n / 65536 % 256 ∷ n / 16777216 % 256 ∷ [] ≡ head_bytes n
unfolding head_bytes in_bytes
head-is n = rw (three n, two n)

pub entry-is : (e : Entry)
    → e.row % 256 ∷ e.row / 256 % 256 ∷ e.column % 256 ∷ e.column / 256 % 256 ∷ e.kind % 256 ∷ (e.depth - 1) % 256 ∷ 0 ∷ 0
    ∷ e.start % 256 ∷ e.start / 256 % 256 ∷ e.start / 65536 % 256 ∷ e.start / 16777216 % 256
    ∷ e.length % 256 ∷ e.length / 256 % 256 ∷ e.length / 65536 % 256 ∷ e.length / 16777216 % 256 ∷ []
    ≡ entry_bytes e
unfolding entry_bytes in_bytes
entry-is e = rw (three e.start, two e.start, three e.length, two e.length)

pub length-head : (n : ℕ) → length (head_bytes n) ≡ 8
length-head n = ap length (sym (head-is n))

pub length-entry : (e : Entry) → length (entry_bytes e) ≡ 16
length-entry e = ap length (sym (entry-is e))
