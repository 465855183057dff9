use Prim.Native.Nat.{◌+◌}
use mathlib.Core.Path.{◌≡◌}
use native.Mathlib.Omega.{arith}
use Rattle.lerc_checksum.specs.Parts.{lanes_of}
use Rattle.lerc_checksum.specs.Laws.{Bytes}
use Rattle.lerc_checksum.proofs.Quads.{Held, held, more}
use Rattle.lerc_checksum.proofs.add_quad.Goals as goal
use Rattle.lerc_checksum.proofs.add_quad.Goals.{After-low_words, After-low_words-2, After-shared_slice_known-1}

bytes : (c : After-shared_slice_known-1) → Bytes c.args.s.now
bytes c = λ i. omega (arith, c.type_inv.s i)

-- the lanes with the quad are numbers of 64 bits
fits : (c : After-shared_slice_known-1) → let a = c.args in Held a.s.now a.k (a.j + 1)
fits c = held _ (bytes c) _ _ c.requires.1

-- what is added makes them
even-next : (c : After-low_words) → let a = c.args in a.l.even + c.low_words.result ≡ (lanes_of a.s.now a.k (a.j + 1)).even
even-next c =
    rw (c.requires.2, c.low_words.ensures, c.four_words-v.ensures) (more _ (bytes (goal.at.After-low_words c).After-shared_slice_known-1) _ _).even

odd-next : (c : After-low_words-2) → let a = c.args in a.l.odd + c.low_words-2.result ≡ (lanes_of a.s.now a.k (a.j + 1)).odd
odd-next c =
    rw (c.requires.2, c.low_words-2.ensures, c.four_words-v.ensures) (more _ (bytes (goal.at.After-low_words-2 c).After-shared_slice_known-1) _ _).odd

both-next : (c : After-low_words-2) → let a = c.args in
    a.l.both + (a.l.even + c.low_words.result) + (a.l.odd + c.low_words-2.result) ≡ (lanes_of a.s.now a.k (a.j + 1)).both
both-next c =
    rw (even-next (goal.at.After-low_words-2 c).After-low_words, odd-next c, c.requires.2) (more _ (bytes (goal.at.After-low_words-2 c).After-shared_slice_known-1) _ _).both

pub overflow_add-even : goal.overflow_add-even
overflow_add-even c = rw (even-next (goal.at.overflow_add-even c).After-low_words) (record { fits = (fits (goal.at.overflow_add-even c).After-shared_slice_known-1).even })

pub overflow_add-odd : goal.overflow_add-odd
overflow_add-odd c = rw (odd-next (goal.at.overflow_add-odd c).After-low_words-2) (record { fits = (fits (goal.at.overflow_add-odd c).After-shared_slice_known-1).odd })

pub overflow_add-result : goal.overflow_add-result
overflow_add-result c = record { fits = omega (arith, both-next (goal.at.overflow_add-result c).After-low_words-2, (fits (goal.at.overflow_add-result c).After-shared_slice_known-1).both) }

pub overflow_add-result-2 : goal.overflow_add-result-2
overflow_add-result-2 c = rw (both-next (goal.at.overflow_add-result-2 c).After-low_words-2) (record { fits = (fits (goal.at.overflow_add-result-2 c).After-shared_slice_known-1).both })

pub returns : goal.returns
returns c = rw (both-next (goal.at.returns c).After-low_words-2, odd-next (goal.at.returns c).After-low_words-2, even-next (goal.at.returns c).After-low_words)
