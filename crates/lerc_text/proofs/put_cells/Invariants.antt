use Prim.Native.Nat.{◌≤◌}
use Rattle.lerc_text.specs.Text.{Put, cell_lines, valid_in, word_in}
use Rattle.lerc_text.proofs.put_cells.Given as goal

abbrev pub invariant-loop-cell : goal.invariant-loop-cell
invariant-loop-cell l = (l.cell ≤ l.count) × Put l.initial.out l.at (cell_lines l.cell (valid_in l.depth l.mask) (word_in l.image)) l.p l.out
