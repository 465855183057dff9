use Prim.Native.Nat.{◌+◌, ◌*◌, min}
use mathlib.Core.Path.{◌≡◌}
use lib.ListN.{length}
use Rattle.lerc_words.specs.Res.{little}
use Rattle.lerc_words.proofs.Filling.{Filling}
use Rattle.lerc_words.proofs.words_inside.Given as goal

abbrev pub invariant-loop-word : goal.invariant-loop-word
invariant-loop-word l = (l.place ≡ l.at + l.word-index * l.size) × Filling (λ j. little (min l.size 8) l.s (l.at + j * l.size)) (length l.initial.out) l.word-index l.initial.out l.out
