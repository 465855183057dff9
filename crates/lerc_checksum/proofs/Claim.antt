-- The laws of the checksum, all together.
-- Assumes nothing.
use Rattle.lerc_checksum.specs.Laws.{EvenAlike, ExactlyAlike, NeverZero, WordFound, ByteFound, SwapFound, SwapFoundEven, SwapFoundByRule, ChecksumLaws}
use Rattle.lerc_checksum.proofs.Sentence as Sentence
use Rattle.lerc_checksum.proofs.Changes as Changes

even : EvenAlike
even = Sentence.even

exactly : ExactlyAlike
exactly = Sentence.exactly

never-zero : NeverZero
never-zero = Sentence.never-zero

one_word : WordFound
one_word = Changes.one_word

one_byte : ByteFound
one_byte = Changes.one_byte

two-words : SwapFound
two-words = Changes.two-words

two-words-even : SwapFoundEven
two-words-even = Changes.two-words-even

two-words-by-rule : SwapFoundByRule
two-words-by-rule = Changes.two-words-by-rule

pub laws : ChecksumLaws
laws = record { even = even; exactly = exactly; never-zero = never-zero; one_word = one_word; one_byte = one_byte; two-words = two-words; two-words-even = two-words-even; two-words-by-rule = two-words-by-rule }
