-- What is claimed of Huffman images, proved.
-- Assumes nothing.
use Rattle.lerc_byte_image.proofs.BitLaws.{bits-more}
use Rattle.lerc_byte_image.proofs.Refusals.{image-numbers}
use Rattle.lerc_byte_image.proofs.Written.{byte_small, written-are}
use Rattle.lerc_byte_image.proofs.Front.{image-bounds, image-front}
use Rattle.lerc_byte_theorems.specs.Images.{ByteClaims}
use Rattle.lerc_byte_theorems.proofs.Codes.{prefix-free, one_code, symbol-is, image-is}
use Rattle.lerc_byte_theorems.proofs.Bits.{no_bits, one_bit}
use Rattle.lerc_byte_theorems.proofs.Reader.{bit-by-bit}
use Rattle.lerc_byte_theorems.proofs.Words.{added, added-less, predicted-left, predicted-above, predicted-last, predicted-first, plain_word}
use Rattle.lerc_byte_theorems.proofs.Witness.{computed}

pub byte-claims : ByteClaims
byte-claims = record {
  prefix-free = prefix-free;
  one_code = one_code;
  symbol-is = symbol-is;
  bit-by-bit = bit-by-bit;
  no_bits = no_bits;
  bits-more = bits-more;
  one_bit = one_bit;
  image-is = image-is;
  image-refused = image-numbers;
  image-bounds = λ s h mode x. image-bounds s h mode;
  image-front = λ s c h mode x. image-front s c h mode;
  added = added;
  added-less = added-less;
  predicted-left = predicted-left;
  predicted-above = predicted-above;
  predicted-last = predicted-last;
  predicted-first = predicted-first;
  plain_word = plain_word;
  small-words = byte_small;
  written = λ s h mode delta m image e x. written-are s h mode delta m image;
  computed = computed;
}
