-- Upstream's contracts, proved: each law stands in this folder under the name of its field.
-- Assumes nothing.
use Rattle.lerc_contracts.specs.NumericClauses.{NumericClauses}
use Rattle.lerc_contracts.specs.BitsClauses.{BitsClauses}
use Rattle.lerc_contracts.specs.PlanesClauses.{PlanesClauses}
use Rattle.lerc_contracts.specs.BlockClauses.{BlockClauses}
use Rattle.lerc_contracts.specs.ImageClauses.{ImageClauses}
use Rattle.lerc_contracts.specs.ByteClauses.{ByteClauses}
use Rattle.lerc_contracts.specs.NativeClauses.{NativeClauses}
use Rattle.lerc_contracts.specs.Upstream.{Upstream}
use Rattle.lerc_contracts.proofs.Numeric.{finite-is, parts-clauses, top_small, top-is, minimum-is, less-is, size_is as numeric-size-is, size-one-of, rounded-is, significand-wide, sticky-is, jam-small, number-wide, number-kind, integer-kind, to-integer-clauses}
use Rattle.lerc_contracts.proofs.Rounding.{highest64-is, highest-is, highest-most, highest-zero, round_is, round-most, jammed-is}
use Rattle.lerc_contracts.proofs.Pack.{normal-is, pack-is, pack-units}
use Rattle.lerc_contracts.proofs.Software.{scale-is, number_is}
use Rattle.lerc_contracts.proofs.Plus.{plus-counted, plus-is, plus-differs}
use Rattle.lerc_contracts.proofs.Narrow.{narrow-is}
use Rattle.lerc_contracts.proofs.Bits.{ceil-bytes-is, width_is, plan-is, item-cases, decoded-is, inspect-clauses, decode-clauses}
use Rattle.lerc_contracts.proofs.Refusals.{header-refusals, blob-short, blob-holds}
use Rattle.lerc_contracts.proofs.Planes.{size_is as planes-size-is, count-is, validity-cases, equal_is, ranges-cases, ranges-is, constants-is, prepare-clauses, same_ok, read-ranges-clauses, convert-clauses}
use Rattle.lerc_contracts.proofs.Block.{value-cases, mode-cases, offset-cases, block-is}
use Rattle.lerc_contracts.proofs.Walking.{pixel-is, finish-cases, target_is, run-all, run_none}
use Rattle.lerc_contracts.proofs.BlockClauses.{tile-valid, target-clauses, value-inside, reconstruct-inside, start-past, tile-over, read-block-clauses, reconstruct-clauses}
use Rattle.lerc_contracts.proofs.ModeClauses.{mode-is, read-mode-clauses}
use Rattle.lerc_contracts.proofs.Image.{tile-is, next-is, position-clauses, tiles-cases}
use Rattle.lerc_contracts.proofs.Linear.{linear-value-cases, linear-cases, linear-none, constant-is, raw-is}
use Rattle.lerc_contracts.proofs.ImageClauses.{decode-tiles-clauses, decode-linear-clauses, raw-body-clauses, constant-body-clauses, raw-start, whole-read-clauses}
use Rattle.lerc_contracts.proofs.ByteOrder.{place-clauses}
use Rattle.lerc_contracts.proofs.ByteImage.{prediction-clauses, byte-finish-cases, decoded-cases, bytes-is}
use Rattle.lerc_contracts.proofs.ByteClauses.{huffman-is, bytes-kind, bytes-start, decode-bytes-clauses, read-bytes-clauses}
use Rattle.lerc_contracts.proofs.Native.{pixels-is}

pub numeric-clauses : NumericClauses
numeric-clauses = record {
  finite-is = finite-is;
  parts-clauses = parts-clauses;
  rounded-is = rounded-is;
  round_is = round_is;
  round-most = round-most;
  sticky-is = sticky-is;
  jammed-is = jammed-is;
  jam-small = jam-small;
  top_small = top_small;
  top-is = top-is;
  highest64-is = highest64-is;
  highest-is = highest-is;
  highest-most = highest-most;
  highest-zero = highest-zero;
  significand-wide = significand-wide;
  normal-is = normal-is;
  pack-is = pack-is;
  pack-units = pack-units;
  scale-is = scale-is;
  plus-counted = plus-counted;
  plus-is = plus-is;
  plus-differs = plus-differs;
  minimum-is = minimum-is;
  less-is = less-is;
  size_is = numeric-size-is;
  size-one-of = size-one-of;
  number-kind = number-kind;
  number-wide = number-wide;
  number_is = number_is;
  narrow-is = narrow-is;
  integer-kind = integer-kind;
  to-integer-clauses = to-integer-clauses;
}

pub bits-clauses : BitsClauses
bits-clauses = record {
  ceil-bytes-is = ceil-bytes-is;
  width_is = width_is;
  plan-is = plan-is;
  inspect-clauses = inspect-clauses;
  item-cases = item-cases;
  decoded-is = decoded-is;
  decode-clauses = decode-clauses;
}

pub planes-clauses : PlanesClauses
planes-clauses = record {
  header-refusals = header-refusals;
  blob-short = blob-short;
  blob-holds = blob-holds;
  size_is = planes-size-is;
  count-is = count-is;
  validity-cases = validity-cases;
  prepare-clauses = prepare-clauses;
  equal_is = equal_is;
  same_ok = same_ok;
  ranges-cases = ranges-cases;
  ranges-is = ranges-is;
  read-ranges-clauses = read-ranges-clauses;
  constants-is = constants-is;
  convert-clauses = convert-clauses;
}

pub block-clauses : BlockClauses
block-clauses = record {
  tile-valid = tile-valid;
  pixel-is = pixel-is;
  target_is = target_is;
  mode-cases = mode-cases;
  offset-cases = offset-cases;
  mode-is = mode-is;
  block-is = block-is;
  start-past = start-past;
  tile-over = tile-over;
  read-mode-clauses = read-mode-clauses;
  value-cases = value-cases;
  value-inside = value-inside;
  finish-cases = finish-cases;
  run-all = run-all;
  run_none = run_none;
  target-clauses = target-clauses;
  read-block-clauses = read-block-clauses;
  reconstruct-clauses = reconstruct-clauses;
  reconstruct-inside = reconstruct-inside;
}

pub image-clauses : ImageClauses
image-clauses = record {
  tile-is = tile-is;
  next-is = next-is;
  position-clauses = position-clauses;
  tiles-cases = tiles-cases;
  decode-tiles-clauses = decode-tiles-clauses;
  linear-value-cases = linear-value-cases;
  linear-cases = linear-cases;
  linear-none = linear-none;
  constant-is = constant-is;
  raw-is = raw-is;
  raw-start = raw-start;
  whole-read-clauses = whole-read-clauses;
  decode-linear-clauses = decode-linear-clauses;
  raw-body-clauses = raw-body-clauses;
  constant-body-clauses = constant-body-clauses;
}

pub byte-clauses : ByteClauses
byte-clauses = record {
  place-clauses = place-clauses;
  prediction-clauses = prediction-clauses;
  byte-finish-cases = byte-finish-cases;
  decoded-cases = decoded-cases;
  bytes-is = bytes-is;
  huffman-is = huffman-is;
  bytes-kind = bytes-kind;
  bytes-start = bytes-start;
  decode-bytes-clauses = decode-bytes-clauses;
  read-bytes-clauses = read-bytes-clauses;
}

pub native-clauses : NativeClauses
native-clauses = record {
  pixels-is = pixels-is;
}

pub upstream : Upstream
upstream = record {
  numeric = numeric-clauses;
  bits = bits-clauses;
  planes = planes-clauses;
  block = block-clauses;
  image = image-clauses;
  bytes = byte-clauses;
  native = native-clauses;
}
