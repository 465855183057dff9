-- What upstream asks of a header, and here is refused: 3, 4 and 1. Where the header is held, the blob is short enough for
-- upstream's `usize::MAX/8`.
-- Assumes nothing.
use mathlib.Core.Path.{◌≡◌}
use mathlib.Core.List.{List}
use Prim.Native.Nat.{ℕ, ◌≤◌}
use native.Mathlib.Omega.{arith}
use borrow.Author.Tests.{lt-leb}
use lib.ListN.{length, take, length-take}
use Rattle.lerc_words.specs.Res.{ok}
use Rattle.lerc_header.specs.declared.Header.{Header}
use Rattle.lerc_header.specs.declared.Extent.{Extent}
use Rattle.lerc_header.specs.Header.{held}
use Rattle.lerc_header.proofs.Kept.{held-size}
use Rattle.lerc_contracts.specs.Outside.{length_max, data_at}
use Rattle.lerc_contracts.specs.PlanesClauses.{HeaderRefusals}

module _ (h : Header) (n : ℕ) where
  pub header-refusals : HeaderRefusals h n
  unfolding held
  header-refusals = record {
    refused-3 = λ e. rw (e);
    refused-4 = λ e d. rw (e, d);
    refused-1 = λ e d l. rw (e, d, lt-leb h.size n l);
  }

module _ (b : List ℕ) (h : Header) {e : Extent} (k : held h (length b) ≡ ok e) where
  -- 2.5, 2.22, 3.27
  pub blob-short : length (take h.size b) ≤ length_max
  blob-short = let s = held-size h (length b) k in simp length-take (omega (arith, s.2))

  -- 3.10, 3.26
  pub blob-holds : data_at h ≤ length (take h.size b)
  blob-holds = let s = held-size h (length b) k in simp length-take (omega (arith, s.0, s.1))
