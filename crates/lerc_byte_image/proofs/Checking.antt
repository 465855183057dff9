-- A header, then table and symbols: what `check` answers.
-- Assumes nothing.
use Rattle.std.proofs.Common.{◌≡◌, ℕ, ◌+◌, ◌*◌, ◌<◌, ◌≤◌, List, length, take, sym, ap, ◌∙◌, mul-le-mul_right, arith, length-take}
use borrow.Author.Tests.{lt-leb}
use Rattle.lerc_words.specs.declared.Refusal.{Refusal}
use Rattle.lerc_words.specs.Res.{Res, ok, fail, refuse, placed, marked, word_at}
use Rattle.lerc_words.proofs.Marking.{marked-tells}
use Rattle.lerc_header.specs.declared.Header.{Header}
use Rattle.lerc_header.specs.declared.Extent.{Extent}
use Rattle.lerc_header.specs.Header.{held}
use Rattle.lerc_header.proofs.Kept.{held-is, held-size, held-shaped, held-valid}
use Rattle.lerc_byte_image.specs.Table.{range_at, table_at}
use Rattle.lerc_byte_image.specs.Symbols.{Coded, coded_at}
use Rattle.lerc_byte_image.specs.Image.{image_at, checked_image, ended}
use Rattle.lerc_byte_image.proofs.Coded.{coded-no}

-- a table behind the last byte
pub table-past : (s : List ℕ) (at : ℕ) → length s < at → table_at s at ≡ fail (refuse 1)
unfolding table_at range_at word_at
table-past s at h = rw (lt-leb (at + 4) (length s) (omega arith))

module _ (b : List ℕ) (h : Header) (mode : ℕ) where
  pub check-no : {r : Refusal} → held h (length b) ≡ fail r → fail r ≡ ended (checked_image b h mode)
  unfolding checked_image
  check-no e = rw (e)

  module _ {e : Extent} (p : held h (length b) ≡ ok e) where
    -- the blob, and no more
    pub inside : e.size ≤ length b
    inside = rw (held-is h (length b) p) (held-size h (length b) p).1

    pub short : length (take e.size b) ≤ 16777216
    short = rw (held-is h (length b) p) (simp length-take (omega (arith, held-size h (length b) p)))

    -- a symbol for each valid cell
    pub few : h.valid * h.depth ≤ 4194304
    few = omega (arith, mul-le-mul_right h.depth (held-valid h (length b) p), (held-shaped h (length b) p).few)

    then : ended (checked_image b h mode) ≡ marked mode (ended (coded_at (take e.size b) (mode + 1) (h.valid * h.depth)))
    unfolding checked_image image_at
    then = rw (p, held-is h (length b) p) (sym (marked-tells mode (coded_at (take h.size b) (mode + 1) (h.valid * h.depth)) (λ (x : Coded). x.end)))

    pub check-is : {m : Res ℕ} → m ≡ ended (coded_at (take e.size b) (mode + 1) (h.valid * h.depth)) → marked mode m ≡ ended (checked_image b h mode)
    check-is d = ap (marked mode) d ∙ sym then

    -- the mode byte is the last, or behind it
    pub check-past : e.size ≤ mode → fail (placed mode (refuse 1)) ≡ ended (checked_image b h mode)
    check-past l = check-is (sym (coded-no _ _ _ (table-past (take e.size b) (mode + 1) (simp length-take (omega arith)))))
