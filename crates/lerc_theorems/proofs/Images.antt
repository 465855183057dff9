-- Huffman images behind a header by value: when a check is refused, and with which numbers an image is refused at all.
-- Assumes nothing.
use mathlib.Core.Path.{◌≡◌, sym, subst}
use mathlib.Core.Logic.{◌↔◌, ⊎_elim}
use mathlib.Core.List.{List}
use Prim.Native.Nat.{ℕ}
use lib.ListN.{length, take}
use Rattle.lerc_words.specs.declared.Refusal.{Refusal}
use Rattle.lerc_words.specs.Res.{fail}
use Rattle.lerc_header.specs.declared.Header.{Header}
use Rattle.lerc_byte_image.specs.Image.{checked_image}
use Rattle.lerc_byte_image.proofs.Refusals.{image-numbers}
use Rattle.lerc_theorems.specs.HuffmanTable.{HuffmanRefused}
use Rattle.lerc_theorems.specs.Table.{CheckImageRefused, image-held, image-wrong}
use Rattle.lerc_theorems.proofs.Headers.{right-held, held-exactly, holding}
use Rattle.lerc_theorems.proofs.Huffman.{image-exactly}

-- 1 and 8, and no other numbers
pub image-in : (P : ℕ → Type 0) (s : List ℕ) (h : Header) (mode : ℕ) {why : Refusal} → P 1 → P 8 → HuffmanRefused s h mode why → P why.number
image-in P s h mode {why} one eight r =
    ⊎_elim (λ z. subst P (sym z) one) (λ z. subst P (sym z) eight) (image-numbers s h mode why ((image-exactly s h mode why).1 r)).1

module _ (b : List ℕ) (h : Header) (mode : ℕ) where
  check-refused : {j : Refusal} → checked_image b h mode ≡ fail j → CheckImageRefused b h mode j
  unfolding checked_image
  check-refused {j} e =
      holding h (length b) (CheckImageRefused b h mode) _ e (λ d. image-held d)
      (λ g e. image-wrong g ((image-exactly (take h.size b) h mode j).0 e))

  refused-check : {j : Refusal} → CheckImageRefused b h mode j → checked_image b h mode ≡ fail j
  unfolding checked_image
  refused-check {j} (image-held d) = rw ((held-exactly h (length b) j).1 d)
  refused-check {j} (image-wrong g r) = rw (right-held h (length b) g) ((image-exactly (take h.size b) h mode j).1 r)

  pub check-image-exactly : (j : Refusal) → (checked_image b h mode ≡ fail j) ↔ CheckImageRefused b h mode j
  check-image-exactly j = (check-refused, refused-check)
