-- What is claimed of the checksum in calls, proved.
-- Assumes nothing.
use Prim.Native.Nat.{ℕ, ◌-◌}
use mathlib.Core.Path.{◌≡◌, ◌∙◌, sym, ap, ap₂, refl, subst}
use mathlib.Core.Logic.{◌≢◌}
use mathlib.Core.Bool.{Bool, true, false}
use mathlib.Core.List.{List}
use native.Mathlib.Omega.{arith}
use lib.ListN.{length, take}
use lib.Dec.{leb}
use lib.Ieee.{size, span, climb}
use Rattle.lerc_numeric.specs.Numeric.{mag, less}
use borrow.Author.Tests.{eqb-true}
use Rattle.lerc_words.specs.declared.Refusal.{Refusal}
use Rattle.lerc_words.specs.Res.{Res, ok, fail, ◌>>=◌, refuse, require, little}
use Rattle.lerc_words.proofs.Binding.{bind_is, bind-fail, bind-counts, ok-is, require-is}
use Rattle.lerc_theorems.proofs.Demands.{fail-is}
use Rattle.lerc_checksum.specs.Checksum.{word, fold, sums_to, closed_to, with_last, joined, checksum}
use Rattle.lerc_checksum.proofs.Claim.{laws}
use Rattle.lerc_checksum.proofs.Computed.{witnesses}
use Rattle.lerc_header.specs.declared.Header.{Header}
use Rattle.lerc_header.specs.declared.Extent.{Extent}
use Rattle.lerc_header.specs.Header.{error_right, pair_right, fields_right, within_ceilings, header_bytes, key_right, header_of, held, summed_bytes, checksum_right, header_says}
use Rattle.lerc_header.proofs.Kept.{header-summed}
use Rattle.lerc_mask.proofs.Steps.{bytes-part}
use Rattle.lerc_validity.specs.Validity.{MaskInForce, mask_says, bytes_of}
use Rattle.lerc.specs.Meaning.{Meaning, body_says, meaning_from, meaning}
use Rattle.lerc.specs.Read.{Lent, Masked, masked, read_says, ReadTold, read_count, refused_after, read_after}
use Rattle.lerc.proofs.Endings.{header-no}
use Rattle.lerc_theorems.specs.Table.{HeaderRefused, header-cut, key-wrong, not-held, checksum-wrong, WholeRefused, whole-header, whole_room, whole-mask, whole-body}
use Rattle.lerc_theorems.specs.Calls.{HeaderCall}
use Rattle.lerc_theorems.proofs.Calls.{header-call, read-call}
use Rattle.lerc_theorems.proofs.Entries.{whole-exactly}
use Rattle.lerc_theorems.proofs.Given.{held_in, body-in}
use Rattle.lerc_theorems.proofs.Headers.{header-exactly}
use Rattle.lerc_theorems.proofs.Meanings.{meaning-is, means_is}
use Rattle.lerc_theorems.proofs.Refusals.{masked-is}
use Rattle.lerc_summed.specs.Summed.{WronglySummed, unsummed_header, unsummed_meaning, HeaderRefuses, ReadRefuses, ReadKeeps, HeaderSummed, ReadSummed, ZeroRefused, WordRefused, HeaderAsBefore, HeaderRefusedAsBefore, MeaningAsBefore, ReadAsBefore, SizeMissed, unsummed_masked, unsummed_read, Summed}

-- ---- 13 is for a wrong checksum, and for nothing else

-- another number
abbrev Other : ℕ → Type 0
Other n = n ≡ 13 → ⊥

header-wrong : (b : List ℕ) (why : Refusal) → HeaderRefused b why → why.number ≡ 13 → WronglySummed b
header-wrong b why (header-cut l) e = absurd (omega arith)
header-wrong b why (key-wrong l k) e = absurd (omega arith)
header-wrong b why (not-held l k r) e = absurd (held_in Other (λ z. omega arith) (λ z. omega arith) (λ z. omega arith) r e)
header-wrong b why (checksum-wrong l k r w) e = record { long = l; key = k; right = r; wrong = w }

wrong-header : (b : List ℕ) → WronglySummed b → HeaderRefused b (refuse 13)
wrong-header b w = checksum-wrong w.long w.key w.right w.wrong

whole-wrong : (b : List ℕ) (reuse : Bool) (l : Lent) (why : Refusal) → WholeRefused b reuse l why → why.number ≡ 13 → WronglySummed b
whole-wrong b reuse l why (whole-header r) e = header-wrong b why r e
whole-wrong b reuse l why (whole_room h d t) e = absurd (omega arith)
whole-wrong b reuse l why (whole-mask h d t w) e = absurd (omega arith)
whole-wrong b reuse l why (whole-body k d r) e = absurd (body-in Other (λ z. omega arith) (λ z. omega arith) (λ z. omega arith) (λ z. omega arith) r e)

header_refused : HeaderRefuses
header_refused b said c = (
  (λ e. header-wrong b (refuse 13) ((header-exactly b (refuse 13)).0 (sym (header-call c) ∙ e)) refl),
  (λ w. (header-call c ∙ (header-exactly b (refuse 13)).1 (wrong-header b w))),
)

read-refused : ReadRefuses
read-refused b reuse said old new c = (
  (λ e. whole-wrong b reuse old (refuse 13) ((whole-exactly b reuse old (refuse 13)).0 (bind-fail (read_says b reuse old) _ (sym (read-call c).says ∙ e))) refl),
  (λ w. ((read-call c).says ∙ rw ((whole-exactly b reuse old (refuse 13)).1 (whole-header (wrong-header b w))))),
)

read_keeps : ReadKeeps
unfolding refused_after
read_keeps b reuse old new c =
    let w = (read-refused b reuse (fail (refuse 13)) old new c).0 refl in
    let no = (header-exactly b (refuse 13)).1 (wrong-header b w) in
    let read_no = (whole-exactly b reuse old (refuse 13)).1 (whole-header (wrong-header b w)) in
    (read-call c).lent ∙ rw (read_no, header-no b reuse old no)

-- ---- what is found out

-- a meaning has the header that it was found behind
meant : (b : List ℕ) (h : Header) (f : MaskInForce) (m : Meaning) → meaning_from b h f ≡ ok m → m.header ≡ h
unfolding meaning_from
meant b h f m e =
    let (y, _, e) = bind_is (body_says (take h.size b) h (bytes_of f)) _ e in
    ap (λ (x : Meaning). x.header) (sym (ok-is e))

-- the checksum of a blob that was read is that of its bytes
stored_is : (b : List ℕ) (h : Header) → header_says b ≡ ok h → little 4 b 10 ≡ checksum (summed_bytes b h.size)
unfolding checksum_right
stored_is b h e = eqb-true _ _ (header-summed b h e)

header-has : HeaderSummed
header-has b h c = stored_is b h (sym (header-call c))

read_has : ReadSummed
unfolding read_says
read_has b reuse h n end old new c =
    let (m, e, d) = bind-counts (read_says b reuse old) _ (sym (read-call c).says) in
    let (k, p, e) = bind_is (masked b reuse old) _ e in
    let is : h ≡ k.header = ap (λ (t : ReadTold). t.header) d ∙ meant b k.header k.mask m e in
    stored_is b k.header (masked-is b reuse old k p).header ∙ ap (λ (g : Header). checksum (summed_bytes b g.size)) (sym is)

zero-stored : ZeroRefused
zero-stored b said bytes c z h e =
    let read : HeaderCall b (ok h) = subst (HeaderCall b) e c in
    laws.never-zero (summed_bytes b h.size) (bytes-part b 14 (h.size - 14) bytes) (sym (stored_is b h (sym (header-call read))) ∙ z)

one_word : WordRefused
one_word i b c h g p q same changed n x y =
    laws.one_word i (summed_bytes b h.size) (summed_bytes c g.size) (bytes-part b 14 (h.size - 14) p) (bytes-part c 14 (g.size - 14) q) changed n (sym (stored_is b h (sym (header-call x))) ∙ same ∙ stored_is c g (sym (header-call y)))

-- ---- nothing else changed

module _ (b : List ℕ) (h : Header) where
  unsummed : header_says b ≡ ok h → unsummed_header b ≡ ok h
  unfolding header_says unsummed_header
  unsummed e =
      let (_, one, e) = bind_is (require (leb header_bytes (length b)) 1) _ e in
      let (_, two, e) = bind_is (require (key_right b) 2) _ e in
      let (_, three, e) = bind_is (held (header_of b) (length b)) _ e in
      let (_, _, e) = bind_is (require (checksum_right b (header_of b).size) 13) _ e in
      rw (require-is (leb header_bytes (length b)) 1 one, require-is (key_right b) 2 two, three) e

  resummed : unsummed_header b ≡ ok h → checksum_right b h.size ≡ true → header_says b ≡ ok h
  unfolding header_says unsummed_header
  resummed e right =
      let (_, one, e) = bind_is (require (leb header_bytes (length b)) 1) _ e in
      let (_, two, e) = bind_is (require (key_right b) 2) _ e in
      let (_, three, e) = bind_is (held (header_of b) (length b)) _ e in
      let is : header_of b ≡ h = ok-is e in
      rw (require-is (leb header_bytes (length b)) 1 one, require-is (key_right b) 2 two, three, is, right)

-- what comes before the checksum is as it was
refused-before : (b : List ℕ) (why : Refusal) → unsummed_header b ≡ fail why → header_says b ≡ fail why
unfolding header_says unsummed_header
refused-before b why e = go (leb header_bytes (length b)) (key_right b) (held (header_of b) (length b)) e
  where
    go : (x y : Bool) (z : Res Extent) → (require x 1 >>= λ _. require y 2 >>= λ _. z >>= λ _. ok (header_of b)) ≡ fail why
        → (require x 1 >>= λ _. require y 2 >>= λ _. z >>= λ _. require (checksum_right b (header_of b).size) 13 >>= λ _. ok (header_of b)) ≡ fail why
    go false y z e = e
    go true false z e = e
    go true true (fail r) e = e
    go true true (ok x) e = absurd (let z : ◌≡◌ {A = ℕ} 0 1 = cc in omega arith)

before-refused : (b : List ℕ) (why : Refusal) → why.number ≢ 13 → header_says b ≡ fail why → unsummed_header b ≡ fail why
unfolding header_says unsummed_header
before-refused b why n e = go (leb header_bytes (length b)) (key_right b) (held (header_of b) (length b)) (checksum_right b (header_of b).size) e
  where
    go : (x y : Bool) (z : Res Extent) (w : Bool) → (require x 1 >>= λ _. require y 2 >>= λ _. z >>= λ _. require w 13 >>= λ _. ok (header_of b)) ≡ fail why
        → (require x 1 >>= λ _. require y 2 >>= λ _. z >>= λ _. ok (header_of b)) ≡ fail why
    go false y z w e = e
    go true false z w e = e
    go true true (fail r) w e = e
    go true true (ok x) true e = absurd (let z : ◌≡◌ {A = ℕ} 0 1 = cc in omega arith)
    go true true (ok x) false e = absurd (n (sym (ap (λ (r : Refusal). r.number) (fail-is e))))

header-refused-as-before : HeaderRefusedAsBefore
header-refused-as-before b why said c n = (
  (λ e. before-refused b why n (sym (header-call c) ∙ e)),
  (λ e. (header-call c ∙ refused-before b why e)),
)

header-as-before : HeaderAsBefore
header-as-before b h said c = (
  (λ e. let says : header_says b ≡ ok h = sym (header-call c) ∙ e in (unsummed b h says, header-summed b h says)),
  (λ p. (header-call c ∙ resummed b h p.0 p.1)),
)

module _ (b : List ℕ) (reuse : Bool) (old : List ℕ) (m : Meaning) where
  before : meaning b reuse old ≡ ok m → (unsummed_meaning b reuse old ≡ ok m) × (checksum_right b m.header.size ≡ true)
  unfolding unsummed_meaning meaning_from
  before e =
      let k = meaning-is b reuse old m e in
      (rw (unsummed b m.header k.header, k.mask, k.body), header-summed b m.header k.header)

  after : (unsummed_meaning b reuse old ≡ ok m) × (checksum_right b m.header.size ≡ true) → meaning b reuse old ≡ ok m
  unfolding unsummed_meaning meaning_from
  after (e, right) =
      let (h, p, e) = bind_is (unsummed_header b) _ e in
      let (f, q, e) = bind_is (mask_says (take h.size b) h reuse old) _ e in
      let (y, r, e) = bind_is (body_says (take h.size b) h (bytes_of f)) _ e in
      let is : record { header = h; mask = f; body = y } ≡ m = ok-is e in
      let right : checksum_right b h.size ≡ true = subst (λ (x : Meaning). checksum_right b x.header.size ≡ true) (sym is) right in
      means_is b reuse old m (rw (← is) (record { header = resummed b h p right; mask = q; body = r }))

meaning-as-before : MeaningAsBefore
meaning-as-before b reuse old m = (before b reuse old m, after b reuse old m)

-- where the checksum is right, a header is told as it was
told-alike : (b : List ℕ) → checksum_right b (header_of b).size ≡ true → header_says b ≡ unsummed_header b
unfolding header_says unsummed_header
told-alike b right = rw (right)

masked-alike : (b : List ℕ) (reuse : Bool) (l : Lent) → checksum_right b (header_of b).size ≡ true → masked b reuse l ≡ unsummed_masked b reuse l
unfolding masked unsummed_masked
masked-alike b reuse l right = rw (told-alike b right)

read_alike : (b : List ℕ) (reuse : Bool) (l : Lent) → checksum_right b (header_of b).size ≡ true → read_says b reuse l ≡ unsummed_read b reuse l
unfolding read_says unsummed_read
read_alike b reuse l right = rw (masked-alike b reuse l right)

read-as-before : ReadAsBefore
read-as-before b reuse said old new c right = (
  (read-call c).says ∙ ap (λ (x : Res Meaning). x >>= read_count) (read_alike b reuse old right),
  (read-call c).lent ∙ ap₂ (λ (x : Res Meaning) (k : Res Masked). read_after x k old) (read_alike b reuse old right) (masked-alike b reuse old right),
)

-- both are of one cell, and their checksum is computed
size-missed : SizeMissed
unfolding little mag less word fold sums_to closed_to with_last joined checksum error_right pair_right fields_right within_ceilings held key_right header_of checksum_right header_says size span climb
size-missed = (refl, refl)

pub claims : Summed
claims = record {
  laws = laws;
  witnesses = witnesses;
  header_refused = header_refused;
  read-refused = read-refused;
  read_keeps = read_keeps;
  header-summed = header-has;
  read-summed = read_has;
  zero-stored = zero-stored;
  one_word = one_word;
  size-missed = size-missed;
  header-as-before = header-as-before;
  header-refused-as-before = header-refused-as-before;
  meaning-as-before = meaning-as-before;
  read-as-before = read-as-before;
}
