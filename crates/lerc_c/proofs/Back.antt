-- What one entry writes into a record, another takes out of it again.
-- Assumes nothing.
use Prim.Native.Nat.{ℕ, ◌^◌}
use mathlib.Core.Path.{◌≡◌, refl, subst, ap}
use mathlib.Core.Bool.{Bool, true, false, cond}
use mathlib.Core.List.{List, ◌++◌, append_assoc}
use lib.ListN.{length, take, drop}
use lib.Dec.{leb, ltb, eqb}
use borrow.Author.Tests.{lt-ltb}
use lib.Seq.{take_at, drop_at}
use Rattle.lerc_words.specs.Res.{ok, require, little, Res}
use Rattle.lerc_words.specs.Lists.{over}
use Rattle.lerc_words.proofs.Binding.{bind_is, ok-is}
use Rattle.lerc_words.proofs.Little.{Bytes, little-lt}
use Rattle.lerc_header.specs.Header.{header_bytes, key_right, held, header_of, checksum_right, header_says}
use Rattle.lerc_header.specs.declared.Header.{Header}
use Rattle.lerc_header.specs.Limits.{depth_limit}
use Rattle.lerc_ranges.specs.declared.Ranges.{Ranges}
use Rattle.lerc_validity.specs.Validity.{MaskInForce, reused, new, mask_says, MaskTold}
use Rattle.lerc.specs.declared.BodyKind.{BodyKind}
use Rattle.lerc.specs.declared.BodyKind.TheVariants as kind
use Rattle.lerc.specs.Meaning.{Meaning}
use Rattle.lerc.specs.Read.{Lent, room, Masked, masked, read_says}
use Rattle.lerc.specs.Stage.{kind_number, mask_named, staged_of}
use Rattle.lerc.proofs.Both.{read-masked}
use Rattle.lerc_c.specs.Records.{header_numbers, narrow, fields_fit, header_from, ranges_numbers, ranges_from, mask_number, mask_length, staged_numbers, kind_from, mask_from, names_right, staged_in, staged_from}

pub header-back : (h : Header) (l : List ℕ) → fields_fit (header_numbers h) ≡ true → header_from (over (header_numbers h) l) ≡ ok h
unfolding header_from fields_fit
header-back h l e = let t : fields_fit (over (header_numbers h) l) ≡ true = e in rw (t)

four-fit : (b : List ℕ) (at : ℕ) → Bytes b → narrow (little 4 b at) ≡ true
four-fit b at p = lt-ltb (little 4 b at) (2 ^ 32) (little-lt 4 b at p)

-- each field of the header of a blob of bytes holds its number
header-fit : (b : List ℕ) {h : Header} → Bytes b → header_says b ≡ ok h → fields_fit (header_numbers h) ≡ true
unfolding header_says header_of fields_fit
header-fit b {h} p e =
    let (_, _, e) = bind_is (require (leb header_bytes (length b)) 1) _ e in
    let (_, _, e) = bind_is (require (key_right b) 2) _ e in
    let (_, _, e) = bind_is (held (header_of b) (length b)) _ e in
    let (_, _, e) = bind_is (require (checksum_right b (header_of b).size) 13) _ e in
    let d : header_of b ≡ h = ok-is e in
    let f : fields_fit (header_numbers (header_of b)) ≡ true = rw (four-fit b 14 p, four-fit b 18 p, four-fit b 22 p, four-fit b 26 p, four-fit b 30 p, four-fit b 34 p, four-fit b 38 p, four-fit b 66 p) in
    subst (λ (x : Header). fields_fit (header_numbers x) ≡ true) d f

-- so the header that was read from a blob of bytes comes back
pub header-kept : (b l : List ℕ) {h : Header} → Bytes b → header_says b ≡ ok h → header_from (over (header_numbers h) l) ≡ ok h
header-kept b l {h} p e = header-back h l (header-fit b p e)

mark-fits : (c : Bool) → ltb (cond c 1 0) 2 ≡ true
mark-fits true = refl
mark-fits false = refl

mark-back : (c : Bool) → eqb (cond c 1 0) 1 ≡ c
mark-back true = refl
mark-back false = refl

pub ranges-back : (r : Ranges) (l : List ℕ) → length r.min ≡ depth_limit → length r.max ≡ depth_limit → ranges_from (over (ranges_numbers r) l) ≡ ok r
unfolding ranges_from
ranges-back r l p q =
    let rest : List ℕ = drop (length (ranges_numbers r)) l in
    let low : take depth_limit (r.min ++ r.max ++ rest) ≡ r.min = rw (append_assoc r.min r.max rest) (take_at r.min (r.max ++ rest) depth_limit p) in
    let behind : drop depth_limit (r.min ++ r.max ++ rest) ≡ r.max ++ rest = rw (append_assoc r.min r.max rest) (drop_at r.min (r.max ++ rest) depth_limit p) in
    rw (mark-fits r.constant, mark-back r.constant, low, behind, take_at r.max rest depth_limit q)

-- ---- an answer of staging

kind_fits : (k : BodyKind) → ltb (kind_number k) 5 ≡ true
kind_fits kind.Empty = refl
kind_fits kind.Constant = refl
kind_fits kind.Raw = refl
kind_fits kind.Blocks = refl
kind_fits kind.Huffman = refl

kind-back : (k : BodyKind) → kind_from (kind_number k) ≡ k
unfolding kind_from
kind-back kind.Empty = refl
kind-back kind.Constant = refl
kind-back kind.Raw = refl
kind-back kind.Blocks = refl
kind-back kind.Huffman = refl

-- it names the kept mask or the spare, and so does its record
record Named (m : Res MaskTold) : Type 0 where
  some : ltb 0 (mask_number m) ≡ true
  few : ltb (mask_number m) 3 ≡ true
  back : ok (mask_from (mask_number m) (mask_length m)) ≡ m

named : (f : MaskInForce) → Named (mask_named f)
unfolding mask_from
named (reused m) = record { some = refl; few = refl; back = refl }
named (new m) = record { some = refl; few = refl; back = refl }

-- the record of what is staged of a meaning stands for just that
pub staged-back : (m : Meaning) (l : List ℕ) → fields_fit (header_numbers m.header) ≡ true → staged_from (over (staged_numbers (staged_of m)) l) ≡ ok (staged_of m)
unfolding staged_in header_from fields_fit names_right
staged-back m l e =
    let t : fields_fit (over (staged_numbers (staged_of m)) l) ≡ true = e in
    let s = staged_of m in
    let n = named m.mask in
    rw (t, kind_fits s.body, n.some, n.few, kind-back s.body, n.back)

-- the header of what was read as far as the mask
masked-header : (b : List ℕ) (reuse : Bool) (l : Lent) {k : Masked} → masked b reuse l ≡ ok k → header_says b ≡ ok k.header
unfolding masked
masked-header b reuse l {k} e =
    let (h, p, e) = bind_is (header_says b) _ e in
    let (_, _, e) = bind_is (require (room h l) 5) _ e in
    let (f, _, e) = bind_is (mask_says (take h.size b) h reuse l.kept) _ e in
    subst (λ (x : Header). header_says b ≡ ok x) (ap (λ (x : Masked). x.header) (ok-is e)) p

-- so what staging a blob of bytes writes is its answer again
pub staged-kept : (b : List ℕ) (reuse : Bool) (l : Lent) (rest : List ℕ) {m : Meaning} → Bytes b → read_says b reuse l ≡ ok m
    → staged_from (over (staged_numbers (staged_of m)) rest) ≡ ok (staged_of m)
staged-kept b reuse l rest {m} p e = staged-back m rest (header-fit b p (masked-header b reuse l (read-masked b reuse l e)))
