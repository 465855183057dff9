-- Answers of staging, compared number by number: alike exactly where they are the same.
-- Assumes nothing.
use mathlib.Core.Path.{◌≡◌, refl, ap}
use mathlib.Core.Bool.{true, false}
use Prim.Native.Nat.{ℕ}
use native.Mathlib.Omega.{arith}
use lib.Dec.{eqb}
use lib.ListN.{length}
use borrow.Author.Tests.{eq-eqb, eqb-true}
use Rattle.lerc_words.specs.declared.Refusal.{Refusal}
use Rattle.lerc_words.specs.Res.{Res, ok, fail}
use Rattle.lerc_words.proofs.Binding.{and_is}
use Rattle.lerc_header.specs.declared.Header.{Header}
use Rattle.lerc_validity.specs.declared.Mask.{Mask}
use Rattle.lerc_validity.specs.declared.Mask.TheVariants as mask
use Rattle.lerc_validity.specs.Validity.{MaskInForce, reused, new}
use Rattle.lerc.specs.declared.BodyKind.{BodyKind}
use Rattle.lerc.specs.declared.BodyKind.TheVariants as kind
use Rattle.lerc.specs.declared.Staged.{Staged}
use Rattle.lerc.specs.Meaning.{Meaning}
use Rattle.lerc.specs.Stage.{mask_named, staged_of, same_header, kind_number, same_mask, same_staged, is_answer}

-- ---- the same are alike

self : (n : ℕ) → eqb n n ≡ true
self n = eq-eqb n n refl

header-self : (h : Header) → same_header h h ≡ true
header-self h = rw (
  self h.rows,
  self h.columns,
  self h.depth,
  self h.valid,
  self h.side,
  self h.size,
  self h.kind,
  self h.error,
  self h.min,
  self h.max,
  self h.mask,
)

mask-self : (f : MaskInForce) → same_mask (mask_named f) (mask_named f) ≡ true
mask-self (reused m) = self (length m)
mask-self (new m) = self (length m)

-- what staging tells of a meaning is its own answer
pub answer-self : (m : Meaning) → is_answer (ok (staged_of m)) (staged_of m) ≡ true
unfolding same_staged
answer-self m = rw (header-self m.header, self (kind_number (staged_of m).body), self (staged_of m).blocks, self (staged_of m).end, mask-self m.mask)

-- ---- and what is alike is the same

header-same : (a b : Header) → same_header a b ≡ true → a ≡ b
header-same a b e =
    let (e, mask) = and_is _ _ e in
    let (e, max) = and_is _ _ e in
    let (e, min) = and_is _ _ e in
    let (e, error) = and_is _ _ e in
    let (e, kind) = and_is _ _ e in
    let (e, size) = and_is _ _ e in
    let (e, side) = and_is _ _ e in
    let (e, valid) = and_is _ _ e in
    let (e, depth) = and_is _ _ e in
    let (rows, columns) = and_is _ _ e in
    let same : ◌≡◌ {A = Header} (record { rows = a.rows; columns = a.columns; depth = a.depth; valid = a.valid; side = a.side; size = a.size; kind = a.kind; error = a.error; min = a.min; max = a.max; mask = a.mask }) (record { rows = b.rows; columns = b.columns; depth = b.depth; valid = b.valid; side = b.side; size = b.size; kind = b.kind; error = b.error; min = b.min; max = b.max; mask = b.mask }) =
    rw (
      eqb-true a.rows b.rows rows,
      eqb-true a.columns b.columns columns,
      eqb-true a.depth b.depth depth,
      eqb-true a.valid b.valid valid,
      eqb-true a.side b.side side,
      eqb-true a.size b.size size,
      eqb-true a.kind b.kind kind,
      eqb-true a.error b.error error,
      eqb-true a.min b.min min,
      eqb-true a.max b.max max,
      eqb-true a.mask b.mask mask,
    ) in
    same

kind-same : (a b : BodyKind) → kind_number a ≡ kind_number b → a ≡ b
kind-same kind.Empty kind.Empty e = refl
kind-same kind.Empty kind.Constant e = absurd (omega arith)
kind-same kind.Empty kind.Raw e = absurd (omega arith)
kind-same kind.Empty kind.Blocks e = absurd (omega arith)
kind-same kind.Empty kind.Huffman e = absurd (omega arith)
kind-same kind.Constant kind.Empty e = absurd (omega arith)
kind-same kind.Constant kind.Constant e = refl
kind-same kind.Constant kind.Raw e = absurd (omega arith)
kind-same kind.Constant kind.Blocks e = absurd (omega arith)
kind-same kind.Constant kind.Huffman e = absurd (omega arith)
kind-same kind.Raw kind.Empty e = absurd (omega arith)
kind-same kind.Raw kind.Constant e = absurd (omega arith)
kind-same kind.Raw kind.Raw e = refl
kind-same kind.Raw kind.Blocks e = absurd (omega arith)
kind-same kind.Raw kind.Huffman e = absurd (omega arith)
kind-same kind.Blocks kind.Empty e = absurd (omega arith)
kind-same kind.Blocks kind.Constant e = absurd (omega arith)
kind-same kind.Blocks kind.Raw e = absurd (omega arith)
kind-same kind.Blocks kind.Blocks e = refl
kind-same kind.Blocks kind.Huffman e = absurd (omega arith)
kind-same kind.Huffman kind.Empty e = absurd (omega arith)
kind-same kind.Huffman kind.Constant e = absurd (omega arith)
kind-same kind.Huffman kind.Raw e = absurd (omega arith)
kind-same kind.Huffman kind.Blocks e = absurd (omega arith)
kind-same kind.Huffman kind.Huffman e = refl

mask-same : (a b : Res Mask) → same_mask a b ≡ true → a ≡ b
mask-same (ok (mask.Kept n)) (ok (mask.Kept k)) e = ap (λ (x : ℕ). ok (mask.Kept x)) (eqb-true n k e)
mask-same (ok (mask.Kept n)) (ok (mask.Spare k)) e = absurd (let z : ◌≡◌ {A = ℕ} 0 1 = cc in omega arith)
mask-same (ok (mask.Kept n)) (fail r) e = absurd (let z : ◌≡◌ {A = ℕ} 0 1 = cc in omega arith)
mask-same (ok (mask.Spare n)) (ok (mask.Kept k)) e = absurd (let z : ◌≡◌ {A = ℕ} 0 1 = cc in omega arith)
mask-same (ok (mask.Spare n)) (ok (mask.Spare k)) e = ap (λ (x : ℕ). ok (mask.Spare x)) (eqb-true n k e)
mask-same (ok (mask.Spare n)) (fail r) e = absurd (let z : ◌≡◌ {A = ℕ} 0 1 = cc in omega arith)
mask-same (fail r) b e = absurd (let z : ◌≡◌ {A = ℕ} 0 1 = cc in omega arith)

-- a refused mask is no other
pub mask-refused : (a : Res Mask) (r : Refusal) → same_mask a (fail r) ≡ false
mask-refused (ok (mask.Kept n)) r = refl
mask-refused (ok (mask.Spare n)) r = refl
mask-refused (fail q) r = refl

staged-same : (a b : Staged) → same_staged a b ≡ true → a ≡ b
unfolding same_staged
staged-same a b e =
    let (e, m) = and_is _ _ e in
    let (e, end) = and_is _ _ e in
    let (e, blocks) = and_is _ _ e in
    let (h, k) = and_is _ _ e in
    let same : ◌≡◌ {A = Staged} (record { header = a.header; body = a.body; blocks = a.blocks; end = a.end; mask = a.mask }) (record { header = b.header; body = b.body; blocks = b.blocks; end = b.end; mask = b.mask }) =
    rw (
      header-same a.header b.header h,
      kind-same a.body b.body (eqb-true (kind_number a.body) (kind_number b.body) k),
      eqb-true a.blocks b.blocks blocks,
      eqb-true a.end b.end end,
      mask-same a.mask b.mask m,
    ) in
    same

pub answer-is : (a : Res Staged) (b : Staged) → is_answer a b ≡ true → a ≡ ok b
answer-is (ok a) b e = ap ok (staged-same a b e)
answer-is (fail r) b e = absurd (let z : ◌≡◌ {A = ℕ} 0 1 = cc in omega arith)
