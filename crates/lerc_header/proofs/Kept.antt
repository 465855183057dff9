-- What a header that is held keeps.
-- Assumes nothing.
use Prim.Native.Nat.{ℕ, ◌*◌, ◌^◌, ◌≤◌, ◌<◌}
use mathlib.Core.Path.{◌≡◌, ◌∙◌, sym, ap, refl}
use mathlib.Core.Bool.{Bool, true, false, ◌&&◌}
use mathlib.Core.List.{List}
use native.Mathlib.Omega.{arith}
use native.Mathlib.Nat.{mul-le-mul}
use lib.ListN.{length}
use lib.Dec.{leb}
use borrow.Author.Tests.{ltb-true, leb-true, le-leb}
use Rattle.lerc_words.specs.declared.Refusal.{Refusal}
use Rattle.lerc_words.specs.Res.{ok, fail, ◌>>=◌, require}
use Rattle.lerc_words.proofs.Binding.{bind_is, bind-fail, ok-is, require-is}
use Rattle.lerc_header.specs.declared.Header.{Header}
use Rattle.lerc_header.specs.declared.Extent.{Extent}
use Rattle.lerc_header.specs.Limits.{sideways, depth_limit, side_limit, cell_limit, size_limit}
use Rattle.lerc_header.specs.Shape.{pixels, Shaped}
use Rattle.lerc_header.specs.Header.{header_bytes, key_right, shape_of, ranges_at, error_right, pair_right, fields_right, within_ceilings, extent_of, held, header_of, checksum_right, header_says, Opened, open_says}

-- both of two tests hold
both : (a b : Bool) → (a && b) ≡ true → (a ≡ true) × (b ≡ true)
both true b e = (refl, e)
both false b e = absurd (let z : ◌≡◌ {A = ℕ} 0 1 = cc in omega arith)

-- the factors are small, so the product does not wrap
pub factors-fit : (a b c : ℕ) → (leb a sideways && leb b sideways && leb c depth_limit) ≡ true → a * b * c < 2 ^ 64
factors-fit a b c e =
    let (e, z) = both _ _ e in
    let (x, y) = both _ _ e in
    let m : a * b * c ≤ sideways * sideways * depth_limit = mul-le-mul (mul-le-mul (leb-true _ _ x) (leb-true _ _ y)) (leb-true _ _ z) in
    omega arith

-- the rules of refusal 3, each by itself
pub record Right (h : Header) : Type 0 where
  pub rows : 0 < h.rows
  pub columns : 0 < h.columns
  pub depth : 0 < h.depth
  pub side : 0 < h.side
  pub valid : h.valid ≤ pixels (shape_of h)
  pub kind : h.kind ≤ 7
  pub error : error_right h.error ≡ true
  pub pair : pair_right h.min h.max ≡ true
  pub size : ranges_at h ≤ h.size

-- the ceilings
pub record CeilingsKept (h : Header) : Type 0 where
  pub rows : h.rows ≤ sideways
  pub columns : h.columns ≤ sideways
  pub depth : h.depth ≤ depth_limit
  pub cells : h.rows * h.columns * h.depth ≤ cell_limit
  pub side : h.side ≤ side_limit
  pub size : h.size ≤ size_limit

pub fields-right : (h : Header) → fields_right h ≡ true → Right h
unfolding fields_right
fields-right h e =
    let (e, size) = both _ _ e in
    let (e, pair) = both _ _ e in
    let (e, error) = both _ _ e in
    let (e, kind) = both _ _ e in
    let (e, valid) = both _ _ e in
    let (e, side) = both _ _ e in
    let (e, depth) = both _ _ e in
    let (rows, columns) = both _ _ e in
    record {
      rows = ltb-true _ _ rows;
      columns = ltb-true _ _ columns;
      depth = ltb-true _ _ depth;
      side = ltb-true _ _ side;
      valid = leb-true _ _ valid;
      kind = leb-true _ _ kind;
      error = error;
      pair = pair;
      size = leb-true _ _ size;
    }

pub within-ceilings : (h : Header) → within_ceilings h ≡ true → CeilingsKept h
unfolding within_ceilings
within-ceilings h e =
    let (e, size) = both _ _ e in
    let (e, side) = both _ _ e in
    let (e, cells) = both _ _ e in
    let (e, depth) = both _ _ e in
    let (rows, columns) = both _ _ e in
    record {
      rows = leb-true _ _ rows;
      columns = leb-true _ _ columns;
      depth = leb-true _ _ depth;
      cells = leb-true _ _ cells;
      side = leb-true _ _ side;
      size = leb-true _ _ size;
    }

pub shaped : (h : Header) → Right h → CeilingsKept h → Shaped (shape_of h)
shaped h r w =
    record { rows = (r.rows, w.rows); columns = (r.columns, w.columns); depth = (r.depth, w.depth); side = (r.side, w.side); few = w.cells }

-- a header that a slice of n bytes is read by
pub record HeaderKept (h : Header) (n : ℕ) (e : Extent) : Type 0 where
  pub right : Right h
  pub within : CeilingsKept h
  pub fits : h.size ≤ n
  pub extent : e ≡ extent_of h

pub held_kept : (h : Header) (n : ℕ) {e : Extent} → held h n ≡ ok e → HeaderKept h n e
unfolding held
held_kept h n p =
    let (_, t3, p) = bind_is _ _ p in
    let (_, t4, p) = bind_is _ _ p in
    let (_, t1, p) = bind_is _ _ p in
    record {
      right = fields-right h (require-is _ _ t3);
      within = within-ceilings h (require-is _ _ t4);
      fits = leb-true _ _ (require-is _ _ t1);
      extent = cc;
    }

module _ (h : Header) (n : ℕ) {e : Extent} (p : held h n ≡ ok e) where
  pub held-shaped : Shaped (shape_of h)
  held-shaped = shaped h (held_kept h n p).right (held_kept h n p).within

  pub held-is : e ≡ extent_of h
  held-is = (held_kept h n p).extent

  pub held-size : (ranges_at h ≤ h.size) × (h.size ≤ n) × (h.size ≤ size_limit)
  held-size = ((held_kept h n p).right.size, (held_kept h n p).fits, (held_kept h n p).within.size)

  pub held-valid : h.valid ≤ pixels (shape_of h)
  held-valid = (held_kept h n p).right.valid

  pub held-kind : h.kind ≤ 7
  held-kind = (held_kept h n p).right.kind

  pub held-pair : pair_right h.min h.max ≡ true
  held-pair = (held_kept h n p).right.pair

-- a header that one slice holds, each slice holds that is as long as its blob
pub held-own : (h : Header) (n k : ℕ) {e : Extent} → held h n ≡ ok e → h.size ≤ k → held h k ≡ ok e
unfolding held
held-own h n k p l =
    let (_, t3, p) = bind_is (require (fields_right h) 3) _ p in
    let (_, t4, p) = bind_is (require (within_ceilings h) 4) _ p in
    let (_, t1, p) = bind_is (require (leb h.size n) 1) _ p in
    rw (require-is (fields_right h) 3 t3, require-is (within_ceilings h) 4 t4, le-leb h.size k l) p

-- a header that was read is the blob's own, and held
pub header-held : (b : List ℕ) (h : Header) → header_says b ≡ ok h → (h ≡ header_of b) × (held h (length b) ≡ ok (extent_of h))
unfolding header_says
header-held b h p =
    let (_, t1, p) = bind_is (require (leb header_bytes (length b)) 1) _ p in
    let (_, t2, p) = bind_is (require (key_right b) 2) _ p in
    let (e, q, p) = bind_is (held (header_of b) (length b)) _ p in
    let (_, t13, p) = bind_is (require (checksum_right b (header_of b).size) 13) _ p in
    let is : h ≡ header_of b = cc in
    (is, rw (is) (q ∙ ap ok (held-is (header_of b) (length b) q)))

-- and so is the checksum of the blob's own bytes
pub header-summed : (b : List ℕ) (h : Header) → header_says b ≡ ok h → checksum_right b h.size ≡ true
unfolding header_says
header-summed b h p =
    let is = (header-held b h p).0 in
    let (_, t1, p) = bind_is (require (leb header_bytes (length b)) 1) _ p in
    let (_, t2, p) = bind_is (require (key_right b) 2) _ p in
    let (_, t3, p) = bind_is (held (header_of b) (length b)) _ p in
    let (_, t13, p) = bind_is (require (checksum_right b (header_of b).size) 13) _ p in
    rw (is) (require-is _ _ t13)

-- ---- a blob that was opened

abbrev sized : Header → Opened
sized h = record { header = h; extent = extent_of h }

-- a header that is held: the checksum is all that is left to be told
pub open-summed : (b : List ℕ) (h : Header) (e : Extent) (t : Bool) → header_bytes ≤ length b → key_right b ≡ true → h ≡ header_of b → held h (length b) ≡ ok e → checksum_right b e.size ≡ t
    → open_says b ≡ (require t 13 >>= λ _. ok (record { header = h; extent = e }))
unfolding header_says open_says
open-summed b h e t few key is kept told =
    let size : h.size ≡ e.size = sym (ap (λ (x : Extent). x.size) (held-is h (length b) kept)) in
    rw (le-leb _ _ few, key, ← is, kept) (go t (ap (checksum_right b) size ∙ told))
  where
    go : (x : Bool) → checksum_right b h.size ≡ x
        → ((require (checksum_right b h.size) 13 >>= λ _. ok h) >>= λ (g : Header). ok (sized g)) ≡ (require x 13 >>= λ _. ok (record { header = h; extent = e }))
    go true y = rw (y, held-is h (length b) kept)
    go false y = rw (y)

module _ (b : List ℕ) where
  pub open_no : {r : Refusal} → open_says b ≡ fail r → header_says b ≡ fail r
  unfolding open_says
  open_no e = bind-fail (header_says b) _ e

  pub open-ok : {o : Opened} → open_says b ≡ ok o → (header_says b ≡ ok o.header) × (o.extent ≡ extent_of o.header)
  unfolding open_says
  open-ok e =
      let (h, p, q) = bind_is (header_says b) _ e in
      rw (← ok-is q) (p, refl)

  pub open-header : {o : Opened} → open_says b ≡ ok o → header_says b ≡ ok o.header
  open-header e = (open-ok e).0
