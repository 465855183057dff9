-- One law for each answer of the functions that compare a mask with what the spare holds.
-- Assumes nothing.
use mathlib.Core.Path.{◌≡◌, ◌∙◌, sym, ap, refl}
use mathlib.Core.Bool.{Bool, true, false}
use mathlib.Core.List.{List}
use Prim.Native.Nat.{ℕ, ◌≤◌}
use native.Mathlib.Omega.{arith}
use lib.Dec.{eqb}
use lib.ListN.{length, take, drop}
use Rattle.lerc_words.specs.declared.Refusal.{Refusal}
use Rattle.lerc_words.specs.Res.{Res, ok, fail, ◌>>=◌, marked, accepts, require}
use Rattle.lerc_words.proofs.Marking.{Bare, unmarked, marked-tells}
use Rattle.lerc_slices.specs.Slices.{begins_with, accepts_with}
use Rattle.lerc_slices.proofs.Begins.{begins-over, over-begins}
use Rattle.lerc_header.specs.declared.Header.{Header}
use Rattle.lerc_header.specs.Header.{shape_of, header_bytes}
use Rattle.lerc_header.specs.Shape.{pixels, mask_length}
use Rattle.lerc_mask.specs.declared.compared.RunsFound.{RunsFound}
use Rattle.lerc_mask.specs.Mask.{valid_below, mask_field, coded, decoded, RunsCompared}
use Rattle.lerc_mask.proofs.Runs.{coded-bare, decoded-coded}
use Rattle.lerc_validity.specs.declared.Mask.TheVariants.{Kept, Spare}
use Rattle.lerc_validity.specs.declared.compared.MaskFound.{MaskFound}
use Rattle.lerc_validity.specs.Validity.{MaskInForce, reused, new, kept, unrolled, holds_mask, MaskTold, told, which, Prepared, Compared}

-- ---- the promise, for each answer

pub compared-no : {m : Res MaskInForce} {r : Refusal} {spare : List ℕ} → m ≡ fail r → Compared m (fail r) spare
compared-no e = rw e (record { says = refl })

pub compared-new : {m : Res MaskInForce} (bytes : List ℕ) (n : ℕ) {t : Bool} {spare : List ℕ} → m ≡ ok (new bytes) → length bytes ≡ n → t ≡ begins_with bytes spare → Compared m (ok (record { mask = Spare n; same = t })) spare
compared-new bytes n e l d = rw (e, d) (record { says = rw (l) })

-- with a place on the answer
pub compared_at : {m : Res MaskInForce} {r q : Res MaskFound} (p : ℕ) {spare : List ℕ} → Compared m r spare → q ≡ marked p r → Compared (marked p m) q spare
compared_at {m} p {spare} d e = record { says = e ∙ ap (marked p) d.says ∙ marked-tells p m (λ f. record { mask = told f; same = holds_mask f spare }) }

-- ---- the kept mask

-- a kept mask is a reused one, and the spare need not hold it
pub kept-compared : (h : Header) (reuse : Bool) (old spare : List ℕ) {w : MaskTold} → Prepared (kept h reuse old) (ok w) spare spare → Compared (kept h reuse old) (ok (record { mask = w; same = true })) spare
unfolding kept
kept-compared h reuse old spare {w} p = record { says = go reuse (eqb (valid_below (pixels (shape_of h)) m) h.valid) p.says }
  where
    m : List ℕ
    m = take (mask_length (shape_of h)) old

    made : Bool → Bool → Res MaskInForce
    made a b = require a 6 >>= λ _. require b 6 >>= λ _. ok (reused m)

    go : (a b : Bool) → ok w ≡ (made a b >>= which) → ok {A = MaskFound} (record { mask = w; same = true }) ≡ (made a b >>= λ f. ok (record { mask = told f; same = holds_mask f spare }))
    go true true e = let z : w ≡ Kept (length m) = cc in rw (z)
    go true false e = absurd (let z : ◌≡◌ {A = ℕ} 0 1 = cc in omega arith)
    go false b e = absurd (let z : ◌≡◌ {A = ℕ} 0 1 = cc in omega arith)

-- ---- a mask of runs

-- what is told of runs, with the place taken off
runs-bare : (p : ℕ) (m : Res (List ℕ)) → Bare m → (a : Res RunsFound) {spare : List ℕ} → RunsCompared (marked p m) a spare
    → marked 0 a ≡ (m >>= λ bytes. ok (record { length = length bytes; same = begins_with bytes spare }))
runs-bare p m i a {spare} u =
    ap (marked 0) u.says ∙ marked-tells 0 (marked p m) (λ bytes. record { length = length bytes; same = begins_with bytes spare })
    ∙ ap (λ (x : Res (List ℕ)). x >>= λ bytes. ok (record { length = length bytes; same = begins_with bytes spare })) (unmarked p m ∙ i)

runs-compared : (m : Res (List ℕ)) (r : Res RunsFound) {spare : List ℕ} → r ≡ (m >>= λ bytes. ok (record { length = length bytes; same = begins_with bytes spare }))
    → Compared (m >>= λ bytes. ok (new bytes)) (r >>= λ x. ok (record { mask = Spare x.length; same = x.same })) spare
runs-compared (ok bytes) r e = rw (e) (record { says = refl })
runs-compared (fail q) r e = rw (e) (record { says = refl })

pub unroll-compared : (s : List ℕ) (h : Header) (room : ℕ) (a : Res RunsFound) {r : Res RunsFound} {spare : List ℕ} → mask_length (shape_of h) ≤ room
    → RunsCompared (decoded (take h.mask (drop header_bytes s)) (pixels (shape_of h)) h.valid room) a spare → r ≡ marked 0 a
    → Compared (unrolled s h) (r >>= λ x. ok (record { mask = Spare x.length; same = x.same })) spare
unfolding unrolled
unroll-compared s h room a {r} l u e =
    let t = take h.mask (drop header_bytes s) in
    let m = coded t (pixels (shape_of h)) h.valid in
    runs-compared m r (e ∙ runs-bare mask_field m (coded-bare t (pixels (shape_of h)) h.valid) a (rw (decoded-coded t (pixels (shape_of h)) h.valid room l) at u))

-- ---- beside preparing

-- a spare that holds the mask is as preparing would leave it
pub same-prepared : (m : Res MaskInForce) {a : MaskFound} (spare : List ℕ) → Compared m (ok a) spare → a.same ≡ true → Prepared m (ok a.mask) spare spare
same-prepared m {a} spare c e = go m c.says
  where
    go : (n : Res MaskInForce) → ok a ≡ (n >>= λ f. ok (record { mask = told f; same = holds_mask f spare })) → Prepared n (ok a.mask) spare spare
    go (ok (reused b)) d = let z : a ≡ record { mask = Kept (length b); same = true } = cc in rw (z) (record { says = refl; spare = refl })
    go (ok (new b)) d =
        let z : a ≡ record { mask = Spare (length b); same = begins_with b spare } = cc in
        let h : begins_with b spare ≡ true = sym (ap (λ (x : MaskFound). x.same) z) ∙ e in
        record { says = ap (λ (x : MaskFound). ok x.mask) z; spare = sym (over-begins b spare h) }
    go (fail r) d = absurd (let z : ◌≡◌ {A = ℕ} 0 1 = cc in omega arith)

-- and what preparing leaves holds it
pub prepared-holds : (m : Res MaskInForce) {r : Res MaskTold} {old newer : List ℕ} → Prepared m r old newer → accepts_with m (λ f. holds_mask f newer) ≡ accepts m
prepared-holds (ok (reused b)) p = refl
prepared-holds (ok (new b)) {old = old} p = ap (begins_with b) p.spare ∙ begins-over b old
prepared-holds (fail r) p = refl
