-- How an accepted plan was read, and what follows from it.
-- Assumes nothing.
use mathlib.Core.Path.{◌≡◌, refl, sym, ap, ◌∙◌}
use mathlib.Core.Bool.{Bool, true, false, cond, ◌&&◌}
use mathlib.Core.List.{List}
use Prim.Native.Nat.{ℕ, ◌+◌, ◌-◌, ◌/◌, ◌%◌, ◌≤◌, ◌<◌}
use native.Mathlib.Omega.{arith}
use borrow.Author.Tests.{ltb-true, leb-true, le-leb, eqb-true, eqb-false}
use lib.Dec.{ltb, leb, eqb}
use lib.ListN.{length}
use Rattle.lerc_words.specs.Res.{ok, fail, refuse, require, word_at}
use Rattle.lerc_words.proofs.Binding.{bind_is, require-is, and_is}
use Rattle.lerc_words.proofs.Little.{Bytes, byte-lt}
use Rattle.lerc_bits.specs.declared.Plan.{Plan}
use Rattle.lerc_bits.specs.Bits.{run_bytes, index_width, count_bytes, plain_plan, table_plan, fits, tabled, plan, unpacked, keeps, counts_by, counts, PlanKept}
use Rattle.lerc_bits.proofs.IndexWidth.{index-least}
use Rattle.lerc_bits.proofs.Returns.{Headed, fits-ok, tabled-more, plan-plain, plan-tabled, counts-by}

-- by the first byte h, what follows at `to` is a run, or a table and a run
pub data Laid (s : List ℕ) (to h n : ℕ) (p : Plan) : Type 0 where
  laid-plain : h / 32 % 2 ≡ 0 → p ≡ plain_plan n (h % 32) to → Laid s to h n p
  laid_table : (entries : ℕ) → (h / 32 % 2 ≡ 0 → ⊥) → 0 < h % 32 → word_at 1 s to ≡ ok entries → 2 ≤ entries → p ≡ table_plan n (h % 32) entries (to + 1) → Laid s to h n p

pub record Planned (s : List ℕ) (at : ℕ) (p : Plan) : Type 0 where
  pub h : ℕ
  pub n : ℕ
  pub headed : Headed s at h n
  pub few : n ≤ 256
  pub laid : Laid s (at + 1 + count_bytes h) h n p
  pub inside : p.next ≤ length s

-- what was read so is accepted
pub planned : (s : List ℕ) (at : ℕ) {p : Plan} → Planned s at p → plan s at ≡ ok p
planned s at {p} g = go g.laid
  where
    go : Laid s (at + 1 + count_bytes g.h) g.h g.n p → plan s at ≡ ok p
    go (laid-plain t e) = plan-plain s at g.h g.n g.headed g.few t ∙ ap (fits (length s)) (sym e) ∙ fits-ok (length s) p g.inside
    go (laid_table v t b w m e) =
        plan-tabled s at g.h g.n g.headed g.few t ∙ tabled-more s _ g.n (g.h % 32) v b w m ∙ ap (fits (length s)) (sym e) ∙ fits-ok (length s) p g.inside

fits-is : (len : ℕ) (q : Plan) {p : Plan} → fits len q ≡ ok p → (p ≡ q) × (p.next ≤ len)
fits-is len q {p} e =
    let b = bind_is (require (leb q.next len) 1) _ e in
    let d : q ≡ p = cc in
    (sym d, rw (← d) (leb-true _ _ (require-is _ 1 b.1)))

tabled-is : (s : List ℕ) (to h n : ℕ) {p : Plan} → (h / 32 % 2 ≡ 0 → ⊥) → tabled s to n (h % 32) ≡ ok p → Laid s to h n p × (p.next ≤ length s)
unfolding tabled
tabled-is s to h n t e =
    let b = bind_is (require (ltb 0 (h % 32)) 8) _ e in
    let b1 = bind_is (word_at 1 s to) _ b.2 in
    let b2 = bind_is (require (leb 2 b1.0) 8) _ b1.2 in
    let f = fits-is (length s) (table_plan n (h % 32) b1.0 (to + 1)) b2.2 in
    (laid_table b1.0 t (ltb-true _ _ (require-is _ 8 b.1)) b1.1 (leb-true _ _ (require-is _ 8 b2.1)) f.0, f.1)

-- and each accepted plan was read so
pub plan-is : (s : List ℕ) (at : ℕ) {p : Plan} → plan s at ≡ ok p → Planned s at p
unfolding plan
plan-is s at {p} e =
    let b = bind_is (word_at 1 s at) _ e in
    let h = b.0 in
    let b1 = bind_is (require (ltb (h / 64) 3) 8) _ b.2 in
    let b2 = bind_is (word_at (count_bytes h) s (at + 1)) _ b1.2 in
    let n = b2.0 in
    let b3 = bind_is (require (leb n 256) 8) _ b2.2 in
    let g : Headed s at h n = record { first = b.1; known = ltb-true _ _ (require-is _ 8 b1.1); second = b2.1 } in
    let to = at + 1 + count_bytes h in
    let l = go h n to (eqb (h / 32 % 2) 0) refl b3.2 in
    record { h = h; n = n; headed = g; few = leb-true _ _ (require-is _ 8 b3.1); laid = l.0; inside = l.1 }
  where
    go : (h n to : ℕ) (t : Bool) → eqb (h / 32 % 2) 0 ≡ t → cond t (fits (length s) (plain_plan n (h % 32) to)) (tabled s to n (h % 32)) ≡ ok p
        → Laid s to h n p × (p.next ≤ length s)
    go h n to true t e = let f = fits-is (length s) (plain_plan n (h % 32) to) e in (laid-plain (eqb-true _ _ t) f.0, f.1)
    go h n to false t e = tabled-is s to h n (eqb-false _ _ t) e

-- ---- what every plan keeps to

-- what the layout alone fixes
pub record Spread (to bits n : ℕ) (p : Plan) : Type 0 where
  pub starts : to ≤ p.table
  pub first : p.table + run_bytes (p.entries - 1) p.bits ≤ p.at
  pub second : p.at + run_bytes p.n p.width ≡ p.next
  pub few : p.n ≡ n
  pub narrow : p.bits ≡ bits
  pub plainly : p.entries ≡ 0 → p.width ≡ p.bits

pub laid-spread : {s : List ℕ} {to h n : ℕ} {p : Plan} → Laid s to h n p → Spread to (h % 32) n p
laid-spread (laid-plain t e) = rw (e) (record { starts = omega arith; first = omega arith; second = refl; few = refl; narrow = refl; plainly = λ z. refl })
laid-spread (laid_table v t b w m e) = rw (e) (record { starts = omega arith; first = omega arith; second = refl; few = refl; narrow = refl; plainly = λ z. absurd (omega arith) })

-- its runs start behind `at`, and end within
pub plan-ends : (s : List ℕ) (at : ℕ) {p : Plan} → plan s at ≡ ok p → (at < p.table) × (p.table ≤ p.at) × (p.at ≤ p.next) × (p.next ≤ length s)
plan-ends s at e =
    let g = plan-is s at e in
    let l = laid-spread g.laid in
    (omega arith, omega arith, omega arith, g.inside)

-- it has at most 256 values, of at most 31 bits
pub plan-few : (s : List ℕ) (at : ℕ) {p : Plan} → plan s at ≡ ok p → (p.n ≤ 256) × (p.bits ≤ 31)
plan-few s at e =
    let g = plan-is s at e in
    let l = laid-spread g.laid in
    (omega arith, omega arith)

laid-narrow : {s : List ℕ} {to h n : ℕ} {p : Plan} → Bytes s → Laid s to h n p → (p.entries ≤ 255) × (p.width ≤ 31)
laid-narrow y (laid-plain t e) = rw (e) (omega arith, omega arith)
laid-narrow {s} {to} y (laid_table v t b w m e) =
    let l = byte-lt s to v y w in
    let k : index_width v ≤ 8 = index-least v 8 (omega arith) (omega arith) in
    rw (e) (omega arith, omega arith)

pub plan-kept : (s : List ℕ) (at : ℕ) {p : Plan} → Bytes s → plan s at ≡ ok p → PlanKept (length s) p
plan-kept s at y e =
    let f = plan-few s at e in
    let l = laid-narrow y (plan-is s at e).laid in
    let d = plan-ends s at e in
    record { few = f.0; narrow = f.1; slim = l.1; short = l.0; tabled = d.1; begun = d.2; inside = d.3 }

-- ---- counts by a plan

and-four : (a b c d : Bool) → (a && b && c && d) ≡ true → (a ≡ true) × (b ≡ true) × (c ≡ true) × (d ≡ true)
and-four a b c d e =
    let f = and_is (a && b && c) d e in
    let g = and_is (a && b) c f.0 in
    let h = and_is a b g.0 in
    (h.0, h.1, g.1, f.1)

module _ (len : ℕ) (p : Plan) where
  pub keeps-kept : keeps len p ≡ true → PlanKept len p
  unfolding keeps
  keeps-kept e =
      let sized = leb p.n 256 && leb p.bits 31 && leb p.width 31 && leb p.entries 255 in
      let placed = leb p.table p.at && leb p.at p.next && leb p.next len in
      let b = and_is sized placed e in
      let f = and-four (leb p.n 256) (leb p.bits 31) (leb p.width 31) (leb p.entries 255) b.0 in
      let g = and_is (leb p.table p.at && leb p.at p.next) (leb p.next len) b.1 in
      let h = and_is (leb p.table p.at) (leb p.at p.next) g.0 in
      record { few = leb-true _ _ f.0; narrow = leb-true _ _ f.1; slim = leb-true _ _ f.2; short = leb-true _ _ f.3; tabled = leb-true _ _ h.0; begun = leb-true _ _ h.1; inside = leb-true _ _ g.1 }

  pub kept-keeps : PlanKept len p → keeps len p ≡ true
  unfolding keeps
  kept-keeps k =
      rw (le-leb _ _ k.few, le-leb _ _ k.narrow, le-leb _ _ k.slim, le-leb _ _ k.short, le-leb _ _ k.tabled, le-leb _ _ k.begun, le-leb _ _ k.inside)

module _ (s : List ℕ) (p : Plan) where
  pub by-broken : keeps (length s) p ≡ false → counts_by s p ≡ fail (refuse 8)
  unfolding counts_by
  by-broken e = rw (e)

  pub by-kept : PlanKept (length s) p → counts_by s p ≡ unpacked s p
  unfolding counts_by
  by-kept k = rw (kept-keeps (length s) p k)

-- the counts of a plan that was found are those by it
pub counts-by-plan : (s : List ℕ) (at : ℕ) {p : Plan} → Bytes s → plan s at ≡ ok p → counts s at ≡ counts_by s p
counts-by-plan s at {p} y e = counts-by s at e ∙ sym (by-kept s p (plan-kept s at y e))
