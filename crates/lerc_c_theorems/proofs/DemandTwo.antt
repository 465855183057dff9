-- Demand 2 for C, proved.
-- Assumes nothing.
use mathlib.Core.Path.{◌≡◌, ◌∙◌, sym, ap, refl}
use mathlib.Core.Logic.{◌↔◌}
use mathlib.Core.Bool.{Bool}
use mathlib.Core.List.{List}
use Prim.Native.Nat.{ℕ, ◌≤◌}
use lib.ListN.{length, set}
use Rattle.lerc_words.specs.declared.Refusal.{Refusal}
use Rattle.lerc_words.specs.Res.{Res, ok, fail, accepts}
use Rattle.lerc.specs.Meaning.{Meaning, end_of, starts_of, meaning}
use Rattle.lerc.specs.Read.{Lent, ReadTold}
use Rattle.lerc_c.specs.Records.{why_of}
use Rattle.lerc_c.specs.Entries.{read_room, read_numbers}
use Rattle.lerc_theorems.specs.Calls.{ReadCall}
use Rattle.lerc_theorems.specs.DemandTwo.{Roomy, Exact}
use Rattle.lerc_theorems.proofs.Calls.{promise}
use Rattle.lerc_theorems.proofs.DemandTwo.{demand-two}
use Rattle.lerc_c_theorems.specs.Calls.{Told, HasPlace, ReadInC}
use Rattle.lerc_c_theorems.specs.SameReader.{Tells}
use Rattle.lerc_c_theorems.specs.DemandTwo.{DemandTwoInC}
use Rattle.lerc_c_theorems.proofs.Made.{read_as}

-- ---- demand 2, of a call of the reader

accepted-call : {b : List ℕ} {reuse : Bool} {r : Res ReadTold} {old new : Lent} → ReadCall b reuse r old new → Roomy b old → accepts r ≡ accepts (meaning b reuse old.kept)
accepted-call = promise (λ g r x. Roomy g.0 g.2 → accepts r ≡ accepts (meaning g.0 g.1 g.2.kept)) (λ k a r x p. demand-two.accepted-iff k a r x p)

refused-call : {b : List ℕ} {reuse : Bool} {r : Res ReadTold} {old new : Lent} → ReadCall b reuse r old new → Roomy b old → (why : Refusal)
    → (r ≡ fail why) ↔ (meaning b reuse old.kept ≡ fail why)
refused-call = promise (λ g r x. Roomy g.0 g.2 → (why : Refusal) → (r ≡ fail why) ↔ (meaning g.0 g.1 g.2.kept ≡ fail why)) (λ k a r x p. demand-two.refused_as k a r x p)

exact-call : {b : List ℕ} {reuse : Bool} {r : Res ReadTold} {old new : Lent} → ReadCall b reuse r old new → Roomy b old → (m : Meaning) → meaning b reuse old.kept ≡ ok m → Exact m r old new
exact-call = promise (λ g r x. Roomy g.0 g.2 → (m : Meaning) → meaning g.0 g.1 g.2.kept ≡ ok m → Exact m r g.2 x) (λ k a r x p. demand-two.cells-exact k a r x p)

-- ---- of a call of C

module _ (b : List ℕ) (reuse : Bool) (u : Told) (old new : Lent) (said₀ said₁ : List ℕ) (c : ReadInC b reuse u old new said₀ said₁) (i : HasPlace u) (l : read_room ≤ length said₀) (f : Roomy b old) where
  -- the meaning is refused where the read is, and at its place
  same_place : {r : Res ReadTold} → ReadCall b reuse r old new → (m : Res Meaning) → meaning b reuse old.kept ≡ m → (why_of r).at ≡ (why_of m).at
  same_place d (ok m) e = ap (λ (x : Res ReadTold). (why_of x).at) (exact-call d f m e).answer
  same_place d (fail why) e = ap (λ (q : Res ReadTold). (why_of q).at) ((refused-call d f why).1 e)

  told : Tells (meaning b reuse old.kept) read_numbers u said₀ said₁
  told =
      let (r, d, t) = read_as c i l in
      let a = accepted-call d f in
      record {
        zero = (λ z. sym a ∙ t.zero.0 z, λ e. t.zero.1 (a ∙ e));
        refused = λ why e. t.refused why (((refused-call d f why).1 e));
        place = t.place ∙ ap (set u.place₀ 0) (same_place d (meaning b reuse old.kept) refl);
        written = λ m e. t.written _ (exact-call d f m e).answer;
        kept = λ why e. t.kept why (((refused-call d f why).1 e));
      }

  exact : (m : Meaning) → meaning b reuse old.kept ≡ ok m → Exact m (ok (record { header = m.header; blocks = (length (starts_of m.body)); end = (end_of m.body) })) old new
  exact m e =
      let (r, d, t) = read_as c i l in
      let x = exact-call d f m e in
      record { answer = refl; kept = x.kept; spare = x.spare; list = x.list; long = x.long; valid = x.valid; other = x.other; past = x.past }

pub demand-two-in-c : DemandTwoInC
demand-two-in-c = record { meaning-told = told; cells-exact-in-c = exact }
