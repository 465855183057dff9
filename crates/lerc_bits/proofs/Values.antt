-- The counts that a plan leads to: how many, where they end, how large.
-- Assumes nothing.
use mathlib.Core.Path.{◌≡◌, refl, sym, subst}
use mathlib.Core.Bool.{Bool, true, false, cond}
use mathlib.Core.List.{List, ◌∷◌}
use Prim.Native.Nat.{ℕ, zero, suc, ◌-◌, ◌^◌, ◌≤◌, ◌<◌}
use native.Mathlib.Omega.{arith}
use native.Mathlib.Decide.{dec_lt}
use borrow.Author.Tests.{eqb-true, eqb-false, eq-eqb, ne_eqb}
use lib.Dec.{eqb}
use lib.ListN.{length, get_or, get_or-eq_default}
use lib.Pow.{pow_pos}
use Rattle.lerc_words.specs.declared.Refusal.{Refusal}
use Rattle.lerc_words.specs.Res.{ok, fail, refuse, require}
use Rattle.lerc_words.proofs.Binding.{bind_is, require-is, ok-is}
use Rattle.lerc_words.proofs.Tables.{get_d_tabulate}
use Rattle.lerc_bits.specs.declared.Plan.{Plan}
use Rattle.lerc_bits.specs.Bits.{plan, digits, run, chosen, all_below, looked_up, values_of, unpacked, Counts, counts}
use Rattle.lerc_bits.specs.Unpacking.{value_bits}
use Rattle.lerc_bits.proofs.Run.{length_digits, digits-small}
use Rattle.lerc_bits.proofs.Choose.{length-chosen}
use Rattle.lerc_bits.proofs.Returns.{unpacked-plain, unpacked-table, unpacked-bad}
use Rattle.lerc_bits.proofs.Plans.{plan-ends, plan-few}

-- ---- how accepted counts were read

-- the numbers themselves, or what they name
pub data Valued (s : List ℕ) (p : Plan) (vs : List ℕ) : Type 0 where
  valued_plain : p.entries ≡ 0 → vs ≡ run s p.at p.n p.width → Valued s p vs
  valued-table : 1 ≤ p.entries → all_below p.n p.entries (run s p.at p.n p.width) ≡ true
      → vs ≡ chosen p.n (0 ∷ run s p.table (p.entries - 1) p.bits) (run s p.at p.n p.width) → Valued s p vs

values-is : (s : List ℕ) (p : Plan) {vs : List ℕ} → values_of s p ≡ ok vs → Valued s p vs
unfolding values_of looked_up
values-is s p {vs} e = go (eqb p.entries 0) refl e
  where
    go : (t : Bool) → eqb p.entries 0 ≡ t → cond t (ok (run s p.at p.n p.width)) (looked_up s p (run s p.at p.n p.width)) ≡ ok vs → Valued s p vs
    go true t e = valued_plain (eqb-true _ _ t) (cc)
    go false t e =
        let b = bind_is (require (all_below p.n p.entries (run s p.at p.n p.width)) 8) _ e in
        let z : p.entries ≡ 0 → ⊥ = eqb-false _ _ t in
        valued-table (omega arith) (require-is _ 8 b.1) (cc)

pub record CountsRead (s : List ℕ) (at : ℕ) (c : Counts) : Type 0 where
  pub p : Plan
  pub planned : plan s at ≡ ok p
  pub valued : Valued s p c.values
  pub ends : p.next ≡ c.next

pub counts-is : (s : List ℕ) (at : ℕ) {c : Counts} → counts s at ≡ ok c → CountsRead s at c
unfolding counts unpacked
counts-is s at {c} e =
    let b = bind_is (plan s at) _ e in
    let d = bind_is (values_of s b.0) _ b.2 in
    let v : d.0 ≡ c.values = cc in
    let n : b.0.next ≡ c.next = cc in
    record { p = b.0; planned = b.1; valued = subst (λ (x : List ℕ). Valued s b.0 x) v (values-is s b.0 d.1); ends = n }

valued-length : {s : List ℕ} {p : Plan} {vs : List ℕ} → Valued s p vs → length vs ≡ p.n
valued-length {s} {p} (valued_plain z e) = rw (e) (length_digits _ p.n p.width)
valued-length {s} {p} (valued-table h b e) = rw (e) (length-chosen p.n _ _)

-- ---- how many there are, and where they end

-- as many as the plan says, up to its end
pub unpacked-is : (s : List ℕ) (p : Plan) {c : Counts} → unpacked s p ≡ ok c → (length c.values ≡ p.n) × (c.next ≡ p.next)
unfolding unpacked
unpacked-is s p {c} e =
    let (vs, d, e) = bind_is (values_of s p) _ e in
    rw (← ok-is e) (valued-length (values-is s p d), refl)

-- accepted counts have a plan, of so many and with that end
pub counts-planned : (s : List ℕ) (at : ℕ) {c : Counts} → counts s at ≡ ok c
    → (p : Plan) × (plan s at ≡ ok p) × (p.n ≡ length c.values) × (p.next ≡ c.next)
counts-planned s at e =
    let g = counts-is s at e in
    (g.p, g.planned, sym (valued-length g.valued), g.ends)

-- and it is the plan that was found
pub counts-plan : (s : List ℕ) (at : ℕ) {p : Plan} {c : Counts} → plan s at ≡ ok p → counts s at ≡ ok c → (p.n ≡ length c.values) × (p.next ≡ c.next)
counts-plan s at {p} d e =
    let g = counts-planned s at e in
    let z : g.0 ≡ p = cc in
    rw (← z) (g.2, g.3)

-- they end behind their start, and within
pub counts-ends : (s : List ℕ) (at : ℕ) {c : Counts} → counts s at ≡ ok c → (at < c.next) × (c.next ≤ length s)
counts-ends s at e =
    let g = counts-is s at e in
    let l = plan-ends s at g.planned in
    (omega (arith, g.ends), omega (arith, g.ends))

-- there are at most 256
pub counts-few : (s : List ℕ) (at : ℕ) {c : Counts} → counts s at ≡ ok c → length c.values ≤ 256
counts-few s at e =
    let g = counts-is s at e in
    rw (valued-length g.valued) (plan-few s at g.planned).0

-- with a plan, only an index can still be refused
pub unpacked-eight : (s : List ℕ) (p : Plan) {r : Refusal} → unpacked s p ≡ fail r → r ≡ refuse 8
unpacked-eight s p {r} f = go (eqb p.entries 0) refl (all_below p.n p.entries (run s p.at p.n p.width)) refl
  where
    go : (t : Bool) → eqb p.entries 0 ≡ t → (u : Bool) → all_below p.n p.entries (run s p.at p.n p.width) ≡ u → r ≡ refuse 8
    go true t u b = absurd (let g = unpacked-plain s p (eqb-true _ _ t) in let z : ◌≡◌ {A = ℕ} 0 1 = cc (f) in omega arith)
    go false t true b = absurd (let x : p.entries ≡ 0 → ⊥ = eqb-false _ _ t in let g = unpacked-table s p (omega arith) b in let z : ◌≡◌ {A = ℕ} 0 1 = cc (f) in omega arith)
    go false t false b =
        let x : p.entries ≡ 0 → ⊥ = eqb-false _ _ t in
        cc (f, unpacked-bad s p (omega arith) b)

-- ---- how large they are

entry-small : (whole n bits k : ℕ) → get_or (0 ∷ digits whole n bits) k 0 < 2 ^ bits
entry-small whole n bits zero = pow_pos bits
entry-small whole n bits (suc k) = digits-small whole n bits k

chosen-small : (m : ℕ) (is : List ℕ) (whole n bits k : ℕ) → get_or (chosen m (0 ∷ digits whole n bits) is) k 0 < 2 ^ bits
unfolding chosen
chosen-small m is whole n bits k = go (dec_lt k m)
  where
    go : Dec (k < m) → get_or (chosen m (0 ∷ digits whole n bits) is) k 0 < 2 ^ bits
    go (yes l) = rw (get_d_tabulate m (λ j. get_or (0 ∷ digits whole n bits) (get_or is j 0) 0) k 0 l) (entry-small whole n bits (get_or is k 0))
    go (no l) =
        let h : length (chosen m (0 ∷ digits whole n bits) is) ≤ k = omega (arith, length-chosen m (0 ∷ digits whole n bits) is) in
        rw (get_or-eq_default (chosen m (0 ∷ digits whole n bits) is) 0 h) (pow_pos bits)

-- each is as wide as its plan says
pub unpacked-bits : (s : List ℕ) (p : Plan) {c : Counts} → unpacked s p ≡ ok c → (k : ℕ) → get_or c.values k 0 < 2 ^ value_bits p
unfolding unpacked
unpacked-bits s p {c} e k =
    let (vs, d, e) = bind_is (values_of s p) _ e in
    rw (← ok-is e) (small (values-is s p d))
  where
    small : {vs : List ℕ} → Valued s p vs → get_or vs k 0 < 2 ^ value_bits p
    small (valued_plain z e) = rw (e, eq-eqb _ _ z) (digits-small _ p.n p.width k)
    small (valued-table h b e) =
        let f : p.entries ≡ 0 → ⊥ = λ z. omega arith in
        rw (e, ne_eqb _ _ f) (chosen-small p.n _ _ (p.entries - 1) p.bits k)
