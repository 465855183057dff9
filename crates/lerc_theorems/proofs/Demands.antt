-- Chains of demands: "the first failing read decides the number".
-- Assumes nothing.
use mathlib.Core.Path.{◌≡◌, ◌∙◌, sym, ap, refl, subst}
use mathlib.Core.Logic.{◌↔◌, ◌⊎◌, inl, inr}
use mathlib.Core.Bool.{Bool, true, false, cond, ◌&&◌}
use Prim.Native.Nat.{ℕ}
use native.Mathlib.Omega.{arith}
use Rattle.lerc_words.specs.declared.Refusal.{Refusal}
use Rattle.lerc_words.specs.Res.{Res, ok, fail, ◌>>=◌, refuse, placed, marked, require}
use Rattle.lerc_words.proofs.Marking.{marked-no, marked-fails}
use Rattle.lerc_theorems.specs.BlockTable.{At, at_place}

pub fail-is : {A : Type 0} {r q : Refusal} → ◌≡◌ {A = Res A} (fail r) (fail q) → r ≡ q
fail-is e = cc

pub not-refused : {A : Type 0} {P : Type 0} {a : A} {r : Refusal} → ok a ≡ fail r → P
not-refused e = absurd (let z : ◌≡◌ {A = ℕ} 0 1 = cc in omega arith)

-- a chain is refused by j: so is its first demand, or that demand holds and the rest is refused by j
module _ (P : Refusal → Type 0) {j : Refusal} where
  pub demand : {B : Type 0} (t : Bool) (n : ℕ) (k : Bool → Res B) → (require t n >>= k) ≡ fail j → (t ≡ false → P (refuse n)) → (t ≡ true → k true ≡ fail j → P j) → P j
  demand true n k e f g = g refl e
  demand false n k e f g = subst P (fail-is e) (f refl)

  -- the same of a demand that is told at a place
  pub demand-at : {B : Type 0} (p : ℕ) (t : Bool) (n : ℕ) (k : Bool → Res B) → (marked p (require t n) >>= k) ≡ fail j → (t ≡ false → P (placed p (refuse n))) → (t ≡ true → k true ≡ fail j → P j) → P j
  demand-at p true n k e f g = g refl e
  demand-at p false n k e f g = subst P (fail-is e) (f refl)

  -- of a link that is itself an answer
  pub reading : {A B : Type 0} (m : Res A) (k : A → Res B) → (m >>= k) ≡ fail j → (m ≡ fail j → P j) → ((a : A) → m ≡ ok a → k a ≡ fail j → P j) → P j
  reading (ok a) k e f g = g a refl e
  reading (fail r) k e f g = let z : r ≡ j = cc in f (ap fail z)

  -- of one that is told at a place
  pub reading-at : {A B : Type 0} (p : ℕ) (m : Res A) (k : A → Res B) → (marked p m >>= k) ≡ fail j → ((why : Refusal) → m ≡ fail why → P (placed p why)) → ((a : A) → m ≡ ok a → k a ≡ fail j → P j) → P j
  reading-at p (ok a) k e f g = g a refl e
  reading-at p (fail why) k e f g = subst P (fail-is e) (f why refl)

  -- and of one that is refused with one number only
  pub reading-one : {A B : Type 0} (n : ℕ) (m : Res A) (k : A → Res B) → ((r : Refusal) → m ≡ fail r → r ≡ refuse n) → (m >>= k) ≡ fail j → (m ≡ fail (refuse n) → P (refuse n))
      → ((a : A) → m ≡ ok a → k a ≡ fail j → P j) → P j
  reading-one n (ok a) k u e f g = g a refl e
  reading-one n (fail r) k u e f g = let z : r ≡ j = cc in let y : refuse n ≡ j = sym (u r refl) ∙ z in subst P y (f (ap fail (u r refl)))

  pub choosing : {B : Type 0} (t : Bool) (x y : Res B) → cond t x y ≡ fail j → (t ≡ true → x ≡ fail j → P j) → (t ≡ false → y ≡ fail j → P j) → P j
  choosing true x y e f g = f refl e
  choosing false x y e f g = g refl e

-- what is refused exactly by a table is refused exactly by it at a place
pub marked-exactly : {A : Type 0} {Refused : Refusal → Type 0} (p : ℕ) (m : Res A) → ((why : Refusal) → (m ≡ fail why) ↔ Refused why) → (why : Refusal) → (marked p m ≡ fail why) ↔ At p Refused why
marked-exactly {Refused = Refused} p m exactly why = (λ e. let (q, d, z) = marked-fails p m e in rw (z) (at_place ((exactly q).0 d)), back)
  where
    back : {why : Refusal} → At p Refused why → marked p m ≡ fail why
    back (at_place r) = marked-no p ((exactly _).1 r)

-- one of two tests fails
pub and-not : (a b : Bool) → (a && b) ≡ false → (a ≡ false) ⊎ (b ≡ false)
and-not true b e = inr e
and-not false b e = inl refl

pub and_first : (a b : Bool) → a ≡ false → (a && b) ≡ false
and_first false b e = refl
and_first true b e = absurd (let z : ◌≡◌ {A = ℕ} 0 1 = cc in omega arith)

pub and_second : (a b : Bool) → b ≡ false → (a && b) ≡ false
and_second true b e = e
and_second false b e = refl

-- ---- an answer that is refused with one number only

abbrev pub OnlyNumber : {A : Type 0} → ℕ → Res A → Type 0
OnlyNumber n m = (r : Refusal) → m ≡ fail r → r ≡ refuse n

pub one_ok : {A : Type 0} (n : ℕ) (a : A) → OnlyNumber n (ok a)
one_ok n a r e = not-refused e

pub one-require : (n : ℕ) (t : Bool) → OnlyNumber n (require t n)
one-require n true r e = not-refused e
one-require n false r e = cc

pub one-bind : {A B : Type 0} (n : ℕ) (m : Res A) (k : A → Res B) → OnlyNumber n m → ((a : A) → OnlyNumber n (k a)) → OnlyNumber n (m >>= k)
one-bind n (ok a) k u v r e = v a r e
one-bind n (fail q) k u v r e = let z : q ≡ r = cc in u r (ap fail z)

pub one-cond : {A : Type 0} (n : ℕ) (t : Bool) {x y : Res A} → OnlyNumber n x → OnlyNumber n y → OnlyNumber n (cond t x y)
one-cond n true u v = u
one-cond n false u v = v
