-- A place on an answer: what is accepted, what is left behind and each number are those of the answer without it.
-- Assumes nothing.
use mathlib.Core.Path.{◌≡◌, ◌∙◌, sym, ap, refl}
use mathlib.Core.List.{List}
use mathlib.Core.Bool.{Bool, true, false, cond}
use Prim.Native.Nat.{ℕ}
use native.Mathlib.Omega.{arith}
use Rattle.lerc_words.specs.Res.{Res, ok, fail, ◌>>=◌, placed, marked, require, after, accepts}
use Rattle.lerc_words.specs.declared.Refusal.{Refusal}
use Rattle.std.specs.Result.{IsErrAnd}
use Rattle.std.proofs.lemmas.Result.{err_from_is_err_and}

-- ---- from the answer to the marked one, and back

pub marked-ok : {A : Type 0} (p : ℕ) {m : Res A} {a : A} → m ≡ ok a → marked p m ≡ ok a
marked-ok p e = rw e

pub marked-no : {A : Type 0} (p : ℕ) {m : Res A} {r : Refusal} → m ≡ fail r → marked p m ≡ fail (placed p r)
marked-no p e = rw e

pub marked-is : {A : Type 0} (p : ℕ) (m : Res A) {a : A} → marked p m ≡ ok a → m ≡ ok a
marked-is p (ok b) e = e
marked-is p (fail r) e = absurd (let z : ◌≡◌ {A = ℕ} 0 1 = cc in omega arith)

pub marked-fails : {A : Type 0} (p : ℕ) (m : Res A) {r : Refusal} → marked p m ≡ fail r → (q : Refusal) × (m ≡ fail q) × (r ≡ placed p q)
marked-fails p (ok b) e = absurd (let z : ◌≡◌ {A = ℕ} 0 1 = cc in omega arith)
marked-fails p (fail q) {r} e = (q, refl, cc)

-- ---- what does not change

-- the last place is the one that is told
pub marked-twice : {A : Type 0} (p q : ℕ) (m : Res A) → marked p (marked q m) ≡ marked p m
marked-twice p q (ok a) = refl
marked-twice p q (fail r) = refl

-- with its place taken off it is the unmarked answer: acceptance, value and number are that one's own
pub unmarked : {A : Type 0} (p : ℕ) (m : Res A) → marked 0 (marked p m) ≡ marked 0 m
unmarked p m = marked-twice 0 p m

pub marked-accepts : {A : Type 0} (p : ℕ) (m : Res A) → accepts (marked p m) ≡ accepts m
marked-accepts p (ok a) = refl
marked-accepts p (fail r) = refl

pub marked-after : {A : Type 0} (p : ℕ) (m : Res A) (old : List ℕ) (new : A → List ℕ) → after (marked p m) old new ≡ after m old new
marked-after p (ok a) old new = refl
marked-after p (fail r) old new = refl

-- what is only told of an accepted value may be told before the place is put on, or behind
pub marked-tells : {A B : Type 0} (p : ℕ) (m : Res A) (f : A → B) → marked p (m >>= λ a. ok (f a)) ≡ (marked p m >>= λ a. ok (f a))
marked-tells p (ok a) f = refl
marked-tells p (fail r) f = refl

pub marked-bind : {A B : Type 0} (p : ℕ) (m : Res A) (k : A → Res B) → marked p (m >>= k) ≡ (marked p m >>= λ a. marked p (k a))
marked-bind p (ok a) k = refl
marked-bind p (fail r) k = refl

-- ---- an answer that tells no place

abbrev pub Bare : {A : Type 0} → Res A → Type 0
Bare m = marked 0 m ≡ m

pub bare-bind : {A B : Type 0} (m : Res A) (k : A → Res B) → Bare m → ((a : A) → Bare (k a)) → Bare (m >>= k)
bare-bind (ok a) k e f = f a
bare-bind (fail r) k e f = cc

-- behind a test
pub bare-then : {B : Type 0} (t : Bool) (n : ℕ) (k : Bool → Res B) → Bare (k true) → Bare (require t n >>= k)
bare-then true n k e = e
bare-then false n k e = refl

pub bare-cond : {A : Type 0} (t : Bool) {m n : Res A} → Bare m → Bare n → Bare (cond t m n)
bare-cond true e f = e
bare-cond false e f = f

-- one that was marked, and whose place is taken off again, is the answer itself
pub bare-no : {A : Type 0} (p : ℕ) (m : Res A) → Bare m → {r why : Refusal} → marked p m ≡ fail r → why ≡ placed 0 r → m ≡ fail why
bare-no p (ok a) b e f = absurd (let z : ◌≡◌ {A = ℕ} 0 1 = cc in omega arith)
bare-no p (fail q) b {r} {why} e f =
    let g : placed p q ≡ r = cc in
    let h : placed 0 q ≡ q = cc in
    ap fail (sym h ∙ ap (placed 0) g ∙ sym f)

-- ---- what the exit of a `?` returns

pub exits : {A : Type 0} {why : Refusal} (r : Res A) → IsErrAnd r (λ y. y ≡ why) → r ≡ fail why
exits r h = let p = err_from_is_err_and r h in p.1 ∙ ap fail p.2
