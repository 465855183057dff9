-- Answers one after the other: what a chain of them gives, and what each link was.
-- Assumes nothing.
use mathlib.Core.Path.{◌≡◌, ◌∙◌, sym, ap, refl}
use mathlib.Core.List.{List, [], ◌∷◌}
use mathlib.Core.Bool.{Bool, true, false, cond, ◌&&◌}
use Prim.Native.Nat.{ℕ, suc}
use native.Mathlib.Omega.{arith}
use lib.ListN.{length}
use Rattle.lerc_words.specs.Res.{Res, ok, fail, ◌>>=◌, require, each, accepts}
use Rattle.lerc_words.specs.declared.Refusal.{Refusal}

-- a chain of reads: one link for each
pub bind_ok : {A B : Type 0} {m : Res A} {a : A} (k : A → Res B) → m ≡ ok a → (m >>= k) ≡ k a
bind_ok k e = rw e

pub bind-no : {A B : Type 0} {m : Res A} {r : Refusal} (k : A → Res B) → m ≡ fail r → (m >>= k) ≡ fail r
bind-no k e = rw e

-- an accepted chain: each link was accepted
pub bind_is : {A B : Type 0} (m : Res A) (k : A → Res B) {b : B} → (m >>= k) ≡ ok b → (a : A) × (m ≡ ok a) × (k a ≡ ok b)
bind_is (ok a) k e = (a, refl, e)
bind_is (fail r) k e = absurd (let z : ◌≡◌ {A = ℕ} 0 1 = cc in omega arith)

-- an answer that only names another's refusal has it too
pub bind-fail : {A B : Type 0} (m : Res A) (f : A → B) {r : Refusal} → (m >>= λ a. ok (f a)) ≡ fail r → m ≡ fail r
bind-fail (ok a) f e = absurd (let z : ◌≡◌ {A = ℕ} 0 1 = cc in omega arith)
bind-fail (fail q) f e = cc

-- and one that only counts what was accepted tells what that was
pub bind-counts : {A B : Type 0} (m : Res A) (f : A → B) {b : B} → (m >>= λ a. ok (f a)) ≡ ok b → (a : A) × (m ≡ ok a) × (b ≡ f a)
bind-counts (ok a) f e = (a, refl, cc)
bind-counts (fail r) f e = absurd (let z : ◌≡◌ {A = ℕ} 0 1 = cc in omega arith)

pub require-is : (t : Bool) (n : ℕ) {a : Bool} → require t n ≡ ok a → t ≡ true
require-is true n e = refl
require-is false n e = absurd (let z : ◌≡◌ {A = ℕ} 0 1 = cc in omega arith)

-- what was accepted is a value, and what was not is a refusal
pub accepts-is : {A : Type 0} (m : Res A) → accepts m ≡ true → (a : A) × (m ≡ ok a)
accepts-is (ok a) e = (a, refl)
accepts-is (fail r) e = absurd (let z : ◌≡◌ {A = ℕ} 0 1 = cc in omega arith)

pub accepts-not : {A : Type 0} (m : Res A) → accepts m ≡ false → (r : Refusal) × (m ≡ fail r)
accepts-not (ok a) e = absurd (let z : ◌≡◌ {A = ℕ} 0 1 = cc in omega arith)
accepts-not (fail r) e = (r, refl)

pub ok-is : {A : Type 0} {a b : A} → ok a ≡ ok b → a ≡ b
ok-is e = cc

-- one answer for each
pub each-length : {A B : Type 0} (f : A → Res B) (xs : List A) {ys : List B} → each f xs ≡ ok ys → length ys ≡ length xs
unfolding each
each-length f [] e = ap length (sym (ok-is e))
each-length f (x ∷ xs) e =
    let (y, p, e) = bind_is (f x) _ e in
    let (zs, q, e) = bind_is (each f xs) _ e in
    ap length (sym (ok-is e)) ∙ ap suc (each-length f xs q)

-- what holds of both branches of a choice holds of the choice
pub cond-elim : {A : Type 0} (P : A → Type 0) (b : Bool) {x y : A} → (b ≡ true → P x) → (b ≡ false → P y) → P (cond b x y)
cond-elim P true f g = f refl
cond-elim P false f g = g refl

pub and_is : (a b : Bool) → (a && b) ≡ true → (a ≡ true) × (b ≡ true)
and_is true b e = (refl, e)
and_is false b e = absurd (let z : ◌≡◌ {A = ℕ} 0 1 = cc in omega arith)
