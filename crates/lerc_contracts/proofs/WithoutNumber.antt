-- Answers without their number.
-- Assumes nothing.
use mathlib.Core.Path.{◌≡◌, refl}
use mathlib.Core.List.{List}
use mathlib.Core.Option.{Option, some}
use Prim.Native.Nat.{ℕ}
use native.Mathlib.Omega.{arith}
use Rattle.lerc_words.specs.Res.{Res, ok, fail, ◌>>=◌, marked, accepts}
use Rattle.lerc_contracts.specs.Outside.{said, is_some}
use Rattle.lerc_contracts.specs.Block.{ResultModel}

-- a test of an answer without its number
pub said-some : {A B : Type 0} (f : A → B) (m : Res A) → accepts m ≡ is_some (said f m)
said-some f (ok a) = refl
said-some f (fail r) = refl

-- the same where the answer tells something else of what it holds
pub told-some : {A B C : Type 0} (f : A → B) (g : A → C) (m : Res A) → accepts (m >>= λ a. ok (f a)) ≡ is_some (said g m)
told-some f g (ok a) = refl
told-some f g (fail r) = refl

-- nor has it a place
pub said-marked : {A B : Type 0} (f : A → B) (p : ℕ) (m : Res A) → said f (marked p m) ≡ said f m
said-marked f p (ok a) = refl
said-marked f p (fail r) = refl

-- what an answer without its number holds
pub said-is : {A B : Type 0} (f : A → B) (m : Res A) {b : B} → said f m ≡ some b → (a : A) × (m ≡ ok a) × (f a ≡ b)
said-is f (ok a) e = (a, refl, cc)
said-is f (fail r) e = absurd (let z : ◌≡◌ {A = ℕ} 0 1 = cc in omega arith)

-- the same end and the same image
pub result-is : {a c : ℕ} {x y : List ℕ} → a ≡ c → x ≡ y → ◌≡◌ {A = Option ResultModel} (some (record { at = a; image = x })) (some (record { at = c; image = y }))
result-is p q = rw (p, q)
