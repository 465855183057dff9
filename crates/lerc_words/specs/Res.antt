-- An answer: a value, or a refusal. Reading goes front to back, and the first failing read decides the number:
-- that is what `>>=` means, and no other definition says anything about order.
-- Assumes nothing.
use Rattle.std.specs.Prelude.{ℕ, zero, suc, ◌+◌, ◌*◌, Bool, true, false, List, [], ◌∷◌, length, get_or, leb}
use Rattle.std.specs.Prelude.{Result, Ok, Err}
use Rattle.lerc_words.specs.declared.Refusal.{Refusal}

-- "A refusal carries its number", and "a place with each number"
abbrev pub Res : Type 0 → Type 0
Res A = Result A Refusal

pattern abbrev pub ok : {A : Type 0} → A → Res A
ok a = Ok a

pattern abbrev pub fail : {A : Type 0} → Refusal → Res A
fail why = Err why

infixl 20 ◌>>=◌
-- "the first failing read decides the number"
abbrev pub ◌>>=◌ : {A B : Type 0} → Res A → (A → Res B) → Res B
◌>>=◌ (ok a) k = k a
◌>>=◌ (fail r) k = fail r

-- a number alone: its place is 0, as is that of "all else"
abbrev pub refuse : ℕ → Refusal
refuse n = record { number = n; at = 0 }

-- the same number at a place
abbrev pub placed : ℕ → Refusal → Refusal
placed p why = record { number = why.number; at = p }

-- "a place with each number": an answer whose refusal, if it is one, is at a place. What is accepted, and each number, are the unmarked answer's (law `unmarked`)
abbrev pub marked : {A : Type 0} → ℕ → Res A → Res A
marked p (ok a) = ok a
marked p (fail why) = fail (placed p why)

-- the test must hold, else n is the refusal's number
abbrev pub require : Bool → ℕ → Res Bool
require true n = ok true
require false n = fail (refuse n)

-- each in turn
unfoldable pub each : {A B : Type 0} → (A → Res B) → List A → Res (List B)
each f [] = ok []
each f (x ∷ xs) = do
  y ← f x
  ys ← each f xs
  ok (y ∷ ys)

-- what a slice holds afterwards: new where the answer is a value, what it held after a refusal
abbrev pub after : {A : Type 0} → Res A → List ℕ → (A → List ℕ) → List ℕ
after (ok a) old new = new a
after (fail r) old new = old

-- why it was refused; number 0 where it was not
abbrev pub refusal_of : {A : Type 0} → Res A → Refusal
refusal_of (ok a) = refuse 0
refusal_of (fail why) = why

abbrev pub accepts : {A : Type 0} → Res A → Bool
accepts (ok a) = true
accepts (fail r) = false

-- "little-endian": n bytes from `at` on, the first the lowest; past the end they are zeros
unfoldable pub little : ℕ → List ℕ → ℕ → ℕ
little zero s at = 0
little (suc n) s at = get_or s at 0 + 256 * little n s (suc at)

-- the same where they lie within s, else 1: "a field, number or packed run passes the declared size"
unfoldable pub word_at : ℕ → List ℕ → ℕ → Res ℕ
word_at n s at = do
  _ ← require (leb (at + n) (length s)) 1
  ok (little n s at)

-- a word has at most eight bytes
unfoldable pub word_says : List ℕ → ℕ → ℕ → Res ℕ
word_says s at size = do
  _ ← require (leb size 8) 1
  word_at size s at
