-- A number's text, read back: so no two numbers of 64 bits have the same text.
-- Assumes nothing.
use Prim.Native.Nat.{ℕ, zero, suc, ◌+◌, ◌-◌, ◌*◌, ◌/◌, ◌%◌, ◌^◌, ◌≤◌, ◌<◌}
use mathlib.Core.Path.{◌≡◌, ◌∙◌, sym, ap, refl}
use mathlib.Core.List.{List, [], ◌∷◌, ◌++◌}
use native.Mathlib.Decide.{dec_le}
use native.Mathlib.Omega.{arith}
use native.Mathlib.Nat.{pow-suc}
use Rattle.lerc_text.specs.Text.{digits, decimal}
use Rattle.lerc_text.proofs.Putting.{digits-one, digits_more}

-- digits behind those that made v, the next lower each time
unfoldable pub reading : ℕ → List ℕ → ℕ
reading v [] = v
reading v (d ∷ ds) = reading (10 * v + (d - 48)) ds

reading-last : (v : ℕ) (ds : List ℕ) (d : ℕ) → reading v (ds ++ (d ∷ [])) ≡ 10 * reading v ds + (d - 48)
unfolding reading
reading-last v [] d = refl
reading-last v (x ∷ ds) d = reading-last (10 * v + (x - 48)) ds d

digits-back : (k n : ℕ) → n < 10 ^ k → reading 0 (digits k n) ≡ n
unfolding reading digits
digits-back zero n h = omega arith
digits-back (suc k) n h =
    let e : 10 ^ suc k ≡ 10 ^ k * 10 = pow-suc 10 k in
    go (dec_le 10 n) (digits-back k (n / 10) (omega arith))
  where
    go : Dec (10 ≤ n) → reading 0 (digits k (n / 10)) ≡ n / 10 → reading 0 (digits (suc k) n) ≡ n
    go (no q) f = rw (digits-one k n (omega arith)) (omega arith)
    go (yes p) f = rw (digits_more k n p, reading-last 0 (digits k (n / 10)) (48 + n % 10), f) (omega arith)

pub decimal-back : (n : ℕ) → n < 2 ^ 64 → reading 0 (decimal n) ≡ n
decimal-back n h = digits-back 20 n (omega arith)

pub decimal-same : (n m : ℕ) → n < 2 ^ 64 → m < 2 ^ 64 → decimal n ≡ decimal m → n ≡ m
decimal-same n m h k e = sym (decimal-back n h) ∙ ap (reading 0) e ∙ decimal-back m k
