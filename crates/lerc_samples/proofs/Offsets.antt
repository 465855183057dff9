-- Laws of the table of offset kinds.
-- Assumes nothing.
use mathlib.Core.Path.{◌≡◌, refl, sym, ◌∙◌}
use mathlib.Core.List.{List, [], ◌∷◌}
use Prim.Native.Nat.{ℕ, zero, suc, ◌≤◌, ◌<◌}
use native.Mathlib.Omega.{arith}
use native.Mathlib.Nat.{not-suc-le-zero, le_of_suc-le-suc}
use borrow.Author.Tests.{lt-ltb, le-ltb}
use lib.ListN.{length, get_or, get_or-eq_default}
use Rattle.lerc_words.specs.Res.{ok, fail, refuse}
use Rattle.lerc_samples.specs.Samples.{offset_kinds, offset_kind}

-- ---- within the table: the default does not matter
get_d_any : (xs : List ℕ) (i d e : ℕ) → i < length xs → get_or xs i d ≡ get_or xs i e
get_d_any [] i d e h = absurd (not-suc-le-zero h)
get_d_any (x ∷ xs) zero d e h = refl
get_d_any (x ∷ xs) (suc i) d e h = get_d_any xs i d e (le_of_suc-le-suc h)

-- a row has four entries
row-length : (kind : ℕ) → kind < 8 → length (get_or offset_kinds kind []) ≡ 4
unfolding offset_kinds
row-length zero h = refl
row-length (suc zero) h = refl
row-length (suc (suc zero)) h = refl
row-length (suc (suc (suc zero))) h = refl
row-length (suc (suc (suc (suc zero)))) h = refl
row-length (suc (suc (suc (suc (suc zero))))) h = refl
row-length (suc (suc (suc (suc (suc (suc zero)))))) h = refl
row-length (suc (suc (suc (suc (suc (suc (suc zero))))))) h = refl
row-length (suc (suc (suc (suc (suc (suc (suc (suc k)))))))) h = absurd (omega arith)

module _ (kind code k : ℕ) (hk : kind ≤ 7) (hc : code ≤ 3) (ek : k ≡ get_or (get_or offset_kinds kind []) code 0) where
  entry : get_or (get_or offset_kinds kind []) code 9 ≡ k
  entry =
      let l = row-length kind (omega arith) in
      get_d_any (get_or offset_kinds kind []) code 9 0 (omega (arith, l)) ∙ sym ek

  pub offset-ok : k < 9 → ok k ≡ offset_kind kind code
  unfolding offset_kind
  offset-ok h = rw (entry, lt-ltb k 9 h)

  pub offset-none : 9 ≤ k → fail (refuse 8) ≡ offset_kind kind code
  unfolding offset_kind
  offset-none h = rw (entry, le-ltb k 9 h)

-- ---- outside it
pub offset-kind-past : (kind code : ℕ) → 7 < kind → fail (refuse 8) ≡ offset_kind kind code
unfolding offset_kind offset_kinds
offset-kind-past kind code h = rw (get_or-eq_default offset_kinds [] h)

pub offset-code-past : (kind code : ℕ) → kind ≤ 7 → 3 < code → fail (refuse 8) ≡ offset_kind kind code
unfolding offset_kind
offset-code-past kind code h l =
    let r = row-length kind (omega arith) in
    let g : length (get_or offset_kinds kind []) ≤ code = omega (arith, r) in
    rw (get_or-eq_default (get_or offset_kinds kind []) 9 g)
