-- Laws of a painted image.
-- Assumes nothing.
use mathlib.Core.Path.{◌≡◌, ◌∙◌, sym, refl}
use mathlib.Core.Bool.{Bool, true, false, cond, ◌||◌}
use mathlib.Core.Logic.{◌≢◌}
use mathlib.Core.List.{List}
use Prim.Native.Nat.{ℕ, ◌<◌}
use lib.Dec.{eqb}
use borrow.Author.Tests.{eqb-true, eqb-false}
use lib.ListN.{length, get_or, set, length-set}
use lib.Seq.{ext_get_or, get_or-set_same, get_or-set_other}
use Rattle.lerc_words.proofs.Tables.{length-tabulate, get_d_tabulate}
use Rattle.lerc_image.specs.Paint.{painted}

either : (a b : Bool) (x y : ℕ) → cond a x (cond b x y) ≡ cond (a || b) x y
either true b x y = refl
either false b x y = refl

module _ (im : List ℕ) (word : ℕ → ℕ) where
  pub length-painted : (which : ℕ → Bool) → length (painted im which word) ≡ length im
  unfolding painted
  length-painted which = length-tabulate (length im) _

  pub painted-cell : (which : ℕ → Bool) (c : ℕ) → c < length im → get_or (painted im which word) c 0 ≡ cond (which c) (word c) (get_or im c 0)
  unfolding painted
  painted-cell which c l = get_d_tabulate (length im) _ c 0 l

  -- an image that has these cells is the painted one
  pub is-painted : (which : ℕ → Bool) (x : List ℕ) → length x ≡ length im → ((c : ℕ) → c < length im → get_or x c 0 ≡ cond (which c) (word c) (get_or im c 0)) → x ≡ painted im which word
  is-painted which x e f =
      ext_get_or 0 x (painted im which word) (e ∙ sym (length-painted which))
      (λ i l. let k : i < length im = rw (e) at l in f i k ∙ sym (painted-cell which i k))

  -- nothing painted
  pub painted-none : (which : ℕ → Bool) → ((c : ℕ) → c < length im → which c ≡ false) → im ≡ painted im which word
  painted-none which f = is-painted which im refl (λ c l. rw (f c l))

  -- the same cells painted
  pub painted_same : (which that : ℕ → Bool) → ((c : ℕ) → c < length im → which c ≡ that c) → painted im which word ≡ painted im that word
  painted_same which that f =
      is-painted that (painted im which word) (length-painted which) (λ c l. painted-cell which c l ∙ rw (f c l))

  -- one cell more
  pub painted-set : (which that : ℕ → Bool) (i : ℕ) → i < length im → that i ≡ true → ((c : ℕ) → c ≢ i → that c ≡ which c)
      → set (painted im which word) i (word i) ≡ painted im that word
  painted-set which that i l t f =
      is-painted that (set (painted im which word) i (word i)) (simp length-set (length-painted which)) (λ c k. go c k (eqb c i) refl)
    where
      go : (c : ℕ) → c < length im → (b : Bool) → eqb c i ≡ b → get_or (set (painted im which word) i (word i)) c 0 ≡ cond (that c) (word c) (get_or im c 0)
      go c k true q =
          let e : c ≡ i = eqb-true c i q in
          let r : i < length (painted im which word) = rw (length-painted which) l in
          rw (e, t) (get_or-set_same (painted im which word) i (word i) 0 r)
      go c k false q =
          get_or-set_other (painted im which word) i c (word i) 0 (eqb-false c i q) ∙ painted-cell which c k ∙ rw (f c (eqb-false c i q))

-- painted twice
pub painted-twice : (im : List ℕ) (word : ℕ → ℕ) (which that : ℕ → Bool) → painted (painted im which word) that word ≡ painted im (λ c. that c || which c) word
painted-twice im word which that =
    is-painted im word (λ c. that c || which c) (painted (painted im which word) that word)
    (length-painted (painted im which word) word that ∙ length-painted im word which)
    (λ c l.
    let k : c < length (painted im which word) = rw (length-painted im word which) l in
    painted-cell (painted im which word) word that c k ∙ rw (painted-cell im word which c l) (either (that c) (which c) (word c) (get_or im c 0)))

-- the words matter only where they are painted
pub painted-words : (im : List ℕ) (word other : ℕ → ℕ) (which : ℕ → Bool) → ((c : ℕ) → which c ≡ true → word c ≡ other c) → painted im which word ≡ painted im which other
painted-words im word other which f =
    is-painted im other which (painted im which word) (length-painted im word which)
    (λ c l. painted-cell im word which c l ∙ go c (which c) refl)
  where
    go : (c : ℕ) (b : Bool) → which c ≡ b → cond b (word c) (get_or im c 0) ≡ cond b (other c) (get_or im c 0)
    go c true e = f c e
    go c false e = refl
