-- A list's answers one by one, and an array that a loop fills with them.
-- Assumes nothing.
use mathlib.Core.Path.{◌≡◌, ◌∙◌, sym, ap, refl}
use mathlib.Core.List.{List, [], ◌∷◌, ◌++◌}
use Prim.Native.Nat.{ℕ, zero, suc, ◌+◌, ◌≤◌, ◌<◌}
use native.Mathlib.Omega.{arith}
use native.Mathlib.Numerals.{add-one}
use lib.ListN.{length, get_or, set, take, drop, replicate, length-append, length-take, length-drop, take-append-drop}
use lib.Seq.{set_at, drop-cons, append_snoc, take-suc, take_all}
use Rattle.lerc_words.specs.declared.Refusal.{Refusal}
use Rattle.lerc_words.specs.Res.{Res, ok, fail, each}
use Rattle.lerc_words.specs.Lists.{over}
use Rattle.lerc_words.proofs.Binding.{bind_is, ok-is, each-length}

module _ {A B : Type 0} (f : A → Res B) where
  pub each_append : (xs ys : List A) {us vs : List B} → each f xs ≡ ok us → each f ys ≡ ok vs → each f (xs ++ ys) ≡ ok (us ++ vs)
  unfolding each
  each_append [] ys {us} {vs} p q = q ∙ ap (λ (l : List B). ok (l ++ vs)) (ok-is p)
  each_append (x ∷ xs) ys {us} {vs} p q =
      let (z, u, p) = bind_is (f x) _ p in
      let (zs, v, p) = bind_is (each f xs) _ p in
      rw (u, each_append xs ys v q) (ap (λ (l : List B). ok (l ++ vs)) (ok-is p))

  -- the first that fails decides
  pub each-fails : (xs : List A) (y : A) (ys : List A) {us : List B} {r : Refusal} → each f xs ≡ ok us → f y ≡ fail r → each f (xs ++ y ∷ ys) ≡ fail r
  unfolding each
  each-fails [] y ys p q = rw (q)
  each-fails (x ∷ xs) y ys p q =
      let (z, u, p) = bind_is (f x) _ p in
      let (zs, v, p) = bind_is (each f xs) _ p in
      rw (u, each-fails xs y ys v q)

  pub each_none : each f [] ≡ ok []
  unfolding each
  each_none = refl

  pub each-one : (x : A) {y : B} → f x ≡ ok y → each f (x ∷ []) ≡ ok (y ∷ [])
  unfolding each
  each-one x p = rw (p)

  -- the same entry everywhere
  pub each-replicate : (n : ℕ) (x : A) {y : B} → f x ≡ ok y → each f (replicate n x) ≡ ok (replicate n y)
  unfolding each
  each-replicate zero x p = refl
  each-replicate (suc n) x p = rw (p, each-replicate n x p)

  pub each-replicate-fails : (n : ℕ) (x : A) {r : Refusal} → 0 < n → f x ≡ fail r → each f (replicate n x) ≡ fail r
  unfolding each
  each-replicate-fails zero x h p = absurd (omega arith)
  each-replicate-fails (suc n) x h p = rw (p)

  -- where all are accepted, each is
  pub each_at : (xs : List A) {ys : List B} (i : ℕ) (d : A) (z : B) → each f xs ≡ ok ys → i < length xs → f (get_or xs i d) ≡ ok (get_or ys i z)
  unfolding each
  each_at [] i d z e l = absurd (omega arith)
  each_at (x ∷ xs) {ys} zero d z e l =
      let (y, p, e) = bind_is (f x) _ e in
      let (t, q, e) = bind_is (each f xs) _ e in
      let v : y ∷ t ≡ ys = ok-is e in
      rw (← v) p
  each_at (x ∷ xs) {ys} (suc i) d z e l =
      let (y, p, e) = bind_is (f x) _ e in
      let (t, q, e) = bind_is (each f xs) _ e in
      let v : y ∷ t ≡ ys = ok-is e in
      rw (← v) (each_at xs i d z q (omega arith))

  -- where one is refused, some one is
  pub each-not : (xs : List A) {r : Refusal} (d : A) → each f xs ≡ fail r → (i : ℕ) × (i < length xs) × (f (get_or xs i d) ≡ fail r)
  unfolding each
  each-not [] d e = absurd (let z : ◌≡◌ {A = ℕ} 0 1 = cc in omega arith)
  each-not (x ∷ xs) {r} d e = go (λ q. each-not xs d q) (f x) refl
    where
      go : (each f xs ≡ fail r → (i : ℕ) × (i < length xs) × (f (get_or xs i d) ≡ fail r)) → (m : Res B) → f x ≡ m
          → (i : ℕ) × (i < length (x ∷ xs)) × (f (get_or (x ∷ xs) i d) ≡ fail r)
      go k (fail q) p = let w = rw (p) at e in let z : q ≡ r = cc in (0, omega arith, p ∙ ap fail z)
      go k (ok y) p = more (each f xs) refl
        where
          more : (m : Res (List B)) → each f xs ≡ m → (i : ℕ) × (i < length (x ∷ xs)) × (f (get_or (x ∷ xs) i d) ≡ fail r)
          more (ok t) q = absurd (let w = rw (p, q) at e in let z : ◌≡◌ {A = ℕ} 0 1 = cc in omega arith)
          more (fail o) q =
              let w = rw (p, q) at e in
              let z : o ≡ r = cc in
              let (i, l, t) = k (q ∙ ap fail z) in
              (suc i, omega arith, t)

-- the same answers, the same list
pub each-alike : {A B : Type 0} (f g : A → Res B) (xs : List A) (d : A) → ((i : ℕ) → i < length xs → f (get_or xs i d) ≡ g (get_or xs i d)) → each f xs ≡ each g xs
unfolding each
each-alike f g [] d h = refl
each-alike f g (x ∷ xs) d h = rw (h 0 (omega arith), each-alike f g xs d (λ i l. h (suc i) (omega arith)))

-- the answers of the first i entries stand in front of an array
pub record Staged (f : ℕ → Res ℕ) (xs : List ℕ) (i : ℕ) (old now : List ℕ) : Type 0 where
  pub front : List ℕ
  pub done : each f (take i xs) ≡ ok front
  pub is : now ≡ over front old
  pub few : i ≤ length xs
  pub room : length xs ≤ length old

module _ (f : ℕ → Res ℕ) (xs : List ℕ) where
  pub staged-none : (old : List ℕ) → length xs ≤ length old → Staged f xs 0 old old
  staged-none old h = record { front = []; done = each_none f; is = refl; few = omega arith; room = h }

  module _ (i : ℕ) (old now : List ℕ) (t : Staged f xs i old now) where
    wide : length t.front ≡ i
    wide = each-length f (take i xs) t.done ∙ simp length-take (omega (arith, t.few))

    pub staged-length : length now ≡ length old
    staged-length = rw t.is (simp (length-append, length-drop) (omega (arith, wide, t.few, t.room)))

    pub staged-more : (w : ℕ) → i < length xs → f (get_or xs i 0) ≡ ok w → Staged f xs (i + 1) old (set now i w)
    staged-more w h e =
        let l : i < length old = omega (arith, t.room) in
        record {
          front = t.front ++ (w ∷ []);
          done = rw (add-one, take-suc xs i 0 h) (each_append f (take i xs) (get_or xs i 0 ∷ []) t.done (each-one f (get_or xs i 0) e));
          is = rw (t.is, length-append, wide, add-one, drop-cons old i 0 l, set_at t.front (get_or old i 0) (drop (suc i) old) w i wide) (sym (append_snoc t.front w (drop (suc i) old)));
          few = omega arith;
          room = t.room;
        }

    -- an entry that fails is the answer
    pub staged-fails : {r : Refusal} → i < length xs → f (get_or xs i 0) ≡ fail r → each f xs ≡ fail r
    staged-fails h e = rw (← take-append-drop i xs, drop-cons xs i 0 h) (each-fails f (take i xs) (get_or xs i 0) (drop (suc i) xs) t.done e)

    -- after the last the array holds them all
    pub staged_done : length xs ≤ i → each f xs ≡ ok t.front
    staged_done h = rw (take_all i xs h) at t.done
