-- What a slice begins with: entry by entry, as its front, and in two parts.
-- Assumes nothing.
use mathlib.Core.Path.{◌≡◌, ◌∙◌, sym, ap, refl}
use mathlib.Core.Bool.{Bool, true, false, ◌&&◌}
use mathlib.Core.List.{List, [], ◌++◌}
use Prim.Native.Nat.{ℕ, zero, suc, ◌+◌, ◌-◌, ◌*◌, ◌≤◌, ◌<◌}
use native.Mathlib.Omega.{arith}
use native.Mathlib.Decide.{dec_lt}
use borrow.Author.Tests.{le-leb, lt-leb, leb-true, eq-eqb, eqb-true}
use lib.Dec.{leb, eqb}
use lib.ListN.{length, get_or, take, drop, replicate, length-append, length-take, length-drop, length-replicate, get_or-replicate, take-append-drop, get_or-append}
use lib.Seq.{ext_get_or, get_or-take, get_or-drop, get_or-append-add, take-append_seam, drop-drop}
use Rattle.std.specs.Bool.{Decides, MatchBool}
use Rattle.std.specs.Cmp.Lexicographic.{pointwise}
use Rattle.std.specs.List.{AllWithin, HoldsAt}
use Rattle.std.specs.Simd.{first_chunks}
use Rattle.std.proofs.lemmas.Bool.Decides.{Decides-eqb}
use Rattle.std.proofs.lemmas.Slice.Eq.{slice_eq-Decides}
use Rattle.lerc_words.specs.Res.{Res, ok, fail, marked}
use Rattle.lerc_words.specs.Lists.{over, all_to}
use Rattle.lerc_words.proofs.Binding.{and_is}
use Rattle.lerc_words.proofs.Tables.{all_true, all-each}
use Rattle.lerc_slices.specs.Slices.{begins_with, accepts_with}

-- ---- entry by entry

pub record Begins (front s : List ℕ) : Type 0 where
  pub fits : length front ≤ length s
  pub at : (i : ℕ) → i < length front → get_or s i 0 ≡ get_or front i 0

module _ (front s : List ℕ) where
  pub begins-is : begins_with front s ≡ true → Begins front s
  unfolding begins_with
  begins-is e =
      let (l, a) = and_is (leb (length front) (length s)) (all_to (length front) (λ i. eqb (get_or s i 0) (get_or front i 0))) e in
      record { fits = leb-true (length front) (length s) l; at = λ i h. eqb-true _ _ (all-each (length front) i (λ k. eqb (get_or s k 0) (get_or front k 0)) a h) }

  pub is-begins : Begins front s → begins_with front s ≡ true
  unfolding begins_with
  is-begins b = rw (le-leb (length front) (length s) b.fits, all_true (length front) (λ i. eqb (get_or s i 0) (get_or front i 0)) (λ i h. eq-eqb _ _ (b.at i h)))

  pub begins-short : length s < length front → begins_with front s ≡ false
  unfolding begins_with
  begins-short h = rw (lt-leb (length front) (length s) h)

  -- one entry that differs decides
  pub begins-differs : (i : ℕ) → i < length front → (get_or s i 0 ≡ get_or front i 0 → ⊥) → begins_with front s ≡ false
  begins-differs i h d = go (begins_with front s) refl
    where
      go : (t : Bool) → begins_with front s ≡ t → begins_with front s ≡ false
      go true e = absurd (d ((begins-is e).at i h))
      go false e = e

-- ---- one byte everywhere

pub record Everywhere (v : ℕ) (s : List ℕ) : Type 0 where
  pub at : (i : ℕ) → i < length s → get_or s i 0 ≡ v

module _ (v : ℕ) (s : List ℕ) where
  pub everywhere-begins : Everywhere v s → begins_with (replicate (length s) v) s ≡ true
  everywhere-begins e =
      let n = length-replicate (length s) v in
      is-begins (replicate (length s) v) s (record {
        fits = omega arith;
        at = λ i h. let l : i < length s = omega arith in e.at i l ∙ sym (get_or-replicate (length s) i v 0 l);
      })

  pub begins-everywhere : begins_with (replicate (length s) v) s ≡ true → Everywhere v s
  begins-everywhere t =
      let n = length-replicate (length s) v in
      record { at = λ i l. (begins-is (replicate (length s) v) s t).at i (omega arith) ∙ get_or-replicate (length s) i v 0 l }

-- each eight at once, then the last few
module _ (v : ℕ) where
  pub everywhere-eights : (n : ℕ) (s : List ℕ) → n * 8 ≤ length s → ((k : ℕ) → k < n → get_or (first_chunks 8 n s) k [] ≡ replicate 8 v) → Everywhere v (drop (n * 8) s) → Everywhere v s
  everywhere-eights zero s h f e = e
  everywhere-eights (suc n) s h f e =
      let m = length-drop 8 s in
      let z : 8 + n * 8 ≡ suc n * 8 = omega arith in
      let d : drop (n * 8) (drop 8 s) ≡ drop (suc n * 8) s = drop-drop (n * 8) 8 s ∙ ap (λ (k : ℕ). drop k s) z in
      let r = everywhere-eights n (drop 8 s) (omega arith) (λ k l. f (suc k) (omega arith)) (rw (d) e) in
      record { at = λ i l. one r i l (dec_lt i 8) }
    where
      one : Everywhere v (drop 8 s) → (i : ℕ) → i < length s → Dec (i < 8) → get_or s i 0 ≡ v
      one r i l (yes m) = sym (get_or-take 8 s i 0 m) ∙ ap (λ (x : List ℕ). get_or x i 0) (f 0 (omega arith)) ∙ get_or-replicate 8 i v 0 m
      one r i l (no m) =
          let k = i - 8 in
          let z : 8 + k ≡ i = omega arith in
          rw (z) at (sym (get_or-drop 8 s k 0) ∙ r.at k (omega (arith, length-drop 8 s)))

  pub eights-everywhere : (n : ℕ) (s : List ℕ) → n * 8 ≤ length s → Everywhere v s → (k : ℕ) → k < n → get_or (first_chunks 8 n s) k [] ≡ replicate 8 v
  eights-everywhere zero s h e k l = absurd (omega arith)
  eights-everywhere (suc n) s h e zero l =
      let m : length (take 8 s) ≡ 8 = simp length-take (omega arith) in
      ext_get_or 0 (take 8 s) (replicate 8 v) (m ∙ sym (length-replicate 8 v)) (λ i o.
      let b : i < 8 = omega arith in get_or-take 8 s i 0 b ∙ e.at i (omega arith) ∙ sym (get_or-replicate 8 i v 0 b))
  eights-everywhere (suc n) s h e (suc k) l =
      eights-everywhere n (drop 8 s) (omega (arith, length-drop 8 s)) (record { at = λ i o. get_or-drop 8 s i 0 ∙ e.at (8 + i) (omega (arith, length-drop 8 s)) }) k (omega arith)

-- what a look at all eights, and then at the last few, has found
length-chunks : (n : ℕ) (s : List ℕ) → length (first_chunks 8 n s) ≡ n
length-chunks zero s = refl
length-chunks (suc n) s = ap suc (length-chunks n (drop 8 s))

false_else : (t : Bool) → (t ≡ true → ⊥) → false ≡ t
false_else true f = absurd (f refl)
false_else false f = refl

module _ (v n : ℕ) (s : List ℕ) (h : n * 8 ≤ length s) where
  abbrev pub eights : List (List ℕ)
  eights = first_chunks 8 n s

  abbrev pub last : List ℕ
  last = drop (n * 8) s

  is-eight : (e : List ℕ) → Decides (pointwise eqb e (replicate 8 v)) (e ≡ replicate 8 v)
  is-eight e = slice_eq-Decides Decides-eqb e (replicate 8 v) _ refl

  pub one-differs : (k : ℕ) × (k < length eights) × HoldsAt (λ e. pointwise eqb e (replicate 8 v) ≡ false) eights k → false ≡ begins_with (replicate (length s) v) s
  one-differs (k, l, f) =
      false_else _ (λ t.
      let e = eights-everywhere v n s h (begins-everywhere v s t) k (omega (arith, length-chunks n s)) in
      absurd (let z = (is-eight (get_or eights k [])).1 e in let w : true ≡ false = sym z ∙ f [] in cc))

  pub all-like : AllWithin (λ e. pointwise eqb e (replicate 8 v) ≡ true) eights 0 (length eights) → (t : Bool)
      → MatchBool t (AllWithin (λ x. x ≡ v) last 0 (length last)) ((k : ℕ) × (k < length last) × HoldsAt (λ x. x ≡ v → ⊥) last k) → t ≡ begins_with (replicate (length s) v) s
  all-like a true b =
      let chunks = λ (k : ℕ) (l : k < n). (is-eight (get_or eights k [])).0 (a k [] (omega arith) (omega (arith, length-chunks n s))) in
      sym (everywhere-begins v s (everywhere-eights v n s h chunks (record { at = λ i l. b i 0 (omega arith) l })))
  all-like a false (k, l, f) =
      false_else _ (λ t. f 0 (get_or-drop (n * 8) s k 0 ∙ (begins-everywhere v s t).at (n * 8 + k) (omega (arith, length-drop (n * 8) s))))

-- ---- as its front

pub begins-take : (front s : List ℕ) → begins_with front s ≡ true → take (length front) s ≡ front
begins-take front s e =
    let b = begins-is front s e in
    let f = b.fits in
    let n : length (take (length front) s) ≡ length front = simp length-take (omega arith) in
    ext_get_or 0 (take (length front) s) front n (λ i l. let k : i < length front = omega arith in get_or-take (length front) s i 0 k ∙ b.at i k)

pub take_begins : (front s : List ℕ) → take (length front) s ≡ front → begins_with front s ≡ true
take_begins front s e = is-begins front s (record {
  fits = omega (arith, ap length e, length-take (length front) s);
  at = λ i h. sym (get_or-take (length front) s i 0 h) ∙ ap (λ (l : List ℕ). get_or l i 0) e;
})

pub begins-over : (front s : List ℕ) → begins_with front (over front s) ≡ true
begins-over front s = take_begins front (over front s) (take-append_seam front (drop (length front) s))

pub over-begins : (front s : List ℕ) → begins_with front s ≡ true → over front s ≡ s
over-begins front s e = ap (λ (l : List ℕ). l ++ drop (length front) s) (sym (begins-take front s e)) ∙ take-append-drop (length front) s

-- ---- in two parts

pub both_ways : (a b : Bool) → (a ≡ true → b ≡ true) → (b ≡ true → a ≡ true) → a ≡ b
both_ways true b f g = sym (f refl)
both_ways false true f g = g refl
both_ways false false f g = refl

and-true : {a b : Bool} → a ≡ true → b ≡ true → (a && b) ≡ true
and-true e f = rw (e, f)

module _ (xs ys s : List ℕ) where
  parts-begin : Begins xs s → Begins ys (drop (length xs) s) → Begins (xs ++ ys) s
  parts-begin p q = record { fits = n; at = λ i h. go i (rw (length-append) at h) (dec_lt i (length xs)) }
    where
      n : length (xs ++ ys) ≤ length s
      n = rw (length-append) (omega (arith, p.fits, q.fits, length-drop (length xs) s))

      go : (i : ℕ) → i < length xs + length ys → Dec (i < length xs) → get_or s i 0 ≡ get_or (xs ++ ys) i 0
      go i h (yes l) = p.at i l ∙ sym (get_or-append xs ys 0 i l)
      go i h (no l) =
          let k = i - length xs in
          let m : k < length ys = omega arith in
          let e : length xs + k ≡ i = omega arith in
          rw (e) at (sym (get_or-drop (length xs) s k 0) ∙ q.at k m ∙ sym (get_or-append-add xs ys k 0))

  begin-parts : Begins (xs ++ ys) s → Begins xs s × Begins ys (drop (length xs) s)
  begin-parts b =
      let f = b.fits in
      let n = length-append xs ys in
      let d = length-drop (length xs) s in (
        record { fits = omega arith; at = λ i h. b.at i (omega arith) ∙ get_or-append xs ys 0 i h },
        record { fits = omega arith; at = λ i h. get_or-drop (length xs) s i 0 ∙ b.at (length xs + i) (omega arith) ∙ get_or-append-add xs ys i 0 },
      )

  pub begins-append : begins_with (xs ++ ys) s ≡ (begins_with xs s && begins_with ys (drop (length xs) s))
  begins-append = both_ways _ _
      (λ e. let (p, q) = begin-parts (begins-is (xs ++ ys) s e) in and-true (is-begins xs s p) (is-begins ys (drop (length xs) s) q))
      (λ e. let (p, q) = and_is (begins_with xs s) (begins_with ys (drop (length xs) s)) e in
      is-begins (xs ++ ys) s (parts-begin (begins-is xs s p) (begins-is ys (drop (length xs) s) q)))

-- only as much of s is looked at
pub begins-front : (front s : List ℕ) (n : ℕ) → length front ≡ n → begins_with front (take n s) ≡ begins_with front s
begins-front front s n e = both_ways _ _ longer shorter
  where
    longer : begins_with front (take n s) ≡ true → begins_with front s ≡ true
    longer t =
        let b = begins-is front (take n s) t in
        is-begins front s (record {
          fits = omega (arith, b.fits, length-take n s);
          at = λ i h. let k : i < n = omega arith in sym (get_or-take n s i 0 k) ∙ b.at i h;
        })

    shorter : begins_with front s ≡ true → begins_with front (take n s) ≡ true
    shorter t =
        let b = begins-is front s t in
        is-begins front (take n s) (record {
          fits = omega (arith, b.fits, length-take n s);
          at = λ i h. let k : i < n = omega arith in get_or-take n s i 0 k ∙ b.at i h;
        })

-- one byte everywhere, in a part
pub begins-repeat : (v n : ℕ) (s : List ℕ) → n ≤ length s → begins_with (replicate (length (take n s)) v) (take n s) ≡ begins_with (replicate n v) s
begins-repeat v n s h =
    let l : length (take n s) ≡ n = simp length-take (omega arith) in
    ap (λ (k : ℕ). begins_with (replicate k v) (take n s)) l ∙ begins-front (replicate n v) s n (length-replicate n v)

-- ---- of an answer

-- a place on a refusal changes nothing
pub marked-accepts-with : {A : Type 0} (p : ℕ) (m : Res A) (test : A → Bool) → accepts_with (marked p m) test ≡ accepts_with m test
marked-accepts-with p (ok a) test = refl
marked-accepts-with p (fail r) test = refl
