-- How the lengths of a table are read and judged.
-- Assumes nothing.
use Rattle.std.proofs.Common.{◌≡◌, ℕ, ◌<◌, ◌≤◌, true, false, eqb, leb, List, ◌++◌, length, get_or, take, drop, sym, refl, ◌∙◌, arith, length-take, lt-ltb, eq-eqb, ne_eqb}
use lib.Seq.{take-append_seam}
use Rattle.lerc_words.specs.declared.Refusal.{Refusal}
use Rattle.lerc_words.specs.Res.{Res, ok, fail, refuse, marked}
use Rattle.lerc_words.specs.Lists.{all_to, over}
use Rattle.lerc_words.proofs.Marking.{Bare, unmarked, bare-bind, bare-then, bare-cond}
use Rattle.lerc_bits.specs.declared.Plan.{Plan}
use Rattle.lerc_bits.specs.Bits.{run, all_below, values_of, looked_up, unpacked, plan, Counts, counts, Span, CountsDecoded}
use Rattle.lerc_bits.proofs.Returns.{plan-bare, decoded-at, check-ok, check-no}
use Rattle.lerc_bits.proofs.Values.{counts-few}
use Rattle.lerc_byte_image.specs.Table.{lengths_at}
use Rattle.lerc_byte_image.specs.TableParts.{bits_of, all_short, LengthsRead}

-- ---- packed counts that were read

-- they tell no place by themselves
values-bare : (s : List ℕ) (p : Plan) → Bare (values_of s p)
unfolding values_of looked_up
values-bare s p = bare-cond (eqb p.entries 0) refl (bare-then (all_below p.n p.entries (run s p.at p.n p.width)) 8 _ refl)

counts-bare : (s : List ℕ) (at : ℕ) → Bare (counts s at)
unfolding counts unpacked
counts-bare s at = bare-bind (plan s at) _ (plan-bare s at) (λ p. bare-bind (values_of s p) _ (values-bare s p) (λ vs. refl))

-- so many of them, up to there, stand in front
pub record Found (s : List ℕ) (at n next : ℕ) (new : List ℕ) : Type 0 where
  pub c : Counts
  pub read : counts s at ≡ ok c
  pub many : length c.values ≡ n
  pub ends : c.next ≡ next
  pub front : take n new ≡ c.values

front-of : (vs old : List ℕ) {n : ℕ} {new : List ℕ} → new ≡ over vs old → length vs ≡ n → take n new ≡ vs
front-of vs old e l = rw (e, ← l) (take-append_seam vs (drop (length vs) old))

module _ (s : List ℕ) (at : ℕ) {r q : Res Span} {old new : List ℕ} (d : CountsDecoded (marked at (counts s at)) r old new) (e : q ≡ marked 0 r) where
  -- with the place taken off
  bare : CountsDecoded (counts s at) q old new
  bare = rw (unmarked at (counts s at), counts-bare s at) at (decoded-at 0 d e)

  pub decoded : {t : Span} → q ≡ ok t → Found s at t.n t.next new
  decoded f =
      let (c, read, many, ends) = check-ok (counts s at) bare.says f in
      record { c = c; read = read; many = many; ends = ends; front = front-of c.values old (rw (read) at bare.left) many }

  pub undecoded : {why : Refusal} → q ≡ fail why → counts s at ≡ fail why
  undecoded f = check-no (counts s at) bare.says f

-- there are at most 256, and there is room for them
module _ {s : List ℕ} {at n next : ℕ} {new : List ℕ} (f : Found s at n next new) where
  pub found-few : n ≤ 256
  found-few = rw (← f.many) (counts-few s at f.read)

  pub found-length : length (take n new) ≡ n
  found-length = rw f.front f.many

  pub found-room : n ≤ length new
  found-room = omega (arith, length-take n new, found-length)

-- ---- judged

module _ (s : List ℕ) (at n : ℕ) where
  pub lengths-no : {r : Refusal} → counts s at ≡ fail r → lengths_at s at n ≡ fail r
  unfolding lengths_at
  lengths-no e = rw (e)

module _ (s : List ℕ) (at n : ℕ) {c : Counts} (e : counts s at ≡ ok c) where
  pub lengths-other : (length c.values ≡ n → ⊥) → lengths_at s at n ≡ fail (refuse 8)
  unfolding lengths_at
  lengths-other h = rw (e, ne_eqb _ _ h)

module _ (s : List ℕ) (at n : ℕ) {c : Counts} (e : counts s at ≡ ok c) (d : length c.values ≡ n) where
  pub lengths-long : all_short c.values ≡ false → lengths_at s at n ≡ fail (refuse 8)
  unfolding lengths_at
  lengths-long h =
      let short : all_to n (λ k. leb (get_or c.values k 0) 32) ≡ false = rw (d) at h in
      rw (e, eq-eqb _ _ d, short)

  pub lengths_none : all_short c.values ≡ true → bits_of n c.values ≡ 0 → lengths_at s at n ≡ fail (refuse 8)
  unfolding lengths_at
  lengths_none h k =
      let short : all_to n (λ k. leb (get_or c.values k 0) 32) ≡ true = rw (d) at h in
      rw (e, eq-eqb _ _ d, short, k)

  pub lengths_some : all_short c.values ≡ true → 0 < bits_of n c.values → lengths_at s at n ≡ ok c
  unfolding lengths_at
  lengths_some h k =
      let short : all_to n (λ k. leb (get_or c.values k 0) 32) ≡ true = rw (d) at h in
      rw (e, eq-eqb _ _ d, short, lt-ltb _ _ k)

-- and copied to the front
pub lengths_read : {s : List ℕ} {at n next : ℕ} {new front : List ℕ} (rest : List ℕ) {bits : ℕ} (f : Found s at n next new)
    → all_short f.c.values ≡ true → bits ≡ bits_of n f.c.values → 0 < bits → front ≡ take n new → LengthsRead s at n (ok (record { next = next; bits = bits })) (front ++ rest)
lengths_read {s} {at} {n} {next} {new} rest f h e k d =
    let z : take n (take n new ++ rest) ≡ f.c.values = rw (found-length f) at (take-append_seam (take n new) rest) ∙ f.front in
    rw (d, e) (record { says = rw (z, ← f.ends) (sym (lengths_some s at n f.read f.many h (rw (← e) k))); sum = rw (z) })
