-- What each way of reading gives: one law for each place where the code returns.
-- Assumes nothing.
use mathlib.Core.Path.{◌≡◌, refl, sym, ap, ◌∙◌}
use mathlib.Core.Bool.{true}
use mathlib.Core.List.{List, [], ◌++◌}
use Prim.Native.Nat.{ℕ, zero, suc, ◌+◌, ◌/◌, ◌%◌, ◌≤◌, ◌<◌}
use native.Mathlib.Nat.{not-suc-le-zero}
use borrow.Author.Tests.{le-leb, lt-leb, leb-true, eq-eqb, ne_eqb}
use lib.Dec.{leb, eqb}
use lib.ListN.{length, drop, replicate}
use Rattle.lerc_words.specs.declared.Refusal.{Refusal}
use Rattle.lerc_words.specs.Res.{Res, ok, fail, refuse, marked, require, word_at, each}
use Rattle.lerc_words.specs.Lists.{over}
use Rattle.lerc_words.proofs.Marking.{marked-tells, marked-after}
use Rattle.lerc_words.proofs.Each.{each_none}
use Rattle.lerc_words.proofs.Binding.{bind_is, require-is, ok-is}
use Rattle.lerc_words.proofs.Little.{Bytes, word_at-is, byte-lt}
use Rattle.lerc_numeric.specs.Numeric.{finite}
use Rattle.lerc_numeric.specs.Kinds.{type_size}
use Rattle.lerc_samples.specs.Samples.{sample_at, stored, offset_kind}
use Rattle.lerc_block.specs.Block.{Block, Offset, level_block, offset_at, finite_offset, flag_at, tile_limit, next_block, BlockRead}
use Rattle.lerc_block.specs.Check.{read_flag}

-- ---- the promise

pub refused : {m : Res Block} {r : Res ℕ} {why : Refusal} {old : List ℕ} → r ≡ fail why → m ≡ fail why → BlockRead m r old old
refused d e = rw (d, e) (record { says = refl; words = refl })

pub given : {m : Res Block} (words : List ℕ) (n : ℕ) {next : ℕ} {old new : List ℕ} → m ≡ ok (record { words = words; next = next }) → length words ≡ n
    → new ≡ words ++ drop n old → BlockRead m (ok next) old new
given words n e l d = rw (e, d) (record { says = refl; words = rw (l) })

-- another way of saying the same
-- with a place on the answer
pub next-at : (m : Res Block) (r q : Res ℕ) (p : ℕ) → r ≡ next_block m → q ≡ marked p r → q ≡ next_block (marked p m)
next-at m r q p d e = e ∙ ap (marked p) d ∙ marked-tells p m (λ b. b.next)

pub read_at : {m : Res Block} {r q : Res ℕ} (p : ℕ) {old new : List ℕ} → BlockRead m r old new → q ≡ marked p r → BlockRead (marked p m) q old new
read_at {m} {r} {q} p {old} d e = record {
  says = next-at m r q p d.says e;
  words = d.words ∙ sym (marked-after p m old (λ b. over b.words old));
}

pub likewise : {m k : Res Block} {r : Res ℕ} {old new : List ℕ} → m ≡ k → BlockRead k r old new → BlockRead m r old new
likewise e b = rw e b

-- ---- low bits 3

module _ (f : ℕ → Res ℕ) (v : ℕ) where
  pub each_same : (n : ℕ) {w : ℕ} → f v ≡ ok w → each f (replicate n v) ≡ ok (replicate n w)
  unfolding each
  each_same zero e = refl
  each_same (suc n) e = rw (e, each_same n e)

  pub each-same-no : (n : ℕ) {r : Refusal} → 0 < n → f v ≡ fail r → each f (replicate n v) ≡ fail r
  unfolding each
  each-same-no zero h e = absurd (not-suc-le-zero h)
  each-same-no (suc n) h e = rw (e)

module _ (at kind offset n : ℕ) where
  pub level-ok : (w : ℕ) → stored kind offset ≡ ok w → level_block at kind offset n ≡ ok (record { words = replicate n w; next = at })
  unfolding level_block
  level-ok w e = rw (each_same (stored kind) offset n e)

  pub level-no : {r : Refusal} → 0 < n → stored kind offset ≡ fail r → level_block at kind offset n ≡ fail r
  unfolding level_block
  level-no h e = rw (each-same-no (stored kind) offset n h e)

pub level-none : (at kind offset n : ℕ) → n ≡ 0 → level_block at kind offset n ≡ ok (record { words = []; next = at })
unfolding level_block
level-none at kind offset n e = rw (e, each_none (stored kind))

-- ---- an offset that was read

pub record Found (s : List ℕ) (at kind flag : ℕ) (o : Offset) : Type 0 where
  pub k : ℕ
  pub named : offset_kind kind (flag / 64) ≡ ok k
  pub sampled : sample_at k s at ≡ ok o.value
  pub ends : o.next ≡ at + type_size k

module _ (s : List ℕ) (at kind flag : ℕ) {o : Offset} where
  pub offset-is : offset_at s at kind flag ≡ ok o → Found s at kind flag o
  unfolding offset_at
  offset-is e =
      let (k, p, e) = bind_is (offset_kind kind (flag / 64)) _ e in
      let (v, q, e) = bind_is (sample_at k s at) _ e in
      let z = ok-is e in
      record { k = k; named = p; sampled = q ∙ ap (λ (o : Offset). ok o.value) z; ends = ap (λ (o : Offset). o.next) (sym z) }

  pub finite-is : finite_offset s at kind flag ≡ ok o → (offset_at s at kind flag ≡ ok o) × (finite o.value ≡ true)
  unfolding finite_offset
  finite-is e =
      let (u, p, e) = bind_is (offset_at s at kind flag) _ e in
      let (t, q, e) = bind_is (require (finite u.value) 8) _ e in
      rw (← ok-is e) (p, require-is _ 8 q)

-- ---- the flag

module _ (s : List ℕ) (at x n : ℕ) where
  pub flag-many : 256 < n → fail (refuse 8) ≡ read_flag s at x n
  unfolding read_flag
  flag-many h = rw (lt-leb _ _ h)

  module _ (h : n ≤ 256) where
    pub flag-no : {r : Refusal} → word_at 1 s at ≡ fail r → fail r ≡ read_flag s at x n
    unfolding read_flag flag_at
    flag-no e = rw (le-leb _ _ h, e)

    module _ (flag : ℕ) (e : word_at 1 s at ≡ ok flag) where
      pub flag-strange : (flag / 4 % 16 ≡ x / 8 % 16 → ⊥) → fail (refuse 8) ≡ read_flag s at x n
      unfolding read_flag flag_at
      flag-strange d = rw (le-leb _ _ h, e, ne_eqb _ _ d)

      pub flag_ok : flag / 4 % 16 ≡ x / 8 % 16 → ok flag ≡ read_flag s at x n
      unfolding read_flag flag_at
      flag_ok d = rw (le-leb _ _ h, e, eq-eqb _ _ d)

-- a flag that was accepted
module _ (s : List ℕ) (at x : ℕ) {flag : ℕ} where
  pub flag_is : flag_at s at x ≡ ok flag → (word_at 1 s at ≡ ok flag) × (eqb (flag / 4 % 16) (x / 8 % 16) ≡ true)
  unfolding flag_at
  flag_is e =
      let (v, p, e) = bind_is (word_at 1 s at) _ e in
      let (t, q, e) = bind_is (require (eqb (v / 4 % 16) (x / 8 % 16)) 8) _ e in
      rw (← ok-is e) (p, require-is _ 8 q)

-- what was read for a tile of n pixels
pub record Flagged (s : List ℕ) (at n flag : ℕ) : Type 0 where
  pub few : n ≤ 256
  pub inside : at + 1 ≤ length s
  pub byte : Bytes s → flag < 256

pub read-flag-is : (s : List ℕ) (at x n : ℕ) {flag : ℕ} → read_flag s at x n ≡ ok flag → Flagged s at n flag
unfolding read_flag
read-flag-is s at x n {flag} e =
    let (t, p, e) = bind_is (require (leb n tile_limit) 8) _ e in
    let w = (flag_is s at x e).0 in
    record { few = leb-true _ _ (require-is _ 8 p); inside = (word_at-is 1 s at flag w).inside; byte = λ y. byte-lt s at flag y w }

-- ---- the promise leaves no room

-- two outcomes that it allows coincide
pub read_same : {m : Res Block} {a b : Res ℕ} {old x y : List ℕ} → BlockRead m a old x → BlockRead m b old y → (a ≡ b) × (x ≡ y)
read_same p q = (p.says ∙ sym q.says, p.words ∙ sym q.words)
