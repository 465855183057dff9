-- An accepted block: how many words it has, and where it ends.
-- Assumes nothing.
use mathlib.Core.Path.{◌≡◌, ◌∙◌}
use mathlib.Core.List.{List}
use Prim.Native.Nat.{ℕ, ◌+◌, ◌*◌, ◌%◌, ◌≤◌, ◌<◌}
use native.Mathlib.Omega.{arith}
use borrow.Author.Tests.{leb-true, eqb-true}
use lib.Dec.{leb, eqb}
use lib.ListN.{length, replicate, length-replicate}
use Rattle.lerc_words.specs.Res.{Res, ok, require, each}
use Rattle.lerc_words.proofs.Binding.{bind_is, require-is, ok-is, cond-elim, each-length}
use Rattle.lerc_words.proofs.Little.{word_at-is}
use Rattle.lerc_words.proofs.Tables.{length-tabulate}
use Rattle.lerc_numeric.specs.Kinds.{type_size}
use Rattle.lerc_samples.specs.Samples.{stored}
use Rattle.lerc_samples.proofs.Reading.{sample-is}
use Rattle.lerc_bits.specs.Bits.{counts}
use Rattle.lerc_bits.proofs.Values.{counts-ends}
use Rattle.lerc_block.specs.Block.{Block, raw_words, level_block, stepped_block, finite_offset, offset_block, formed, flag_at, block_says}
use Rattle.lerc_block.specs.Steps.{step_word}
use Rattle.lerc_block.proofs.Returns.{offset-is, finite-is, flag_is}

-- a word for each pixel, out of bytes that lie in s from `at` on
pub record Lies (s : List ℕ) (at n : ℕ) (b : Block) : Type 0 where
  pub many : length b.words ≡ n
  pub starts : at ≤ b.next
  pub inside : b.next ≤ length s

lies-before : {s : List ℕ} {at to n : ℕ} {b : Block} → at ≤ to → Lies s to n b → Lies s at n b
lies-before h l = record { many = l.many; starts = omega (arith, l.starts); inside = l.inside }

-- ---- the four forms

raw-lies : (s : List ℕ) (at kind n : ℕ) {b : Block} → raw_words s at kind n ≡ ok b → Lies s at n b
unfolding raw_words
raw-lies s at kind n e =
    let (t, p, e) = bind_is (require (leb (at + n * type_size kind) (length s)) 1) _ e in
    rw (← ok-is e) (record { many = length-tabulate n _; starts = omega arith; inside = leb-true _ _ (require-is _ 1 p) })

zero-lies : (s : List ℕ) (at n : ℕ) {b : Block} → at ≤ length s → ok (record { words = replicate n 0; next = at }) ≡ ok b → Lies s at n b
zero-lies s at n h e = rw (← ok-is e) (record { many = length-replicate n 0; starts = omega arith; inside = h })

level-lies : (s : List ℕ) (at kind offset n : ℕ) {b : Block} → at ≤ length s → level_block at kind offset n ≡ ok b → Lies s at n b
unfolding level_block
level-lies s at kind offset n h e =
    let (ws, p, e) = bind_is (each (stored kind) (replicate n offset)) _ e in
    rw (← ok-is e) (record { many = each-length (stored kind) (replicate n offset) p ∙ length-replicate n offset; starts = omega arith; inside = h })

stepped-lies : (s : List ℕ) (at kind error top offset n : ℕ) {b : Block} → stepped_block s at kind error top offset n ≡ ok b → Lies s at n b
unfolding stepped_block
stepped-lies s at kind error top offset n e =
    let (c, p, e) = bind_is (counts s at) _ e in
    let (t, q, e) = bind_is (require (eqb (length c.values) n) 8) _ e in
    let (ws, r, e) = bind_is (each (step_word kind error top offset) c.values) _ e in
    let d = counts-ends s at p in
    let m = each-length (step_word kind error top offset) c.values r ∙ eqb-true _ _ (require-is _ 8 q) in
    rw (← ok-is e) (record { many = m; starts = omega (arith, d.0); inside = d.1 })

offset-lies : (s : List ℕ) (at kind error top flag n : ℕ) {b : Block} → offset_block s at kind error top flag n ≡ ok b → Lies s at n b
unfolding offset_block
offset-lies s at kind error top flag n {b} e =
    let (o, p, e) = bind_is (finite_offset s at kind flag) _ e in
    let f = offset-is s at kind flag (finite-is s at kind flag p).0 in
    let h : o.next ≤ length s = rw f.ends (sample-is f.k s at o.value f.sampled).inside in
    let l = cond-elim (λ (m : Res Block). m ≡ ok b → Lies s o.next n b) (eqb (flag % 4) 3)
    (λ z. level-lies s o.next kind o.value n h)
    (λ z. stepped-lies s o.next kind error top o.value n) e in
    lies-before (omega (arith, f.ends)) l

-- ---- the block

formed-lies : (s : List ℕ) (at kind error top flag n : ℕ) {b : Block} → at ≤ length s → formed s at kind error top flag n ≡ ok b → Lies s at n b
unfolding formed
formed-lies s at kind error top flag n {b} h =
    cond-elim (λ (m : Res Block). m ≡ ok b → Lies s at n b) (eqb (flag % 4) 0)
    (λ z. raw-lies s at kind n)
    (λ z. cond-elim (λ (m : Res Block). m ≡ ok b → Lies s at n b) (eqb (flag % 4) 2)
    (λ y. zero-lies s at n h)
    (λ y. offset-lies s at kind error top flag n))

module _ (s : List ℕ) (at kind error top x n : ℕ) {b : Block} (e : block_says s at kind error top x n ≡ ok b) where
  pub block-lies : Lies s (at + 1) n b
  unfolding block_says
  block-lies =
      let (flag, p, e) = bind_is (flag_at s at x) _ e in
      formed-lies s (at + 1) kind error top flag n (word_at-is 1 s at flag (flag_is s at x p).0).inside e

  -- a word for each valid pixel
  pub block_words : length b.words ≡ n
  block_words = block-lies.many

  -- it ends behind its start, and within
  pub block-ends : (at < b.next) × (b.next ≤ length s)
  block-ends = (omega (arith, block-lies.starts), block-lies.inside)
