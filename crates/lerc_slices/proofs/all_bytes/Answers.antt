use mathlib.Core.Path.{◌≡◌, ◌∙◌}
use mathlib.Core.List.{List}
use mathlib.Core.Bool.{true, false}
use Prim.Native.Nat.{ℕ, ◌*◌, ◌/◌, ◌≤◌}
use lib.ListN.{length, replicate}
use native.Mathlib.Omega.{arith}
use borrow.Author.Tests.{tests}
use Rattle.std.proofs.Common.{rules}
use Rattle.std.specs.Cmp.Lexicographic.{pointwise}
use lib.Dec.{eqb}
use Rattle.std.proofs.lemmas.Iterator.{cases_from_all, YieldsList-from_slice}
use Rattle.lerc_slices.proofs.Begins.{one-differs, all-like}
use Rattle.lerc_slices.proofs.all_bytes.Goals as goal

pub returns-then-all : goal.returns-then-all
returns-then-all c =
    let v = c.args.byte in
    let s = c.args.bytes.now in
    let h : length s / 8 * 8 ≤ length s = omega arith in
    let first = cases_from_all _ _ _ (λ (e : List ℕ). pointwise eqb e (replicate 8 v) ≡ true) (λ (e : List ℕ). pointwise eqb e (replicate 8 v) ≡ false) c.all.ensures.ran (YieldsList-from_slice c.as_chunks.result.0.now c.iter.ensures.rest) (λ x q k. search (rules, tests)) (λ x q k. search (rules, tests)) in
    let last = cases_from_all _ _ _ (λ (e : ℕ). e ≡ v) (λ (e : ℕ). e ≡ v → ⊥) c.all-then-all.ensures.ran (YieldsList-from_slice c.as_chunks.result.1.now c.iter-then-all.ensures.rest) (λ x q k. search (rules, tests)) (λ x q k. search (rules, tests)) in
    all-like v (length s / 8) s h (rw (c.if-all.true, c.as_chunks.ensures.front) at first) _ (rw (c.as_chunks.ensures.back) at last)

pub returns-else-all : goal.returns-else-all
returns-else-all c =
    let v = c.args.byte in
    let s = c.args.bytes.now in
    let h : length s / 8 * 8 ≤ length s = omega arith in
    let first = cases_from_all _ _ _ (λ (e : List ℕ). pointwise eqb e (replicate 8 v) ≡ true) (λ (e : List ℕ). pointwise eqb e (replicate 8 v) ≡ false) c.all.ensures.ran (YieldsList-from_slice c.as_chunks.result.0.now c.iter.ensures.rest) (λ x q k. search (rules, tests)) (λ x q k. search (rules, tests)) in
    c.if-all.false ∙ one-differs v (length s / 8) s h (rw (c.if-all.false, c.as_chunks.ensures.front) at first)
