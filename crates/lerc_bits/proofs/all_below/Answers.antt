use Prim.Native.Nat.{ℕ, ◌≤◌, ◌<◌}
use lib.ListN.{take}
use borrow.Author.Tests.{tests}
use Rattle.std.proofs.Common.{rules}
use Rattle.std.proofs.lemmas.Iterator.{cases_from_all, YieldsList-from_slice}
use Rattle.lerc_bits.proofs.Choose.{front_below}
use Rattle.lerc_bits.proofs.all_below.Goals as goal

pub returns : goal.returns
returns c =
    let a = c.args in
    let found = cases_from_all _ _ _ (λ (x : ℕ). x < a.entries) (λ (x : ℕ). a.entries ≤ x) c.all.ensures.ran (YieldsList-from_slice (take a.n a.index.now) c.iter.ensures.rest) (λ x q k. search (rules, tests)) (λ x q k. search (rules, tests)) in
    front_below a.n a.entries a.index.now c.requires _ found
