use Rattle.std.proofs.Common.{rules, tests, ◌≡◌, arith, true, false}
use Rattle.std.proofs.lemmas.Iterator.{cases_from_all, YieldsList-from_slice, YieldsList-from_zip}
use lib.ListN.{take}
use Rattle.lerc_header.specs.Header.{pair_right}
use Rattle.lerc_ranges.specs.Ranges.{pairs_right}
use Rattle.lerc_ranges.proofs.Zipped.{all-pairs}
use Rattle.lerc_ranges.proofs.pairs_right.Goals as goal

pub returns : goal.returns
unfolding pairs_right
returns c =
    let a = c.args in
    all-pairs pair_right a.depth a.r.min a.r.max (omega arith) (omega arith) c.all.result
    (cases_from_all c.all.new.self _ _ (λ p. pair_right p.0 p.1 ≡ true) (λ p. pair_right p.0 p.1 ≡ false) c.all.ensures.ran
    (YieldsList-from_zip {s = c.zip.result} (YieldsList-from_slice (take a.depth a.r.min) cc) (YieldsList-from_slice (take a.depth a.r.max) cc)) (λ x q k. search (rules, tests)) (λ x q k. search (rules, tests)))
