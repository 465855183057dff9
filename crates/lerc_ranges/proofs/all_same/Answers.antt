use Rattle.std.proofs.Common.{rules, tests, ◌≡◌, arith, true, false}
use Rattle.std.proofs.lemmas.Iterator.{cases_from_all, YieldsList-from_slice, YieldsList-from_zip}
use lib.ListN.{take}
use Rattle.lerc_numeric.specs.Numeric as Word
use Rattle.lerc_ranges.proofs.Zipped.{all-pairs}
use Rattle.lerc_ranges.proofs.all_same.Goals as goal

pub returns : goal.returns
returns c =
    let a = c.args in
    all-pairs Word.same a.depth a.low.now a.high.now (omega arith) (omega arith) c.all.result
    (cases_from_all c.all.new.self _ _ (λ p. Word.same p.0 p.1 ≡ true) (λ p. Word.same p.0 p.1 ≡ false) c.all.ensures.ran
    (YieldsList-from_zip {s = c.zip.result} (YieldsList-from_slice (take a.depth a.low.now) cc) (YieldsList-from_slice (take a.depth a.high.now) cc)) (λ x q k. search (rules, tests)) (λ x q k. search (rules, tests)))
