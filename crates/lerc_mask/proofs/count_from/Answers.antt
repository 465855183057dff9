use Prim.Native.Nat.{◌+◌, ◌*◌, ◌-◌, ◌/◌, ◌%◌, ◌≤◌}
use mathlib.Core.Path.{◌≡◌, ◌∙◌, sym}
use native.Mathlib.Omega.{arith}
use borrow.Author.Rules.{part_to_end}
use Rattle.lerc_words.proofs.Counts.{count-le}
use Rattle.lerc_mask.specs.Mask.{valid_from}
use Rattle.lerc_mask.proofs.Pixels.{valid-drop, valid-beyond}
use Rattle.lerc_mask.proofs.Cut.{valid-within, valid-across}
use Rattle.lerc_mask.proofs.count_from.Goals as goal
use Rattle.lerc_mask.proofs.count_from.Goals.{After-count, After-count_two, After-ones_cut-front}

pub returns-then-mask-k : goal.returns-then-mask-k
returns-then-mask-k c = let a = c.args in sym (valid-beyond a.first a.n a.mask.now (omega arith))

pub returns-then-n-here : goal.returns-then-n-here
returns-then-n-here c =
    let a = c.args in
    c.ones_cut.ensures.0 ∙ sym (valid-within a.mask.now a.first a.n (omega arith))

-- the first byte, and the pixels behind it
across : (c : After-ones_cut-front) →
    let a = c.args in
    c.ones_cut-front.result + valid_from (8 * (a.first / 8 + 1)) (a.n - (8 - a.first % 8)) a.mask.now ≡ valid_from a.first a.n a.mask.now
across c =
    let a = c.args in
    rw c.ones_cut-front.ensures.0 (sym (valid-across a.mask.now a.first a.n (omega arith)))

-- the pixels behind it, where there are few
few : (c : After-count_two) →
    let a = c.args in
    c.count_two.result ≤ a.n - (8 - a.first % 8)
few c = rw c.count_two.ensures (count-le _ _)

pub overflow_add-result : goal.overflow_add-result
overflow_add-result c =
    omega (arith, c.ones_cut-front.ensures.1, few c, c.ranges.n.fits)

pub returns-then-more-le16 : goal.returns-then-more-le16
returns-then-more-le16 c = rw c.count_two.ensures (across (goal.at.returns-then-more-le16 c).After-ones_cut-front)

-- the pixels behind it, counted as those of a shorter mask
behind : (c : After-count) →
    let a = c.args in
    c.count.result ≡ valid_from (8 * (a.first / 8 + 1)) (a.n - (8 - a.first % 8)) a.mask.now
behind c =
    let a = c.args in
    let m = a.mask.now in
    let k = a.first / 8 + 1 in
    (rw (part_to_end m k) at c.count.ensures) ∙ valid-drop k (a.n - (8 - a.first % 8)) m

pub overflow_add-result-2 : goal.overflow_add-result-2
overflow_add-result-2 c =
    let a = c.args in
    let less : c.count.result ≤ a.n - (8 - a.first % 8) = rw (behind c) (count-le _ _) in
    omega (arith, c.ones_cut-front.ensures.1, less, c.ranges.n.fits)

pub returns : goal.returns
returns c = rw (behind c) (across (goal.at.returns c).After-ones_cut-front)
