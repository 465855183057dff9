use Prim.Native.Nat.{◌+◌, min}
use mathlib.Core.Path.{◌≡◌, sym, ◌∙◌, ap}
use native.Mathlib.Omega.{arith}
use Rattle.lerc_checksum.specs.Checksum.{closed_to, folded}
use Rattle.lerc_checksum.specs.Laws.{Bytes}
use Rattle.lerc_checksum.proofs.Bounds.{closed-small}
use Rattle.lerc_checksum.proofs.Groups.{start-closed, group-closed}
use Rattle.lerc_checksum.proofs.count_groups.Goals as goal
use Rattle.lerc_checksum.proofs.count_groups.Goals.{In-loop-k, After-fold_both-sums}

pub loop-k-init : goal.loop-k-init
loop-k-init c = let e : min 0 c.args.words ≡ 0 = omega arith in (omega arith, rw (e) (sym (start-closed _)))

pub count_words-requires : goal.count_words-requires
count_words-requires c =
    let bytes : Bytes c.args.s.now = λ i. omega (arith, c.type_inv.s i) in
    (omega (arith, c.min-n.ensures), omega (arith, c.min-n.ensures), rw c.loop-k.invariant.1 (closed-small _ bytes _))

-- behind the turn's group
behind : (c : After-fold_both-sums) → c.fold_both-sums.result ≡ closed_to c.args.s.now (c.loop-k.k + c.min-n.result)
behind c =
    let k = c.loop-k.k in
    let least = c.min-n.ensures in
    let e : min k c.args.words ≡ k = omega arith in
    let is = rw (e) at c.loop-k.invariant.1 in
    c.fold_both-sums.ensures ∙ ap folded c.count_words.ensures ∙ rw (is) (group-closed c.args.s.now k c.min-n.result c.loop-k.invariant.0 (omega (arith, least)) (omega (arith, least)))

pub loop-k-preserved : goal.loop-k-preserved
loop-k-preserved c =
    let e : min (c.loop-k.k + 359) c.args.words ≡ c.loop-k.k + c.min-n.result = omega (arith, c.min-n.ensures) in
    (omega (arith, c.loop-k.invariant.0), rw (e) (behind (goal.at.loop-k-preserved c).After-fold_both-sums))

pub returns : goal.returns
returns c =
    let e : min c.loop-k.k c.args.words ≡ c.args.words = omega arith in
    rw (e) at c.loop-k.invariant.1

pub returns-2 : goal.returns-2
returns-2 c =
    let e : c.loop-k.k + c.min-n.result ≡ c.args.words = omega (arith, c.min-n.ensures) in
    rw (e) at (behind (goal.at.returns-2 c).After-fold_both-sums)
