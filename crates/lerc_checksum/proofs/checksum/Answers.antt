use mathlib.Core.Path.{◌∙◌, ap}
use native.Mathlib.Omega.{arith}
use Rattle.lerc_checksum.specs.Checksum as Rule
use Rattle.lerc_checksum.specs.Laws.{Bytes}
use Rattle.lerc_checksum.proofs.Bounds.{closed-small}
use Rattle.lerc_checksum.proofs.checksum.Goals as goal

pub count_last-all-requires : goal.count_last-all-requires
count_last-all-requires c =
    let bytes : Bytes c.args.s.now = λ i. omega (arith, c.type_inv.s i) in
    rw c.count_groups-whole.ensures (closed-small _ bytes _)

pub returns : goal.returns
unfolding Rule.checksum
returns c =
    let all = c.count_last-all.ensures ∙ ap (Rule.with_last c.args.s.now) c.count_groups-whole.ensures in
    c.join.ensures ∙ ap Rule.joined (c.fold_both.ensures ∙ ap Rule.folded all)
