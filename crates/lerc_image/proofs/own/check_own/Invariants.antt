use Rattle.lerc_image.specs.Own.{mask_by, RowsOnWay}
use Rattle.lerc_image.proofs.Rows.{Carried}
use Rattle.lerc_image.proofs.Walking.{Walking}
use Rattle.lerc_image.proofs.own.check_own.Given as goal

abbrev pub invariant-loop : goal.invariant-loop
invariant-loop l =
    let m = mask_by l.full l.want l.section in
    Walking l.s l.h l.maxima m l.at l.e l.p l.counter l.next × Carried l.e.shape m l.counter l.valid × RowsOnWay l.want l.section l.places
