use Rattle.std.proofs.Common.{◌-◌, ◌<◌, arith, le-ltb, lt-ltb}
use Rattle.lerc_byte_image.specs.Symbols.{bits_there}
use Rattle.lerc_byte_image.specs.SymbolParts.{glanced}
use Rattle.lerc_byte_image.proofs.symbols.glance.Goals as goal

pub overflow_cast-result : goal.overflow_cast-result
overflow_cast-result c = record { fits = omega (arith, c.type_inv.quick c.twelve.result) }

pub returns-then-p-stop : goal.returns-then-p-stop
unfolding glanced
returns-then-p-stop c =
    let a = c.args in
    let l : a.p < bits_there a.s.now a.start - 32 = omega (arith, c.requires, c.if-p-stop.true) in
    rw (lt-ltb _ _ l, c.twelve.ensures.0)

pub returns : goal.returns
unfolding glanced
returns c =
    rw (← c.requires.2, le-ltb _ _ c.if-p-stop.false)
