use Rattle.lerc_words.proofs.Binding.{and_is}
use Rattle.lerc_numeric.proofs.add.plus.Goals as goal

pub plus-requires : goal.plus-requires
plus-requires c =
    let both = and_is _ _ c.if-takes.true in
    (c.takes.ensures both.0, c.takes-2.ensures both.1)

pub returns-then-takes : goal.returns-then-takes
returns-then-takes c = c.plus.ensures

pub returns-else-takes : goal.returns-else-takes
returns-else-takes c = c.plus_words.ensures
