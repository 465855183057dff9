use borrow.Author.Tests.{ltb-true}
use Rattle.lerc_words.proofs.Binding.{and_is}
use Rattle.lerc_numeric.proofs.machine.takes_step.Goals as goal

pub returns : goal.returns
returns c e =
    let all = and_is _ _ e in
    let ends = and_is _ _ all.0 in
    (c.takes.ensures ends.0, ltb-true _ _ all.1, c.takes-2.ensures ends.1)
