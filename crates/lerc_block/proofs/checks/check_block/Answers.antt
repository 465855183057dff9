use Rattle.lerc_block.specs.Block.{read_block_says}
use Rattle.lerc_block.proofs.Returns.{next-at}
use Rattle.lerc_block.proofs.checks.check_block.Goals as goal

pub returns : goal.returns
returns c =
    let a = c.args in
    next-at (read_block_says a.s.now a.at a.kind a.error a.maximum a.x a.n) c.check_words-got.result c.marked.result a.at c.check_words-got.ensures c.marked.ensures
