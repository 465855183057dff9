use Rattle.lerc_block.proofs.Returns.{read_at}
use Rattle.lerc_block.proofs.read_block.Goals as goal

pub returns : goal.returns
returns c = read_at c.args.at c.read_words-got.ensures c.marked.ensures
