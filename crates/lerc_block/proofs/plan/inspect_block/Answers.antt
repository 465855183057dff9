use mathlib.Core.Path.{◌∙◌, ap}
use Rattle.lerc_words.specs.Res.{marked}
use Rattle.lerc_block.proofs.plan.inspect_block.Goals as goal

pub returns : goal.returns
returns c = c.marked.ensures ∙ ap (marked c.args.at) c.plan_block-found.ensures
