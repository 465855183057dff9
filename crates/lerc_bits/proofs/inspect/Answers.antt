use mathlib.Core.Path.{◌∙◌, ap}
use Rattle.lerc_words.specs.Res.{marked}
use Rattle.lerc_bits.proofs.inspect.Goals as goal

pub returns : goal.returns
returns c = c.marked.ensures ∙ ap (marked c.args.start) c.find-found.ensures
