use Rattle.lerc_c.specs.Records.{fields_fit}
use Rattle.lerc_c.proofs.records.fields_fit.Goals as goal

pub returns : goal.returns
unfolding fields_fit
returns c =
    rw (
      c.narrow.ensures,
      c.narrow-2.ensures,
      c.narrow-3.ensures,
      c.narrow-4.ensures,
      c.narrow-5.ensures,
      c.narrow-6.ensures,
      c.narrow-7.ensures,
      c.narrow-8.ensures,
    )
