use Rattle.lerc_header.specs.Header.{header_of}
use Rattle.lerc_fields.proofs.fields.Goals as goal

pub returns : goal.returns
unfolding header_of
returns c =
    rw (
      c.quad.ensures,
      c.quad-2.ensures,
      c.quad-3.ensures,
      c.quad-4.ensures,
      c.quad-5.ensures,
      c.quad-6.ensures,
      c.quad-7.ensures,
      c.peek.ensures,
      c.peek-2.ensures,
      c.peek-3.ensures,
      c.quad-8.ensures,
    )
