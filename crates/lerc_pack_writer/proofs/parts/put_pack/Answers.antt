use Rattle.lerc_pack_writer.proofs.Putting.{pack-put}
use native.Mathlib.Omega.{arith}
use lib.ListN.{length-take}
use Rattle.lerc_pack_writer.proofs.parts.put_pack.Goals as goal

pub slice_bounds-put_head-end-2 : goal.slice_bounds-put_head-end-2
slice_bounds-put_head-end-2 c = simp length-take (omega (arith, c.requires.fits))

pub put_head-requires : goal.put_head-requires
put_head-requires c = simp length-take (omega (arith, c.requires.fits))

pub returns : goal.returns
returns c =
    pack-put _ c.requires.judged _ _ _ _ c.put_head.ensures c.put_entries.ensures c.requires.fits c.copy.ensures
