use Rattle.lerc_checksum.proofs.gather.Goals as goal

pub returns : goal.returns
returns c =
    rw (c.lane_sum-2.ensures, c.lane_sum.ensures, c.lane_sum-odd.ensures)
