use Rattle.lerc_c.proofs.RecordParts.{staged-put}
use Rattle.lerc_c.proofs.staged.put_staged.Goals as goal

pub returns : goal.returns
returns c =
    let a = c.args in
    staged-put a.s a.out.now c.kind_number.ensures c.mask_number.ensures c.mask_length.ensures
    c.put_header.ensures c.put.ensures
