use mathlib.Core.Path.{sym}
use Rattle.lerc_words.proofs.Marking.{exits}
use Rattle.lerc_sweep.specs.Sweep.{raw_from, blocks_from, huffman_from}
use Rattle.lerc.proofs.Checking.{swept-to, sweep-no}
use Rattle.lerc.specs.Parts.{mask_by}
use Rattle.lerc.proofs.body.check_swept.Goals as goal

pub check_huffman-requires : goal.check_huffman-requires
check_huffman-requires c = (c.requires.header, c.requires.whole)

pub returns-in_err-way : goal.returns-in_err-way
returns-in_err-way c =
    let a = c.args in
    rw (exits _ c.from_residual.ensures.1) (sweep-no a.s.now a.h (mask_by a.s.now a.h a.lent a.mask.now) _ (sym c.in_err-way.ensures))

pub returns-in-Raw : goal.returns-in-Raw
returns-in-Raw c =
    let a = c.args in
    swept-to a.s.now a.h (mask_by a.s.now a.h a.lent a.mask.now) _ (raw_from c.in-Raw.at) (rw c.in-Raw.is at (sym c.in_ok-way.ensures)) (c.check_raw.ensures _ _)

pub returns-in-Blocks : goal.returns-in-Blocks
returns-in-Blocks c =
    let a = c.args in
    swept-to a.s.now a.h (mask_by a.s.now a.h a.lent a.mask.now) _ (blocks_from c.in-Blocks.at) (rw c.in-Blocks.is at (sym c.in_ok-way.ensures)) c.check_blocks.ensures

pub returns-in-Huffman : goal.returns-in-Huffman
returns-in-Huffman c =
    let a = c.args in
    swept-to a.s.now a.h (mask_by a.s.now a.h a.lent a.mask.now) _ (huffman_from c.in-Huffman.delta c.in-Huffman.mode) (rw c.in-Huffman.is at (sym c.in_ok-way.ensures)) (c.check_huffman.ensures _ _)
