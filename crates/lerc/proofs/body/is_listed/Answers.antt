use Rattle.lerc.proofs.Writing.{holds-empty, holds-constant, holds-raw, holds-huffman, blocks-hold}
use Rattle.lerc.proofs.body.is_listed.Goals as goal

pub returns-in-Blocks : goal.returns-in-Blocks
returns-in-Blocks c =
    blocks-hold c.requires.0 c.in-Blocks.is c.args.list.now c.requires.1 c.are_listed.ensures

pub returns-in-Empty : goal.returns-in-Empty
returns-in-Empty c = holds-empty c.requires.0 c.args.list.now c.in-Empty.is

pub returns-in-Constant : goal.returns-in-Constant
returns-in-Constant c = holds-constant c.requires.0 c.args.list.now c.in-Constant.is

pub returns-in-Raw : goal.returns-in-Raw
returns-in-Raw c = holds-raw c.requires.0 c.args.list.now c.in-Raw.is

pub returns-in-Huffman : goal.returns-in-Huffman
returns-in-Huffman c = holds-huffman c.requires.0 c.args.list.now c.in-Huffman.is
