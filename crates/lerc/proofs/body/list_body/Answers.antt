use Rattle.lerc.proofs.Writing.{list-empty, list-constant, list-raw, list-huffman, blocks-listed}
use Rattle.lerc.proofs.body.list_body.Goals as goal

pub returns-in-Blocks : goal.returns-in-Blocks
returns-in-Blocks c =
    blocks-listed c.requires.0 c.in-Blocks.is c.args.list.now c.requires.1 c.list_tiles.ensures

pub returns-in-Empty : goal.returns-in-Empty
returns-in-Empty c = list-empty c.requires.0 c.args.list.now c.in-Empty.is

pub returns-in-Constant : goal.returns-in-Constant
returns-in-Constant c = list-constant c.requires.0 c.args.list.now c.in-Constant.is

pub returns-in-Raw : goal.returns-in-Raw
returns-in-Raw c = list-raw c.requires.0 c.args.list.now c.in-Raw.is

pub returns-in-Huffman : goal.returns-in-Huffman
returns-in-Huffman c = list-huffman c.requires.0 c.args.list.now c.in-Huffman.is
