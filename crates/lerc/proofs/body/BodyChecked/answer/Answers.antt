use Rattle.lerc.proofs.body.BodyChecked.answer.Goals as goal

pub returns-in-Empty : goal.returns-in-Empty
returns-in-Empty c = rw c.in-Empty.is c.tell.ensures

pub returns-in-Constant : goal.returns-in-Constant
returns-in-Constant c = rw c.in-Constant.is c.tell-in-Constant.ensures

pub returns-in-Raw : goal.returns-in-Raw
returns-in-Raw c = rw c.in-Raw.is c.tell-in-Raw.ensures

pub returns-in-Blocks : goal.returns-in-Blocks
returns-in-Blocks c = rw c.in-Blocks.is c.tell-in-Blocks.ensures

pub returns-in-Huffman : goal.returns-in-Huffman
returns-in-Huffman c = rw c.in-Huffman.is c.tell-in-Huffman.ensures
