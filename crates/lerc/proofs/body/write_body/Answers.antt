use Prim.Native.Nat.{◌≤◌}
use mathlib.Core.Path.{◌≡◌, sym}
use native.Mathlib.Omega.{arith}
use lib.ListN.{length}
use Rattle.lerc_header.specs.Limits.{depth_limit}
use Rattle.lerc.proofs.Writing.{shaped, raw-asked, image-none, image-constant, image-written, image-huffman, blocks-filled}
use borrow.Author.Rules.{rules}
use Rattle.lerc.proofs.body.write_body.Goals as goal

pub slice_bounds-write_constant-end : goal.slice_bounds-write_constant-end
slice_bounds-write_constant-end c =
    let k : length c.args.body.words ≡ depth_limit = search (rules, c.well_formed.1.1.1.0) in
    sym k

pub write_constant-requires : goal.write_constant-requires
write_constant-requires c =
    let k : length c.args.body.words ≡ depth_limit = search (rules, c.well_formed.1.1.1.0) in
    let long : depth_limit ≤ length c.args.body.words = omega (arith, k) in
    rw c.shape-form.ensures (shaped c.requires.body, c.requires.room, long)

pub write_raw-requires : goal.write_raw-requires
write_raw-requires c =
    rw (c.shape-form.ensures, c.size-size.ensures) (raw-asked c.requires.body c.in-Raw.is c.requires.room)

pub returns-in-Constant : goal.returns-in-Constant
returns-in-Constant c =
    let told = c.in-Constant.is in
    image-constant c.requires.body c.args.image.now told (rw c.shape-form.ensures at c.write_constant.ensures)

pub returns-in-Raw : goal.returns-in-Raw
returns-in-Raw c =
    let told = c.in-Raw.is in
    image-written c.requires.body c.args.image.now told (rw (c.shape-form.ensures, c.size-size.ensures) at c.write_raw.ensures)

pub returns-in-Blocks : goal.returns-in-Blocks
returns-in-Blocks c =
    blocks-filled c.requires.body c.in-Blocks.is c.requires c.fill_tiles.ensures

pub returns-in-Huffman : goal.returns-in-Huffman
returns-in-Huffman c =
    image-huffman c.requires.body c.args.image.now c.in-Huffman.is c.requires.room c.write.ensures

pub returns-in-Empty : goal.returns-in-Empty
returns-in-Empty c =
    let told = c.in-Empty.is in
    image-none c.requires.body c.args.image.now told
