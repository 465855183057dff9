use Rattle.std.proofs.Common.{sym}
use Rattle.lerc_byte_image.specs.Image.{by_table}
use Rattle.lerc_byte_image.proofs.Writes.{read_is, lengths-in, codes-in, lengths-cut, codes-cut, read_behind}
use Rattle.lerc_byte_image.proofs.image.write_image.Goals as goal

pub slice_bounds-lengths-end : goal.slice_bounds-lengths-end
slice_bounds-lengths-end c =
    let f = c.in-Ok in
    let r = c.read_table in
    let a = c.args in
    lengths-in a.s.now a.at f.found r.new.lengths r.new.codes f.ensures

pub slice_bounds-write_cells-end : goal.slice_bounds-write_cells-end
slice_bounds-write_cells-end c =
    let f = c.in-Ok in
    let r = c.read_table in
    let a = c.args in
    lengths-cut a.s.now a.at f.found r.new.lengths r.new.codes f.ensures

pub slice_bounds-codes-end : goal.slice_bounds-codes-end
slice_bounds-codes-end c =
    let f = c.in-Ok in
    let r = c.read_table in
    let a = c.args in
    codes-in a.s.now a.at f.found r.new.lengths r.new.codes f.ensures

pub slice_bounds-write_cells-end-in-Ok : goal.slice_bounds-write_cells-end-in-Ok
slice_bounds-write_cells-end-in-Ok c =
    let f = c.in-Ok in
    let r = c.read_table in
    let a = c.args in
    codes-cut a.s.now a.at f.found r.new.lengths r.new.codes f.ensures

pub write_cells-requires : goal.write_cells-requires
write_cells-requires c =
    let f = c.in-Ok in
    let r = c.read_table in
    let a = c.args in
    (c.requires.3, read_behind a.s.now a.at f.found r.new.lengths r.new.codes f.ensures c.requires.1, c.requires.4)

pub returns-in_default : goal.returns-in_default
returns-in_default c = rw (sym c.in_default.ensures)

pub returns-in-Ok : goal.returns-in-Ok
unfolding by_table
returns-in-Ok c =
    let f = c.in-Ok in
    let r = c.read_table in
    let a = c.args in
    rw (read_is a.s.now a.at f.found r.new.lengths r.new.codes f.ensures, ← c.requires.0) c.write_cells.ensures
