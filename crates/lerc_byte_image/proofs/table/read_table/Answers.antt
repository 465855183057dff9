use Rattle.std.proofs.Common.{◌≡◌, ◌+◌, take, sym, ◌∙◌, arith, length-take}
use Rattle.lerc_words.specs.Res.{ok}
use Rattle.lerc_words.proofs.Marking.{exits}
use Rattle.lerc_bits.proofs.Values.{counts-few, counts-ends}
use Rattle.lerc_byte_image.specs.Table.{range_at, lengths_at}
use Rattle.lerc_byte_image.proofs.Reading.{Judged, lengths-is, table-head, table-lengths, table-rest, rest-front}
use Rattle.lerc_byte_image.proofs.table.read_table.Goals as goal
use Rattle.lerc_byte_image.proofs.table.read_table.Goals.{In_ok-found, In_ok-range}

pub returns-in_err-range : goal.returns-in_err-range
returns-in_err-range c =
    let a = c.args in
    rw (exits _ c.from_residual.ensures.1) (sym (table-head a.s.now a.at (sym c.in_err-range.ensures)))

-- the integers, and the lengths
head : (c : In_ok-range) → let a = c.args in range_at a.s.now a.at ≡ ok c.in_ok-range.range
head c = sym c.in_ok-range.ensures

lengths : (c : In_ok-found) → let a = c.args in let n = c.in_ok-range.range.count in
    lengths_at a.s.now (a.at + 16) n ≡ ok (record { values = take n c.read_lengths.new.lengths; next = c.in_ok-found.found.next })
lengths c = sym c.in_ok-found.ensures.says

judged : (c : In_ok-found) → let a = c.args in let n = c.in_ok-range.range.count in
    Judged a.s.now (a.at + 16) n (record { values = take n c.read_lengths.new.lengths; next = c.in_ok-found.found.next })
judged c = let a = c.args in lengths-is a.s.now (a.at + 16) c.in_ok-range.range.count (lengths c)

pub slice_bounds-read_rest-end : goal.slice_bounds-read_rest-end
slice_bounds-read_rest-end c =
    let n = c.in_ok-range.range.count in
    omega (arith, length-take n c.read_lengths.new.lengths, (judged c).many)

pub read_rest-requires : goal.read_rest-requires
read_rest-requires c =
    let f = (goal.at.read_rest-requires c).In_ok-found in
    let j = judged f in
    let few = counts-few c.args.s.now (c.args.at + 16) j.read in
    record {
      asked = record {
        inside = (counts-ends c.args.s.now (c.args.at + 16) j.read).1;
        short = c.requires.0;
        few = few;
        narrow = j.short;
        room = omega (arith, few, c.requires.3);
      };
      many = j.many;
      sum = c.in_ok-found.ensures.sum;
    }

pub returns-in_err-found : goal.returns-in_err-found
returns-in_err-found c =
    let a = c.args in
    rw (exits _ c.from_residual-in_err-found.ensures.1) (sym (table-lengths a.s.now a.at (head (goal.at.returns-in_err-found c).In_ok-range) (sym c.in_err-found.ensures.says)))

pub returns : goal.returns
returns c =
    let a = c.args in
    let f = (goal.at.returns c).In_ok-found in
    let e = table-rest a.s.now a.at (head (goal.at.returns c).In_ok-range) (lengths f) in
    rest-front a.s.now c.in_ok-range.range c.in_ok-found.found.next c.read_lengths.new.lengths _ c.read_rest.result c.read_rest.ensures ∙ sym e

pub slice_bounds-read_rest-end-2 : goal.slice_bounds-read_rest-end-2
slice_bounds-read_rest-end-2 c = sym (judged c).many
