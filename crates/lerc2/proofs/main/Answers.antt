use Rattle.lerc2.proofs.Input.{read-within, read_count, read-text}
use Rattle.lerc2.proofs.main.Goals as goal

pub slice_bounds-out-end : goal.slice_bounds-out-end
slice_bounds-out-end c = read-within c.read_full.new.buffer c.in_ok-n.n c.answer_read-r.ensures

pub slice_bounds-write_text-end-2 : goal.slice_bounds-write_text-end-2
slice_bounds-write_text-end-2 c = read_count c.read_full.new.buffer c.in_ok-n.n c.answer_read-r.ensures

pub write_text-requires : goal.write_text-requires
write_text-requires c = read-text c.read_full.new.buffer c.in_ok-n.n c.answer_read-r.ensures
