use Rattle.std.proofs.Common.{◌≡◌, ◌+◌, ◌*◌, ◌/◌, ◌<◌, ◌≤◌, length, take, sym, ◌∙◌, arith}
use lib.Seq.{take-length}
use Rattle.lerc_words.proofs.Tables.{length-tabulate}
use Rattle.lerc_byte_image.specs.Table.{codes_at, prefix_free}
use Rattle.lerc_byte_image.proofs.Codes.{bits-le, clear-is}
use Rattle.lerc_byte_image.proofs.Reading.{table_of, front-is, rest-cut, rest-bad, rest_ok}
use Rattle.lerc_byte_image.proofs.table.read_rest.Goals as goal
use Rattle.lerc_byte_image.proofs.table.read_rest.Goals.{After-is_prefix_free, After-read_codes, Else-s-next}

pub overflow_add-size : goal.overflow_add-size
overflow_add-size c =
    omega (arith, c.requires.sum, c.requires.many, c.requires.asked.few, bits-le c.args.lengths.now c.requires.asked.narrow c.args.range.count)

pub returns-then-s-next : goal.returns-then-s-next
returns-then-s-next c =
    let a = c.args in
    let h : length a.s.now < a.next + (a.bits + 31) / 32 * 4 = omega (arith, c.if-s-next.true, c.requires.asked.inside) in
    sym (rest-cut a.s.now a.range a.next a.lengths.now (rw c.requires.sum at h))

-- the codes stand in front
front : (c : After-read_codes) → let a = c.args in take (length a.lengths.now) c.read_codes.new.codes ≡ codes_at a.s.now a.next (length a.lengths.now) a.lengths.now
front c = rw c.read_codes.ensures (front-is _ _ _)

-- whether they are prefix-free
free : (c : After-is_prefix_free) → let a = c.args in c.is_prefix_free.result ≡ prefix_free (table_of a.s.now a.range a.next a.lengths.now)
free c =
    let a = c.args in
    rw (front (goal.at.After-is_prefix_free c).After-read_codes, c.requires.many) at c.is_prefix_free.ensures ∙ sym (clear-is (table_of a.s.now a.range a.next a.lengths.now))

-- the run fits
fits : (c : Else-s-next) → let a = c.args in (table_of a.s.now a.range a.next a.lengths.now).start ≤ length a.s.now
fits c =
    let a = c.args in
    let h : a.next + (a.bits + 31) / 32 * 4 ≤ length a.s.now = omega (arith, c.if-s-next.false, c.requires.asked.inside) in
    rw c.requires.sum at h

pub slice_bounds-is_prefix_free-end-2 : goal.slice_bounds-is_prefix_free-end-2
slice_bounds-is_prefix_free-end-2 c = rw (front (goal.at.slice_bounds-is_prefix_free-end-2 c).After-read_codes) (sym (length-tabulate _ _))

pub is_prefix_free-requires : goal.is_prefix_free-requires
is_prefix_free-requires c = record { same = rw (front (goal.at.is_prefix_free-requires c).After-read_codes) (length-tabulate _ _); narrow = c.requires.asked.narrow }

pub returns-then-not-is_prefix_free : goal.returns-then-not-is_prefix_free
returns-then-not-is_prefix_free c =
    let a = c.args in
    sym (rest-bad a.s.now a.range a.next a.lengths.now (fits (goal.at.returns-then-not-is_prefix_free c).Else-s-next) (sym (free (goal.at.returns-then-not-is_prefix_free c).After-is_prefix_free) ∙ c.if-not-is_prefix_free.true))

pub returns : goal.returns
returns c =
    let a = c.args in
    let vs = a.lengths.now in
    let d : take a.range.count vs ≡ vs = rw (← c.requires.many) (take-length vs) in
    let e = rw c.requires.many at (front (goal.at.returns c).After-read_codes) in
    rw (d, e, c.requires.sum) (sym (rest_ok a.s.now a.range a.next vs (fits (goal.at.returns c).Else-s-next) (sym (free (goal.at.returns c).After-is_prefix_free) ∙ c.if-not-is_prefix_free.false)))
