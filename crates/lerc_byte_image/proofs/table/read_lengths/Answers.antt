use Rattle.std.proofs.Common.{◌≡◌, true, false, sym, refl, ◌∙◌, arith, length-take}
use Rattle.lerc_words.proofs.Marking.{exits}
use Rattle.lerc_byte_image.specs.TableParts.{bits_of, all_short}
use Rattle.lerc_byte_image.proofs.Lengths.{Found, decoded, undecoded, found-few, found-length, found-room, lengths-no, lengths-other, lengths-long, lengths_none, lengths_read}
use Rattle.lerc_byte_image.proofs.table.read_lengths.Goals as goal
use Rattle.lerc_byte_image.proofs.table.read_lengths.Goals.{After-sum-bits, Else-few-n, Else-not-all_short, In_ok-found, Then-not-all_short}

-- the counts that were read, and that there are n of them
got : (c : In_ok-found) → let a = c.args in Found a.s.now a.at c.in_ok-found.found.n c.in_ok-found.found.next c.decode.new.out
got c = let a = c.args in decoded a.s.now a.at c.decode.ensures c.in_ok-found.ensures refl

all : (c : Else-few-n) → let a = c.args in Found a.s.now a.at a.n c.in_ok-found.found.next c.decode.new.out
all c = rw (← c.if-few-n.false) (got (goal.at.Else-few-n c).In_ok-found)

pub returns-in_err-found : goal.returns-in_err-found
returns-in_err-found c =
    let a = c.args in
    let e = undecoded a.s.now a.at c.decode.ensures c.in_err-found.ensures refl in
    rw (exits _ c.from_residual.ensures.1) (record { says = sym (lengths-no a.s.now a.at a.n e); sum = refl })

pub returns-then-few-n : goal.returns-then-few-n
returns-then-few-n c =
    let a = c.args in
    let f = got (goal.at.returns-then-few-n c).In_ok-found in
    record { says = sym (lengths-other a.s.now a.at a.n f.read (rw f.many c.if-few-n.true)); sum = refl }

-- how they were judged
long : (c : Then-not-all_short) → all_short (all (goal.at.Then-not-all_short c).Else-few-n).c.values ≡ false
long c = let f = all (goal.at.Then-not-all_short c).Else-few-n in rw f.front at (sym c.all_short.ensures ∙ c.if-not-all_short.true)

short : (c : Else-not-all_short) → all_short (all (goal.at.Else-not-all_short c).Else-few-n).c.values ≡ true
short c = let f = all (goal.at.Else-not-all_short c).Else-few-n in rw f.front at (sym c.all_short.ensures ∙ c.if-not-all_short.false)

summed : (c : After-sum-bits) → c.sum-bits.result ≡ bits_of c.args.n (all (goal.at.After-sum-bits c).Else-few-n).c.values
summed c = let f = all (goal.at.After-sum-bits c).Else-few-n in rw (f.front, f.many) at c.sum-bits.ensures

pub returns-then-not-all_short : goal.returns-then-not-all_short
returns-then-not-all_short c =
    let a = c.args in
    let f = all (goal.at.returns-then-not-all_short c).Else-few-n in
    record { says = sym (lengths-long a.s.now a.at a.n f.read f.many (long c)); sum = refl }

pub sum-bits-requires : goal.sum-bits-requires
sum-bits-requires c =
    let f = all (goal.at.sum-bits-requires c).Else-few-n in
    (rw (found-length f) (found-few f), rw f.front (short c))

pub returns-then-bits-eq0 : goal.returns-then-bits-eq0
returns-then-bits-eq0 c =
    let a = c.args in
    let f = all (goal.at.returns-then-bits-eq0 c).Else-few-n in
    record { says = sym (lengths_none a.s.now a.at a.n f.read f.many (short (goal.at.returns-then-bits-eq0 c).Else-not-all_short) (sym (summed (goal.at.returns-then-bits-eq0 c).After-sum-bits) ∙ c.if-bits-eq0.true)); sum = refl }

pub slice_bounds-copy_from_slice-end : goal.slice_bounds-copy_from_slice-end
slice_bounds-copy_from_slice-end c = omega (arith, c.requires, found-few (all (goal.at.slice_bounds-copy_from_slice-end c).Else-few-n))

pub slice_bounds-copy_from_slice-end-2 : goal.slice_bounds-copy_from_slice-end-2
slice_bounds-copy_from_slice-end-2 c = simp length-take (omega (arith, c.requires, found-few (all (goal.at.slice_bounds-copy_from_slice-end-2 c).Else-few-n)))

pub copy_from_slice-requires : goal.copy_from_slice-requires
copy_from_slice-requires c =
    let f = all (goal.at.copy_from_slice-requires c).Else-few-n in
    rw (found-length f) (simp length-take (omega (arith, c.requires, found-few f)))

pub returns : goal.returns
returns c =
    let d = (goal.at.returns c).Else-not-all_short in
    lengths_read _ (all (goal.at.returns c).Else-few-n) (short d) (summed (goal.at.returns c).After-sum-bits) (omega (arith, c.if-bits-eq0.false)) c.copy_from_slice.ensures.after

pub slice_bounds-counts-end : goal.slice_bounds-counts-end
slice_bounds-counts-end c = found-room (all c)

pub slice_bounds-part-end : goal.slice_bounds-part-end
slice_bounds-part-end c = sym (found-length (all (goal.at.slice_bounds-part-end c).Else-few-n))
