use Rattle.std.proofs.Common.{◌≡◌, ◌+◌, ◌-◌, ◌<◌, ◌≤◌, sym, ◌∙◌, arith, le-ltb, lt-ltb, le-leb}
use borrow.Author.Tests.{lt-leb}
use Rattle.lerc_words.specs.Res.{ok, word_at}
use Rattle.lerc_words.proofs.Marking.{exits}
use Rattle.lerc_bits.proofs.Returns.{read-bare}
use Rattle.lerc_byte_image.specs.TableParts.{sizes_at}
use Rattle.lerc_byte_image.proofs.table.read_sizes.Goals as goal
use Rattle.lerc_byte_image.proofs.table.read_sizes.Goals.{In_ok-size, In_ok-first, In_ok-end}

-- the three words
size-read : (c : In_ok-size) → let a = c.args in word_at 4 a.s.now (a.at + 4) ≡ ok c.in_ok-size.size
size-read c = let a = c.args in sym (read-bare a.s.now (a.at + 4) 4 (omega arith) c.word.ensures) ∙ sym c.in_ok-size.ensures

first_read : (c : In_ok-first) → let a = c.args in word_at 4 a.s.now (a.at + 8) ≡ ok c.in_ok-first.first
first_read c = let a = c.args in sym (read-bare a.s.now (a.at + 8) 4 (omega arith) c.word-2.ensures) ∙ sym c.in_ok-first.ensures

end_read : (c : In_ok-end) → let a = c.args in word_at 4 a.s.now (a.at + 12) ≡ ok c.in_ok-end.end
end_read c = let a = c.args in sym (read-bare a.s.now (a.at + 12) 4 (omega arith) c.word-3.ensures) ∙ sym c.in_ok-end.ensures

pub returns-in_err-size : goal.returns-in_err-size
unfolding sizes_at
returns-in_err-size c =
    let a = c.args in
    exits _ c.from_residual.ensures.1 ∙ rw (sym (read-bare a.s.now (a.at + 4) 4 (omega arith) c.word.ensures) ∙ sym c.in_err-size.ensures)

pub returns-then-size-gt256 : goal.returns-then-size-gt256
unfolding sizes_at
returns-then-size-gt256 c = rw (size-read (goal.at.returns-then-size-gt256 c).In_ok-size, lt-leb _ _ c.if-size-gt256.true)

pub returns-in_err-first : goal.returns-in_err-first
unfolding sizes_at
returns-in_err-first c =
    let one = (goal.at.returns-in_err-first c).In_ok-size in
    let a = c.args in
    exits _ c.from_residual-in_err-first.ensures.1 ∙ rw (
      size-read one,
      le-leb _ _ c.if-size-gt256.false,
      sym (read-bare a.s.now (a.at + 8) 4 (omega arith) c.word-2.ensures) ∙ sym c.in_err-first.ensures,
    )

pub returns-then-size-first : goal.returns-then-size-first
unfolding sizes_at
returns-then-size-first c =
    let two = (goal.at.returns-then-size-first c).In_ok-first in
    let one = (goal.at.returns-then-size-first c).In_ok-size in
    rw (size-read one, le-leb _ _ c.if-size-gt256.false, first_read two, le-ltb _ _ c.if-size-first.true)

pub returns-in_err-end : goal.returns-in_err-end
unfolding sizes_at
returns-in_err-end c =
    let two = (goal.at.returns-in_err-end c).In_ok-first in
    let one = (goal.at.returns-in_err-end c).In_ok-size in
    let a = c.args in
    exits _ c.from_residual-in_err-end.ensures.1 ∙ rw (
      size-read one,
      le-leb _ _ c.if-size-gt256.false,
      first_read two,
      lt-ltb _ _ c.if-size-first.false,
      sym (read-bare a.s.now (a.at + 12) 4 (omega arith) c.word-3.ensures) ∙ sym c.in_err-end.ensures,
    )

pub returns-then-end-first : goal.returns-then-end-first
unfolding sizes_at
returns-then-end-first c =
    let three = (goal.at.returns-then-end-first c).In_ok-end in
    let two = (goal.at.returns-then-end-first c).In_ok-first in
    let one = (goal.at.returns-then-end-first c).In_ok-size in
    let h : c.in_ok-end.end - c.in_ok-first.first < 1 = omega (arith, c.if-end-first.true) in
    rw (
      size-read one,
      le-leb _ _ c.if-size-gt256.false,
      first_read two,
      lt-ltb _ _ c.if-size-first.false,
      end_read three,
      lt-leb _ _ h,
    )

pub returns-then-size-end : goal.returns-then-size-end
unfolding sizes_at
returns-then-size-end c =
    let three = (goal.at.returns-then-size-end c).In_ok-end in
    let two = (goal.at.returns-then-size-end c).In_ok-first in
    let one = (goal.at.returns-then-size-end c).In_ok-size in
    let h : 1 ≤ c.in_ok-end.end - c.in_ok-first.first = omega (arith, c.if-end-first.false) in
    rw (
      size-read one,
      le-leb _ _ c.if-size-gt256.false,
      first_read two,
      lt-ltb _ _ c.if-size-first.false,
      end_read three,
      le-leb _ _ h,
      lt-leb _ _ c.if-size-end.true,
    )

pub returns : goal.returns
unfolding sizes_at
returns c =
    let three = (goal.at.returns c).In_ok-end in
    let two = (goal.at.returns c).In_ok-first in
    let one = (goal.at.returns c).In_ok-size in
    let h : 1 ≤ c.in_ok-end.end - c.in_ok-first.first = omega (arith, c.if-end-first.false) in
    rw (
      size-read one,
      le-leb _ _ c.if-size-gt256.false,
      first_read two,
      lt-ltb _ _ c.if-size-first.false,
      end_read three,
      le-leb _ _ h,
      le-leb _ _ c.if-size-end.false,
    )
