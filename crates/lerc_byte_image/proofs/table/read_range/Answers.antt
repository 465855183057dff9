use Rattle.std.proofs.Common.{◌≡◌, sym, ◌∙◌, arith, le-leb}
use borrow.Author.Tests.{lt-leb}
use Rattle.lerc_words.specs.Res.{ok, word_at}
use Rattle.lerc_words.proofs.Marking.{exits}
use Rattle.lerc_bits.proofs.Returns.{read-bare}
use Rattle.lerc_byte_image.specs.Table.{range_at}
use Rattle.lerc_byte_image.specs.TableParts.{sizes_at}
use Rattle.lerc_byte_image.proofs.table.read_range.Goals as goal
use Rattle.lerc_byte_image.proofs.table.read_range.Goals.{In_ok-version}

-- the version
version-read : (c : In_ok-version) → let a = c.args in word_at 4 a.s.now a.at ≡ ok c.in_ok-version.version
version-read c = let a = c.args in sym (read-bare a.s.now a.at 4 (omega arith) c.word.ensures) ∙ sym c.in_ok-version.ensures

pub returns-in_err-version : goal.returns-in_err-version
unfolding range_at
returns-in_err-version c =
    let a = c.args in
    exits _ c.from_residual.ensures.1 ∙ rw (sym (read-bare a.s.now a.at 4 (omega arith) c.word.ensures) ∙ sym c.in_err-version.ensures)

pub returns-then-version-lt2 : goal.returns-then-version-lt2
unfolding range_at
returns-then-version-lt2 c = rw (version-read (goal.at.returns-then-version-lt2 c).In_ok-version, lt-leb _ _ c.if-version-lt2.true)

pub returns : goal.returns
unfolding range_at sizes_at
returns c = rw (version-read (goal.at.returns c).In_ok-version, le-leb _ _ c.if-version-lt2.false) c.read_sizes.ensures
