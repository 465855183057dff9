use Rattle.std.proofs.Common.{◌≡◌, ℕ, List, sym, ◌∙◌, arith}
use Rattle.lerc_words.specs.Res.{ok}
use Rattle.lerc_words.proofs.Marking.{exits}
use Rattle.lerc_byte_image.specs.Table.{Table}
use Rattle.lerc_byte_image.specs.Symbols.{symbols_from}
use Rattle.lerc_byte_image.specs.Parts.{table_by}
use Rattle.lerc_byte_image.specs.SymbolParts.{bits_in}
use Rattle.lerc_byte_image.proofs.FirstBits.{quick-none}
use Rattle.lerc_byte_image.proofs.Coded.{bits_inside, end-no, end-then}
use Rattle.lerc_byte_image.proofs.symbols.check_coded.Goals as goal
use Rattle.lerc_byte_image.proofs.symbols.check_coded.Goals.{In_ok-bits}

pub make_quick-requires : goal.make_quick-requires
make_quick-requires c = (c.requires.kept, quick-none _)

pub returns-in_err-bits : goal.returns-in_err-bits
returns-in_err-bits c =
    let a = c.args in
    exits _ c.from_residual.ensures.1 ∙ end-no a.s.now (table_by a.range a.start a.lengths.now a.codes.now) a.n (sym c.in_err-bits.ensures)

-- ---- after all were counted
abbrev bytes : (c : In_ok-bits) → List ℕ
bytes c = c.args.s.now

abbrev table : (c : In_ok-bits) → Table
table c = let a = c.args in table_by a.range a.start a.lengths.now a.codes.now

counted : (c : In_ok-bits) → bits_in (symbols_from (bytes c) (table c) c.args.n 0) ≡ ok c.in_ok-bits.bits
counted c = sym c.in_ok-bits.ensures

pub end_at-requires : goal.end_at-requires
end_at-requires c =
    let h = c.requires in
    let l = bits_inside (bytes c) (table c) _ (counted c) in
    (h.inside, h.short, omega (arith, l, h.short))

pub returns : goal.returns
returns c = c.end_at.ensures ∙ end-then (bytes (goal.at.returns c).In_ok-bits) (table (goal.at.returns c).In_ok-bits) _ (counted (goal.at.returns c).In_ok-bits)
