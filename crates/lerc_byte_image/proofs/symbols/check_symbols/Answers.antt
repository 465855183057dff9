use Rattle.std.proofs.Common.{◌≡◌, ℕ, ◌≤◌, List, length, take, sym, ◌∙◌, arith, length-take}
use Rattle.lerc_words.specs.Res.{ok}
use Rattle.lerc_words.proofs.Marking.{exits}
use Rattle.lerc_byte_image.specs.Table.{Table, table_at}
use Rattle.lerc_byte_image.specs.Parts.{table_by, Kept}
use Rattle.lerc_byte_image.proofs.Kept.{table_kept}
use Rattle.lerc_byte_image.proofs.Coded.{coded-no, coded-table}
use Rattle.lerc_byte_image.proofs.symbols.check_symbols.Goals as goal
use Rattle.lerc_byte_image.proofs.symbols.check_symbols.Goals.{In_ok-found}

pub returns-in_err-found : goal.returns-in_err-found
returns-in_err-found c =
    let a = c.args in
    exits _ c.from_residual.ensures.1 ∙ sym (coded-no a.s.now a.at a.n (sym c.in_err-found.ensures))

-- ---- after a table was found
abbrev bytes : (c : In_ok-found) → List ℕ
bytes c = c.args.s.now

abbrev table : (c : In_ok-found) → Table
table c =
    let r = c.in_ok-found.found.range in
    let last = c.read_table.new in
    table_by r c.in_ok-found.found.start (take r.count last.lengths) (take r.count last.codes)

read : (c : In_ok-found) → table_at (bytes c) c.args.at ≡ ok (table c)
read c = sym c.in_ok-found.ensures

kept : (c : In_ok-found) → Kept (table c) × ((table c).start ≤ length (bytes c))
kept c = table_kept (bytes c) _ (table c) (read c)

pub slice_bounds-lengths-end : goal.slice_bounds-lengths-end
slice_bounds-lengths-end c = omega (arith, simp length-take at (kept (goal.at.slice_bounds-lengths-end c).In_ok-found).0.lengths)

pub slice_bounds-check_coded-end : goal.slice_bounds-check_coded-end
slice_bounds-check_coded-end c = sym (kept (goal.at.slice_bounds-check_coded-end c).In_ok-found).0.lengths

pub slice_bounds-codes-end : goal.slice_bounds-codes-end
slice_bounds-codes-end c = omega (arith, simp length-take at (kept (goal.at.slice_bounds-codes-end c).In_ok-found).0.codes)

pub slice_bounds-check_coded-end-2 : goal.slice_bounds-check_coded-end-2
slice_bounds-check_coded-end-2 c = sym (kept (goal.at.slice_bounds-check_coded-end-2 c).In_ok-found).0.codes

pub check_coded-requires : goal.check_coded-requires
check_coded-requires c =
    let f = (goal.at.check_coded-requires c).In_ok-found in
    let k = kept f in
    record { kept = k.0; short = c.requires.0; inside = k.1; at = omega arith }

pub returns : goal.returns
returns c =
    let f = (goal.at.returns c).In_ok-found in
    c.check_coded.ensures ∙ sym (coded-table (bytes f) _ _ (read f))
