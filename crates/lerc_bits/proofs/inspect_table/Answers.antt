use mathlib.Core.Path.{◌≡◌, ◌∙◌, sym}
use native.Mathlib.Omega.{arith}
use Rattle.lerc_words.specs.Res.{ok, word_at}
use Rattle.lerc_words.proofs.Little.{Bytes, byte-lt, word_at-is}
use Rattle.lerc_words.proofs.Marking.{exits}
use Rattle.lerc_bits.proofs.Returns.{read-bare, tabled-zero, tabled-no, tabled-few, tabled-more}
use Rattle.lerc_bits.proofs.inspect_table.Goals as goal
use Rattle.lerc_bits.proofs.inspect_table.Goals.{In_ok-entries}

pub returns-then-bits-eq0 : goal.returns-then-bits-eq0
returns-then-bits-eq0 c =
    let a = c.args in
    sym (tabled-zero a.s.now a.at a.n a.bits c.if-bits-eq0.true)

pub returns-in_err-entries : goal.returns-in_err-entries
returns-in_err-entries c =
    let a = c.args in
    exits _ c.from_residual.ensures.1 ∙ sym (tabled-no a.s.now a.at a.n a.bits (omega arith) (sym (read-bare a.s.now a.at 1 (omega arith) c.word.ensures) ∙ sym c.in_err-entries.ensures))

-- the byte `entries` was read
entries : (c : In_ok-entries) → word_at 1 c.args.s.now c.args.at ≡ ok c.in_ok-entries.entries
entries c =
    let a = c.args in
    sym (read-bare a.s.now a.at 1 (omega arith) c.word.ensures) ∙ sym c.in_ok-entries.ensures

pub returns-then-entries-lt2 : goal.returns-then-entries-lt2
returns-then-entries-lt2 c =
    let a = c.args in
    sym (tabled-few a.s.now a.at a.n a.bits _ (omega arith) (entries (goal.at.returns-then-entries-lt2 c).In_ok-entries) c.if-entries-lt2.true)

pub overflow_add-at : goal.overflow_add-at
overflow_add-at c =
    omega (arith, (word_at-is 1 _ _ _ (entries (goal.at.overflow_add-at c).In_ok-entries)).inside)

pub plan_table-requires : goal.plan_table-requires
plan_table-requires c =
    let k = (goal.at.plan_table-requires c).In_ok-entries in
    let b : Bytes c.args.s.now = λ i. omega (arith, c.type_inv.s i) in
    let l = byte-lt _ _ _ b (entries k) in
    let i = (word_at-is 1 _ _ _ (entries k)).inside in
    (omega arith, omega arith, omega arith, omega arith, omega arith)

pub returns : goal.returns
returns c =
    let k = (goal.at.returns c).In_ok-entries in
    let a = c.args in
    c.plan_table.ensures ∙ sym (tabled-more a.s.now a.at a.n a.bits _ (omega arith) (entries k) c.if-entries-lt2.false)
