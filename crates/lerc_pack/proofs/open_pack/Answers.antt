use mathlib.Core.Path.{◌≡◌, ◌∙◌, sym, ap}
use mathlib.Core.Bool.{true, false}
use native.Mathlib.Omega.{arith}
use Rattle.lerc_words.proofs.Little.{Bytes}
use Rattle.lerc_pack.specs.Pack.{count_of, head_right}
use Rattle.lerc_pack.specs.Parts.{entries_right}
use Rattle.lerc_pack.proofs.Opening.{head-wrong, head-right, few-tiles}
use Rattle.lerc_pack.proofs.open_pack.Goals as goal

pub returns-then-not-head_right : goal.returns-then-not-head_right
returns-then-not-head_right c =
    let b = c.args.pack.now in
    sym (head-wrong b (sym c.head_right.ensures ∙ c.if-not-head_right.true))

pub entries_right-requires : goal.entries_right-requires
entries_right-requires c =
    let b = c.args.pack.now in
    let head : head_right b ≡ true = sym c.head_right.ensures ∙ c.if-not-head_right.false in
    rw c.count_of-count.ensures (few-tiles b head)

pub returns-then-not-entries_right : goal.returns-then-not-entries_right
returns-then-not-entries_right c =
    let b = c.args.pack.now in
    let bytes : Bytes b = λ i. omega (arith, c.type_inv.pack i) in
    let head : head_right b ≡ true = sym c.head_right.ensures ∙ c.if-not-head_right.false in
    let entries : entries_right b (count_of b) ≡ false = ap (entries_right b) (sym c.count_of-count.ensures) ∙ sym c.entries_right.ensures ∙ c.if-not-entries_right.true in
    rw (head-right b bytes head, entries)

pub returns : goal.returns
returns c =
    let b = c.args.pack.now in
    let bytes : Bytes b = λ i. omega (arith, c.type_inv.pack i) in
    let head : head_right b ≡ true = sym c.head_right.ensures ∙ c.if-not-head_right.false in
    let entries : entries_right b (count_of b) ≡ true = ap (entries_right b) (sym c.count_of-count.ensures) ∙ sym c.entries_right.ensures ∙ c.if-not-entries_right.false in
    rw (head-right b bytes head, entries, c.count_of-count.ensures)
