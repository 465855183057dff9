use Prim.Native.Nat.{ℕ, ◌≤◌, ◌+◌, ◌/◌, ◌^◌}
use mathlib.Core.Path.{◌≡◌, ◌∙◌, sym}
use mathlib.Core.List.{List}
use lib.ListN.{length}
use native.Mathlib.Omega.{arith}
use Rattle.lerc_words.specs.Res.{ok, word_at}
use Rattle.lerc_words.proofs.Little.{word_at-is}
use Rattle.lerc_words.proofs.Marking.{exits}
use Rattle.lerc_bits.specs.Bits.{count_bytes}
use Rattle.lerc_bits.proofs.Returns.{read-bare, Headed, count-bytes, count_small, plan-no, plan-form, plan-short, plan-many, plan-plain, plan-tabled}
use Rattle.lerc_bits.proofs.find.Goals as goal
use Rattle.lerc_bits.proofs.find.Goals.{Else-h-ge3, In_ok-h, In_ok-n}

pub returns-in_err-h : goal.returns-in_err-h
returns-in_err-h c =
    let a = c.args in
    exits _ c.from_residual.ensures.1 ∙ sym (plan-no a.s.now a.start (sym (read-bare a.s.now a.start 1 (omega arith) c.word.ensures) ∙ sym c.in_err-h.ensures))

-- ---- after the first read
abbrev bytes : (c : In_ok-h) → List ℕ
bytes c = c.args.s.now

abbrev start : (c : In_ok-h) → ℕ
start c = c.args.start

abbrev h : (c : In_ok-h) → ℕ
h c = c.in_ok-h.h

first : (c : In_ok-h) → word_at 1 (bytes c) (start c) ≡ ok (h c)
first c = sym (read-bare (bytes c) (start c) 1 (omega arith) c.word.ensures) ∙ sym c.in_ok-h.ensures

pub returns-then-h-ge3 : goal.returns-then-h-ge3
returns-then-h-ge3 c = sym (plan-form _ _ _ (first (goal.at.returns-then-h-ge3 c).In_ok-h) c.if-h-ge3.true)

pub overflow_add-start : goal.overflow_add-start
overflow_add-start c = omega (arith, (word_at-is 1 _ _ _ (first (goal.at.overflow_add-start c).In_ok-h)).inside)

-- as many bytes are asked for as the count has
asked : (c : Else-h-ge3) → 4 / 2 ^ (h (goal.at.Else-h-ge3 c).In_ok-h / 64) ≡ count_bytes (h (goal.at.Else-h-ge3 c).In_ok-h)
asked c = count-bytes (h (goal.at.Else-h-ge3 c).In_ok-h) c.if-h-ge3.false

few : (c : Else-h-ge3) → 4 / 2 ^ (h (goal.at.Else-h-ge3 c).In_ok-h / 64) ≤ 8
few c = omega (arith, asked c, count_small (h (goal.at.Else-h-ge3 c).In_ok-h))

pub returns-in_err-n : goal.returns-in_err-n
returns-in_err-n c =
    let e = (goal.at.returns-in_err-n c).Else-h-ge3 in
    let k = (goal.at.returns-in_err-n c).In_ok-h in
    let d = sym (read-bare (bytes k) (start k + 1) _ (few e) c.word-2.ensures) ∙ sym c.in_err-n.ensures in
    exits _ c.from_residual-in_err-n.ensures.1 ∙ sym (plan-short _ _ _ (first k) c.if-h-ge3.false (rw (asked e) at d))

-- ---- after the second
abbrev one : (c : In_ok-n) → In_ok-h
one c = (goal.at.In_ok-n c).In_ok-h

headed : (c : In_ok-n) → Headed (bytes (one c)) (start (one c)) (h (one c)) c.in_ok-n.n
headed c =
    let e = (goal.at.In_ok-n c).Else-h-ge3 in
    let d = sym (read-bare (bytes (one c)) (start (one c) + 1) _ (few e) c.word-2.ensures) ∙ sym c.in_ok-n.ensures in
    record { first = first (one c); known = c.if-h-ge3.false; second = rw (asked e) at d }

-- where the runs start
inside : (c : In_ok-n) → start (one c) + 1 + 4 / 2 ^ (h (one c) / 64) ≤ length (bytes (one c))
inside c = omega (arith, asked (goal.at.In_ok-n c).Else-h-ge3, (word_at-is _ _ _ _ (headed c).second).inside)

pub returns-then-n-gt256 : goal.returns-then-n-gt256
returns-then-n-gt256 c = sym (plan-many _ _ _ _ (headed (goal.at.returns-then-n-gt256 c).In_ok-n) c.if-n-gt256.true)

pub overflow_add-at : goal.overflow_add-at
overflow_add-at c = omega (arith, inside (goal.at.overflow_add-at c).In_ok-n)

pub overflow_add-at-2 : goal.overflow_add-at-2
overflow_add-at-2 c = omega (arith, inside (goal.at.overflow_add-at-2 c).In_ok-n)

pub plan_plain-requires : goal.plan_plain-requires
plan_plain-requires c = (omega arith, omega arith, inside (goal.at.plan_plain-requires c).In_ok-n)

pub returns-then-h-eq0 : goal.returns-then-h-eq0
returns-then-h-eq0 c =
    let k = (goal.at.returns-then-h-eq0 c).In_ok-n in
    rw (asked (goal.at.returns-then-h-eq0 c).Else-h-ge3) at c.plan_plain.ensures ∙ sym (plan-plain _ _ _ _ (headed k) c.if-n-gt256.false c.if-h-eq0.true)

pub returns : goal.returns
returns c =
    let k = (goal.at.returns c).In_ok-n in
    rw (asked (goal.at.returns c).Else-h-ge3) at c.inspect_table.ensures ∙ sym (plan-tabled _ _ _ _ (headed k) c.if-n-gt256.false c.if-h-eq0.false)
