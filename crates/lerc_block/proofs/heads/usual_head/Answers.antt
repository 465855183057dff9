use Prim.Native.Nat.{◌+◌, ◌*◌, ◌/◌, ◌%◌, ◌^◌, ◌≤◌, min}
use mathlib.Core.Path.{◌≡◌, ◌∙◌, sym, ap}
use native.Mathlib.Omega.{arith}
use lib.ListN.{length, get_or}
use lib.Pow.{pow_pos}
use Rattle.lerc_words.specs.Res.{ok, little, word_at}
use Rattle.lerc_words.proofs.Little.{Bytes, unit, word_at-ok}
use Rattle.lerc_numeric.specs.Kinds.{type_size}
use Rattle.lerc_numeric.proofs.Integers.{size-le}
use Rattle.lerc_samples.specs.Samples.{offset_kind}
use Rattle.lerc_block.proofs.Usual.{few_bytes, byte-is, usual-block}
use Rattle.lerc_block.proofs.heads.usual_head.Goals as goal
use Rattle.lerc_block.proofs.heads.usual_head.Goals.{After-size-size, Else-size-gt4, Joined-size-gt4, then-size-gt4, else-size-gt4}

pub overflow_cast-flag : goal.overflow_cast-flag
overflow_cast-flag c = let a = c.args in omega (arith, c.type_inv.s a.at)

pub overflow_cast-flag-2 : goal.overflow_cast-flag-2
overflow_cast-flag-2 c =
    let a = c.args in
    omega (arith, c.type_inv.s a.at)

-- ---- an offset has at most eight bytes, for which there is room
few : (k : After-size-size) → k.size-size.result ≤ 8
few k = rw k.size-size.ensures (size-le k.in-Ok.k)

room : (k : After-size-size) →
    k.args.at + 11 ≤ length k.args.s.now
room k =
    omega (arith, k.if-len-at.false, k.if-len-lt-ROOM.false)

pub overflow_add-at-3 : goal.overflow_add-at-3
overflow_add-at-3 c = let k = (goal.at.overflow_add-at-3 c).After-size-size in omega (arith, few k, room k)

pub usual_counts-requires : goal.usual_counts-requires
usual_counts-requires c = let k = (goal.at.usual_counts-requires c).After-size-size in omega (arith, few k, room k)

base-is : (c : Else-size-gt4) → (1 * 2 ^ (8 * c.size-size.result)) % 2 ^ 64 ≡ 2 ^ (8 * c.size-size.result)
base-is c = unit (8 * c.size-size.result) (omega (arith, c.if-size-gt4.false))

pub nonzero_rem-word : goal.nonzero_rem-word
nonzero_rem-word c = let e = (goal.at.nonzero_rem-word c).Else-size-gt4 in rw (base-is e) (pow_pos (8 * c.size-size.result))

word_read : (j : Joined-size-gt4) →
    word_at (type_size j.in-Ok.k) j.args.s.now (j.args.at + 1) ≡ ok j.if-size-gt4.word
word_read j =
    let z = (goal.at.Joined-size-gt4 j).After-size-size in
    let s = j.args.s.now in
    let size = j.size-size.result in
    let e : min size 8 ≡ size = omega (arith, few z) in
    let bytes : Bytes s = λ p. omega (arith, j.type_inv.s p) in
    let v : j.if-size-gt4.word ≡ little size s (j.args.at + 1) =
    elim j.if-size-gt4.branch [ then-size-gt4 w ↦ w.word-is ∙ rw (e) at w.bytes-word.ensures | else-size-gt4 w ↦ w.word-is ∙ few_bytes s j.args.at size bytes w.if-size-gt4.false w.quad.ensures ] in
    rw (← j.size-size.ensures) (word_at-ok size s (j.args.at + 1) (omega (arith, few z, room z)) ∙ ap ok (sym v))

pub returns : goal.returns
returns c h e n =
    let k = (goal.at.returns c).Joined-size-gt4 in
    let z = (goal.at.returns c).After-size-size in
    let s = c.args.s.now in
    let at = c.args.at in
    let named : offset_kind c.args.kind (get_or s at 0 / 64) ≡ ok c.in-Ok.k = sym c.in-Ok.ensures in
    usual-block s at c.args.kind c.args.x (get_or s at 0) (byte-is s at (omega (arith, room z))) c.if-flag-ne1.false c.if-flag-x.false named (word_read k)
    (sym c.finite_word.ensures ∙ c.if-not-finite_word.false) (rw c.size-size.ensures at (c.usual_counts.ensures h e)) n
