use Prim.Native.Nat.{min}
use mathlib.Core.Path.{◌≡◌, sym}
use native.Mathlib.Omega.{arith}
use Rattle.lerc_words.proofs.Marking.{marked-ok, marked-no}
use Rattle.lerc_words.proofs.Little.{word_wide, word-past, word_ok}
use Rattle.lerc_words.proofs.word.Goals as goal

pub returns-then-size-gt8 : goal.returns-then-size-gt8
returns-then-size-gt8 c = sym (marked-no _ (word_wide _ _ _ c.if-size-gt8.true))

pub returns-then-s-size : goal.returns-then-s-size
returns-then-s-size c = let a = c.args in sym (marked-no a.at (word-past a.s.now a.at a.size (omega arith) (omega arith)))

pub returns-then-s-size-2 : goal.returns-then-s-size-2
returns-then-s-size-2 c = let a = c.args in sym (marked-no a.at (word-past a.s.now a.at a.size (omega arith) (omega arith)))

pub returns : goal.returns
returns c =
    let a = c.args in
    let e : min a.size 8 ≡ a.size = omega arith in
    rw (c.bytes.ensures, e) (sym (marked-ok a.at (word_ok a.s.now a.at a.size (omega arith) (omega arith))))
