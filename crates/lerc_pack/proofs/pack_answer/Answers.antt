use mathlib.Core.Path.{◌≡◌, sym}
use mathlib.Core.Bool.{true, false, ◌&&◌, ◌||◌}
use lib.ListN.{length}
use lib.Dec.{ltb, eqb}
use Rattle.lerc_pack.specs.Pack.{count_of, head_right, opened_says}
use Rattle.lerc_pack.proofs.pack_answer.Goals as goal

pub returns-then-not-right : goal.returns-then-not-right
unfolding opened_says
returns-then-not-right c =
    let a = c.args in
    let test : (head_right a.pack.now && eqb a.count (count_of a.pack.now) && (ltb 0 a.count || eqb (length a.pack.now) 8)) ≡ false =
    rw (sym c.head_right.ensures, sym c.count_of.ensures) c.if-not-right.true in
    rw (test)

pub returns : goal.returns
unfolding opened_says
returns c =
    let a = c.args in
    let test : (head_right a.pack.now && eqb a.count (count_of a.pack.now) && (ltb 0 a.count || eqb (length a.pack.now) 8)) ≡ true =
    rw (sym c.head_right.ensures, sym c.count_of.ensures) c.if-not-right.false in
    rw (test)
