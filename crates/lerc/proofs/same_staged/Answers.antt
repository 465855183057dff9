use Rattle.std.proofs.Common.{rules, ◌≡◌}
use lib.Dec.{eqb}
use Rattle.lerc.specs.Stage.{same_header, kind_number, same_staged}
use Rattle.lerc.proofs.same_staged.Goals as goal

pub returns : goal.returns
unfolding same_staged
returns c =
    let a = c.args.a in
    let b = c.args.b in
    let headers : c.eq.result ≡ same_header a.header b.header = search rules in
    let bodies : c.eq-2.result ≡ eqb (kind_number a.body) (kind_number b.body) = search rules in
    rw (headers, bodies, c.same_mask.ensures)
