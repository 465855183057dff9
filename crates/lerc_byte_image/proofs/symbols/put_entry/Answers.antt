use Rattle.std.proofs.Common.{◌≡◌, ◌<◌, ◌∙◌, length, replicate, sym, arith}
use lib.ListN.{length-replicate, get_or-replicate}
use lib.Seq.{ext_get_or}
use Rattle.lerc_byte_image.proofs.symbols.put_entry.Goals as goal

pub returns : goal.returns
returns c =
    let v = c.args.entry in
    let now = c.loop-place.part in
    let n = length c.args.part.now in
    let e : length now ≡ n = omega arith in
    ext_get_or v now (replicate n v) (e ∙ sym (length-replicate n v)) (λ i l. let k : i < n = omega arith in let m : i < c.loop-place.place-index = omega arith in c.loop-place.invariant i m ∙ sym (get_or-replicate n i v v k))
