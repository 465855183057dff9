use Prim.Native.Nat.{◌<◌}
use Rattle.lerc_words.proofs.Little.{Bytes, little-low, little-lt}
use Rattle.lerc_pack.specs.Pack.{count_of, head_right}
use native.Mathlib.Omega.{arith}
use lib.ListN.{length}
use lib.Dec.{leb}
use Rattle.lerc_pack.proofs.Fields.{version-is}
use Rattle.lerc_pack.proofs.table.head_right.Goals as goal

pub overflow_mul-result : goal.overflow_mul-result
overflow_mul-result c =
    let s = c.args.pack.now in
    let few : count_of s < 4294967296 = little-lt 4 s 4 (λ i. omega (arith, c.type_inv.pack i)) in
    omega (arith, c.count_of-count.ensures, few)

pub overflow_add-result : goal.overflow_add-result
overflow_add-result c =
    let s = c.args.pack.now in
    let few : count_of s < 4294967296 = little-lt 4 s 4 (λ i. omega (arith, c.type_inv.pack i)) in
    omega (arith, c.count_of-count.ensures, few)

pub returns : goal.returns
unfolding head_right
returns c =
    let s = c.args.pack.now in
    let bytes : Bytes s = λ i. omega (arith, c.type_inv.pack i) in
    rw (c.peek.ensures, little-low 4 4 s 0 bytes, c.count_of-count.ensures, version-is (leb 8 (length s)) s bytes)
