use Prim.Native.Nat.{◌≤◌, ◌+◌, ◌-◌, ◌*◌, ◌/◌, ◌%◌}
use mathlib.Core.Path.{◌≡◌, ◌∙◌, sym, ap, refl}
use native.Mathlib.Omega.{arith}
use lib.Count.{ones}
use lib.ListN.{length, take, drop}
use Rattle.lerc_words.proofs.Little.{Bytes}
use Rattle.lerc_mask.specs.Passes.{ones_all}
use Rattle.lerc_mask.proofs.Tally.{all_more, all_rest, little-few}
use Rattle.lerc_mask.proofs.ones_in.Goals as goal
use Rattle.lerc_mask.proofs.ones_in.Goals.{After-ones_word, After-ones_word-total}

pub loop-k-init : goal.loop-k-init
unfolding ones_all
loop-k-init c = (omega arith, omega arith, refl)

-- eight bytes more
eight : (c : After-ones_word-total) → c.ones_word-total.result ≤ 64
eight c =
    let a = c.args in
    let b : Bytes a.s.now = λ i. omega (arith, c.type_inv.s i) in
    rw (c.ones_word-total.ensures, c.peek.ensures) (little-few 8 a.s.now (a.from + 8 * c.loop-k.k) b)

pub overflow_add-total : goal.overflow_add-total
overflow_add-total c = omega (arith, eight c, c.requires.1)

pub loop-k-preserved : goal.loop-k-preserved
loop-k-preserved c =
    let a = c.args in
    let s = a.s.now in
    let k = 8 * c.loop-k.k in
    let z : 8 * (c.loop-k.k + 1) ≡ k + 8 = omega arith in
    let b : Bytes s = λ i. omega (arith, c.type_inv.s i) in
    let few : a.from + k + 8 ≤ length s = omega (arith, c.requires.0) in
    (omega arith, omega (arith, eight c), rw (z, c.loop-k.invariant.2, c.ones_word-total.ensures, c.peek.ensures) (sym (all_more s a.from k 8 b few)))

-- with the bytes behind the last eight
all : (c : After-ones_word) →
    let a = c.args in
    (c.loop-k.total + c.ones_word.result ≡ ones_all (take a.n (drop a.from a.s.now))) × (c.ones_word.result ≤ 8 * (a.n - 8 * c.loop-k.k))
all c =
    let a = c.args in
    let bytes : Bytes a.s.now = λ i. omega (arith, c.type_inv.s i) in
    let k = 8 * c.loop-k.k in
    let at : a.from + a.n / 8 * 8 ≡ a.from + k = omega arith in
    let few : a.n % 8 ≡ a.n - k = omega arith in
    let last = rw (at, few) at c.bytes.ensures in
    all_rest a.s.now a.from a.n k c.loop-k.total c.ones_word.result bytes c.requires.0 (omega arith) (omega arith) c.loop-k.invariant.2 (c.ones_word.ensures ∙ ap ones last)

pub overflow_add-result : goal.overflow_add-result
overflow_add-result c = omega (arith, (all c).1, c.requires.1)

pub returns : goal.returns
returns c = ((all c).0, omega (arith, (all c).1))
