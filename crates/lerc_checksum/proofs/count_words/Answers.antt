use Prim.Native.Nat.{ℕ, ◌+◌, ◌-◌, ◌*◌, ◌/◌, ◌≤◌}
use mathlib.Core.Path.{◌≡◌, ◌∙◌, ap}
use native.Mathlib.Omega.{arith}
use Rattle.lerc_checksum.specs.Checksum.{group_words}
use Rattle.lerc_checksum.specs.Parts.{run}
use Rattle.lerc_checksum.specs.Laws.{Bytes}
use Rattle.lerc_checksum.proofs.Groups.{run-run, room-left}
use Rattle.lerc_checksum.proofs.Quads.{gathers, gathered-run}
use Rattle.lerc_checksum.proofs.count_words.Goals as goal
use Rattle.lerc_checksum.proofs.count_words.Goals.{After-gather-sums, After-shared_slice_known-1}

bytes : (c : After-shared_slice_known-1) → Bytes c.args.s.now
bytes c = λ i. omega (arith, c.type_inv.s i)

few : (c : After-shared_slice_known-1) → 4 * (c.args.n / 4) ≤ group_words
few c = omega arith

pub gather-sums-requires : goal.gather-sums-requires
gather-sums-requires c =
    rw c.count_quads.ensures (gathers _ (bytes (goal.at.gather-sums-requires c).After-shared_slice_known-1) _ _ (few (goal.at.gather-sums-requires c).After-shared_slice_known-1) _ c.requires.2)

-- after the quads the sums are those of their words
quads-run : (c : After-gather-sums) → let a = c.args in c.gather-sums.result ≡ run a.s.now a.k (4 * (a.n / 4)) a.t
quads-run c =
    rw (c.gather-sums.ensures, c.count_quads.ensures) (gathered-run _ (bytes (goal.at.After-gather-sums c).After-shared_slice_known-1) _ _ (few (goal.at.After-gather-sums c).After-shared_slice_known-1) _)

pub count_rest-requires : goal.count_rest-requires
count_rest-requires c =
    (omega arith, rw (quads-run c) (room-left _ (bytes (goal.at.count_rest-requires c).After-shared_slice_known-1) _ _ _ _ c.requires.2 (omega arith)))

pub returns : goal.returns
returns c =
    let a = c.args in
    let s = a.s.now in
    let quads = 4 * (a.n / 4) in
    let e : quads + (a.n - quads) ≡ a.n = omega arith in
    c.count_rest.ensures
    ∙ ap (run s (a.k + quads) (a.n - quads)) (quads-run (goal.at.returns c).After-gather-sums)
    ∙ run-run s a.k quads (a.n - quads) a.t
    ∙ ap (λ (n : ℕ). run s a.k n a.t) e
