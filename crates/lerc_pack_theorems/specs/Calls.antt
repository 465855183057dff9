-- Calls of the pack's functions: what is lent, what is answered and what is left, in any outcome that the promise allows. Slices hold what their types hold.
-- Assumes nothing.
use Rattle.std.specs.Prelude.{List, ℕ}
use Rattle.std.specs.Borrow.{Bor, MutBor}
use Rattle.lerc_pack.proofs.open_pack.Reads as open-pack
use Rattle.lerc_pack.proofs.entry_in.Reads as entry_in
use Rattle.lerc_pack.proofs.body_in.Reads as body-in
use Rattle.lerc_pack_writer.specs.Writing.{Given}
use Rattle.lerc_pack_writer.proofs.write_pack.Reads as write-pack
use Rattle.lerc_theorems.specs.Calls.{Call}
use Rattle.lerc_words.specs.Res.{Res}
use Rattle.lerc_pack.specs.declared.Entry.{Entry}

abbrev pub OpenCall : List ℕ → Res ℕ → Type 0
OpenCall b said = Call {T = Unit {0}} open-pack.Post (λ a. a.0.now) (λ r. r) (λ o. tt) b said tt

-- pack, count, number; the answer
abbrev pub EntryCall : List ℕ → ℕ → ℕ → Res Entry → Type 0
EntryCall b n i said = Call {S = List ℕ × ℕ × ℕ} {T = Unit {0}} entry_in.Post (λ a. (a.0.now, a.1.0, a.1.1.0)) (λ r. r) (λ o. tt) (b, n, i) said tt

-- pack, where it stands, count, number; the part that is handed back: what it holds, and where it stands
abbrev pub BodyCall : List ℕ → ℕ × ℕ → ℕ → ℕ → List ℕ → ℕ × ℕ → Type 0
BodyCall b place n i part at =
    Call {S = List ℕ × (ℕ × ℕ) × ℕ × ℕ} {B = List ℕ × (ℕ × ℕ)} {T = Unit {0}} body-in.Post (λ a. (a.0.now, a.0.ref_ptr, a.1.0, a.1.1.0)) (λ r. (r.now, r.ref_ptr)) (λ o. tt) (b, place, n, i) (part, at) tt

-- the slices that the writer is lent, among its inputs
abbrev pub Inputs : Type 0
Inputs = Bor (List ℕ) × (Bor (List ℕ) × (Bor (List ℕ) × (Bor (List ℕ) × (MutBor (List ℕ) × Unit {0}))))

abbrev pub given : Inputs → Given
given a = record { rows = a.0.now; columns = a.1.0.now; lengths = a.1.1.0.now; bodies = a.1.1.1.0.now }

-- what is lent; the answer; the buffer before and after
abbrev pub WriteCall : Given → Res ℕ → List ℕ → List ℕ → Type 0
WriteCall g said old new = Call {S = Given × List ℕ} write-pack.Post (λ a. (given a, a.1.1.1.1.0.now)) (λ r. r) (λ o. o.1.1.1.1.0.now) (g, old) said new
