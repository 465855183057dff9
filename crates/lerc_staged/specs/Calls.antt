-- Calls of staging and publishing: what is lent, what is answered and what is left, in any outcome that the promise allows.
-- Assumes nothing.
use Rattle.std.specs.Prelude.{Bool, List, ℕ}
use Rattle.std.specs.Borrow.{Bor, MutBor}
use Rattle.lerc.specs.Read.{Lent}
use Rattle.lerc.proofs.stage.Reads as stage
use Rattle.lerc.proofs.publish.Reads as publish
use Rattle.lerc_theorems.specs.Calls.{Call}
use Rattle.lerc_words.specs.Res.{Res}
use Rattle.lerc.specs.Stage.{PublishTold}
use Rattle.lerc.specs.declared.Staged.{Staged}

-- blob, reuse; the answer; the lent slices before; the spare and the list afterwards
abbrev pub StageCall : List ℕ → Bool → Res Staged → Lent → List ℕ → List ℕ → Type 0
StageCall b reuse said old spare list =
    Call {S = List ℕ × Bool × Lent} {T = List ℕ × List ℕ} stage.Post
    (λ a. (a.0.now, a.1.0, record { kept = a.1.1.0.now; spare = a.1.1.1.0.now; list = a.1.1.1.1.0.now; image = a.1.1.1.1.1.0.now })) (λ r. r) (λ o. (o.1.1.1.0.now, o.1.1.1.1.0.now)) (b, reuse, old) said (spare, list)

-- the slices that publishing is lent, among its inputs
abbrev pub Inputs : Type 0
Inputs = Bor (List ℕ) × (Bool × (Res Staged × (MutBor (List ℕ) × (Bor (List ℕ) × (Bor (List ℕ) × (MutBor (List ℕ) × Unit {0}))))))

abbrev pub to_publish : Inputs → Lent
to_publish a = record { kept = a.1.1.1.0.now; spare = a.1.1.1.1.0.now; list = a.1.1.1.1.1.0.now; image = a.1.1.1.1.1.1.0.now }

-- blob, reuse, the answer given; the answer; the lent slices before; the kept mask and the image afterwards
abbrev pub PublishCall : List ℕ → Bool → Res Staged → Res PublishTold → Lent → List ℕ → List ℕ → Type 0
PublishCall b reuse given said old kept image =
    Call {S = List ℕ × Bool × Res Staged × Lent} {T = List ℕ × List ℕ} publish.Post (λ a. (a.0.now, a.1.0, a.1.1.0, to_publish a)) (λ r. r) (λ o. (o.1.1.1.0.now, o.1.1.1.1.1.1.0.now))
    (b, reuse, given, old) said (kept, image)

-- what staging left: the kept mask and the image as they were lent
abbrev pub as_staged : Lent → List ℕ → List ℕ → Lent
as_staged l spare list = record { kept = l.kept; spare = spare; list = list; image = l.image }

-- what publishing left: the spare and the list as they were lent
abbrev pub as_published : Lent → List ℕ → List ℕ → Lent
as_published l kept image = record { kept = kept; spare = l.spare; list = l.list; image = image }
