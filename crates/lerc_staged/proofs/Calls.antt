-- What the promises of staging and publishing say of a call.
-- Assumes nothing.
use mathlib.Core.Bool.{Bool}
use mathlib.Core.List.{List}
use Prim.Native.Nat.{ℕ}
use Rattle.lerc.specs.Read.{Lent}
use Rattle.lerc.specs.Stage.{StageRead, Publishing, PublishTold}
use Rattle.lerc_theorems.proofs.Calls.{promise}
use Rattle.lerc_staged.specs.Calls.{StageCall, PublishCall}
use Rattle.lerc_words.specs.Res.{Res}
use Rattle.lerc.specs.declared.Staged.{Staged}

pub stage-call : {b : List ℕ} {reuse : Bool} {r : Res Staged} {old : Lent} {spare list : List ℕ} → StageCall b reuse r old spare list → StageRead b reuse r old spare list
stage-call = promise (λ g r x. StageRead g.0 g.1 r g.2 x.0 x.1) (λ k a r x p. p)

pub publish-call : {b : List ℕ} {reuse : Bool} {given : Res Staged} {r : Res PublishTold} {old : Lent} {kept image : List ℕ} → PublishCall b reuse given r old kept image
    → Publishing b reuse given r old kept image
publish-call = promise (λ g r x. Publishing g.0 g.1 g.2 r g.3 x.0 x.1) (λ k a r x p. p)
