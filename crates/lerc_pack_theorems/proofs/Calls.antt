-- What the promises of the pack's functions say of a call.
-- Assumes nothing.
use mathlib.Core.Path.{◌≡◌}
use mathlib.Core.List.{List}
use Prim.Native.Nat.{ℕ}
use Rattle.lerc_pack.specs.Pack.{pack_says, entry_says, body_says, start_says, behind}
use Rattle.lerc_pack_writer.specs.Writing.{Given, PackWritten}
use Rattle.lerc_theorems.proofs.Calls.{promise}
use Rattle.lerc_pack_theorems.specs.Calls.{OpenCall, EntryCall, BodyCall, WriteCall}
use Rattle.lerc_words.specs.Res.{Res}
use Rattle.lerc_pack.specs.declared.Entry.{Entry}

pub open-call : {b : List ℕ} {said : Res ℕ} → OpenCall b said → said ≡ pack_says b
open-call = promise (λ g r x. r ≡ pack_says g) (λ k a r x p. p)

pub entry-call : {b : List ℕ} {n i : ℕ} {said : Res Entry} → EntryCall b n i said → said ≡ entry_says b n i
entry-call = promise (λ g r x. r ≡ entry_says g.0 g.1 g.2) (λ k a r x p. p)

pub body_call : {b : List ℕ} {place at : ℕ × ℕ} {n i : ℕ} {part : List ℕ} → BodyCall b place n i part at → (part ≡ body_says b n i) × (at ≡ behind place (start_says b n i))
body_call = promise (λ g r x. (r.0 ≡ body_says g.0 g.2 g.3) × (r.1 ≡ behind g.1 (start_says g.0 g.2 g.3))) (λ k a r x p. p)

pub write-call : {g : Given} {said : Res ℕ} {old new : List ℕ} → WriteCall g said old new → PackWritten g said old new
write-call = promise (λ g r x. PackWritten g.0 r g.1 x) (λ k a r x p. p)
