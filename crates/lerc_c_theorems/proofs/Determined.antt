-- No promise of an entry for C leaves room: two outcomes that it allows for one input coincide.
-- Assumes nothing.
use mathlib.Core.Path.{◌≡◌, ◌∙◌, sym, ap, refl}
use mathlib.Core.List.{List}
use Prim.Native.Nat.{ℕ}
use lib.ListN.{set}
use Rattle.lerc_words.specs.declared.Refusal.{Refusal}
use Rattle.lerc_c.specs.Entries.{Returned}
use Rattle.lerc_theorems.specs.Promises.{Answers}
use Rattle.lerc_c_theorems.specs.Promises.{StageFixed, PublishFixed, PackOpenFixed, PackEntryFixed, PackWriteFixed, NoRoomInC}
use Rattle.lerc_c_theorems.proofs.Calls.{header-alike, prepare-alike, ranges-alike, walk-alike, fill-alike, read_alike, stage-alike, publish-alike, stored-alike, pack-open-alike, pack-entry-alike, pack-write-alike}

-- an answer that is given by the inputs
given : {K A R O : Type 0} {Pre : K → A → Type 0} {Post : K → A → R → O → Type 0} → ((k : K) (a : A) → Pre k a) → (f : K → A → R) → ((k : K) (a : A) (r : R) (x : O) → Post k a r x → r ≡ f k a) → Answers Pre Post
given asks f h = record { asks_nothing = asks; same = λ k a r q x y p s. (h k a r x p ∙ sym (h k a q y s), refl) }

-- an entry's number and place are given by why it refuses
told : {Done Left : Refusal → Type 0} {r q : ℕ} {place₀ place₁ place₂ : List ℕ} (p : Returned Done r place₀ place₁) (s : Returned Left q place₀ place₂) → p.why ≡ s.why → (r ≡ q) × (place₁ ≡ place₂)
told {place₀ = place₀} p s e = (p.number ∙ ap (λ (w : Refusal). w.number) e ∙ sym s.number, p.place ∙ ap (λ (w : Refusal). set place₀ 0 w.at) e ∙ sym s.place)

stage-fixed : StageFixed
stage-fixed = record { asks_nothing = λ k a. tt; same = λ k a r q x y p s. let (e, f, g, h) = stage-alike refl refl p.done s.done in let (n, i) = told p s e in (n, rw (f, g, h, i)) }

publish-fixed : PublishFixed
publish-fixed = record { asks_nothing = λ k a. tt; same = λ k a r q x y p s. let (e, f, g, h) = publish-alike refl p.done s.done in let (n, i) = told p s e in (n, rw (f, g, h, i)) }

pack-open-fixed : PackOpenFixed
pack-open-fixed = record { asks_nothing = λ k a. tt; same = λ k a r q x y p s. let (e, f) = pack-open-alike refl p.done s.done in let (n, i) = told p s e in (n, rw (f, i)) }

pack-entry-fixed : PackEntryFixed
pack-entry-fixed = record { asks_nothing = λ k a. tt; same = λ k a r q x y p s. let (e, f) = pack-entry-alike refl p.done s.done in let (n, i) = told p s e in (n, rw (f, i)) }

pack-write-fixed : PackWriteFixed
pack-write-fixed = record { asks_nothing = λ k a. tt; same = λ k a r q x y p s. let (e, f, g) = pack-write-alike refl p.done s.done in let (n, i) = told p s e in (n, rw (f, g, i)) }

pub no-room-in-c : NoRoomInC
no-room-in-c = record {
  read-header = record { asks_nothing = λ k a. tt; same = λ k a r q x y p s. let (e, f) = header-alike refl p.done s.done in let (n, i) = told p s e in (n, rw (f, i)) };
  prepare-mask = record { asks_nothing = λ k a. tt; same = λ k a r q x y p s. let (e, f, g) = prepare-alike refl p.done s.done in let (n, i) = told p s e in (n, rw (f, g, i)) };
  read-ranges = record { asks_nothing = λ k a. tt; same = λ k a r q x y p s. let (e, f) = ranges-alike refl p.done s.done in let (n, i) = told p s e in (n, rw (f, i)) };
  walk = record { asks_nothing = λ k a. tt; same = λ k a r q x y p s. let (e, f, g) = walk-alike refl p.done s.done in let (n, i) = told p s e in (n, rw (f, g, i)) };
  fill = record { asks_nothing = λ k a. tt; same = λ k a r q x y p s. let (e, f, g) = fill-alike refl p.done s.done in let (n, i) = told p s e in (n, rw (f, g, i)) };
  read = record { asks_nothing = λ k a. tt; same = λ k a r q x y p s. let (e, f, g) = read_alike refl refl p.done s.done in let (n, i) = told p s e in (n, rw (f, g, i)) };
  stage = stage-fixed;
  publish = publish-fixed;
  pack-open = pack-open-fixed;
  pack-entry = pack-entry-fixed;
  pack-write = pack-write-fixed;
  float-ready = given (λ k a. tt) _ (λ k a r x p. p);
  sum = given (λ k a. tt) _ (λ k a r x p. p);
  scaled = given (λ k a. tt) _ (λ k a r x p. p);
  narrow = given (λ k a. tt) _ (λ k a r x p. p);
  checksum = given (λ k a. tt) _ (λ k a r x p. p);
  number = given (λ k a. tt) _ (λ k a r x p. p);
  stored = record { asks_nothing = λ k a. tt; same = λ k a r q x y p s. let (e, f) = stored-alike refl p.done s.done in let (n, i) = told p s e in (n, rw (f, i)) };
}
