-- What a refusal leaves in the C interface.
-- Assumes nothing.
use mathlib.Core.Path.{◌≡◌, ◌∙◌, ap, refl}
use mathlib.Core.Logic.{◌≢◌}
use mathlib.Core.Bool.{Bool, true, false, ◌&&◌}
use mathlib.Core.List.{List}
use Prim.Native.Nat.{ℕ}
use native.Mathlib.Omega.{arith}
use lib.ListN.{length}
use lib.Dec.{leb}
use Rattle.lerc_words.specs.declared.Refusal.{Refusal}
use Rattle.lerc_words.specs.Res.{Res, ok, fail, ◌>>=◌, require, after}
use Rattle.lerc_words.proofs.Binding.{and_is}
use Rattle.lerc_header.specs.declared.Header.{Header}
use Rattle.lerc_ranges.specs.declared.Ranges.{Ranges}
use Rattle.lerc_validity.specs.Validity.{MaskInForce, spare_with}
use Rattle.lerc.specs.Meaning.{Meaning}
use Rattle.lerc.specs.Read.{Lent, read_says, Masked, masked, refused_after, read_after}
use Rattle.lerc.specs.Stage.{StageRead}
use Rattle.lerc.proofs.Both.{read-refused}
use Rattle.lerc_c.specs.Records.{why_of, staged_room}
use Rattle.lerc_c.specs.Entries.{placing, Returned, HeaderDone, RangesDone, StoredDone, PrepareDone, Walking, WalkDone, Filling, FillDone, read_room, read_entry, masked_entry, ReadDone, stage_entry, staged_mask_entry, StageDone, PublishDone}
use Rattle.lerc_pack.specs.declared.Entry.{Entry}
use Rattle.lerc_pack_writer.specs.Writing.{Given}
use Rattle.lerc_c.specs.Packs.{PackOpenDone, PackEntryDone, PackWriteDone}
use Rattle.lerc_theorems.specs.Refusals.{WholeKeeps}
use Rattle.lerc_c_theorems.specs.Promises.{c-lent, c-stage-lent}
use Rattle.lerc_c_theorems.specs.Refusals.{StageKeeps, PublishKeeps, PackOpenKeeps, PackEntryKeeps, PackWriteKeeps, RefusalsKeepInC}
use Rattle.lerc_theorems.proofs.Refusals.{whole-keeps}

-- a number other than 0 is a refusal's, and a refusal leaves what was there
module _ {Done : Refusal → Type 0} {n : ℕ} {place₀ place₁ : List ℕ} (p : Returned Done n place₀ place₁) (z : n ≢ 0) where
  refusal : {A : Type 0} (m : Res A) → p.why ≡ why_of m → (w : Refusal) × (m ≡ fail w)
  refusal (ok a) e = absurd (z (p.number ∙ ap (λ (w : Refusal). w.number) e))
  refusal (fail w) e = (w, refl)

header-left : (m : Res Header) {w : Refusal} {header header' : List ℕ} → (q : Refusal) × (m ≡ fail q) → HeaderDone m w header header' → header' ≡ header
header-left m (q, e) d = rw (e) at d.header

ranges-left : (m : Res Ranges) {w : Refusal} {ranges ranges' : List ℕ} → (q : Refusal) × (m ≡ fail q) → RangesDone m w ranges ranges' → ranges' ≡ ranges
ranges-left m (q, e) d = rw (e) at d.ranges

stored-left : (m : Res ℕ) {w : Refusal} {said said' : List ℕ} → (q : Refusal) × (m ≡ fail q) → StoredDone m w said said' → said' ≡ said
stored-left m (q, e) d = rw (e) at d.said

prepare-left : (m : Res MaskInForce) {w : Refusal} {spare spare' said said' : List ℕ} → (q : Refusal) × (m ≡ fail q) → PrepareDone m w spare spare' said said' → ◌≡◌ {A = List ℕ × List ℕ} (spare', said') (spare, said)
prepare-left m (q, e) d = let a = rw (e) at d.spare in let b = rw (e) at d.said in rw (a, b)

walk-left : (m : Res Walking) {w : Refusal} {list list' said said' : List ℕ} → (q : Refusal) × (m ≡ fail q) → WalkDone m w list list' said said' → ◌≡◌ {A = List ℕ × List ℕ} (list', said') (list, said)
walk-left m (q, e) d = let a = rw (e) at d.list in let b = rw (e) at d.said in rw (a, b)

fill-left : (m : Res Filling) (mask : List ℕ) (k : ℕ) {w : Refusal} {image image' said said' : List ℕ} → (q : Refusal) × (m ≡ fail q) → FillDone m mask k w image image' said said'
    → ◌≡◌ {A = List ℕ × List ℕ} (image', said') (image, said)
fill-left m mask k (q, e) d = let a = rw (e) at d.image in let b = rw (e) at d.said in rw (a, b)

-- ---- whole read

module _ (b : List ℕ) (reuse : Bool) (old : Lent) (said place : List ℕ) where
  abbrev entry : Res Meaning
  entry = placing place (read_entry b reuse old said)

  abbrev marking : Res Masked
  marking = placing place (masked_entry b reuse old said)

  abbrev Refused : Type 0
  Refused = (q : Refusal) × (entry ≡ fail q)

  read-said : {w : Refusal} {new : Lent} {said' : List ℕ} → Refused → ReadDone entry marking w old new said said' → said' ≡ said
  read-said (q, e) d = rw (e) at d.said

  -- with room it is the reader's own, without it nothing is touched
  read_left : {w : Refusal} {new : Lent} {said' : List ℕ} → Refused → ReadDone entry marking w old new said said' → (leb 1 (length place) && leb read_room (length said)) ≡ true → WholeKeeps b reuse old new
  unfolding read_entry masked_entry
  read_left {w} {new} (q, e) d t =
      let (u, v) = and_is (leb 1 (length place)) (leb read_room (length said)) t in
      let i = rw (u, v) at e in
      let p = rw (u, v) at d.lent in
      whole-keeps b reuse old new q (record { says = rw (i); lent = p })

  read_short : {w : Refusal} {new : Lent} {said' : List ℕ} → ReadDone entry marking w old new said said' → (leb 1 (length place) && leb read_room (length said)) ≡ false → new ≡ old
  unfolding read_entry masked_entry refused_after
  read_short {w} {new} d t = go (leb 1 (length place)) (leb read_room (length said)) t d.lent
    where
      go : (u v : Bool) → (u && v) ≡ false
          → new ≡ read_after (require u 5 >>= λ _. require v 5 >>= λ _. read_says b reuse old) (require u 5 >>= λ _. require v 5 >>= λ _. masked b reuse old) old → new ≡ old
      go true true t p = absurd (let z : ◌≡◌ {A = ℕ} 0 1 = cc in omega arith)
      go true false t p = p
      go false v t p = p

-- ---- staging and publishing

module _ (b : List ℕ) (reuse : Bool) (old : Lent) (staged place : List ℕ) where
  abbrev staging : Res Meaning
  staging = placing place (stage_entry b reuse old staged)

  abbrev staging-mask : Res Masked
  staging-mask = placing place (staged_mask_entry b reuse old staged)

  module _ {w : Refusal} {spare list staged' : List ℕ} (d : StageDone staging staging-mask w old spare list staged staged') where
    module _ (refused : (q : Refusal) × (staging ≡ fail q)) where
      stage-list : list ≡ old.list
      stage-list = let (q, e) = refused in rw (e) at d.list

      stage-staged : staged' ≡ staged
      stage-staged = let (q, e) = refused in rw (e) at d.staged

      -- with room the spare is as the reader leaves it
      stage-room : (leb 1 (length place) && leb staged_room (length staged)) ≡ true
          → WholeKeeps b reuse old (record { kept = old.kept; spare = spare; list = old.list; image = old.image })
      unfolding stage_entry staged_mask_entry
      stage-room t =
          let (q, e) = refused in
          let (u, v) = and_is (leb 1 (length place)) (leb staged_room (length staged)) t in
          let i = rw (u, v) at e in
          let s = rw (u, v) at d.spare in
          let r : StageRead b reuse (fail q) old spare old.list = record { says = rw (i); spare = s; list = rw (i) } in
          whole-keeps b reuse old (record { kept = old.kept; spare = spare; list = old.list; image = old.image }) q (read-refused b reuse old r)

    stage-none : (leb 1 (length place) && leb staged_room (length staged)) ≡ false → spare ≡ old.spare
    unfolding staged_mask_entry
    stage-none t = go (leb 1 (length place)) (leb staged_room (length staged)) t d.spare
      where
        go : (u v : Bool) → (u && v) ≡ false → spare ≡ after (require u 5 >>= λ _. require v 5 >>= λ _. masked b reuse old) old.spare (λ m. spare_with m.mask old.spare) → spare ≡ old.spare
        go true true t p = absurd (let z : ◌≡◌ {A = ℕ} 0 1 = cc in omega arith)
        go true false t p = p
        go false v t p = p

stage-keeps : StageKeeps
stage-keeps k a x n p z =
    let l = c-stage-lent a in
    let r = refusal p z (staging a.0.now a.1.0 l.0 l.1 l.2) p.done.why in
    record {
      list = stage-list a.0.now a.1.0 l.0 l.1 l.2 p.done r;
      staged = stage-staged a.0.now a.1.0 l.0 l.1 l.2 p.done r;
      room = stage-room a.0.now a.1.0 l.0 l.1 l.2 p.done r;
      short = stage-none a.0.now a.1.0 l.0 l.1 l.2 p.done;
    }

publish-left : (m : Res Meaning) (old : Lent) {w : Refusal} {kept image said said' : List ℕ} → (q : Refusal) × (m ≡ fail q) → PublishDone m w old kept image said said'
    → ◌≡◌ {A = List ℕ × List ℕ × List ℕ} (kept, image, said') (old.kept, old.image, said)
publish-left m old (q, e) d = let a = rw (e) at d.kept in let b = rw (e) at d.image in let c = rw (e) at d.said in rw (a, b, c)

publish-keeps : PublishKeeps
publish-keeps k a n x p z = publish-left _ _ (refusal p z _ p.done.why) p.done

-- ---- packs

open-left : (m : Res ℕ) {w : Refusal} {said said' : List ℕ} → (q : Refusal) × (m ≡ fail q) → PackOpenDone m w said said' → said' ≡ said
open-left m (q, e) d = rw (e) at d.said

entry-left : (m : Res Entry) {w : Refusal} {entry₀ entry₁ : List ℕ} → (q : Refusal) × (m ≡ fail q) → PackEntryDone m w entry₀ entry₁ → entry₁ ≡ entry₀
entry-left m (q, e) d = rw (e) at d.entry

write-left : (g : Given) (m : Res ℕ) {w : Refusal} {pack pack' said said' : List ℕ} → (q : Refusal) × (m ≡ fail q) → PackWriteDone g m w pack pack' said said'
    → ◌≡◌ {A = List ℕ × List ℕ} (pack', said') (pack, said)
write-left g m (q, e) d = let a = rw (e) at d.pack in let b = rw (e) at d.said in rw (a, b)

pack-open-keeps : PackOpenKeeps
pack-open-keeps k a n x p z = open-left _ (refusal p z _ p.done.why) p.done

pack-entry-keeps : PackEntryKeeps
pack-entry-keeps k a n x p z = entry-left _ (refusal p z _ p.done.why) p.done

pack-write-keeps : PackWriteKeeps
pack-write-keeps k a n x p z = write-left _ _ (refusal p z _ p.done.why) p.done

pub refusals-keep-in-c : RefusalsKeepInC
refusals-keep-in-c = record {
  read-header = λ k a n x p z. header-left _ (refusal p z _ p.done.why) p.done;
  prepare-mask = λ k a n x p z. prepare-left _ (refusal p z _ p.done.why) p.done;
  read-ranges = λ k a n x p z. ranges-left _ (refusal p z _ p.done.why) p.done;
  walk = λ k a n x p z. walk-left _ (refusal p z _ p.done.why) p.done;
  fill = λ k a n x p z. fill-left _ _ _ (refusal p z _ p.done.why) p.done;
  read = λ k a x n p z.
      let l = c-lent a in
      let r = refusal p z (entry a.0.now a.1.0 l.0 l.1 l.2) p.done.why in
      record {
        said = read-said a.0.now a.1.0 l.0 l.1 l.2 r p.done;
        room = read_left a.0.now a.1.0 l.0 l.1 l.2 r p.done;
        short = read_short a.0.now a.1.0 l.0 l.1 l.2 p.done;
      };
  stage = stage-keeps;
  publish = publish-keeps;
  pack-open = pack-open-keeps;
  pack-entry = pack-entry-keeps;
  pack-write = pack-write-keeps;
  stored = λ k a n x p z. stored-left _ (refusal p z _ p.done.why) p.done;
}
