-- Packs: one law for each way an entry ends.
-- Assumes nothing.
use mathlib.Core.Path.{◌≡◌, ◌∙◌, sym, refl}
use mathlib.Core.List.{List}
use Prim.Native.Nat.{ℕ, ◌≤◌, ◌<◌}
use lib.ListN.{length, set}
use borrow.Author.Tests.{le-leb, lt-leb}
use Rattle.lerc_words.specs.declared.Refusal.{Refusal}
use Rattle.lerc_words.specs.Res.{ok, fail, refuse}
use Rattle.lerc_words.specs.Lists.{over}
use Rattle.lerc_pack.specs.declared.Entry.{Entry}
use Rattle.lerc_pack.specs.Pack.{pack_says, entry_says}
use Rattle.lerc_pack_writer.specs.Writing.{Given, PackWritten}
use Rattle.lerc_c.specs.Packs.{pack_entry, PackOpenDone, entry_room, entry_numbers, entry_entry, PackEntryDone, pack_write_entry, PackWriteDone}
use Rattle.lerc_c.proofs.RecordParts.{first-put}

-- ---- open

module _ (b said : List ℕ) where
  pub open-short : length said < 1 → PackOpenDone (pack_entry b said) (refuse 5) said said
  unfolding pack_entry
  open-short h = rw (lt-leb 1 (length said) h) (record { why = refl; said = refl })

  pub open_no : {why : Refusal} {n : Refusal} → 1 ≤ length said → pack_says b ≡ fail why → n ≡ why → PackOpenDone (pack_entry b said) n said said
  unfolding pack_entry
  open_no h e d = rw (le-leb 1 (length said) h, e) (record { why = d; said = refl })

  pub open_done : {tiles : ℕ} {said' : List ℕ} → 1 ≤ length said → pack_says b ≡ ok tiles → said' ≡ set said 0 tiles → PackOpenDone (pack_entry b said) (refuse 0) said said'
  unfolding pack_entry
  open_done {tiles} h e q = rw (le-leb 1 (length said) h, e) (record { why = refl; said = q ∙ first-put said tiles h })

-- ---- one entry

module _ (b : List ℕ) (tiles number : ℕ) (entry : List ℕ) where
  pub entry-short : length entry < entry_room → PackEntryDone (entry_entry b tiles number entry) (refuse 5) entry entry
  unfolding entry_entry
  entry-short h = rw (lt-leb entry_room (length entry) h) (record { why = refl; entry = refl })

  pub entry-no : {why : Refusal} {n : Refusal} → entry_room ≤ length entry → entry_says b tiles number ≡ fail why → n ≡ why → PackEntryDone (entry_entry b tiles number entry) n entry entry
  unfolding entry_entry
  entry-no h e d = rw (le-leb entry_room (length entry) h, e) (record { why = d; entry = refl })

  pub entry_read : {found : Entry} {entry' : List ℕ} → entry_room ≤ length entry → entry_says b tiles number ≡ ok found → entry' ≡ over (entry_numbers found) entry
      → PackEntryDone (entry_entry b tiles number entry) (refuse 0) entry entry'
  unfolding entry_entry
  entry_read h e d = rw (le-leb entry_room (length entry) h, e) (record { why = refl; entry = d })

-- ---- write

module _ (g : Given) (pack said : List ℕ) where
  abbrev Write : Refusal → List ℕ → List ℕ → Type 0
  Write r pack' said' = PackWriteDone g (pack_write_entry g (length pack) said) r pack pack' said said'

  pub write-short : length said < 1 → Write (refuse 5) pack said
  unfolding pack_write_entry
  write-short h = rw (lt-leb 1 (length said) h) (record { why = refl; pack = refl; said = refl })

  pub write-no : {why : Refusal} {n : Refusal} {pack' : List ℕ} → 1 ≤ length said → PackWritten g (fail why) pack pack' → n ≡ why → Write n pack' said
  unfolding pack_write_entry
  write-no {why} {n} {pack'} h w d =
      let e = sym w.says in
      let p : pack' ≡ pack = rw (e) at w.out in
      rw (le-leb 1 (length said) h, e) (record { why = d; pack = p; said = refl })

  pub write_done : {long : ℕ} {pack' said' : List ℕ} → 1 ≤ length said → PackWritten g (ok long) pack pack' → said' ≡ set said 0 long → Write (refuse 0) pack' said'
  unfolding pack_write_entry
  write_done {long} h w q =
      let e = sym w.says in
      rw (le-leb 1 (length said) h, e) (record { why = refl; pack = rw (e) at w.out; said = q ∙ first-put said long h })
