-- All that is claimed of packs.
-- Assumes nothing.
use Prim.Native.Nat.{ℕ, zero, suc, ◌+◌, ◌-◌, ◌≤◌, ◌<◌}
use mathlib.Core.Path.{◌≡◌, ◌∙◌, sym, ap, refl, subst}
use mathlib.Core.Bool.{Bool, true, false, ◌&&◌, ◌||◌}
use mathlib.Core.List.{List, [], ◌∷◌, not-mem-nil}
use native.Mathlib.Omega.{arith}
use native.Mathlib.Nat.{zero-add}
use lib.ListN.{length, get_or, take, drop, length-append, length-drop}
use lib.Seq.{take-append_seam, get_or-append-add, get_or-drop}
use lib.Dec.{leb, ltb, eqb}
use borrow.Author.Tests.{lt-ltb, le-leb, eq-eqb, eqb-true}
use Rattle.lerc_words.specs.declared.Refusal.{Refusal}
use Rattle.lerc_words.specs.Res.{Res, ok, fail, ◌>>=◌, require, refuse}
use Rattle.lerc_words.specs.Lists.{over, all_to}
use Rattle.lerc_words.proofs.Tables.{get_d_tabulate, length-tabulate}
use Rattle.lerc_header.specs.Header.{header_of}
use Rattle.lerc_image.specs.Paint.{among}
use Rattle.lerc_pack.specs.Contents.{entry_place, body_place, tiles_right}
use Rattle.lerc_pack.specs.Pack.{count_of, head_right, entry_at, body_of, tile_of, contents, pack_says, count_said, opened_says, entry_says, body_says, body_said}
use Rattle.lerc_pack.proofs.Joined.{joined_same}
use Rattle.lerc_pack_theorems.specs.Calls.{WriteCall}
use Rattle.lerc_pack_writer.specs.Writing.{Given, tile_given, given_right, adds_up, pack_length, pack_given, write_says}
use Rattle.lerc_theorems.specs.Table.{HeaderRefused, WholeRefused, whole-header, whole_room, whole-mask, whole-body}
use Rattle.lerc_theorems.specs.Writes.{AlikeFrom}
use Rattle.lerc_theorems.proofs.Headers.{header-exactly}
use Rattle.lerc_theorems.proofs.Given.{body-in}
use Rattle.lerc_staged.proofs.InTwo.{stage-refuses}
use Rattle.lerc_pack_theorems.specs.Table.{EntryRefused, number_past, entry_past, body-past}
use Rattle.lerc_pack_theorems.specs.Packs as claimed
use Rattle.lerc_pack_theorems.specs.Packs.{PackClaims}
use Rattle.lerc_pack_theorems.proofs.Calls.{open-call, entry-call, body_call, write-call}
use Rattle.lerc_pack_theorems.proofs.Opened.{Opened, pack-opened, pack-refused, body-inside}
use Rattle.lerc_pack_theorems.proofs.OneToOne as one
use Rattle.lerc_pack_theorems.proofs.Writer.{given-says, given-contents, given-length, write-taken, write_again}
use Rattle.lerc_pack_theorems.proofs.Witness.{computed}
use Rattle.lerc_pack_theorems.proofs.Refused.{split, never, pack-exactly, entry-exactly, write-exactly}

no-room-left : claimed.PacksNoRoom
no-room-left =
    record {
      is-tile = record { asks_nothing = λ k a. tt; same = λ k a r q x y p s. (p ∙ sym s, refl) };
      pack-refusal = record { asks_nothing = λ k a b m. absurd (not-mem-nil m); same = λ k a r q x y p s. (p ∙ sym s, refl) };
      entry-refusal = record { asks_nothing = λ k a b m. absurd (not-mem-nil m); same = λ k a r q x y p s. (p ∙ sym s, refl) };
      open-pack = record { asks_nothing = λ k a. tt; same = λ k a r q x y p s. ((p ∙ sym s), refl) };
      count-tiles = record { asks_nothing = λ k a. tt; same = λ k a r q x y p s. (p ∙ sym s, refl) };
      pack-answer = record { asks_nothing = λ k a. tt; same = λ k a r q x y p s. ((p ∙ sym s), refl) };
      entry_in = record { asks_nothing = λ k a. tt; same = λ k a r q x y p s. ((p ∙ sym s), refl) };
      body-in = record { asks_nothing = λ k a. tt; same = λ k a r q x y p s. (pair (p.0 ∙ sym s.0) (p.1 ∙ sym s.1), refl) };
      write-refusal = record { asks_nothing = λ k a b m. absurd (not-mem-nil m); same = λ k a r q x y p s. (p ∙ sym s, refl) };
      write-pack = record { asks_nothing = λ k a. tt; same = λ k a r q x y p s. ((p.says ∙ sym s.says), p.out ∙ sym s.out) };
    }
  where
    pair : {A B : Type 0} {a b : A} {x y : B} → a ≡ b → x ≡ y → ◌≡◌ {A = A × B} (a, x) (b, y)
    pair p q = rw (p, q)

-- ---- refusals

open-refuses : claimed.OpenRefuses
open-refuses b said why bytes c =
    let (to, from) = pack-exactly b bytes why in
    (λ e. to (sym (open-call c) ∙ e), λ w. (open-call c ∙ from w))

entry-refuses : claimed.EntryRefuses
entry-refuses b n i said why c =
    let (to, from) = entry-exactly b n i why in
    (λ e. to (sym (entry-call c) ∙ e), λ w. (entry-call c ∙ from w))

write-refuses : claimed.WriteRefuses
write-refuses g said why old new twos c =
    let (to, from) = write-exactly g twos (length old) why in
    (λ e. to (sym (write-call c).says ∙ e), λ w. ((write-call c).says ∙ from w))

write_keeps : claimed.WriteKeeps
write_keeps g why old new c = let p = write-call c in p.out ∙ rw (sym p.says)

open-numbers : claimed.OpenNumbers
open-numbers b why c = rw (pack-refused b (sym (open-call c)))

entry-numbers : claimed.EntryNumbers
entry-numbers b n i why c = only ((entry-exactly b n i why).0 (sym (entry-call c)))
  where
    only : {r : Refusal} → EntryRefused b n i r → among (12 ∷ []) r.number ≡ true
    only (number_past l) = refl
    only (entry_past l) = refl
    only (body-past l) = refl

write-numbers : claimed.WriteNumbers
unfolding write_says
write-numbers g why old new c = chain (given_right g) (adds_up g) (tiles_right (length g.rows) (tile_given g)) (leb (pack_length g) (length old)) (pack_length g) (write-call c).says
  where
    chain : (w x y z : Bool) (n : ℕ) → fail why ≡ (require w 12 >>= λ _. require x 12 >>= λ _. require y 12 >>= λ _. require z 5 >>= λ _. ok n) → among (5 ∷ 12 ∷ []) why.number ≡ true
    chain true true true true n e = absurd (let z : ◌≡◌ {A = ℕ} 0 1 = cc in omega arith)
    chain true true true false n e = let z : why ≡ refuse 5 = cc in rw (z)
    chain true true false z n e = let z : why ≡ refuse 12 = cc in rw (z)
    chain true false y z n e = let z : why ≡ refuse 12 = cc in rw (z)
    chain false x y z n e = let z : why ≡ refuse 12 = cc in rw (z)

-- ---- one to one

same-contents : claimed.SameContents
same-contents a b n m x y p q = one.same-contents a b n m x y (sym (open-call p)) (sym (open-call q))

same_bytes : claimed.SameBytes
same_bytes = one.same_bytes

pack-holds : claimed.PackHolds
pack-holds ts said h c = let (says, is) = one.read-written ts h in ((open-call c ∙ says), is)

contents-hold : claimed.ContentsHold
unfolding contents
contents-hold b n bytes c =
    let p = sym (open-call c) in
    let (right, is) = one.written_read b n bytes p in
    (length-tabulate (count_of b) (tile_of b) ∙ sym (pack-opened b p).0, right, is)

empty-pack : claimed.EmptyPack
empty-pack b said bytes c =
    let (to, from) = one.empty-alone b bytes in
    (λ e. to (sym (open-call c) ∙ e), λ e. (open-call c ∙ from e))

-- ---- reader and writer

-- what was written is in front of the buffer
module _ {g : Given} {n : ℕ} {old new : List ℕ} (c : WriteCall g (ok n) old new) where
  says : write_says g (length old) ≡ ok n
  says = sym (write-call c).says

  put : new ≡ over (pack_given g) old
  put = (write-call c).out ∙ rw (says)

  long : n ≡ length (pack_given g)
  long = given-length g (length old) n says

  front : take n new ≡ pack_given g
  front = rw (put, long) (take-append_seam (pack_given g) (drop (length (pack_given g)) old))

read-written : claimed.ReadWritten
read-written g n old new said w c =
    let e = front w in
    ((open-call c ∙ ap pack_says e ∙ given-says g (length old) n (says w)), ap contents e ∙ given-contents g (length old) n (says w))

written_read : claimed.WrittenRead
written_read b n said old new bytes o room w =
    let (again, same) = write_again b n (length old) bytes (sym (open-call o)) room in
    let is : said ≡ ok (length b) = ((write-call w).says ∙ again) in
    (is, front (subst (λ (r : Res ℕ). WriteCall (claimed.given_of b) r old new) is w) ∙ same)

-- a front put over a list that is as long or longer
alike-over : (list old : List ℕ) → length list ≤ length old → AlikeFrom (length list) old (over list old)
alike-over list old h = record { long = simp (length-append, length-drop) (omega arith); rest = rest }
  where
    rest : (i : ℕ) → length list ≤ i → get_or (over list old) i 0 ≡ get_or old i 0
    rest i l =
        let e : length list + (i - length list) ≡ i = omega arith in
        rw (sym e) (get_or-append-add list (drop (length list) old) (i - length list) 0 ∙ get_or-drop (length list) old (i - length list) 0)

write-writes : claimed.WriteWrites
write-writes g n old new w =
    let (is, taken) = write-taken g (length old) (says w) in
    let room : length (pack_given g) ≤ length old = omega (arith, long w, is, taken.fits) in
    (is, front w, rw (long w, put w) (alike-over (pack_given g) old room))

-- ---- what is handed out

-- eight bytes that say no tiles
none-opens : (b : List ℕ) → head_right b ≡ true → 0 ≡ count_of b → length b ≡ 8 → pack_says b ≡ ok 0
unfolding pack_says tiles_right all_to
none-opens b h z l = rw (h, sym z, l)

head_opened : (b : List ℕ) → Opened b → head_right b ≡ true
unfolding head_right
head_opened b o = rw (le-leb _ _ o.head, eq-eqb _ _ o.version, eq-eqb _ _ o.zeros, le-leb _ _ o.few, le-leb _ _ o.whole)

-- tiles, or no byte behind the count
some_or_none : (b : List ℕ) (n : ℕ) → Opened b → n ≡ count_of b → (ltb 0 n || eqb (length b) 8) ≡ true
some_or_none b zero o z =
    let all : body_place (count_of b) (tile_of b) (count_of b) ≡ length b = o.all in
    let end : 8 ≡ length b = rw (sym z) at all in
    rw (eq-eqb _ _ (sym end))
some_or_none b (suc n) o z = rw (lt-ltb 0 (suc n) (omega arith))

reader-holds : claimed.ReaderHolds
unfolding opened_says
reader-holds b = go (pack_says b) refl
  where
    go : (m : Res ℕ) → pack_says b ≡ m → (require (head_right b && eqb (count_said m) (count_of b) && (ltb 0 (count_said m) || eqb (length b) 8)) 12 >>= λ _. ok (count_said m)) ≡ m
    go (ok n) e =
        let (is, o) = pack-opened b e in
        rw (head_opened b o, eq-eqb _ _ is, some_or_none b n o is)
    go (fail r) e = split (head_right b) (λ h. split (eqb 0 (count_of b)) (λ z. split (eqb (length b) 8) (λ l. never (sym (none-opens b h (eqb-true _ _ z) (eqb-true _ _ l)) ∙ e)) (λ l. rw (h, z, l, pack-refused b e))) (λ z. rw (h, z, pack-refused b e))) (λ h. rw (h, pack-refused b e))

-- an entry of an accepted pack
entry-opened : (b : List ℕ) (n i : ℕ) → pack_says b ≡ ok n → i < n → entry_says b n i ≡ ok (entry_at b i)
unfolding entry_says
entry-opened b n i p l =
    let (is, o) = pack-opened b p in
    let there : entry_place (suc i) ≤ length b = omega (arith, o.whole, is, l) in
    let inside = (body-inside b o i (omega (arith, is, l))).1 in
    rw (lt-ltb _ _ l, le-leb _ _ there, le-leb _ _ inside)

tile-handed : claimed.TileHanded
unfolding contents
tile-handed b n i said place at part o l e c =
    let p = sym (open-call o) in
    let is = entry-opened b n i p l in
    let (holds, stands) = body_call c in
    let here : part ≡ body_of b (entry_at b i) = holds ∙ rw (is) in
    let tile : get_or (contents b) i (tile_of b i) ≡ tile_of b i = get_d_tabulate (count_of b) (tile_of b) i (tile_of b i) (omega (arith, (pack-opened b p).0, l)) in
    ((entry-call e ∙ is), rw (here) (sym tile), stands ∙ rw (is))

refused-empty : claimed.RefusedEmpty
refused-empty b n i why place at part e c =
    let is = sym (entry-call e) in
    let (holds, stands) = body_call c in
    (holds ∙ rw (is), stands ∙ rw (is, zero-add))

bodies-partition : claimed.BodiesPartition
bodies-partition b n o =
    let p = sym (open-call o) in
    joined_same n (body_says b n) (λ i. body_of b (entry_at b i)) (λ i l. ap (body_said b) (entry-opened b n i p l)) ∙ one.bodies-partition b n p

tiles-headed : claimed.TilesHeaded
tiles-headed b n i place at part o l c =
    let p = sym (open-call o) in
    let (is, opened) = pack-opened b p in
    let here : part ≡ body_of b (entry_at b i) = (body_call c).0 ∙ rw (entry-opened b n i p l) in
    let kept = opened.each i (omega (arith, is, l)) in
    rw (here)
    (record { header = header_of (body_of b (entry_at b i)); read = kept.matched.says; kind = kept.matched.kind; depth = kept.matched.depth; size = kept.matched.size; whole = sym kept.whole ∙ kept.matched.size })

tiles-stage : claimed.TilesStage
tiles-stage b n i place at part reuse why old spare list o l c t = (λ other r. no_header r, by ((stage-refuses part reuse _ why old spare list t).0 refl))
  where
    headed : claimed.Headed (entry_at b i) part
    headed = tiles-headed b n i place at part o l c

    no_header : {other : Refusal} → HeaderRefused part other → ⊥
    no_header {other} r = never (sym headed.read ∙ (header-exactly part other).1 r)

    by : {r : Refusal} → WholeRefused part reuse old r → among (1 ∷ 5 ∷ 6 ∷ 7 ∷ 8 ∷ 9 ∷ []) r.number ≡ true
    by (whole-header r) = absurd (no_header r)
    by (whole_room h d s) = refl
    by (whole-mask h d s w) = refl
    by (whole-body k d r) = body-in (λ n. among (1 ∷ 5 ∷ 6 ∷ 7 ∷ 8 ∷ 9 ∷ []) n ≡ true) refl refl refl refl r

pub pack-claims : PackClaims
pack-claims =
    record {
      no_room = no-room-left;
      open-refuses = open-refuses;
      entry-refuses = entry-refuses;
      write-refuses = write-refuses;
      write_keeps = write_keeps;
      open-numbers = open-numbers;
      entry-numbers = entry-numbers;
      write-numbers = write-numbers;
      same-contents = same-contents;
      same_bytes = same_bytes;
      pack-holds = pack-holds;
      contents-hold = contents-hold;
      empty-pack = empty-pack;
      read-written = read-written;
      written_read = written_read;
      write-writes = write-writes;
      reader-holds = reader-holds;
      tile-handed = tile-handed;
      refused-empty = refused-empty;
      bodies-partition = bodies-partition;
      tiles-headed = tiles-headed;
      tiles-stage = tiles-stage;
      computed = computed;
    }
