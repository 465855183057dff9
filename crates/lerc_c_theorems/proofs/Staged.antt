-- Staging and publishing for C, proved.
-- Assumes nothing.
use mathlib.Core.Path.{◌≡◌, ◌∙◌, sym, ap, refl, subst}
use mathlib.Core.Bool.{Bool, true, false, cond, ◌&&◌}
use mathlib.Core.List.{List, [], ◌∷◌, ◌++◌}
use Prim.Native.Nat.{ℕ, zero, suc, ◌≤◌, ◌<◌}
use native.Mathlib.Omega.{arith}
use lib.ListN.{length, get_or, take, drop, take-append-drop}
use lib.Dec.{leb, ltb, eqb}
use lib.Seq.{take-suc, take-append_seam}
use borrow.Author.Tests.{ltb-true}
use Rattle.lerc_words.specs.declared.Refusal.{Refusal}
use Rattle.lerc_words.specs.Res.{Res, ok, ◌>>=◌, require, after}
use Rattle.lerc_words.specs.Lists.{over}
use Rattle.lerc_words.proofs.Binding.{and_is, bind_is, require-is}
use Rattle.lerc_header.specs.declared.Header.{Header}
use Rattle.lerc_header.specs.Header.{shape_of}
use Rattle.lerc_header.specs.Shape.{mask_length as mask_bytes}
use Rattle.lerc_validity.specs.Validity.{MaskInForce, reused, new as made, bytes_of, spare_with}
use Rattle.lerc_validity.proofs.Prepared.{Part, Right, mask-right}
use Rattle.lerc.specs.declared.Staged.{Staged}
use Rattle.lerc.specs.Meaning.{Meaning}
use Rattle.lerc.specs.Read.{Lent, read_says, Masked, masked, published, read_after, read_count, WholeRead, ReadTold}
use Rattle.lerc.specs.Stage.{kind_number, mask_named, staged_of, staged_spare, staged_list, StageRead, body_told, Publishing}
use Rattle.lerc.proofs.Both.{read-masked, publishes, means, read_done}
use Rattle.lerc_c.specs.Records.{why_of, header_numbers, fields_fit, header_at, header_from, staged_room, mask_number, mask_length, staged_numbers, kind_from, mask_from, names_right, answer_in, staged_in, staged_from}
use Rattle.lerc_c.specs.Entries.{placing, stage_entry, staged_mask_entry, StageDone, publish_entry, read_entry, masked_entry}
use Rattle.lerc_c.proofs.Back.{header-kept, staged-kept}
use Rattle.lerc_c.proofs.Numbers.{stage-numbered, zero-accepts}
use Rattle.lerc_theorems.specs.Calls.{ReadCall}
use Rattle.lerc_theorems.specs.DemandThree.{ByRead, by_read as surveyed-read}
use Rattle.lerc_theorems.proofs.Made.{read_made}
use Rattle.lerc_theorems.proofs.Meanings.{rooms}
use Rattle.lerc_theorems.proofs.Refusals.{Reached, masked-is}
use Rattle.lerc_c_theorems.specs.Calls.{HoldsHeader, HoldsStaged, Told, StageInC}
use Rattle.lerc_c_theorems.specs.DemandThree.{Bytes, InHandInC, in_hand}
use Rattle.lerc_c_theorems.specs.Staged.{StagedHanded, RecordIsAnswer, StageTellsAsRead, StagedThenPublished, staged_slice, ByStageInC, FillsAfterStage, StagedInC}
use Rattle.lerc_c_theorems.proofs.Calls.{read_done as read-does, stage-done, publish-done}
use Rattle.lerc_c_theorems.proofs.SameReader.{placed-entry, placing-numbered, stage-reads, publish-reads, read-reads, masked-reads}
use Rattle.lerc_c_theorems.proofs.Numbers.{no_answer}
use Rattle.lerc_c_theorems.proofs.DemandThree.{over-long, at-header, Held, held_by, in-any-order}

-- what an accepted call of staging did
record Taken (b : List ℕ) (reuse : Bool) (old : Lent) (spare list staged₀ staged₁ : List ℕ) : Type 0 where
  meaning : Meaning
  says : read_says b reuse old ≡ ok meaning
  read : StageRead b reuse (ok (staged_of meaning)) old spare list
  written : staged₁ ≡ over (staged_numbers (staged_of meaning)) staged₀

taken-by : {b : List ℕ} {reuse : Bool} {old : Lent} {w : Refusal} {spare list staged₀ staged₁ : List ℕ} (place : List ℕ)
    → StageDone (placing place (stage_entry b reuse old staged₀)) (placing place (staged_mask_entry b reuse old staged₀)) w old spare list staged₀ staged₁ → (m : Meaning)
    → placing place (stage_entry b reuse old staged₀) ≡ ok m → Taken b reuse old spare list staged₀ staged₁
unfolding stage_entry staged_mask_entry
taken-by {b} {reuse} {old} {staged₀ = staged₀} place d m e =
    let (_, u, s) = bind_is (require (leb 1 (length place)) 5) _ e in
    let (_, v, s) = bind_is (require (leb staged_room (length staged₀)) 5) _ s in
    let h = rw (require-is (leb 1 (length place)) 5 u, require-is (leb staged_room (length staged₀)) 5 v) at d.spare in
    record {
      meaning = m;
      says = s;
      read = record { says = sym (ap (λ (y : Res Meaning). y >>= λ m. ok (staged_of m)) s); spare = h; list = d.list ∙ ap (λ (y : Res Meaning). staged_list y old.list) (e ∙ sym s) };
      written = rw (e) at d.staged;
    }

taken : {b : List ℕ} {reuse : Bool} {t : Told} {old : Lent} {spare list staged₀ staged₁ : List ℕ} → StageInC b reuse t old spare list staged₀ staged₁ → t.number ≡ 0 → Taken b reuse old spare list staged₀ staged₁
taken {b} {reuse} {t} {old} {staged₀ = staged₀} c z =
    let p = stage-done c in
    let (m, e) = zero-accepts (placing-numbered t.place₀ (stage-numbered b reuse old staged₀)) (sym (ap (λ (q : Refusal). q.number) p.done.why) ∙ sym p.number ∙ z) in
    taken-by t.place₀ p.done m e

-- its record stands for its answer
handed : {b : List ℕ} {reuse : Bool} {old : Lent} {spare list staged₀ staged₁ : List ℕ} → Bytes b → (t : Taken b reuse old spare list staged₀ staged₁) → HoldsStaged staged₁ (ok (staged_of t.meaning))
handed {b} {reuse} {old} {staged₀ = staged₀} bytes t =
    let a = staged_of t.meaning in
    let k : HoldsStaged (over (staged_numbers a) staged₀) (ok a) = record { long = over-long (staged_numbers a) staged₀; is = staged-kept b reuse old staged₀ bytes t.says } in
    subst (λ (l : List ℕ). HoldsStaged l (ok a)) (sym t.written) k

-- and serves as the header's
header-handed : {b : List ℕ} {reuse : Bool} {old : Lent} {spare list staged₀ staged₁ : List ℕ} → Bytes b → (t : Taken b reuse old spare list staged₀ staged₁) → HoldsHeader staged₁ t.meaning.header
header-handed {b} {reuse} {old} {staged₀ = staged₀} bytes t =
    let h = t.meaning.header in
    let s = (masked-is b reuse old (record { header = h; mask = t.meaning.mask }) (read-masked b reuse old t.says)).header in
    let l = over (staged_numbers (staged_of t.meaning)) staged₀ in
    let k : HoldsHeader l h = record { long = over-long (header_numbers h) l; is = header-kept b l bytes s } in
    subst (λ (l : List ℕ). HoldsHeader l h) (sym t.written) k

staged-handed : StagedHanded
staged-handed b reuse old spare₁ list₁ staged₀ staged₁ bytes (_, _, c) = let t = taken c refl in (t.meaning, t.says, handed bytes t, header-handed bytes t)

-- ---- numbers that stand for an answer are its own

unfoldable firsts : ℕ → List ℕ → List ℕ
firsts zero l = []
firsts (suc n) l = firsts n l ++ (get_or l n 0 ∷ [])

take-firsts : (n : ℕ) (l : List ℕ) → n ≤ length l → take n l ≡ firsts n l
unfolding firsts
take-firsts zero l h = refl
take-firsts (suc n) l h = let k : n ≤ length l = omega (arith, h) in take-suc l n 0 h ∙ ap (λ (x : List ℕ). x ++ (get_or l n 0 ∷ [])) (take-firsts n l k)

kind-forth : (n : ℕ) → n < 5 → kind_number (kind_from n) ≡ n
unfolding kind_from
kind-forth zero h = refl
kind-forth (suc zero) h = refl
kind-forth (suc (suc zero)) h = refl
kind-forth (suc (suc (suc zero))) h = refl
kind-forth (suc (suc (suc (suc zero)))) h = refl
kind-forth (suc (suc (suc (suc (suc n))))) h = absurd (omega (arith, h))

mask-forth : (which n : ℕ) → 0 < which → which < 3 → (mask_number (ok (mask_from which n)) ≡ which) × (mask_length (ok (mask_from which n)) ≡ n)
unfolding mask_from
mask-forth zero n s h = absurd (omega (arith, s))
mask-forth (suc zero) n s h = (refl, refl)
mask-forth (suc (suc zero)) n s h = (refl, refl)
mask-forth (suc (suc (suc which))) n s h = absurd (omega (arith, h))

abbrev staged_at : List ℕ → Staged
staged_at l = record { header = header_at l; body = kind_from (get_or l 13 0); blocks = get_or l 11 0; end = get_or l 12 0; mask = ok (mask_from (get_or l 14 0) (get_or l 15 0)) }

answered : (l : List ℕ) {a : Staged} → staged_from l ≡ ok a → (names_right l ≡ true) × (staged_at l ≡ a)
unfolding staged_in header_from
answered l {a} e = go (fields_fit l) (names_right l) e
  where
    go : (t u : Bool) → answer_in ((require t 3 >>= λ _. ok (header_at l)) >>= λ h. require u 3 >>= λ _. ok (record { header = h; body = kind_from (get_or l 13 0); blocks = get_or l 11 0; end = get_or l 12 0; mask = ok (mask_from (get_or l 14 0) (get_or l 15 0)) })) ≡ ok a
        → (u ≡ true) × (staged_at l ≡ a)
    go true true e = (refl, cc)
    go true false e = absurd (let z : ◌≡◌ {A = ℕ} 0 1 = cc in omega arith)
    go false u e = absurd (let z : ◌≡◌ {A = ℕ} 0 1 = cc in omega arith)

numbers-are : (l : List ℕ) → staged_room ≤ length l → names_right l ≡ true → take staged_room l ≡ staged_numbers (staged_at l)
unfolding names_right firsts
numbers-are l h e =
    let (e, few) = and_is (ltb (get_or l 13 0) 5 && ltb 0 (get_or l 14 0)) (ltb (get_or l 14 0) 3) e in
    let (body, some) = and_is (ltb (get_or l 13 0) 5) (ltb 0 (get_or l 14 0)) e in
    let k = kind-forth (get_or l 13 0) (ltb-true _ _ body) in
    let (w, n) = mask-forth (get_or l 14 0) (get_or l 15 0) (ltb-true _ _ some) (ltb-true _ _ few) in
    take-firsts staged_room l h ∙ rw (k, w, n)

record_is : RecordIsAnswer
record_is b reuse l m staged bytes e h = (
  λ s. let (n, a) = answered staged s in numbers-are staged h n ∙ ap staged_numbers a,
  λ s. let w : over (staged_numbers (staged_of m)) staged ≡ staged = ap (λ (x : List ℕ). x ++ drop staged_room staged) (sym s) ∙ take-append-drop staged_room staged in
      subst (λ (x : List ℕ). staged_from x ≡ ok (staged_of m)) w (staged-kept b reuse l staged bytes e),
)

stage-tells : StageTellsAsRead
stage-tells b reuse old t spare₁ list₁ staged₀ staged₁ c i l u new said₀ said₁ d j n =
    let p = stage-done c in
    let q = read-does d in
    let e = p.done.why ∙ ap why_of (placed-entry t.place₀ (stage_entry b reuse old staged₀) i ∙ stage-reads b reuse old staged₀ l) in
    let f = q.done.why ∙ ap why_of (placed-entry u.place₀ (read_entry b reuse old said₀) j ∙ read-reads b reuse old said₀ n) in (
      why_of (read_says b reuse old),
      (p.number ∙ ap (λ (w : Refusal). w.number) e, p.place ∙ rw (e)),
      (q.number ∙ ap (λ (w : Refusal). w.number) f, q.place ∙ rw (f)),
    )

stage-then-publish : StagedThenPublished
stage-then-publish b reuse old spare₁ list₁ staged₀ staged₁ bytes (_, _, c) u kept₁ image₁ said₀ said₁ d j n t new read₀ read₁ g i l =
    let x = taken c refl in
    let left : Lent = record { kept = old.kept; spare = spare₁; list = list₁; image = old.image } in
    let m = (means b reuse old x.read).0 in
    let y = publishes b reuse old x.read in
    let p = publish-done d in
    let e = placed-entry u.place₀ (publish_entry b reuse staged₁ left said₀) j ∙ publish-reads b reuse left said₀ (handed bytes x) n in
    let told = body_told m.header m.body in
    let w : Publishing b reuse (ok (staged_of x.meaning)) (ok (record { end = told.end; words = told.words })) left kept₁ image₁ =
    record {
      says = rw (y);
      kept = p.done.kept ∙ ap (λ (z : Res Meaning). after z left.kept (λ m. (published m left).kept)) e;
      image = p.done.image ∙ ap (λ (z : Res Meaning). after z left.image (λ m. (published m left).image)) e;
    } in
    let f = read-does g in
    let k = placed-entry t.place₀ (read_entry b reuse old read₀) i ∙ read-reads b reuse old read₀ l in
    let v = placed-entry t.place₀ (masked_entry b reuse old read₀) i ∙ masked-reads b reuse old read₀ l in (
      p.number ∙ ap (λ (r : Refusal). r.number) (p.done.why ∙ ap why_of (e ∙ y)),
      f.number ∙ ap (λ (r : Refusal). r.number) (f.done.why ∙ ap why_of (k ∙ x.says)),
      f.done.lent ∙ ap (λ (z : Res Meaning). read_after z (placing t.place₀ (masked_entry b reuse old read₀)) old) k
          ∙ ap (λ (z : Res Masked). read_after (read_says b reuse old) z old) v ∙ sym (read_done b reuse old x.read w refl).lent,
    )

-- ---- fills after staging

-- the told slice begins with the mask in force
slice_front : (f : MaskInForce) (old spare₀ : List ℕ) {spare₁ : List ℕ} → Part old f → spare₁ ≡ spare_with f spare₀
    → take (mask_length (mask_named f)) (cond (eqb (mask_number (mask_named f)) 1) old spare₁) ≡ bytes_of f
slice_front (reused m) old spare₀ p e = sym p.1
slice_front (made m) old spare₀ p e = rw (e) (take-append_seam m (drop (length m) spare₀))

named-long : (f : MaskInForce) → mask_length (mask_named f) ≡ length (bytes_of f)
named-long (reused m) = refl
named-long (made m) = refl

told-whole : {h g : Header} {n m end other : ℕ} → h ≡ g → n ≡ m → end ≡ other → ok {A = ReadTold} (record { header = h; blocks = n; end = end }) ≡ ok {A = ReadTold} (record { header = g; blocks = m; end = other })
told-whole i n k = rw (i, n, k)

module _ (x : InHandInC) (w : ByStageInC x) where
  by : Taken x.blob x.reuse w.old w.spare₁ w.list₁ w.staged₀ x.header
  by = taken w.stage.2 refl

  abbrev found : Meaning
  found = by.meaning

  as-masked : masked x.blob x.reuse w.old ≡ ok (record { header = found.header; mask = found.mask })
  as-masked = read-masked x.blob x.reuse w.old by.says

  reached : Reached x.blob x.reuse w.old (record { header = found.header; mask = found.mask })
  reached = masked-is x.blob x.reuse w.old _ as-masked

  right : Right (take found.header.size x.blob) found.header w.old.kept found.mask
  right = mask-right (take found.header.size x.blob) found.header w.old.kept x.reuse found.mask (rooms found.header w.old reached.room).kept reached.mask

  header_is : found.header ≡ header_at x.header
  header_is = at-header (header-handed w.bytes by)

  held-here : Held x
  held-here = held_by x found.header reached.header (header-handed w.bytes by) w.ranges

  -- a number of the record
  number_is : (i : ℕ) → get_or x.header i 0 ≡ get_or (over (staged_numbers (staged_of found)) w.staged₀) i 0
  number_is i = ap (λ (l : List ℕ). get_or l i 0) by.written

  -- what a whole read would have left
  abbrev left : Lent
  left = published found w.old

  read-there : ReadCall x.blob x.reuse (ok (record { header = (header_at x.header); blocks = x.count; end = x.end })) w.old left
  read-there =
      let r : WholeRead x.blob x.reuse (ok (record { header = found.header; blocks = (staged_of found).blocks; end = (staged_of found).end })) w.old left =
      record { says = sym (ap (λ (y : Res Meaning). y >>= read_count) by.says); lent = sym (ap (λ (y : Res Meaning). read_after y (masked x.blob x.reuse w.old) w.old) by.says) } in
      subst (λ (q : Res ReadTold). ReadCall x.blob x.reuse q w.old left) (told-whole header_is (sym (w.count ∙ number_is 11)) (sym (w.end ∙ number_is 12))) (read_made x.blob x.reuse _ w.old left r)

  long-is : length (bytes_of found.mask) ≡ mask_bytes (shape_of (header_at x.header))
  long-is = right.size ∙ ap (λ (h : Header). mask_bytes (shape_of h)) header_is

  slice_is : take (get_or x.header 15 0) (staged_slice x.header w.old.kept w.spare₁) ≡ bytes_of found.mask
  slice_is =
      ap (λ (n : ℕ). take n (staged_slice x.header w.old.kept w.spare₁)) (number_is 15)
      ∙ ap (λ (n : ℕ). take (mask_length (mask_named found.mask)) (cond (eqb n 1) w.old.kept w.spare₁)) (number_is 14)
      ∙ slice_front found.mask w.old.kept w.old.spare right.part (by.read.spare ∙ ap (λ (y : Res Masked). staged_spare y w.old.spare) as-masked)

  kept-is : take (mask_bytes (shape_of (header_at x.header))) left.kept ≡ bytes_of found.mask
  unfolding published
  kept-is = ap (λ (n : ℕ). take n left.kept) (sym long-is) ∙ take-append_seam (bytes_of found.mask) (drop (length (bytes_of found.mask)) w.old.kept)

  mask-there : take (mask_bytes (shape_of (header_at x.header))) x.mask ≡ take (mask_bytes (shape_of (header_at x.header))) left.kept
  mask-there = ap (λ (n : ℕ). take n x.mask) (sym (number_is 15 ∙ named-long found.mask ∙ long-is)) ∙ w.mask ∙ slice_is ∙ sym kept-is

  list-is : w.list₁ ≡ left.list
  unfolding published
  list-is = by.read.list ∙ ap (λ (y : Res Meaning). staged_list y w.old.list) by.says

  stage-whole : ByRead (in_hand x)
  stage-whole = record {
    old = w.old;
    new = left;
    read = read-there;
    kept = w.kept;
    some = w.some;
    ranges = held-here.read;
    mask = mask-there;
    list = w.list ∙ ap (take x.count) list-is;
    room = w.room;
  }

fills-after-stage : FillsAfterStage
fills-after-stage x w = in-any-order x (held-here x w) (surveyed-read (stage-whole x w))

pub staged-in-c : StagedInC
staged-in-c = record { staged-handed = staged-handed; record_is = record_is; stage-tells = stage-tells; stage-then-publish = stage-then-publish; fills-after-stage = fills-after-stage; no_answer = no_answer }
