-- Which number an entry for C returns: the table holds exactly.
-- Assumes nothing.
use mathlib.Core.Path.{◌≡◌, ◌∙◌, sym, ap, refl, subst}
use mathlib.Core.Logic.{◌↔◌, ◌⊎◌, inl, inr}
use mathlib.Core.Bool.{Bool, true, false, ◌&&◌}
use mathlib.Core.List.{List, [], ◌∷◌}
use Prim.Native.Nat.{ℕ, zero, suc, ◌<◌}
use native.Mathlib.Omega.{arith}
use lib.ListN.{length, get_or, set}
use lib.Dec.{leb, ltb}
use borrow.Author.Tests.{ltb-true, ltb-false, leb-true, leb-false}
use Rattle.lerc_words.specs.declared.Refusal.{Refusal}
use Rattle.lerc_words.specs.Res.{Res, ok, fail, ◌>>=◌, refuse, require}
use Rattle.lerc_words.proofs.Binding.{bind-no, bind-fail, and_is}
use Rattle.lerc_samples.specs.Samples.{stored}
use Rattle.lerc_header.specs.declared.Header.{Header}
use Rattle.lerc_header.specs.Header.{header_says}
use Rattle.lerc_validity.specs.Validity.{MaskInForce, prepare_says}
use Rattle.lerc_ranges.specs.declared.Ranges.{Ranges}
use Rattle.lerc_ranges.specs.Ranges.{read_ranges_says}
use Rattle.lerc_image.specs.Paint.{among}
use Rattle.lerc_image.specs.Walk.{walk_says}
use Rattle.lerc_image.specs.Fill.{fill_says}
use Rattle.lerc_slices.specs.Slices.{begins_with}
use Rattle.lerc_validity.specs.Validity.{holds_mask}
use Rattle.lerc.specs.declared.Staged.{Staged}
use Rattle.lerc.specs.Meaning.{Meaning, starts_of}
use Rattle.lerc.specs.Read.{Lent, read_says}
use Rattle.lerc.specs.Stage.{staged_of, is_answer, was_staged, publish_says}
use Rattle.lerc.proofs.Answers.{answer-self, answer-is}
use Rattle.lerc_c.specs.Records.{why_of, header_room, fields_fit, header_at, header_from, ranges_room, ranges_in, ranges_from, staged_room, kind_from, mask_from, names_right, answer_in, staged_in, staged_from}
use Rattle.lerc_c.specs.Entries.{placing, Returned, header_entry, prepare_entry, ranges_entry, walk_entry, fill_entry, read_room, read_entry, stage_entry, publish_entry, stored_entry}
use Rattle.lerc_c.proofs.RecordParts.{Fit, fit}
use Rattle.lerc_c.proofs.Numbers.{Numbered, header-numbered, prepare-numbered, ranges-numbered, walk-numbered, fill-numbered, read-numbered, stage-numbered, publish-numbered, stored-numbered, pack-numbered, entry-numbered, write-numbered, zero-accepts}
use Rattle.lerc_pack.specs.Pack.{pack_says, entry_says}
use Rattle.lerc_pack_writer.specs.Writing.{Given, write_says}
use Rattle.lerc_c.specs.Packs.{pack_entry, entry_room, entry_entry, pack_write_entry}
use Rattle.lerc_theorems.specs.Numbers.{Exactly, ExactlyNumbered}
use Rattle.lerc_theorems.specs.BlockTable.{StoredRefused}
use Rattle.lerc_theorems.specs.Table.{HeaderRefused, PrepareRefused, ReadRangesRefused, WalkRefused, FillRefused, WholeRefused}
use Rattle.lerc_theorems.proofs.Demands.{fail-is, not-refused}
use Rattle.lerc_theorems.proofs.Numbers.{by_number}
use Rattle.lerc_theorems.proofs.Given.{header-in, prepare-in, read-ranges-in, walk-in, fill-in, whole_in, stored-in}
use Rattle.lerc_theorems.proofs.Headers.{header-exactly, prepare-exactly, read-ranges-exactly}
use Rattle.lerc_theorems.proofs.Entries.{walk-exactly, fill-exactly, whole-exactly}
use Rattle.lerc_theorems.proofs.Blocks.{stored-exactly}
use Rattle.lerc_c_theorems.specs.Promises.{c-lent, c-stage-lent, c-given, c-tiles, c-written}
use Rattle.lerc_c_theorems.specs.PackTable.{PackRefused, EntryOutside, WriteRefused}
use Rattle.lerc_c_theorems.proofs.PackTable.{pack-exactly, entry-exactly, write-exactly, pack-in, outside-in, write-in}
use Rattle.lerc_c_theorems.proofs.SameReader.{placing-numbered}
use Rattle.lerc_c_theorems.specs.Numbers.{ToldInC, PromisedInC, EntryRefused, slice-short, number-wide, reader-refuses, NothingWide, Shorter, HeaderWide, rows-wide, columns-wide, depth-wide, valid-wide, side-wide, size-wide, kind-wide, mask-wide, MarkWide, NameWide, body-wide, mask-none, mask-many, NoAnswer, AsStaged, PublishRefused, publish-read, publish-given, StageNumbers, PublishNumbers, StageOnly, PublishOnly, NumbersExactlyInC, PlacesExactlyInC, OnlyInC, NumbersOnlyInC, PackOpenNumbers, PackEntryNumbers, PackWriteNumbers, PackOpenOnly, PackEntryOnly, PackWriteOnly}

-- ---- tests, and what fails where one fails

record Decides (t : Bool) (Bad : Type 0) : Type 0 where
  bad : t ≡ false → Bad
  good : t ≡ true → Bad → ⊥

no_test : Decides true NothingWide
no_test = record { bad = λ e. absurd (let z : ◌≡◌ {A = ℕ} 0 1 = cc in omega arith); good = λ _ x. x }

long : (room : ℕ) (l : List ℕ) → Decides (leb room (length l)) (Shorter l room)
long room l = record { bad = leb-false room (length l); good = λ e s. let h = leb-true room (length l) e in omega (arith, h, s) }

-- one of two tests fails
fails : (a b : Bool) {P : Type 0} → (a ≡ false → P) → (b ≡ false → P) → (a && b) ≡ false → P
fails true b f g e = g e
fails false b f g e = f refl

both : {t u : Bool} {P Q : Type 0} → Decides t P → Decides u Q → Decides (t && u) (P ⊎ Q)
both {t} {u} {P} {Q} p q = record { bad = fails t u (λ e. inl (p.bad e)) (λ e. inr (q.bad e)); good = λ e. let (v, w) = and_is t u e in λ s. go v w s }
  where
    go : t ≡ true → u ≡ true → P ⊎ Q → ⊥
    go v w (inl s) = p.good v s
    go v w (inr s) = q.good w s

fields : (l : List ℕ) → Decides (fields_fit l) (HeaderWide l)
unfolding fields_fit
fields l = record {
  bad = fails _ _ (fails _ _ (fails _ _ (fails _ _ (fails _ _ (fails _ _ (fails _ _
      (λ e. rows-wide (ltb-false _ _ e)) (λ e. columns-wide (ltb-false _ _ e))) (λ e. depth-wide (ltb-false _ _ e))) (λ e. valid-wide (ltb-false _ _ e)))
      (λ e. side-wide (ltb-false _ _ e))) (λ e. size-wide (ltb-false _ _ e))) (λ e. kind-wide (ltb-false _ _ e))) (λ e. mask-wide (ltb-false _ _ e));
  good = λ e. let f = fit l e in λ w. go f w;
}
  where
    go : Fit l → HeaderWide l → ⊥
    go f (rows-wide w) = omega (arith, f.rows, w)
    go f (columns-wide w) = omega (arith, f.columns, w)
    go f (depth-wide w) = omega (arith, f.depth, w)
    go f (valid-wide w) = omega (arith, f.valid, w)
    go f (side-wide w) = omega (arith, f.side, w)
    go f (size-wide w) = omega (arith, f.size, w)
    go f (kind-wide w) = omega (arith, f.kind, w)
    go f (mask-wide w) = omega (arith, f.mask, w)

mark : (l : List ℕ) → Decides (ltb (get_or l 1 0) 2) (MarkWide l)
mark l = record { bad = ltb-false (get_or l 1 0) 2; good = λ e w. let h = ltb-true (get_or l 1 0) 2 e in omega (arith, h, w) }

none : (n : ℕ) → ltb 0 n ≡ false → n ≡ 0
none n e = omega (arith, ltb-false 0 n e)

names : (l : List ℕ) → Decides (names_right l) (NameWide l)
unfolding names_right
names l = record {
  bad = fails _ _ (fails _ _ (λ e. body-wide (ltb-false _ _ e)) (λ e. mask-none (none (get_or l 14 0) e))) (λ e. mask-many (ltb-false _ _ e));
  good = λ e. let (e, few) = and_is _ _ e in let (body, some) = and_is _ _ e in λ w. go (ltb-true _ _ body) (ltb-true _ _ some) (ltb-true _ _ few) w;
}
  where
    go : get_or l 13 0 < 5 → 0 < get_or l 14 0 → get_or l 14 0 < 3 → NameWide l → ⊥
    go body some few (body-wide w) = omega (arith, body, w)
    go body some few (mask-none w) = omega (arith, some, w)
    go body some few (mask-many w) = omega (arith, few, w)

neither : {P Q : Type 0} → Decides true P → Decides true Q → P ⊎ Q → ⊥
neither f n (inl w) = f.good refl w
neither f n (inr w) = n.good refl w

-- a record of which a number is too wide, or names nothing, stands for no answer
module _ (staged : List ℕ) where
  abbrev named : Bool → Header → Res Staged
  named u h = require u 3 >>= λ _. ok (record { header = h; body = kind_from (get_or staged 13 0); blocks = get_or staged 11 0; end = get_or staged 12 0; mask = ok (mask_from (get_or staged 14 0) (get_or staged 15 0)) })

  answer-none : (t u : Bool) → Decides t (HeaderWide staged) → Decides u (NameWide staged)
      → (answer_in ((require t 3 >>= λ _. ok (header_at staged)) >>= named u) ≡ fail (refuse 0)) ↔ (HeaderWide staged ⊎ NameWide staged)
  answer-none true true f n = (λ e. absurd (let z : ◌≡◌ {A = ℕ} 0 1 = cc in omega arith), λ w. absurd (neither f n w))
  answer-none true false f n = (λ _. inr (n.bad refl), λ _. refl)
  answer-none false u f n = (λ _. inl (f.bad refl), λ _. refl)

pub no_answer : NoAnswer
unfolding staged_in header_from
no_answer staged = answer-none staged (fields_fit staged) (names_right staged) (fields staged) (names staged)

-- ---- an entry: room for its records, numbers that their fields hold, then the reader

abbrev Entry : {A : Type 0} → Bool → Bool → Res A → Res A
Entry t u m = require t 5 >>= λ _. require u 3 >>= λ _. m

module _ {A : Type 0} {m : Res A} {Short Wide : Type 0} {Refused : Refusal → Type 0} (rest : (why : Refusal) → (m ≡ fail why) ↔ Refused why) where
  refused-by : (t u : Bool) → Decides t Short → Decides u Wide → {why : Refusal} → Entry t u m ≡ fail why → EntryRefused Short Wide Refused why
  refused-by true true s w {why} e = reader-refuses (s.good refl) (w.good refl) ((rest why).0 e)
  refused-by true false s w e = subst (EntryRefused Short Wide Refused) (fail-is e) (number-wide (s.good refl) (w.bad refl))
  refused-by false u s w e = subst (EntryRefused Short Wide Refused) (fail-is e) (slice-short (s.bad refl))

  by-refused : (t u : Bool) → Decides t Short → Decides u Wide → {why : Refusal} → EntryRefused Short Wide Refused why → Entry t u m ≡ fail why
  by-refused true true s w (slice-short x) = absurd (s.good refl x)
  by-refused true true s w (number-wide x y) = absurd (w.good refl y)
  by-refused true true s w {why} (reader-refuses x y r) = (rest why).1 r
  by-refused true false s w (slice-short x) = absurd (s.good refl x)
  by-refused true false s w (number-wide x y) = refl
  by-refused true false s w (reader-refuses x y r) = absurd (y (w.bad refl))
  by-refused false u s w (slice-short x) = refl
  by-refused false u s w (number-wide x y) = absurd (x (s.bad refl))
  by-refused false u s w (reader-refuses x y r) = absurd (x (s.bad refl))

  -- so its table is exact
  table : {t u : Bool} → Decides t Short → Decides u Wide → {entry : Res A} → entry ≡ Entry t u m → (why : Refusal) → (entry ≡ fail why) ↔ EntryRefused Short Wide Refused why
  table {t} {u} s w d why = (λ e. refused-by t u s w (sym d ∙ e), λ r. d ∙ by-refused t u s w r)

-- a value out of a record, then the rest
held-form : {A B : Type 0} (u : Bool) (v : A) (k : A → Res B) → ((require u 3 >>= λ _. ok v) >>= k) ≡ (require u 3 >>= λ _. k v)
held-form true v k = refl
held-form false v k = refl

both-form : {A : Type 0} (u v : Bool) (m : Res A) → (require u 3 >>= λ _. require v 3 >>= λ _. m) ≡ (require (u && v) 3 >>= λ _. m)
both-form true v m = refl
both-form false v m = refl

-- ---- the entries in this form

header-form : (b header : List ℕ) → header_entry b header ≡ Entry (leb header_room (length header)) true (header_says b)
unfolding header_entry
header-form b header = refl

prepare-form : (b header : List ℕ) (reuse : Bool) (kept spare said : List ℕ)
    → prepare_entry b header reuse kept spare said ≡ Entry (leb header_room (length header) && leb 2 (length said)) (fields_fit header) (prepare_says b (header_at header) reuse kept (length spare))
unfolding prepare_entry header_from
prepare-form b header reuse kept spare said =
    ap (λ (x : Res MaskInForce). require (leb header_room (length header) && leb 2 (length said)) 5 >>= λ _. x) (held-form (fields_fit header) (header_at header) (λ h. prepare_says b h reuse kept (length spare)))

ranges-form : (b header ranges : List ℕ)
    → ranges_entry b header ranges ≡ Entry (leb header_room (length header) && leb ranges_room (length ranges)) (fields_fit header) (read_ranges_says b (header_at header))
unfolding ranges_entry header_from
ranges-form b header ranges =
    ap (λ (x : Res Ranges). require (leb header_room (length header) && leb ranges_room (length ranges)) 5 >>= λ _. x) (held-form (fields_fit header) (header_at header) (read_ranges_says b))

-- header and ranges out of their records, then the rest
module _ {B : Type 0} (header ranges : List ℕ) (t : Bool) (k : Header → Ranges → Res B) where
  two-form : (require t 5 >>= λ _. header_from header >>= λ h. ranges_from ranges >>= λ r. k h r) ≡ Entry t (fields_fit header && ltb (get_or ranges 1 0) 2) (k (header_at header) (ranges_in ranges))
  unfolding header_from ranges_from
  two-form =
      ap (λ (x : Res B). require t 5 >>= λ _. x)
      (held-form (fields_fit header) (header_at header) (λ h. ranges_from ranges >>= λ r. k h r)
      ∙ ap (λ (x : Res B). require (fields_fit header) 3 >>= λ _. x) (held-form (ltb (get_or ranges 1 0) 2) (ranges_in ranges) (k (header_at header)))
      ∙ both-form (fields_fit header) (ltb (get_or ranges 1 0) 2) (k (header_at header) (ranges_in ranges)))

abbrev room_for : ℕ → List ℕ → List ℕ → List ℕ → Bool
room_for n header ranges said = leb header_room (length header) && leb ranges_room (length ranges) && leb n (length said)

walk-form : (b header ranges m list said : List ℕ) → walk_entry b header ranges m list said ≡ Entry (room_for 2 header ranges said) (fields_fit header && ltb (get_or ranges 1 0) 2)
    (walk_says b (header_at header) (ranges_in ranges) m (length list) >>= λ c. ok (record { header = header_at header; chain = c }))
unfolding walk_entry
walk-form b header ranges m list said = two-form header ranges (room_for 2 header ranges said) (λ h r. walk_says b h r m (length list) >>= λ c. ok (record { header = h; chain = c }))

fill-form : (b header ranges m list : List ℕ) (n : ℕ) (image said : List ℕ)
    → fill_entry b header ranges m list n image said ≡ Entry (room_for 1 header ranges said) (fields_fit header && ltb (get_or ranges 1 0) 2)
    (fill_says b (header_at header) (ranges_in ranges) m list n (length image) >>= λ k. ok (record { header = header_at header; block = k }))
unfolding fill_entry
fill-form b header ranges m list n image said =
    two-form header ranges (room_for 1 header ranges said) (λ h r. fill_says b h r m list n (length image) >>= λ k. ok (record { header = h; block = k }))

read-form : (b : List ℕ) (reuse : Bool) (l : Lent) (said : List ℕ) → read_entry b reuse l said ≡ Entry (leb read_room (length said)) true (read_says b reuse l)
unfolding read_entry
read-form b reuse l said = refl

stored-form : (kind v : ℕ) (said : List ℕ) → stored_entry kind v said ≡ Entry (leb 1 (length said)) true (stored kind v)
unfolding stored_entry
stored-form kind v said = refl

stage-form : (b : List ℕ) (reuse : Bool) (l : Lent) (staged : List ℕ) → stage_entry b reuse l staged ≡ Entry (leb staged_room (length staged)) true (read_says b reuse l)
unfolding stage_entry
stage-form b reuse l staged = refl

publish-form : (b : List ℕ) (reuse : Bool) (staged : List ℕ) (l : Lent) (said : List ℕ)
    → publish_entry b reuse staged l said ≡ Entry (leb staged_room (length staged) && leb 2 (length said)) true (publish_says b reuse (staged_from staged) l)
unfolding publish_entry
publish-form b reuse staged l said = refl

pack-open-form : (b said : List ℕ) → pack_entry b said ≡ Entry (leb 1 (length said)) true (pack_says b)
unfolding pack_entry
pack-open-form b said = refl

pack-entry-form : (b : List ℕ) (tiles number : ℕ) (entry : List ℕ) → entry_entry b tiles number entry ≡ Entry (leb entry_room (length entry)) true (entry_says b tiles number)
unfolding entry_entry
pack-entry-form b tiles number entry = refl

pack-write-form : (g : Given) (room : ℕ) (said : List ℕ) → pack_write_entry g room said ≡ Entry (leb 1 (length said)) true (write_says g room)
unfolding pack_write_entry
pack-write-form g room said = refl

-- room for the place comes before all of it
placed-form : {A : Type 0} (p t u : Bool) (m : Res A) → (require p 5 >>= λ _. Entry t u m) ≡ Entry (p && t) u m
placed-form true t u m = refl
placed-form false t u m = refl

-- ---- their tables

abbrev TableOf : {A : Type 0} → Res A → (Refusal → Type 0) → Type 0
TableOf entry When = (why : Refusal) → (entry ≡ fail why) ↔ When why

-- what is made of an accepted value refuses nothing
behind : {A B : Type 0} {m : Res A} (f : A → B) {When : Refusal → Type 0} → TableOf m When → TableOf (m >>= λ a. ok (f a)) When
behind {m = m} f p why = (λ e. (p why).0 (bind-fail m f e), λ r. bind-no _ ((p why).1 r))

-- a refusal by its number and its place
refusal_is : (q : Refusal) {n p : ℕ} → n ≡ q.number → q.at ≡ p → q ≡ record { number = n; at = p }
refusal_is q d e = rw (d, ← e)

-- where an entry returns 0, and what it tells where it does not
module _ {A : Type 0} {When : Refusal → Type 0} {Done : Refusal → Type 0} {n : ℕ} {place₀ place₁ : List ℕ} (r : Returned Done n place₀ place₁) where
  zero-where : (entry : Res A) → Numbered entry → TableOf entry When → r.why ≡ why_of entry → (n ≡ 0) ↔ ((why : Refusal) → When why → ⊥)
  zero-where (ok a) p f k = (λ _ why w. not-refused ((f why).1 w), λ _. r.number ∙ ap (λ (q : Refusal). q.number) k)
  zero-where (fail q) p f k = (λ z. let (_, d) = zero-accepts p (sym (r.number ∙ ap (λ (q : Refusal). q.number) k) ∙ z) in not-refused (sym d), λ none. absurd (none q ((f q).0 refl)))

  exactly-where : (entry : Res A) → Numbered entry → TableOf entry When → r.why ≡ why_of entry → r.why.at ≡ get_or place₁ 0 0 → Exactly (ToldInC n place₁) When
  exactly-where (ok a) p f k e why = (λ t. absurd (t.0 (r.number ∙ ap (λ (q : Refusal). q.number) k)), λ w. not-refused ((f why).1 w))
  exactly-where (fail q) p f k e why = (
    λ t. (f why).0 (ap fail (sym k ∙ refusal_is r.why r.number e ∙ sym t.1)),
    λ w. let d = fail-is ((f why).1 w) in (λ z. let (_, c) = zero-accepts p (sym (r.number ∙ ap (λ (q : Refusal). q.number) k) ∙ z) in not-refused (sym c), sym (k ∙ d) ∙ refusal_is r.why r.number e),
  )

-- the first number of the slice is the place; where there is none, 5 is refused at 0
first-place : {A : Type 0} (place₀ : List ℕ) (m : Res A) (why : Refusal) (place₁ : List ℕ) → why ≡ why_of (placing place₀ m) → place₁ ≡ set place₀ 0 why.at → why.at ≡ get_or place₁ 0 0
first-place [] m why place₁ k e = ap (λ (q : Refusal). q.at) k ∙ sym (ap (λ (l : List ℕ). get_or l 0 0) e)
first-place (p ∷ ps) m why place₁ k e = sym (ap (λ (l : List ℕ). get_or l 0 0) e)

-- what an entry tells, by its table; `entry` is what it does beside the place
by-table : {K A O B : Type 0} {Post : K → A → ℕ → O → Type 0} {place : A → List ℕ} {left : O → List ℕ} {When : A → Refusal → Type 0} {Done : K → A → O → Refusal → Type 0} (entry : A → Res B)
    → ((a : A) → Numbered (entry a)) → ((a : A) → TableOf (placing (place a) (entry a)) (When a))
    → ((k : K) (a : A) (n : ℕ) (x : O) → Post k a n x → (r : Returned (Done k a x) n (place a) (left x)) × (r.why ≡ why_of (placing (place a) (entry a)))) → PromisedInC Exactly Post place left When
by-table {place = place} {left = left} entry p f done = record {
  zero = λ k a n x q. let (r, e) = done k a n x q in zero-where r (placing (place a) (entry a)) (placing-numbered (place a) (p a)) (f a) e;
  other = λ k a n x q. let (r, e) = done k a n x q in
      exactly-where r (placing (place a) (entry a)) (placing-numbered (place a) (p a)) (f a) e (first-place (place a) (entry a) r.why (left x) e r.place);
  written = λ k a n x q. let (r, e) = done k a n x q in let i = first-place (place a) (entry a) r.why (left x) e r.place in (
    r.place ∙ ap (set (place a) 0) i,
    λ z. let (b, d) = zero-accepts (placing-numbered (place a) (p a)) (sym (r.number ∙ ap (λ (q : Refusal). q.number) e) ∙ z) in sym i ∙ ap (λ (q : Refusal). q.at) (e ∙ ap why_of d),
  );
}

-- an entry whose form is known, with room for its place in front
placed-table : {A : Type 0} {m : Res A} {Short Wide : Type 0} {Refused : Refusal → Type 0} {t u : Bool} (place : List ℕ) → TableOf m Refused → Decides t Short → Decides u Wide → {entry : Res A} → entry ≡ Entry t u m
    → TableOf (placing place entry) (EntryRefused (Shorter place 1 ⊎ Short) Wide Refused)
placed-table {A} {m} {t = t} {u = u} place f s w {entry} d =
    table f (both (long 1 place) s) w (ap (λ (x : Res A). require (leb 1 (length place)) 5 >>= λ _. x) d ∙ placed-form (leb 1 (length place)) t u m)

module _ (place b header : List ℕ) where
  header-table : TableOf (placing place (header_entry b header)) (EntryRefused (Shorter place 1 ⊎ Shorter header header_room) NothingWide (HeaderRefused b))
  header-table = placed-table place (header-exactly b) (long header_room header) no_test (header-form b header)

  prepare-table : (reuse : Bool) (kept spare said : List ℕ) → TableOf (placing place (prepare_entry b header reuse kept spare said))
      (EntryRefused (Shorter place 1 ⊎ (Shorter header header_room ⊎ Shorter said 2)) (HeaderWide header) (PrepareRefused b (header_at header) reuse kept (length spare)))
  prepare-table reuse kept spare said =
      placed-table place (prepare-exactly b (header_at header) reuse kept (length spare)) (both (long header_room header) (long 2 said)) (fields header) (prepare-form b header reuse kept spare said)

  ranges-table : (ranges : List ℕ) → TableOf (placing place (ranges_entry b header ranges))
      (EntryRefused (Shorter place 1 ⊎ (Shorter header header_room ⊎ Shorter ranges ranges_room)) (HeaderWide header) (ReadRangesRefused b (header_at header)))
  ranges-table ranges = placed-table place (read-ranges-exactly b (header_at header)) (both (long header_room header) (long ranges_room ranges)) (fields header) (ranges-form b header ranges)

  module _ (ranges m list : List ℕ) where
    walk-table : (said : List ℕ) → TableOf (placing place (walk_entry b header ranges m list said))
        (EntryRefused (Shorter place 1 ⊎ ((Shorter header header_room ⊎ Shorter ranges ranges_room) ⊎ Shorter said 2)) (HeaderWide header ⊎ MarkWide ranges) (WalkRefused b (header_at header) (ranges_in ranges) m (length list)))
    walk-table said =
        placed-table place (behind (λ c. record { header = header_at header; chain = c }) (walk-exactly b (header_at header) (ranges_in ranges) m (length list))) (both (both (long header_room header) (long ranges_room ranges)) (long 2 said)) (both (fields header) (mark ranges))
        (walk-form b header ranges m list said)

    fill-table : (n : ℕ) (image said : List ℕ) → TableOf (placing place (fill_entry b header ranges m list n image said))
        (EntryRefused (Shorter place 1 ⊎ ((Shorter header header_room ⊎ Shorter ranges ranges_room) ⊎ Shorter said 1)) (HeaderWide header ⊎ MarkWide ranges) (FillRefused b (header_at header) (ranges_in ranges) m list n (length image)))
    fill-table n image said =
        placed-table place (behind (λ k. record { header = header_at header; block = k }) (fill-exactly b (header_at header) (ranges_in ranges) m list n (length image))) (both (both (long header_room header) (long ranges_room ranges)) (long 1 said))
        (both (fields header) (mark ranges)) (fill-form b header ranges m list n image said)

read_table : (place b : List ℕ) (reuse : Bool) (l : Lent) (said : List ℕ) → TableOf (placing place (read_entry b reuse l said)) (EntryRefused (Shorter place 1 ⊎ Shorter said read_room) NothingWide (WholeRefused b reuse l))
read_table place b reuse l said = placed-table place (whole-exactly b reuse l) (long read_room said) no_test (read-form b reuse l said)

stage-table : (place b : List ℕ) (reuse : Bool) (l : Lent) (staged : List ℕ) → TableOf (placing place (stage_entry b reuse l staged)) (EntryRefused (Shorter place 1 ⊎ Shorter staged staged_room) NothingWide (WholeRefused b reuse l))
stage-table place b reuse l staged = placed-table place (whole-exactly b reuse l) (long staged_room staged) no_test (stage-form b reuse l staged)

-- staging gave it, test by test
module _ (m : Meaning) (given : Res Staged) (l : Lent) where
  as-staged : was_staged m given l ≡ true → AsStaged m given l
  as-staged e =
      let (e, list) = and_is (holds_mask m.mask l.spare && is_answer given (staged_of m)) (begins_with (starts_of m.body) l.list) e in
      let (spare, answer) = and_is (holds_mask m.mask l.spare) (is_answer given (staged_of m)) e in
      record { answer = answer-is given (staged_of m) answer; spare = spare; list = list }

  was-staged : AsStaged m given l → was_staged m given l ≡ true
  was-staged p = rw (p.spare, p.answer, answer-self m, p.list)

module _ (b : List ℕ) (reuse : Bool) (given : Res Staged) (l : Lent) where
  publish-refused : (x : Res Meaning) → read_says b reuse l ≡ x → {why : Refusal} → (x >>= λ m. require (was_staged m given l) 3 >>= λ _. ok m) ≡ fail why → PublishRefused b reuse given l why
  publish-refused (fail r) e {why} d = publish-read ((whole-exactly b reuse l why).0 (e ∙ d))
  publish-refused (ok m) e {why} d = go (was_staged m given l) refl d
    where
      go : (t : Bool) → was_staged m given l ≡ t → (require t 3 >>= λ _. ok m) ≡ fail why → PublishRefused b reuse given l why
      go true c d = not-refused d
      go false c d = subst (PublishRefused b reuse given l) (fail-is d) (publish-given m e (λ p. absurd (let y = sym c ∙ was-staged m given l p in let z : ◌≡◌ {A = ℕ} 0 1 = cc in omega arith)))

  refused-publish : {why : Refusal} → PublishRefused b reuse given l why → publish_says b reuse given l ≡ fail why
  unfolding publish_says
  refused-publish {why} (publish-read r) = rw ((whole-exactly b reuse l why).1 r)
  refused-publish (publish-given m e other) = rw (e) (go (was_staged m given l) refl)
    where
      go : (t : Bool) → was_staged m given l ≡ t → (require t 3 >>= λ _. ok m) ≡ fail (refuse 3)
      go true c = absurd (other (as-staged m given l c))
      go false c = refl

  publish-exactly : TableOf (publish_says b reuse given l) (PublishRefused b reuse given l)
  unfolding publish_says
  publish-exactly why = (publish-refused (read_says b reuse l) refl, refused-publish)

publish-table : (place b : List ℕ) (reuse : Bool) (staged : List ℕ) (l : Lent) (said : List ℕ) → TableOf (placing place (publish_entry b reuse staged l said))
    (EntryRefused (Shorter place 1 ⊎ (Shorter staged staged_room ⊎ Shorter said 2)) NothingWide (PublishRefused b reuse (staged_from staged) l))
publish-table place b reuse staged l said =
    placed-table place (publish-exactly b reuse (staged_from staged) l) (both (long staged_room staged) (long 2 said)) no_test (publish-form b reuse staged l said)

stored-table : (place : List ℕ) (kind v : ℕ) (said : List ℕ) → TableOf (placing place (stored_entry kind v said)) (EntryRefused (Shorter place 1 ⊎ Shorter said 1) NothingWide (StoredRefused kind v))
stored-table place kind v said = placed-table place (stored-exactly kind v) (long 1 said) no_test (stored-form kind v said)

pack-open-table : (place b said : List ℕ) → TableOf (placing place (pack_entry b said)) (EntryRefused (Shorter place 1 ⊎ Shorter said 1) NothingWide (PackRefused b))
pack-open-table place b said = placed-table place (pack-exactly b) (long 1 said) no_test (pack-open-form b said)

pack-entry-table : (place b : List ℕ) (tiles number : ℕ) (entry : List ℕ) → TableOf (placing place (entry_entry b tiles number entry))
    (EntryRefused (Shorter place 1 ⊎ Shorter entry entry_room) NothingWide (EntryOutside b tiles number))
pack-entry-table place b tiles number entry = placed-table place (entry-exactly b tiles number) (long entry_room entry) no_test (pack-entry-form b tiles number entry)

pack-write-table : (place : List ℕ) (g : Given) (room : ℕ) (said : List ℕ) → TableOf (placing place (pack_write_entry g room said)) (EntryRefused (Shorter place 1 ⊎ Shorter said 1) NothingWide (WriteRefused g room))
pack-write-table place g room said = placed-table place (write-exactly g room) (long 1 said) no_test (pack-write-form g room said)

-- ---- each number of each entry, and its place

stage-places : StageNumbers Exactly
stage-places =
    by-table (λ a. stage_entry a.0.now a.1.0 (c-stage-lent a).0 (c-stage-lent a).1) (λ a. stage-numbered a.0.now a.1.0 (c-stage-lent a).0 (c-stage-lent a).1)
    (λ a. stage-table (c-stage-lent a).2 a.0.now a.1.0 (c-stage-lent a).0 (c-stage-lent a).1) (λ k a n x p. (p, p.done.why))

publish-places : PublishNumbers Exactly
publish-places =
    by-table (λ a. publish_entry a.0.now a.1.0 (c-given a).0 (c-given a).1 (c-given a).2) (λ a. publish-numbered a.0.now a.1.0 (c-given a).0 (c-given a).1 (c-given a).2)
    (λ a. publish-table (c-given a).3 a.0.now a.1.0 (c-given a).0 (c-given a).1 (c-given a).2) (λ k a n x p. (p, p.done.why))

pack-open-places : PackOpenNumbers Exactly
pack-open-places =
    by-table (λ a. pack_entry a.0.now a.1.0.now) (λ a. pack-numbered a.0.now a.1.0.now) (λ a. pack-open-table a.1.1.0.now a.0.now a.1.0.now) (λ k a n x p. (p, p.done.why))

pack-entry-places : PackEntryNumbers Exactly
pack-entry-places =
    by-table (λ a. entry_entry a.0.now a.1.0 a.1.1.0 a.1.1.1.0.now) (λ a. entry-numbered a.0.now a.1.0 a.1.1.0 a.1.1.1.0.now)
    (λ a. pack-entry-table a.1.1.1.1.0.now a.0.now a.1.0 a.1.1.0 a.1.1.1.0.now) (λ k a n x p. (p, p.done.why))

pack-write-places : PackWriteNumbers Exactly
pack-write-places =
    by-table (λ a. pack_write_entry (c-tiles a) (length (c-written a).0) (c-written a).1) (λ a. write-numbered (c-tiles a) (length (c-written a).0) (c-written a).1)
    (λ a. pack-write-table (c-written a).2 (c-tiles a) (length (c-written a).0) (c-written a).1) (λ k a n x p. (p, p.done.why))

pub places-exactly-in-c : PlacesExactlyInC
places-exactly-in-c = record {
  read-header = by-table (λ a. header_entry a.0.now a.1.0.now) (λ a. header-numbered a.0.now a.1.0.now) (λ a. header-table a.1.1.0.now a.0.now a.1.0.now) (λ k a n x p. (p, p.done.why));
  prepare-mask = by-table (λ a. prepare_entry a.0.now a.1.0.now a.1.1.0 a.1.1.1.0.now a.1.1.1.1.0.now a.1.1.1.1.1.0.now) (λ a. prepare-numbered a.0.now a.1.0.now a.1.1.0 a.1.1.1.0.now a.1.1.1.1.0.now a.1.1.1.1.1.0.now) (λ a. prepare-table a.1.1.1.1.1.1.0.now a.0.now a.1.0.now a.1.1.0 a.1.1.1.0.now a.1.1.1.1.0.now a.1.1.1.1.1.0.now) (λ k a n x p. (p, p.done.why));
  read-ranges = by-table (λ a. ranges_entry a.0.now a.1.0.now a.1.1.0.now) (λ a. ranges-numbered a.0.now a.1.0.now a.1.1.0.now) (λ a. ranges-table a.1.1.1.0.now a.0.now a.1.0.now a.1.1.0.now) (λ k a n x p. (p, p.done.why));
  walk = by-table (λ a. walk_entry a.0.now a.1.0.now a.1.1.0.now a.1.1.1.0.now a.1.1.1.1.0.now a.1.1.1.1.1.0.now) (λ a. walk-numbered a.0.now a.1.0.now a.1.1.0.now a.1.1.1.0.now a.1.1.1.1.0.now a.1.1.1.1.1.0.now) (λ a. walk-table a.1.1.1.1.1.1.0.now a.0.now a.1.0.now a.1.1.0.now a.1.1.1.0.now a.1.1.1.1.0.now a.1.1.1.1.1.0.now) (λ k a n x p. (p, p.done.why));
  fill = by-table (λ a. fill_entry a.0.now a.1.0.now a.1.1.0.now a.1.1.1.0.now a.1.1.1.1.0.now a.1.1.1.1.1.0 a.1.1.1.1.1.1.0.now a.1.1.1.1.1.1.1.0.now) (λ a. fill-numbered a.0.now a.1.0.now a.1.1.0.now a.1.1.1.0.now a.1.1.1.1.0.now a.1.1.1.1.1.0 a.1.1.1.1.1.1.0.now a.1.1.1.1.1.1.1.0.now) (λ a. fill-table a.1.1.1.1.1.1.1.1.0.now a.0.now a.1.0.now a.1.1.0.now a.1.1.1.0.now a.1.1.1.1.0.now a.1.1.1.1.1.0 a.1.1.1.1.1.1.0.now a.1.1.1.1.1.1.1.0.now) (λ k a n x p. (p, p.done.why));
  read = by-table (λ a. read_entry a.0.now a.1.0 (c-lent a).0 (c-lent a).1) (λ a. read-numbered a.0.now a.1.0 (c-lent a).0 (c-lent a).1) (λ a. read_table (c-lent a).2 a.0.now a.1.0 (c-lent a).0 (c-lent a).1) (λ k a n x p. (p, p.done.why));
  stage = stage-places;
  publish = publish-places;
  pack-open = pack-open-places;
  pack-entry = pack-entry-places;
  pack-write = pack-write-places;
  stored = by-table (λ a. stored_entry a.1.0 a.0 a.1.1.0.now) (λ a. stored-numbered a.1.0 a.0 a.1.1.0.now) (λ a. stored-table a.1.1.1.0.now a.1.0 a.0 a.1.1.0.now) (λ k a n x p. (p, p.done.why));
}

-- the same of numbers alone
numbers_of : {K A O : Type 0} {Post : K → A → ℕ → O → Type 0} {place : A → List ℕ} {left : O → List ℕ} {When : A → Refusal → Type 0} → PromisedInC Exactly Post place left When → PromisedInC ExactlyNumbered Post place left When
numbers_of p = record { zero = p.zero; other = λ k a n x q. by_number (p.other k a n x q); written = p.written }

pub numbers-exactly-in-c : NumbersExactlyInC
numbers-exactly-in-c = record {
  read-header = numbers_of places-exactly-in-c.read-header;
  prepare-mask = numbers_of places-exactly-in-c.prepare-mask;
  read-ranges = numbers_of places-exactly-in-c.read-ranges;
  walk = numbers_of places-exactly-in-c.walk;
  fill = numbers_of places-exactly-in-c.fill;
  read = numbers_of places-exactly-in-c.read;
  stage = numbers_of places-exactly-in-c.stage;
  publish = numbers_of places-exactly-in-c.publish;
  pack-open = numbers_of places-exactly-in-c.pack-open;
  pack-entry = numbers_of places-exactly-in-c.pack-entry;
  pack-write = numbers_of places-exactly-in-c.pack-write;
  stored = numbers_of places-exactly-in-c.stored;
}

-- ---- no other numbers

abbrev In : List ℕ → ℕ → Type 0
In numbers n = among numbers n ≡ true

-- the numbers of an entry's table: 5, 3 where a number can be too wide, and the reader's
entry_in : (l : List ℕ) {Short Wide : Type 0} {Refused : Refusal → Type 0} → among l 5 ≡ true → (Wide → among l 3 ≡ true) → ((why : Refusal) → Refused why → In l why.number) → (why : Refusal)
    → EntryRefused Short Wide Refused why → In l why.number
entry_in l five three rest why (slice-short s) = five
entry_in l five three rest why (number-wide s w) = three w
entry_in l five three rest why (reader-refuses s w r) = rest why r

-- 0, or one of them
only : {K A O : Type 0} {Post : K → A → ℕ → O → Type 0} {place : A → List ℕ} {left : O → List ℕ} {Short Wide : A → Type 0} {Refused : A → Refusal → Type 0} (l : List ℕ)
    → PromisedInC Exactly Post place left (λ a. EntryRefused (Short a) (Wide a) (Refused a)) → among l 0 ≡ true → among l 5 ≡ true → ((a : A) → Wide a → among l 3 ≡ true)
    → ((a : A) (why : Refusal) → Refused a why → In l why.number) → OnlyInC Post l
only l p none five three rest k a zero x q = none
only {left = left} l p none five three rest k a (suc n) x q =
    let w : Refusal = record { number = suc n; at = get_or (left x) 0 0 } in
    entry_in l five (three a) (rest a) w ((p.other k a (suc n) x q w).0 (λ e. omega (arith, e), refl))

stage-only : StageOnly
stage-only =
    let l : List ℕ = 0 ∷ 1 ∷ 2 ∷ 3 ∷ 4 ∷ 5 ∷ 6 ∷ 7 ∷ 8 ∷ 9 ∷ 13 ∷ [] in
    only l stage-places refl refl (λ a w. refl) (λ a why. whole_in (In l) refl refl refl refl refl refl refl refl refl refl)

-- 3 is also of what staging did not give
publish-in : {b : List ℕ} {reuse : Bool} {given : Res Staged} {l : Lent} (P : ℕ → Type 0) → P 3 → ((why : Refusal) → WholeRefused b reuse l why → P why.number) → (why : Refusal)
    → PublishRefused b reuse given l why → P why.number
publish-in P three whole why (publish-read r) = whole why r
publish-in P three whole why (publish-given m e other) = three

publish-only : PublishOnly
publish-only =
    let l : List ℕ = 0 ∷ 1 ∷ 2 ∷ 3 ∷ 4 ∷ 5 ∷ 6 ∷ 7 ∷ 8 ∷ 9 ∷ 13 ∷ [] in
    only l publish-places refl refl (λ a w. refl) (λ a. publish-in (In l) refl (λ why. whole_in (In l) refl refl refl refl refl refl refl refl refl refl))

pack-open-only : PackOpenOnly
pack-open-only = let l : List ℕ = 0 ∷ 5 ∷ 12 ∷ [] in only l pack-open-places refl refl (λ a w. absurd w) (λ a. pack-in (In l) refl)

pack-entry-only : PackEntryOnly
pack-entry-only = let l : List ℕ = 0 ∷ 5 ∷ 12 ∷ [] in only l pack-entry-places refl refl (λ a w. absurd w) (λ a. outside-in (In l) refl)

pack-write-only : PackWriteOnly
pack-write-only = let l : List ℕ = 0 ∷ 5 ∷ 12 ∷ [] in only l pack-write-places refl refl (λ a w. absurd w) (λ a. write-in (In l) refl refl)

pub numbers-only-in-c : NumbersOnlyInC
numbers-only-in-c = record {
  read-header = let l : List ℕ = 0 ∷ 1 ∷ 2 ∷ 3 ∷ 4 ∷ 5 ∷ 13 ∷ [] in only l places-exactly-in-c.read-header refl refl (λ a w. refl) (λ a why. header-in (In l) refl refl refl refl refl);
  prepare-mask = let l : List ℕ = 0 ∷ 1 ∷ 3 ∷ 4 ∷ 5 ∷ 6 ∷ [] in only l places-exactly-in-c.prepare-mask refl refl (λ a w. refl) (λ a why. prepare-in (In l) refl refl refl refl refl);
  read-ranges = let l : List ℕ = 0 ∷ 1 ∷ 3 ∷ 4 ∷ 5 ∷ 7 ∷ [] in only l places-exactly-in-c.read-ranges refl refl (λ a w. refl) (λ a why. read-ranges-in (In l) refl refl refl refl);
  walk = let l : List ℕ = 0 ∷ 1 ∷ 3 ∷ 4 ∷ 5 ∷ 7 ∷ 8 ∷ 9 ∷ 10 ∷ [] in only l places-exactly-in-c.walk refl refl (λ a w. refl) (λ a why. walk-in (In l) refl refl refl refl refl refl refl refl);
  fill = let l : List ℕ = 0 ∷ 1 ∷ 3 ∷ 4 ∷ 5 ∷ 7 ∷ 8 ∷ 9 ∷ 11 ∷ [] in only l places-exactly-in-c.fill refl refl (λ a w. refl) (λ a why. fill-in (In l) refl refl refl refl refl refl refl refl);
  read = let l : List ℕ = 0 ∷ 1 ∷ 2 ∷ 3 ∷ 4 ∷ 5 ∷ 6 ∷ 7 ∷ 8 ∷ 9 ∷ 13 ∷ [] in only l places-exactly-in-c.read refl refl (λ a w. refl) (λ a why. whole_in (In l) refl refl refl refl refl refl refl refl refl refl);
  stage = stage-only;
  publish = publish-only;
  pack-open = pack-open-only;
  pack-entry = pack-entry-only;
  pack-write = pack-write-only;
  stored = let l : List ℕ = 0 ∷ 5 ∷ 9 ∷ [] in only l places-exactly-in-c.stored refl refl (λ a w. absurd w) (λ a why. stored-in (In l) refl);
}
