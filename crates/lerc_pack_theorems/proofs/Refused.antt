-- The table of refusals is exact: what is refused has a breach, and what has a breach is refused.
-- Assumes nothing.
use Prim.Native.Nat.{ℕ, zero, suc, ◌+◌, ◌-◌, ◌≤◌, ◌<◌, min}
use mathlib.Core.Path.{◌≡◌, ◌∙◌, sym, ap, refl, subst}
use mathlib.Core.Logic.{◌↔◌}
use mathlib.Core.Bool.{Bool, true, false, ◌&&◌}
use mathlib.Core.List.{List}
use native.Mathlib.Omega.{arith}
use lib.ListN.{length, get_or, length-take, length-drop}
use lib.Dec.{leb, ltb, eqb}
use borrow.Author.Tests.{ltb-false, leb-true, leb-false, eqb-true, eqb-false, lt-ltb, le-ltb, le-leb, lt-leb}
use Rattle.lerc_words.specs.declared.Refusal.{Refusal}
use Rattle.lerc_words.specs.Res.{Res, ok, fail, ◌>>=◌, require, refuse, little}
use Rattle.lerc_words.specs.Lists.{all_to}
use Rattle.lerc_words.proofs.Little.{Bytes}
use Rattle.lerc_words.proofs.Binding.{ok-is}
use Rattle.lerc_words.proofs.Counts.{total-le}
use Rattle.lerc_words.proofs.Tables.{all-suc, all_none}
use Rattle.lerc_header.specs.declared.Header.{Header}
use Rattle.lerc_header.specs.Header.{header_says}
use Rattle.lerc_pack.specs.Contents.{version, tile_limit, depth_most, entry_place, body_end, body_place, rises_at, matches, tile_right, tiles_right}
use Rattle.lerc_pack.specs.Pack.{count_of, head_right, entry_part, entry_at, zeros_right, body_of, tile_of, pack_says, entry_says}
use Rattle.lerc_pack.proofs.Fields.{row_fits, column_fits}
use Rattle.lerc_pack.proofs.Order.{rises-is}
use Rattle.lerc_pack_writer.specs.Writing.{Given, body_start, blob_given, tile_given, given_right, pack_length, write_says}
use Rattle.lerc_pack.specs.Parts.{least_key}
use Rattle.lerc_pack_writer.specs.Parts.{is_whole, given_key, given_tile, given_tiles}
use Rattle.lerc_pack_writer.proofs.Judging.{Twos, long-given, write-wrong, write-is}
use Rattle.lerc_pack_theorems.specs.Table.{PackWrong, short, other-version, no-zeros, too_many, cut_short, no-zeros-at, too-deep, apart, unordered, past_end, header_refused, other-kind, other-depth, other_length, other-end, PackRefused, pack-wrong, EntryRefused, number_past, entry_past, body-past, GivenWrong, columns-differ, lengths_differ, given-many, no-sum, given-unordered, given-refused, given-length, WriteRefused, given-wrong, no_room}
use Rattle.lerc_pack_theorems.proofs.Opened.{Opened, pack-opened, pack-refused, body-inside}
use Rattle.lerc_pack_theorems.proofs.Writer.{Taken, write-taken}

-- ---- tests that fail

-- of two tests that do not both hold one fails
either : {P : Type 0} (x y : Bool) → (x && y) ≡ false → (x ≡ false → P) → (y ≡ false → P) → P
either true y e f g = g e
either false y e f g = f refl

fail-is : {A : Type 0} {r q : Refusal} → ◌≡◌ {A = Res A} (fail r) (fail q) → r ≡ q
fail-is e = cc

and_second : (x y z : Bool) → y ≡ false → (x && y && z) ≡ false
and_second true y z e = rw (e)
and_second false y z e = refl

and-third : (x y z : Bool) → z ≡ false → (x && y && z) ≡ false
and-third true true z e = e
and-third true false z e = refl
and-third false y z e = refl

clash : true ≡ false → ⊥
clash e = let z : ◌≡◌ {A = ℕ} 0 1 = cc in omega arith

-- of tests that do not all hold one fails
some : (n : ℕ) (p : ℕ → Bool) → all_to n p ≡ false → (i : ℕ) × (i < n) × (p i ≡ false)
some zero p e = absurd (clash (sym (all_none p) ∙ e))
some (suc n) p e = either (all_to n p) (p n) (sym (all-suc n p) ∙ e) (λ a. let (i, l, f) = some n p a in (i, omega arith, f)) (λ f. (n, omega arith, f))

-- a test by cases
pub split : {P : Type 0} (t : Bool) → (t ≡ true → P) → (t ≡ false → P) → P
split true f g = f refl
split false f g = g refl

pub never : {A : Type 0} {P : Type 0} {a : A} {r : Refusal} → ok a ≡ fail r → P
never e = absurd (let z : ◌≡◌ {A = ℕ} 0 1 = cc in omega arith)

-- a header that is accepted, or not
header-cases : {P : Type 0} (b : List ℕ) → ((h : Header) → header_says b ≡ ok h → P) → ((why : Refusal) → header_says b ≡ fail why → P) → P
header-cases {P} b f g = go (header_says b) refl
  where
    go : (m : Res Header) → header_says b ≡ m → P
    go (ok h) e = f h e
    go (fail r) e = g r e

-- ---- packs

module _ (b : List ℕ) (bytes : Bytes b) where
  head-breach : head_right b ≡ false → PackWrong b
  unfolding head_right
  head-breach e =
      either (leb 8 (length b) && eqb (little 1 b 0) version && eqb (little 3 b 1) 0 && leb (count_of b) tile_limit) (leb (entry_place (count_of b)) (length b)) e
      (λ e. either (leb 8 (length b) && eqb (little 1 b 0) version && eqb (little 3 b 1) 0) (leb (count_of b) tile_limit) e
      (λ e. either (leb 8 (length b) && eqb (little 1 b 0) version) (eqb (little 3 b 1) 0) e
      (λ e. either (leb 8 (length b)) (eqb (little 1 b 0) version) e (λ e. short (leb-false _ _ e)) (λ e. other-version (eqb-false _ _ e)))
      (λ e. no-zeros (eqb-false _ _ e)))
      (λ e. too_many (leb-false _ _ e)))
      (λ e. cut_short (leb-false _ _ e))

  match-breach : (i : ℕ) → i < count_of b → matches (entry_at b i) (body_of b (entry_at b i)) ≡ false → PackWrong b
  unfolding matches
  match-breach i l e = header-cases (body_of b (entry_at b i)) accepted (λ why r. header_refused i why l r)
    where
      accepted : (h : Header) → header_says (body_of b (entry_at b i)) ≡ ok h → PackWrong b
      accepted h r =
          let e1 : (eqb (entry_at b i).kind h.kind && eqb (entry_at b i).depth h.depth && eqb (entry_at b i).length h.size) ≡ false = rw (r) at e in
          either (eqb (entry_at b i).kind h.kind && eqb (entry_at b i).depth h.depth) (eqb (entry_at b i).length h.size) e1
          (λ e. either (eqb (entry_at b i).kind h.kind) (eqb (entry_at b i).depth h.depth) e (λ e. other-kind i h l r (eqb-false _ _ e)) (λ e. other-depth i h l r (eqb-false _ _ e)))
          (λ e. other_length i h l r (eqb-false _ _ e))

  rises-breach : (i : ℕ) → i < count_of b → rises_at (tile_of b) i ≡ false → PackWrong b
  rises-breach zero l e = absurd (clash e)
  rises-breach (suc i) l e = unordered i l e

  long-breach : (i : ℕ) → i < count_of b → eqb (entry_at b i).length (length (body_of b (entry_at b i))) ≡ false → PackWrong b
  long-breach i l e =
      let long : length (body_of b (entry_at b i)) ≡ min (entry_at b i).length (length b - (entry_at b i).start) = simp (length-take, length-drop) in
      split (leb (body_end (entry_at b i)) (length b))
      (λ t. let inside : body_end (entry_at b i) ≤ length b = leb-true _ _ t in
      let same : (entry_at b i).length ≡ length (body_of b (entry_at b i)) = omega (arith, long, inside) in
      absurd (eqb-false _ _ e same))
      (λ t. past_end i l (leb-false _ _ t))

  tile-breach : (i : ℕ) → i < count_of b → tile_right (count_of b) (tile_of b) i ≡ false → PackWrong b
  unfolding tile_right
  tile-breach i l e =
      let row = lt-ltb _ _ (row_fits b bytes i) in
      let column = lt-ltb _ _ (column_fits b bytes i) in
      let e1 : (leb (entry_at b i).depth depth_most && eqb (entry_at b i).start (body_place (count_of b) (tile_of b) i) && rises_at (tile_of b) i && eqb (entry_at b i).length (length (body_of b (entry_at b i))) && matches (entry_at b i) (body_of b (entry_at b i))) ≡ false = rw (row, column) at e in
      either (leb (entry_at b i).depth depth_most && eqb (entry_at b i).start (body_place (count_of b) (tile_of b) i) && rises_at (tile_of b) i && eqb (entry_at b i).length (length (body_of b (entry_at b i)))) (matches (entry_at b i) (body_of b (entry_at b i))) e1
      (λ e. either (leb (entry_at b i).depth depth_most && eqb (entry_at b i).start (body_place (count_of b) (tile_of b) i) && rises_at (tile_of b) i) (eqb (entry_at b i).length (length (body_of b (entry_at b i)))) e
      (λ e. either (leb (entry_at b i).depth depth_most && eqb (entry_at b i).start (body_place (count_of b) (tile_of b) i)) (rises_at (tile_of b) i) e
      (λ e. either (leb (entry_at b i).depth depth_most) (eqb (entry_at b i).start (body_place (count_of b) (tile_of b) i)) e (λ e. too-deep i l (leb-false _ _ e)) (λ e. apart i l (eqb-false _ _ e)))
      (λ e. rises-breach i l e))
      (λ e. long-breach i l e))
      (λ e. match-breach i l e)

  zeros-breach : (i : ℕ) → i < count_of b → zeros_right (entry_part b i) ≡ false → PackWrong b
  unfolding zeros_right
  zeros-breach i l e = no-zeros-at i l (eqb-false _ _ e)

  breach : {r : Refusal} → pack_says b ≡ fail r → PackWrong b
  unfolding pack_says tiles_right
  breach {r} e =
      split (head_right b) (λ h.
      split (all_to (count_of b) (λ i. zeros_right (entry_part b i))) (λ z.
      split (leb (count_of b) tile_limit) (λ f.
      split (all_to (count_of b) (tile_right (count_of b) (tile_of b))) (λ t.
      split (eqb (body_place (count_of b) (tile_of b) (count_of b)) (length b)) (λ x. never (rw (h, z, f, t, x) at e))
      (λ x. other-end (eqb-false _ _ x)))
      (λ t. let (i, l, w) = some (count_of b) (tile_right (count_of b) (tile_of b)) t in tile-breach i l w))
      (λ f. too_many (leb-false _ _ f)))
      (λ z. let (i, l, w) = some (count_of b) (λ i. zeros_right (entry_part b i)) z in zeros-breach i l w))
      head-breach

  breached : PackWrong b → pack_says b ≡ fail (refuse 12)
  unfolding zeros_right
  breached w = go (pack_says b) refl
    where
      go : (m : Res ℕ) → pack_says b ≡ m → pack_says b ≡ fail (refuse 12)
      go (fail r) e = e ∙ ap fail (pack-refused b e)
      go (ok n) e = absurd (wrong w)
        where
          o : Opened b
          o = (pack-opened b e).1

          wrong : PackWrong b → ⊥
          wrong (short l) = let h = o.head in omega arith
          wrong (other-version d) = d o.version
          wrong (no-zeros d) = d o.zeros
          wrong (too_many l) = let h = o.few in omega arith
          wrong (cut_short l) = let h = o.whole in omega arith
          wrong (no-zeros-at i l d) = d (eqb-true _ _ (o.gaps i l))
          wrong (too-deep i l d) = let h = (o.each i l).depth in omega arith
          wrong (apart i l d) = d (o.each i l).start
          wrong (unordered i l d) = clash (sym (o.each (suc i) l).rises ∙ d)
          wrong (past_end i l d) = let h = (body-inside b o i l).1 in omega arith
          wrong (header_refused i why l d) = never (sym (o.each i l).matched.says ∙ d)
          wrong (other-kind i h l r d) = d ((o.each i l).matched.kind ∙ ap (λ (x : Header). x.kind) (ok-is (sym (o.each i l).matched.says ∙ r)))
          wrong (other-depth i h l r d) = d ((o.each i l).matched.depth ∙ ap (λ (x : Header). x.depth) (ok-is (sym (o.each i l).matched.says ∙ r)))
          wrong (other_length i h l r d) = d ((o.each i l).matched.size ∙ ap (λ (x : Header). x.size) (ok-is (sym (o.each i l).matched.says ∙ r)))
          wrong (other-end d) = d o.all

  pub pack-exactly : (why : Refusal) → (pack_says b ≡ fail why) ↔ PackRefused b why
  pack-exactly why = (λ e. subst (PackRefused b) (sym (pack-refused b e)) (pack-wrong (breach e)), λ w. refused w)
    where
      refused : {why : Refusal} → PackRefused b why → pack_says b ≡ fail why
      refused (pack-wrong w) = breached w

-- ---- entries by number

module _ (b : List ℕ) (n i : ℕ) where
  pub entry-exactly : (why : Refusal) → (entry_says b n i ≡ fail why) ↔ EntryRefused b n i why
  unfolding entry_says
  entry-exactly why = (to, from)
    where
      to : (require (ltb i n) 12 >>= λ _. require (leb (entry_place (suc i)) (length b)) 12 >>= λ _. require (leb (body_end (entry_at b i)) (length b)) 12 >>= λ _. ok (entry_at b i)) ≡ fail why → EntryRefused b n i why
      to e =
          split (ltb i n) (λ x.
          split (leb (entry_place (suc i)) (length b)) (λ y.
          split (leb (body_end (entry_at b i)) (length b)) (λ z. never (rw (x, y, z) at e))
          (λ z. subst (EntryRefused b n i) (fail-is (rw (x, y, z) at e)) (body-past (leb-false _ _ z))))
          (λ y. subst (EntryRefused b n i) (fail-is (rw (x, y) at e)) (entry_past (leb-false _ _ y))))
          (λ x. subst (EntryRefused b n i) (fail-is (rw (x) at e)) (number_past (ltb-false _ _ x)))

      x : Bool
      x = ltb i n

      y : Bool
      y = leb (entry_place (suc i)) (length b)

      z : Bool
      z = leb (body_end (entry_at b i)) (length b)

      tests : (x y z : Bool) → (x && y && z) ≡ false → (require x 12 >>= λ _. require y 12 >>= λ _. require z 12 >>= λ _. ok (entry_at b i)) ≡ fail (refuse 12)
      tests true true z e = rw (e)
      tests true false z e = refl
      tests false y z e = refl

      from : {r : Refusal} → EntryRefused b n i r → (require (ltb i n) 12 >>= λ _. require (leb (entry_place (suc i)) (length b)) 12 >>= λ _. require (leb (body_end (entry_at b i)) (length b)) 12 >>= λ _. ok (entry_at b i)) ≡ fail r
      from (number_past l) = rw (le-ltb _ _ l)
      from (entry_past l) = tests x y z (and_second x y z (lt-leb _ _ l))
      from (body-past l) = tests x y z (and-third x y z (lt-leb _ _ l))

-- ---- the writer

module _ (g : Given) (twos : Twos g) where
  alike-breach : given_right g ≡ false → GivenWrong g
  unfolding given_right
  alike-breach e =
      either (eqb (length g.columns) (length g.rows) && eqb (length g.lengths) (length g.rows)) (leb (length g.rows) tile_limit) e
      (λ e. either (eqb (length g.columns) (length g.rows)) (eqb (length g.lengths) (length g.rows)) e (λ e. columns-differ (eqb-false _ _ e)) (λ e. lengths_differ (eqb-false _ _ e)))
      (λ e. given-many (leb-false _ _ e))

  whole-breach : (i : ℕ) → i < length g.rows → body_start g (suc i) ≤ length g.bodies → is_whole (blob_given g i) ≡ false → GivenWrong g
  unfolding is_whole
  whole-breach i l inside e = header-cases (blob_given g i) accepted (λ why r. given-refused i why l r)
    where
      accepted : (h : Header) → header_says (blob_given g i) ≡ ok h → GivenWrong g
      accepted h r =
          let d : eqb (length (blob_given g i)) h.size ≡ false = rw (r) at e in
          given-length i h l r (λ s. eqb-false _ _ d (long-given g i inside ∙ s))

  least-breach : (i : ℕ) → i < length g.rows → leb (least_key (given_key g) i) (given_key g i) ≡ false → GivenWrong g
  least-breach zero l e = absurd (clash (sym (le-leb 0 (given_key g 0) (omega arith)) ∙ e))
  least-breach (suc i) l e = given-unordered i l (rises-is (tile_given g) (given_key g) (suc i) (λ k. refl) twos.columns ∙ e)

  tile-given-breach : (i : ℕ) → i < length g.rows → given_tile g i ≡ false → GivenWrong g
  unfolding given_tile
  tile-given-breach i l e =
      split (leb (body_start g (suc i)) (length g.bodies))
      (λ inside. either (leb (least_key (given_key g) i) (given_key g i) && leb (body_start g (suc i)) (length g.bodies)) (is_whole (blob_given g i)) e
      (λ e. either (leb (least_key (given_key g) i) (given_key g i)) (leb (body_start g (suc i)) (length g.bodies)) e (λ e. least-breach i l e) (λ e. absurd (clash (sym inside ∙ e))))
      (λ e. whole-breach i l (leb-true _ _ inside) e))
      (λ past. no-sum (λ all. past-sum past all))
    where
      past-sum : leb (body_start g (suc i)) (length g.bodies) ≡ false → body_start g (length g.rows) ≡ length g.bodies → ⊥
      past-sum past all =
          let e : length g.rows - suc i + suc i ≡ length g.rows = omega arith in
          let below : body_start g (suc i) ≤ body_start g (length g.rows) = rw (e) at (total-le (λ j. get_or g.lengths j 0) (suc i) (length g.rows - suc i)) in
          let above : length g.bodies < body_start g (suc i) = leb-false _ _ past in
          omega (arith, below, above, all)

  tiles-breach : given_tiles g ≡ false → GivenWrong g
  unfolding given_tiles
  tiles-breach e =
      either (all_to (length g.rows) (given_tile g)) (eqb (body_start g (length g.rows)) (length g.bodies)) e
      (λ e. let (i, l, w) = some (length g.rows) (given_tile g) e in tile-given-breach i l w) (λ e. no-sum (eqb-false _ _ e))

  -- what the writer takes has no breach
  taken-right : {room : ℕ} → Taken g room → GivenWrong g → ⊥
  taken-right t (columns-differ d) = d t.columns
  taken-right t (lengths_differ d) = d t.lengths
  taken-right t (given-many l) = let h = t.tiles.few in omega arith
  taken-right t (no-sum d) = d t.sum
  taken-right t (given-unordered i l d) = clash (sym (t.tiles.each (suc i) l).rises ∙ d)
  taken-right t (given-refused i why l d) = never (sym (t.tiles.each i l).matched.says ∙ d)
  taken-right t (given-length i h l r d) = d ((t.tiles.each i l).matched.size ∙ ap (λ (x : Header). x.size) (ok-is (sym (t.tiles.each i l).matched.says ∙ r)))

  -- with room enough it is taken
  with-room : given_right g ≡ true → given_tiles g ≡ true → Taken g (pack_length g)
  with-room a t =
      let says : write_says g (pack_length g) ≡ ok (pack_length g) = write-is g (pack_length g) twos a ∙ rw (t, le-leb (pack_length g) (pack_length g) (omega arith)) in
      (write-taken g (pack_length g) says).1

  pub write-exactly : (room : ℕ) (why : Refusal) → (write_says g room ≡ fail why) ↔ WriteRefused g room why
  write-exactly room why = (to, from)
    where
      to : write_says g room ≡ fail why → WriteRefused g room why
      to e =
          split (given_right g) (λ a.
          split (given_tiles g) (λ t.
          split (leb (pack_length g) room) (λ r. never (rw (t, r) at (sym (write-is g room twos a) ∙ e)))
          (λ r. subst (WriteRefused g room) (fail-is (rw (t, r) at (sym (write-is g room twos a) ∙ e))) (no_room (right a t) (leb-false _ _ r))))
          (λ t. subst (WriteRefused g room) (fail-is (rw (t) at (sym (write-is g room twos a) ∙ e))) (given-wrong (tiles-breach t))))
          (λ a. subst (WriteRefused g room) (fail-is (sym (write-wrong g room a) ∙ e)) (given-wrong (alike-breach a)))
        where
          right : given_right g ≡ true → given_tiles g ≡ true → GivenWrong g → ⊥
          right a t = taken-right (with-room a t)

      refused : (r : Refusal) → write_says g room ≡ fail r → GivenWrong g → r ≡ refuse 12
      refused r e w =
          split (given_right g) (λ a.
          split (given_tiles g) (λ t. absurd (taken-right (with-room a t) w))
          (λ t. sym (fail-is (rw (t) at (sym (write-is g room twos a) ∙ e)))))
          (λ a. sym (fail-is (sym (write-wrong g room a) ∙ e)))

      from : {r : Refusal} → WriteRefused g room r → write_says g room ≡ fail r
      from (given-wrong w) = go (write_says g room) refl
        where
          go : (m : Res ℕ) → write_says g room ≡ m → write_says g room ≡ fail (refuse 12)
          go (ok n) e = absurd (taken-right (write-taken g room e).1 w)
          go (fail r) e = e ∙ ap fail (refused r e w)
      from (no_room right l) =
          split (given_right g) (λ a.
          split (given_tiles g) (λ t. write-is g room twos a ∙ rw (t, lt-leb _ _ l))
          (λ t. absurd (right (tiles-breach t))))
          (λ a. absurd (right (alike-breach a)))
