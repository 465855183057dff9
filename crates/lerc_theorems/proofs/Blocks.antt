-- When words, values, packed counts and blocks are refused: the table holds exactly.
-- Assumes nothing.
use mathlib.Core.Path.{◌≡◌, ◌∙◌, ap, refl}
use mathlib.Core.Logic.{◌↔◌}
use mathlib.Core.Bool.{Bool, true, false, cond, ◌&&◌}
use mathlib.Core.List.{List, [], ◌∷◌}
use Prim.Native.Nat.{ℕ, zero, suc, ◌+◌, ◌*◌, ◌/◌, ◌%◌, ◌<◌}
use native.Mathlib.Omega.{arith}
use lib.ListN.{length, get_or, take, replicate, length-take, length-replicate, get_or-replicate}
use lib.Seq.{get_or-take}
use lib.Dec.{leb, ltb, eqb}
use borrow.Author.Tests.{ltb-true, ltb-false, lt-ltb, le-ltb, leb-true, leb-false, le-leb, lt-leb, eqb-true, eqb-false, eq-eqb, ne_eqb}
use Rattle.lerc_words.specs.declared.Refusal.{Refusal}
use Rattle.lerc_words.specs.Res.{Res, ok, fail, ◌>>=◌, refuse, require, word_at, word_says, each}
use Rattle.lerc_words.proofs.Binding.{bind-fail, bind_is, require-is, ok-is}
use Rattle.lerc_words.proofs.Little.{word_at-fails, word_at-no}
use Rattle.lerc_words.proofs.Each.{each-replicate-fails}
use Rattle.lerc_numeric.specs.Numeric.{finite, negative}
use Rattle.lerc_numeric.specs.Kinds.{type_size, value_of, whole, bound, cut}
use Rattle.lerc_numeric.specs.Steps.{step_of}
use Rattle.lerc_samples.specs.Samples.{sample_at, stored, no_kind, offset_kinds, offset_kind}
use Rattle.lerc_bits.specs.declared.Plan.{Plan}
use Rattle.lerc_bits.specs.Bits.{count_bytes, plain_plan, table_plan, fits, tabled, plan, run, all_below, looked_up, values_of, unpacked, keeps, counts_by, counts}
use Rattle.lerc_ranges.specs.Ranges.{constant_words}
use Rattle.lerc_block.specs.Block.{Block, tile_limit, raw_words, level_block, stepped_block, offset_at, finite_offset, offset_block, formed, flag_at, block_says, read_block_says}
use Rattle.lerc_block.specs.Plan.{raw_plan, finite_word, stepped_plan, offset_plan, form_plan, plan_at, plan_says}
use Rattle.lerc_block.proofs.Returns.{offset-is, finite-is, flag_is}
use Rattle.lerc_theorems.specs.BlockTable.{WordRefused, word_wide, word_cut, SampleRefused, sample-cut, StoredRefused, not_finite, out_of_range, IntegerRefused, no-integer, not-stored, KindRefused, no-kind, ConstantsRefused, not-constant, TabledRefused, no_bits, entries-cut, entries-few, table-cut, PackedRefused, plain-cut, not-tabled, PlanRefused, counts-cut, width-wrong, count_cut, count-large, packed-refused, CountsRefused, not-planned, index-large, LevelsRefused, level-refused, counts-refused, miscounted-block, value-refused, OffsetRefused, kind-refused, offset-cut, offset-not-finite, levels-refused, BlockRefused, flag-cut, check-wrong, raw-cut, offset-refused, ReadBlockRefused, tile-large, not-read, PlannedRefused, plan-loose, planned-index, OffsetPlanRefused, plan-kind, plan-offset-cut, plan-not-finite, plan-counts, BlockPlanRefused, plan-tile-large, plan-flag-cut, plan-check-wrong, plan-raw-cut, plan-offset}
use Rattle.lerc_theorems.proofs.Demands.{demand, reading, reading-one, choosing, not-refused, OnlyNumber, one_ok, one-require, one-bind, one-cond}

-- ---- words and values

-- a word that cannot be read is 1
pub word-one : (n : ℕ) (s : List ℕ) (at : ℕ) → OnlyNumber 1 (word_at n s at)
word-one n s at r e = let w = word_at-no n s at (word_at-fails n s at e) in cc

module _ (s : List ℕ) (at size : ℕ) where
  word-refused : {n : Refusal} → word_says s at size ≡ fail n → WordRefused s at size n
  unfolding word_says word_at
  word-refused e =
      let P = WordRefused s at size in
      demand P (leb size 8) 1 _ e (λ t. word_wide (leb-false _ _ t)) (λ t e.
      demand P (leb (at + size) (length s)) 1 _ e (λ u. word_cut (leb-true _ _ t) (leb-false _ _ u)) (λ u e. not-refused e))

  refused-word : {n : Refusal} → WordRefused s at size n → word_says s at size ≡ fail n
  unfolding word_says word_at
  refused-word (word_wide l) = rw (lt-leb _ _ l)
  refused-word (word_cut k l) = rw (le-leb _ _ k, lt-leb _ _ l)

  pub word-exactly : (n : Refusal) → (word_says s at size ≡ fail n) ↔ WordRefused s at size n
  word-exactly n = (word-refused, refused-word)

module _ (kind : ℕ) (s : List ℕ) (at : ℕ) where
  sample-refused : {n : Refusal} → sample_at kind s at ≡ fail n → SampleRefused kind s at n
  unfolding sample_at
  sample-refused e = reading-one (SampleRefused kind s at) 1 (word_at (type_size kind) s at) _ (word-one (type_size kind) s at) e (λ d. sample-cut (word_at-fails (type_size kind) s at d)) (λ v d e. not-refused e)

  refused-sample : {n : Refusal} → SampleRefused kind s at n → sample_at kind s at ≡ fail n
  unfolding sample_at
  refused-sample (sample-cut l) = rw (word_at-no (type_size kind) s at l)

  pub sample-exactly : (n : Refusal) → (sample_at kind s at ≡ fail n) ↔ SampleRefused kind s at n
  sample-exactly n = (sample-refused, refused-sample)

module _ (kind v : ℕ) where
  integer-refused : {n : Refusal} → cut kind v ≡ fail n → IntegerRefused kind v n
  unfolding cut
  integer-refused {n} e = demand (IntegerRefused kind v) (ltb kind 6 && finite v && ltb (whole v) (bound kind (negative v))) 9 _ e (λ t. on (ltb kind 6) (finite v) refl refl t) (λ t e. not-refused e)
    where
      on : (a f : Bool) → ltb kind 6 ≡ a → finite v ≡ f → (a && f && ltb (whole v) (bound kind (negative v))) ≡ false → IntegerRefused kind v (refuse 9)
      on false f k d t = no-integer (ltb-false _ _ k)
      on true false k d t = not-stored (not_finite (ltb-true _ _ k) d)
      on true true k d t = not-stored (out_of_range (ltb-true _ _ k) d (ltb-false _ _ t))

  refused-integer : {n : Refusal} → IntegerRefused kind v n → cut kind v ≡ fail n
  unfolding cut
  refused-integer (no-integer l) = rw (le-ltb _ _ l)
  refused-integer (not-stored (not_finite k f)) = rw (lt-ltb _ _ k, f)
  refused-integer (not-stored (out_of_range k f l)) = rw (lt-ltb _ _ k, f, le-ltb _ _ l)

  pub integer-exactly : (n : Refusal) → (cut kind v ≡ fail n) ↔ IntegerRefused kind v n
  integer-exactly n = (integer-refused, refused-integer)

  stored_refused : {n : Refusal} → stored kind v ≡ fail n → StoredRefused kind v n
  unfolding stored
  stored_refused {n} e = choosing (StoredRefused kind v) (ltb kind 6) _ _ e (λ t e. on (ltb-true _ _ t) (integer-refused e)) (λ t e. not-refused e)
    where
      on : {n : Refusal} → kind < 6 → IntegerRefused kind v n → StoredRefused kind v n
      on l (no-integer k) = absurd (omega arith)
      on l (not-stored r) = r

  refused-stored : {n : Refusal} → StoredRefused kind v n → stored kind v ≡ fail n
  unfolding stored
  refused-stored (not_finite k f) = rw (lt-ltb _ _ k, refused-integer (not-stored (not_finite k f)))
  refused-stored (out_of_range k f l) = rw (lt-ltb _ _ k, refused-integer (not-stored (out_of_range k f l)))

  pub stored-exactly : (n : Refusal) → (stored kind v ≡ fail n) ↔ StoredRefused kind v n
  stored-exactly n = (stored_refused, refused-stored)

  stored-nine : OnlyNumber 9 (stored kind v)
  unfolding stored cut
  stored-nine =
      let t = ltb kind 6 && finite v && ltb (whole v) (bound kind (negative v)) in
      one-cond 9 (ltb kind 6) (one-bind 9 (require t 9) _ (one-require 9 t) (λ u. one_ok 9 _)) (one_ok 9 _)

module _ (kind code : ℕ) where
  kind-refuses : {n : Refusal} → offset_kind kind code ≡ fail n → KindRefused kind code n
  unfolding offset_kind
  kind-refuses e = demand (KindRefused kind code) (ltb (get_or (get_or offset_kinds kind []) code no_kind) no_kind) 8 _ e (λ t. no-kind (ltb-false _ _ t)) (λ t e. not-refused e)

  refused-kind : {n : Refusal} → KindRefused kind code n → offset_kind kind code ≡ fail n
  unfolding offset_kind
  refused-kind (no-kind l) = rw (le-ltb _ _ l)

  pub kind-exactly : (n : Refusal) → (offset_kind kind code ≡ fail n) ↔ KindRefused kind code n
  kind-exactly n = (kind-refuses, refused-kind)

-- ---- values one after the other

module _ (f : ℕ → Res ℕ) where
  -- one of them is refused, with the number of all
  each-refused : (vs : List ℕ) {n : Refusal} → each f vs ≡ fail n → (i : ℕ) × (i < length vs) × (f (get_or vs i 0) ≡ fail n)
  unfolding each
  each-refused [] e = not-refused e
  each-refused (v ∷ vs) {n} e = go (f v) refl (λ d. each-refused vs d) e
    where
      go : (x : Res ℕ) → f v ≡ x → (each f vs ≡ fail n → (i : ℕ) × (i < length vs) × (f (get_or vs i 0) ≡ fail n))
          → (x >>= λ w. each f vs >>= λ ws. ok (w ∷ ws)) ≡ fail n → (i : ℕ) × (i < suc (length vs)) × (f (get_or (v ∷ vs) i 0) ≡ fail n)
      go (fail q) d h e = let z : q ≡ n = cc in (0, omega arith, d ∙ ap fail z)
      go (ok w) d h e = let (i, l, p) = h (bind-fail (each f vs) _ e) in (suc i, omega arith, p)

  refused-each : (vs : List ℕ) (n i : ℕ) → ((v : ℕ) → OnlyNumber n (f v)) → i < length vs → f (get_or vs i 0) ≡ fail (refuse n) → each f vs ≡ fail (refuse n)
  unfolding each
  refused-each [] n i u l e = absurd (omega arith)
  refused-each (v ∷ vs) n zero u l e = rw (e)
  refused-each (v ∷ vs) n (suc i) u l e = go (f v) refl (refused-each vs n i u (omega arith) e)
    where
      go : (x : Res ℕ) → f v ≡ x → each f vs ≡ fail (refuse n) → (x >>= λ w. each f vs >>= λ ws. ok (w ∷ ws)) ≡ fail (refuse n)
      go (fail q) d p = rw (u v q d)
      go (ok w) d p = rw (p)

nine-is : (kind v : ℕ) {n : Refusal} → StoredRefused kind v n → n ≡ refuse 9
nine-is kind v (not_finite k f) = refl
nine-is kind v (out_of_range k f l) = refl

module _ (depth kind : ℕ) (values : List ℕ) where
  constants-refused : {n : Refusal} → constant_words depth kind values ≡ fail n → ConstantsRefused depth kind values n
  unfolding constant_words
  constants-refused {n} e =
      let (i, l, p) = each-refused (stored kind) (take depth values) e in
      let k = rw (length-take) at l in
      let a : i < depth = omega arith in
      not-constant i a (omega arith) (stored_refused kind (get_or values i 0) (rw (get_or-take depth values i 0 a) at p))

  refused-constants : {n : Refusal} → ConstantsRefused depth kind values n → constant_words depth kind values ≡ fail n
  unfolding constant_words
  refused-constants {n} (not-constant i a l r) =
      let z = nine-is kind (get_or values i 0) r in
      let p : stored kind (get_or values i 0) ≡ fail n = refused-stored kind (get_or values i 0) r in
      let k : i < length (take depth values) = rw (length-take) (omega arith) in
      rw (z) (refused-each (stored kind) (take depth values) 9 i (stored-nine kind) k (rw (get_or-take depth values i 0 a, ← z) p))

  pub constants-exactly : (n : Refusal) → (constant_words depth kind values ≡ fail n) ↔ ConstantsRefused depth kind values n
  constants-exactly n = (constants-refused, refused-constants)

-- ---- packed counts

module _ (s : List ℕ) where
  tabled-refused : {j : Refusal} (at n bits : ℕ) → tabled s at n bits ≡ fail j → TabledRefused s at n bits j
  unfolding tabled
  tabled-refused at n bits e =
      let P = TabledRefused s at n bits in
      demand P (ltb 0 bits) 8 _ e (λ t. no_bits (let w = ltb-false 0 bits t in omega arith)) (λ t e.
      let b = ltb-true 0 bits t in
      reading-one P 1 (word_at 1 s at) _ (word-one 1 s at) e (λ d. entries-cut b (word_at-fails 1 s at d)) (λ v d e.
      demand P (leb 2 v) 8 _ e (λ u. entries-few v b d (leb-false _ _ u)) (λ u e.
      demand P (leb (table_plan n bits v (at + 1)).next (length s)) 1 _ e (λ w. table-cut v b d (leb-true _ _ u) (leb-false _ _ w)) (λ w e. not-refused e))))

  refused-tabled : {j : Refusal} {at n bits : ℕ} → TabledRefused s at n bits j → tabled s at n bits ≡ fail j
  unfolding tabled
  refused-tabled (no_bits z) = rw (z)
  refused-tabled {at = at} (entries-cut b l) = rw (lt-ltb _ _ b, word_at-no 1 s at l)
  refused-tabled (entries-few v b d l) = rw (lt-ltb _ _ b, d, lt-leb _ _ l)
  refused-tabled {at = at} {n = n} {bits = bits} (table-cut v b d l k) =
      rw (lt-ltb _ _ b, d, le-leb _ _ l, lt-leb (table_plan n bits v (at + 1)).next (length s) k)

  abbrev runs_at : ℕ → ℕ → ℕ → Res Plan
  runs_at at n h = cond (eqb (h / 32 % 2) 0) (fits (length s) (plain_plan n (h % 32) at)) (tabled s at n (h % 32))

  runs-at : {j : Refusal} (at n h : ℕ) → runs_at at n h ≡ fail j → PackedRefused s at n h j
  runs-at at n h e =
      let P = PackedRefused s at n h in
      choosing P (eqb (h / 32 % 2) 0) _ _ e
      (λ t e. demand P (leb (plain_plan n (h % 32) at).next (length s)) 1 _ e (λ u. plain-cut (eqb-true _ _ t) (leb-false _ _ u)) (λ u e. not-refused e))
      (λ t e. not-tabled (eqb-false _ _ t) (tabled-refused at n (h % 32) e))

  at-runs : {j : Refusal} {at n h : ℕ} → PackedRefused s at n h j → runs_at at n h ≡ fail j
  at-runs {at = at} {n = n} {h = h} (plain-cut z l) = rw (eq-eqb _ _ z, lt-leb (plain_plan n (h % 32) at).next (length s) l)
  at-runs (not-tabled z r) = rw (ne_eqb _ _ z, refused-tabled r)

  plan-refused : {j : Refusal} (at : ℕ) → plan s at ≡ fail j → PlanRefused s at j
  unfolding plan
  plan-refused at e =
      let P = PlanRefused s at in
      reading-one P 1 (word_at 1 s at) _ (word-one 1 s at) e (λ d. counts-cut (word_at-fails 1 s at d)) (λ h d e.
      demand P (ltb (h / 64) 3) 8 _ e (λ t. width-wrong h d (ltb-false _ _ t)) (λ t e.
      let l = ltb-true (h / 64) 3 t in
      reading-one P 1 (word_at (count_bytes h) s (at + 1)) _ (word-one (count_bytes h) s (at + 1)) e (λ q. count_cut h d l (word_at-fails (count_bytes h) s (at + 1) q)) (λ n q e.
      demand P (leb n 256) 8 _ e (λ u. count-large h n d l q (leb-false _ _ u)) (λ u e. packed-refused h n d l q (leb-true _ _ u) (runs-at (at + 1 + count_bytes h) n h e)))))

  refused-plan : {j : Refusal} {at : ℕ} → PlanRefused s at j → plan s at ≡ fail j
  unfolding plan
  refused-plan {at = at} (counts-cut l) = rw (word_at-no 1 s at l)
  refused-plan (width-wrong h d l) = rw (d, le-ltb _ _ l)
  refused-plan {at = at} (count_cut h d l k) = rw (d, lt-ltb _ _ l, word_at-no (count_bytes h) s (at + 1) k)
  refused-plan (count-large h n d l q k) = rw (d, lt-ltb _ _ l, q, lt-leb _ _ k)
  refused-plan (packed-refused h n d l q k r) = rw (d, lt-ltb _ _ l, q, le-leb _ _ k, at-runs r)

  pub plan-exactly : (at : ℕ) (j : Refusal) → (plan s at ≡ fail j) ↔ PlanRefused s at j
  plan-exactly at j = (plan-refused at, refused-plan)

  counts-at : {j : Refusal} (at : ℕ) → counts s at ≡ fail j → CountsRefused s at j
  unfolding counts unpacked values_of looked_up
  counts-at at e =
      let P = CountsRefused s at in
      reading P (plan s at) _ e (λ d. not-planned (plan-refused at d)) (λ p d e.
      let e = bind-fail (values_of s p) _ e in
      choosing P (eqb p.entries 0) _ _ e (λ t e. not-refused e) (λ t e.
      demand P (all_below p.n p.entries (run s p.at p.n p.width)) 8 _ e (index-large p d (eqb-false _ _ t)) (λ u e. not-refused e)))

  at-counts : {j : Refusal} {at : ℕ} → CountsRefused s at j → counts s at ≡ fail j
  unfolding counts unpacked values_of looked_up
  at-counts (not-planned r) = rw (refused-plan r)
  at-counts (index-large p d z a) = rw (d, ne_eqb _ _ z, a)

  pub counts-exactly : (at : ℕ) (j : Refusal) → (counts s at ≡ fail j) ↔ CountsRefused s at j
  counts-exactly at j = (counts-at at, at-counts)

  planned-at : {j : Refusal} (p : Plan) → counts_by s p ≡ fail j → PlannedRefused s p j
  unfolding counts_by unpacked values_of looked_up
  planned-at p e =
      let P = PlannedRefused s p in
      demand P (keeps (length s) p) 8 _ e plan-loose (λ t e.
      let e = bind-fail (values_of s p) _ e in
      choosing P (eqb p.entries 0) _ _ e (λ u e. not-refused e) (λ u e.
      demand P (all_below p.n p.entries (run s p.at p.n p.width)) 8 _ e (planned-index t (eqb-false _ _ u)) (λ w e. not-refused e)))

  at-planned : {j : Refusal} {p : Plan} → PlannedRefused s p j → counts_by s p ≡ fail j
  unfolding counts_by unpacked values_of looked_up
  at-planned (plan-loose k) = rw (k)
  at-planned (planned-index k z a) = rw (k, ne_eqb _ _ z, a)

  pub planned-exactly : (p : Plan) (j : Refusal) → (counts_by s p ≡ fail j) ↔ PlannedRefused s p j
  planned-exactly p j = (planned-at p, at-planned)

-- ---- a block

-- an offset that cannot be read: there is no kind, or its bytes pass the end
module _ (s : List ℕ) (kind : ℕ) (P : Refusal → Type 0) where
  no-offset : {j : Refusal} (at flag : ℕ) → offset_at s at kind flag ≡ fail j → (KindRefused kind (flag / 64) j → P j)
      → ((k : ℕ) → offset_kind kind (flag / 64) ≡ ok k → length s < at + type_size k → P (refuse 1)) → P j
  unfolding offset_at
  no-offset at flag e f g =
      reading P (offset_kind kind (flag / 64)) _ e (λ d. f (kind-refuses kind (flag / 64) d)) (λ k d e.
      reading P (sample_at k s at) _ e (λ q. on k d (sample-refused k s at q)) (λ v q e. not-refused e))
    where
      on : {j : Refusal} (k : ℕ) → offset_kind kind (flag / 64) ≡ ok k → SampleRefused k s at j → P j
      on k d (sample-cut l) = g k d l

module _ (s : List ℕ) (kind error top : ℕ) where
  abbrev levels_at : ℕ → ℕ → ℕ → ℕ → Res Block
  levels_at at offset flag n = cond (eqb (flag % 4) 3) (level_block at kind offset n) (stepped_block s at kind error top offset n)

  levels-at : {j : Refusal} (at offset flag n : ℕ) → levels_at at offset flag n ≡ fail j → LevelsRefused s at kind error top offset flag n j
  unfolding level_block stepped_block
  levels-at {j} at offset flag n e =
      let P = LevelsRefused s at kind error top offset flag n in
      choosing P (eqb (flag % 4) 3) _ _ e
      (λ t e. let (i, l, p) = each-refused (stored kind) (replicate n offset) (bind-fail (each (stored kind) (replicate n offset)) _ e) in
      let k : i < n = rw (length-replicate) at l in
      level-refused (eqb-true _ _ t) (omega arith) (stored_refused kind offset (rw (get_or-replicate n i offset 0 k) at p)))
      (λ t e. let z = eqb-false (flag % 4) 3 t in
      reading P (counts s at) _ e (λ d. counts-refused z (counts-at s at d)) (λ c d e.
      demand P (eqb (length c.values) n) 8 _ e (λ u. miscounted-block c z d (eqb-false _ _ u)) (λ u e.
      let k = eqb-true (length c.values) n u in
      let (i, l, p) = each-refused (λ q. stored kind (step_of offset error top q)) c.values (bind-fail (each (λ q. stored kind (step_of offset error top q)) c.values) _ e) in
      value-refused c i z d k (rw (k) at l) (stored_refused kind (step_of offset error top (get_or c.values i 0)) p))))

  at-levels : {j : Refusal} {at offset flag n : ℕ} → LevelsRefused s at kind error top offset flag n j → levels_at at offset flag n ≡ fail j
  unfolding level_block stepped_block
  at-levels {offset = offset} {n = n} (level-refused z l r) = rw (eq-eqb _ _ z, each-replicate-fails (stored kind) n offset l (refused-stored kind offset r))
  at-levels (counts-refused z r) = rw (ne_eqb _ _ z, at-counts s r)
  at-levels (miscounted-block c z d k) = rw (ne_eqb _ _ z, d, ne_eqb _ _ k)
  at-levels {offset = offset} (value-refused c i z d k l r) =
      let f : ℕ → Res ℕ = λ q. stored kind (step_of offset error top q) in
      let v = step_of offset error top (get_or c.values i 0) in
      let n = nine-is kind v r in
      let x : stored kind v ≡ fail (refuse 9) = rw (n) at (refused-stored kind v r) in
      let y : each f c.values ≡ fail (refuse 9) = refused-each f c.values 9 i (λ q. stored-nine kind (step_of offset error top q)) (rw (k) l) x in
      rw (n, ne_eqb _ _ z, d, eq-eqb _ _ k, y)

  offset_at_lem : {j : Refusal} (at flag n : ℕ) → offset_block s at kind error top flag n ≡ fail j → OffsetRefused s at kind error top flag n j
  unfolding offset_block finite_offset
  offset_at_lem at flag n e =
      let P = OffsetRefused s at kind error top flag n in
      reading P (finite_offset s at kind flag) _ e
      (λ e. reading P (offset_at s at kind flag) _ e (λ d. no-offset s kind P at flag d kind-refused offset-cut) (λ o d e.
      let g = offset-is s at kind flag d in
      demand P (finite o.value) 8 _ e (offset-not-finite g.k o.value g.named g.sampled) (λ f e. not-refused e)))
      (λ o d e.
      let (d, f) = finite-is s at kind flag d in
      let g = offset-is s at kind flag d in
      levels-refused g.k o.value g.named g.sampled f (rw g.ends at (levels-at o.next o.value flag n e)))

  at_offset : {j : Refusal} {at flag n : ℕ} → OffsetRefused s at kind error top flag n j → offset_block s at kind error top flag n ≡ fail j
  unfolding offset_block finite_offset offset_at
  at_offset {flag = flag} (kind-refused r) = rw (refused-kind kind (flag / 64) r)
  at_offset {at = at} (offset-cut k d l) = rw (d, refused-sample k s at (sample-cut l))
  at_offset (offset-not-finite k v d q f) = rw (d, q, f)
  at_offset (levels-refused k v d q f r) = rw (d, q, f, at-levels r)

  block_at : {j : Refusal} (at x n : ℕ) → block_says s at kind error top x n ≡ fail j → BlockRefused s at kind error top x n j
  unfolding block_says flag_at formed raw_words
  block_at at x n e =
      let P = BlockRefused s at kind error top x n in
      reading P (flag_at s at x) _ e
      (λ e. reading-one P 1 (word_at 1 s at) _ (word-one 1 s at) e (λ d. flag-cut (word_at-fails 1 s at d)) (λ flag d e.
      demand P (eqb (flag / 4 % 16) (x / 8 % 16)) 8 _ e (λ t. check-wrong flag d (eqb-false _ _ t)) (λ t e. not-refused e)))
      (λ flag d e.
      let (d, t) = flag_is s at x d in
      let c = eqb-true (flag / 4 % 16) (x / 8 % 16) t in
      choosing P (eqb (flag % 4) 0) _ _ e
      (λ z e. demand P (leb (at + 1 + n * type_size kind) (length s)) 1 _ e (λ u. raw-cut flag d c (eqb-true _ _ z) (leb-false _ _ u)) (λ u e. not-refused e))
      (λ z e. choosing P (eqb (flag % 4) 2) _ _ e (λ y e. not-refused e) (λ y e. offset-refused flag d c (eqb-false _ _ z) (eqb-false _ _ y) (offset_at_lem (at + 1) flag n e))))

  at_block : {j : Refusal} {at x n : ℕ} → BlockRefused s at kind error top x n j → block_says s at kind error top x n ≡ fail j
  unfolding block_says flag_at formed raw_words
  at_block {at = at} (flag-cut l) = rw (word_at-no 1 s at l)
  at_block (check-wrong flag d c) = rw (d, ne_eqb _ _ c)
  at_block (raw-cut flag d c z l) = rw (d, eq-eqb _ _ c, eq-eqb _ _ z, lt-leb _ _ l)
  at_block (offset-refused flag d c z y r) = rw (d, eq-eqb _ _ c, ne_eqb _ _ z, ne_eqb _ _ y, at_offset r)

  pub block-exactly : (at x n : ℕ) (j : Refusal) → (block_says s at kind error top x n ≡ fail j) ↔ BlockRefused s at kind error top x n j
  block-exactly at x n j = (block_at at x n, at_block)

  read-block-at : {j : Refusal} (at x n : ℕ) → read_block_says s at kind error top x n ≡ fail j → ReadBlockRefused s at kind error top x n j
  unfolding read_block_says
  read-block-at at x n e = demand (ReadBlockRefused s at kind error top x n) (leb n tile_limit) 8 _ e (λ t. tile-large (leb-false _ _ t)) (λ t e. not-read (leb-true _ _ t) (block_at at x n e))

  at-read-block : {j : Refusal} {at x n : ℕ} → ReadBlockRefused s at kind error top x n j → read_block_says s at kind error top x n ≡ fail j
  unfolding read_block_says
  at-read-block (tile-large l) = rw (lt-leb _ _ l)
  at-read-block (not-read l r) = rw (le-leb _ _ l, at_block r)

  pub read-block-exactly : (at x n : ℕ) (j : Refusal) → (read_block_says s at kind error top x n ≡ fail j) ↔ ReadBlockRefused s at kind error top x n j
  read-block-exactly at x n j = (read-block-at at x n, at-read-block)

-- ---- the plan of a block

module _ (s : List ℕ) (kind : ℕ) where
  offset-plan : {j : Refusal} (at flag : ℕ) → offset_plan s at kind flag ≡ fail j → OffsetPlanRefused s at kind flag j
  unfolding offset_plan finite_word stepped_plan
  offset-plan at flag e =
      let P = OffsetPlanRefused s at kind flag in
      reading P (offset_kind kind (flag / 64)) _ e (λ d. plan-kind (kind-refuses kind (flag / 64) d)) (λ k d e.
      reading P (finite_word k s at) _ e
      (λ e. reading-one P 1 (word_at (type_size k) s at) _ (word-one (type_size k) s at) e (λ q. plan-offset-cut k d (word_at-fails (type_size k) s at q)) (λ w q e.
      demand P (finite (value_of k w)) 8 _ e (plan-not-finite k w d q) (λ f e. not-refused e)))
      (λ w q e.
      let (v, q, g) = bind_is (word_at (type_size k) s at) _ q in
      let (_, f, g) = bind_is (require (finite (value_of k v)) 8) _ g in
      let z : v ≡ w = ok-is g in
      choosing P (eqb (flag % 4) 3) _ _ e (λ t e. not-refused e) (λ t e.
      plan-counts k v d q (require-is _ 8 f) (eqb-false _ _ t) (plan-refused s (at + type_size k) (bind-fail (plan s (at + type_size k)) _ e)))))

  plan-offset-at : {j : Refusal} {at flag : ℕ} → OffsetPlanRefused s at kind flag j → offset_plan s at kind flag ≡ fail j
  unfolding offset_plan finite_word stepped_plan
  plan-offset-at {flag = flag} (plan-kind r) = rw (refused-kind kind (flag / 64) r)
  plan-offset-at {at = at} (plan-offset-cut k d l) = rw (d, word_at-no (type_size k) s at l)
  plan-offset-at (plan-not-finite k w d q f) = rw (d, q, f)
  plan-offset-at (plan-counts k w d q f z r) = rw (d, q, f, ne_eqb _ _ z, refused-plan s r)

  block-plan-at : {j : Refusal} (at x n : ℕ) → plan_says s at kind x n ≡ fail j → BlockPlanRefused s at kind x n j
  unfolding plan_says plan_at flag_at form_plan raw_plan
  block-plan-at at x n e =
      let P = BlockPlanRefused s at kind x n in
      demand P (leb n tile_limit) 8 _ e (λ t. plan-tile-large (leb-false _ _ t)) (λ t e.
      let l = leb-true n tile_limit t in
      reading P (flag_at s at x) _ e
      (λ e. reading-one P 1 (word_at 1 s at) _ (word-one 1 s at) e (λ d. plan-flag-cut l (word_at-fails 1 s at d)) (λ flag d e.
      demand P (eqb (flag / 4 % 16) (x / 8 % 16)) 8 _ e (λ u. plan-check-wrong flag l d (eqb-false _ _ u)) (λ u e. not-refused e)))
      (λ flag d e.
      let (d, u) = flag_is s at x d in
      let c = eqb-true (flag / 4 % 16) (x / 8 % 16) u in
      choosing P (eqb (flag % 4) 0) _ _ e
      (λ z e. demand P (leb (at + 1 + n * type_size kind) (length s)) 1 _ e (λ u. plan-raw-cut flag l d c (eqb-true _ _ z) (leb-false _ _ u)) (λ u e. not-refused e))
      (λ z e. choosing P (eqb (flag % 4) 2) _ _ e (λ y e. not-refused e) (λ y e. plan-offset flag l d c (eqb-false _ _ z) (eqb-false _ _ y) (offset-plan (at + 1) flag e)))))

  at-block-plan : {j : Refusal} {at x n : ℕ} → BlockPlanRefused s at kind x n j → plan_says s at kind x n ≡ fail j
  unfolding plan_says plan_at flag_at form_plan raw_plan
  at-block-plan (plan-tile-large l) = rw (lt-leb _ _ l)
  at-block-plan {at = at} (plan-flag-cut l k) = rw (le-leb _ _ l, word_at-no 1 s at k)
  at-block-plan (plan-check-wrong flag l d c) = rw (le-leb _ _ l, d, ne_eqb _ _ c)
  at-block-plan (plan-raw-cut flag l d c z k) = rw (le-leb _ _ l, d, eq-eqb _ _ c, eq-eqb _ _ z, lt-leb _ _ k)
  at-block-plan (plan-offset flag l d c z y r) = rw (le-leb _ _ l, d, eq-eqb _ _ c, ne_eqb _ _ z, ne_eqb _ _ y, plan-offset-at r)

  pub block-plan-exactly : (at x n : ℕ) (j : Refusal) → (plan_says s at kind x n ≡ fail j) ↔ BlockPlanRefused s at kind x n j
  block-plan-exactly at x n j = (block-plan-at at x n, at-block-plan)
