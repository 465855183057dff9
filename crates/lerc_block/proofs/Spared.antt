-- A block whose maximum can be stored is not refused 9.
-- Assumes nothing.
use mathlib.Core.Path.{◌≡◌, ◌∙◌, sym, ap, refl}
use mathlib.Core.Bool.{Bool, true, false, cond}
use mathlib.Core.List.{List, [], ◌∷◌}
use Prim.Native.Nat.{ℕ, suc, ◌+◌, ◌*◌, ◌/◌, ◌%◌, ◌<◌}
use native.Mathlib.Omega.{arith}
use borrow.Author.Tests.{eqb-false}
use lib.Dec.{leb, ltb, eqb}
use lib.ListN.{length, get_or, replicate}
use Rattle.lerc_words.specs.declared.Refusal.{Refusal}
use Rattle.lerc_words.specs.Res.{Res, ok, fail, ◌>>=◌, refuse, require, each, word_at}
use Rattle.lerc_words.proofs.Each.{each-replicate}
use Rattle.lerc_numeric.specs.Numeric.{negative, finite}
use Rattle.lerc_numeric.specs.Kinds.{type_size}
use Rattle.lerc_numeric.specs.Steps.{step_of}
use Rattle.lerc_samples.specs.Samples.{sample_at, stored, offset_kinds, no_kind, offset_kind}
use Rattle.lerc_samples.proofs.Storable.{Storable}
use Rattle.lerc_bits.specs.declared.Plan.{Plan}
use Rattle.lerc_bits.specs.Bits.{count_bytes, fits, plain_plan, table_plan, tabled, plan, run, all_below, looked_up, values_of, unpacked, counts}
use Rattle.lerc_block.specs.Block.{Block, raw_words, level_block, stepped_block, offset_at, finite_offset, offset_block, formed, flag_at, block_says}
use Rattle.lerc_block.specs.Steps.{step_word}
use Rattle.lerc_block.proofs.Fitting.{fit-storable, step_fits, offset-held}

-- ---- answers that are not refused 9

abbrev pub NotNine : {A : Type 0} → Res A → Type 0
NotNine m = m ≡ fail (refuse 9) → ⊥

pub spared-ok : {A : Type 0} (a : A) → NotNine (ok a)
spared-ok a e = absurd (let z : ◌≡◌ {A = ℕ} 0 1 = cc in omega arith)

-- a test with another number
pub spared-if : {B : Type 0} (t : Bool) (n : ℕ) (k : Bool → Res B) → eqb n 9 ≡ false → (t ≡ true → NotNine (k true)) → NotNine (require t n >>= k)
spared-if true n k q f = f refl
spared-if false n k q f = λ e.
    let z : refuse n ≡ refuse 9 = cc in
    absurd (eqb-false n 9 q (ap (λ (r : Refusal). r.number) z))

pub spared-bind : {A B : Type 0} (m : Res A) (k : A → Res B) → NotNine m → ((a : A) → m ≡ ok a → NotNine (k a)) → NotNine (m >>= k)
spared-bind (ok a) k p q = q a refl
spared-bind (fail r) k p q = λ e. p (let z : r ≡ refuse 9 = cc in ap fail z)

pub spared-cond : {A : Type 0} (b : Bool) (x y : Res A) → (b ≡ true → NotNine x) → (b ≡ false → NotNine y) → NotNine (cond b x y)
spared-cond true x y f g = f refl
spared-cond false x y f g = g refl

spared-each : {A B : Type 0} (f : A → Res B) → ((x : A) → NotNine (f x)) → (xs : List A) → NotNine (each f xs)
unfolding each
spared-each f p [] = spared-ok []
spared-each f p (x ∷ xs) = spared-bind (f x) _ (p x) (λ y _. spared-bind (each f xs) _ (spared-each f p xs) (λ ys _. spared-ok (y ∷ ys)))

-- each entry of a list
pub spared-all : (f : ℕ → Res ℕ) (xs : List ℕ) → ((i : ℕ) → i < length xs → NotNine (f (get_or xs i 0))) → NotNine (each f xs)
unfolding each
spared-all f [] p = spared-ok []
spared-all f (x ∷ xs) p =
    spared-bind (f x) _ (p 0 (omega arith))
    (λ y _. spared-bind (each f xs) _ (spared-all f xs (λ i l. p (suc i) (omega arith))) (λ ys _. spared-ok (y ∷ ys)))

pub storable-spared : (kind w : ℕ) → Storable kind w → NotNine (stored kind w)
storable-spared kind w s e = spared-ok s.0 (sym s.1 ∙ e)

-- ---- words and packed counts

module _ (s : List ℕ) where
  pub word-spared : (n at : ℕ) → NotNine (word_at n s at)
  unfolding word_at
  word-spared n at = spared-if (leb (at + n) (length s)) 1 _ refl (λ _. spared-ok _)

  sample-spared : (kind at : ℕ) → NotNine (sample_at kind s at)
  unfolding sample_at
  sample-spared kind at = spared-bind (word_at (type_size kind) s at) _ (word-spared (type_size kind) at) (λ w _. spared-ok _)

  fits-spared : (p : Plan) → NotNine (fits (length s) p)
  fits-spared p = spared-if (leb p.next (length s)) 1 _ refl (λ _. spared-ok p)

  tabled-spared : (at n bits : ℕ) → NotNine (tabled s at n bits)
  unfolding tabled
  tabled-spared at n bits =
      spared-if (ltb 0 bits) 8 _ refl
      (λ _. spared-bind (word_at 1 s at) _ (word-spared 1 at)
      (λ entries _. spared-if (leb 2 entries) 8 _ refl
      (λ _. fits-spared (table_plan n bits entries (at + 1)))))

  plan-spared : (at : ℕ) → NotNine (plan s at)
  unfolding plan
  plan-spared at =
      spared-bind (word_at 1 s at) _ (word-spared 1 at)
      (λ h _. spared-if (ltb (h / 64) 3) 8 _ refl
      (λ _. spared-bind (word_at (count_bytes h) s (at + 1)) _ (word-spared (count_bytes h) (at + 1))
      (λ n _. spared-if (leb n 256) 8 _ refl
      (λ _.
      let to = at + 1 + count_bytes h in
      spared-cond (eqb (h / 32 % 2) 0) (fits (length s) (plain_plan n (h % 32) to)) (tabled s to n (h % 32))
      (λ _. fits-spared (plain_plan n (h % 32) to)) (λ _. tabled-spared to n (h % 32))))))

  values-spared : (p : Plan) → NotNine (values_of s p)
  unfolding values_of looked_up
  values-spared p =
      let numbers = run s p.at p.n p.width in
      spared-cond (eqb p.entries 0) (ok numbers) (looked_up s p numbers) (λ _. spared-ok numbers)
      (λ _. spared-if (all_below p.n p.entries numbers) 8 _ refl (λ _. spared-ok _))

  counts-spared : (at : ℕ) → NotNine (counts s at)
  unfolding counts unpacked
  counts-spared at = spared-bind (plan s at) _ (plan-spared at) (λ p _. spared-bind (values_of s p) _ (values-spared p) (λ vs _. spared-ok _))

  pub raw-spared : (kind at n : ℕ) → NotNine (raw_words s at kind n)
  unfolding raw_words
  raw-spared kind at n = spared-if (leb (at + n * type_size kind) (length s)) 1 _ refl (λ _. spared-ok _)

-- ---- a block whose maximum can be stored

offset-spared : (kind code : ℕ) → NotNine (offset_kind kind code)
unfolding offset_kind
offset-spared kind code =
    let k = get_or (get_or offset_kinds kind []) code no_kind in
    spared-if (ltb k no_kind) 8 _ refl (λ _. spared-ok k)

module _ (s : List ℕ) (kind error top : ℕ) (high : Storable kind top) (plus : negative error ≡ false) where
  module _ (offset : ℕ) (held : Storable kind offset) where
    level-spared : (at n : ℕ) → NotNine (level_block at kind offset n)
    unfolding level_block
    level-spared at n =
        spared-bind (each (stored kind) (replicate n offset)) _ (λ e. spared-ok _ (sym (each-replicate (stored kind) n offset held.1) ∙ e)) (λ ws _. spared-ok _)

    stepped-spared : (at n : ℕ) → NotNine (stepped_block s at kind error top offset n)
    unfolding stepped_block
    stepped-spared at n =
        spared-bind (counts s at) _ (counts-spared s at)
        (λ c _. spared-if (eqb (length c.values) n) 8 _ refl
        (λ _. spared-bind (each (step_word kind error top offset) c.values) _
        (spared-each _ (λ q. storable-spared kind (step_of offset error top q) (step_fits kind error top (fit-storable kind error top high plus) offset held q)) c.values) (λ ws _. spared-ok _)))

  finite-spared : (at flag : ℕ) → NotNine (finite_offset s at kind flag)
  unfolding finite_offset offset_at
  finite-spared at flag =
      spared-bind (offset_at s at kind flag) _
      (spared-bind (offset_kind kind (flag / 64)) _ (offset-spared kind (flag / 64)) (λ k _. spared-bind (sample_at k s at) _ (sample-spared s k at) (λ v _. spared-ok _)))
      (λ o _. spared-if (finite o.value) 8 _ refl (λ _. spared-ok o))

  offset-block : (at flag n : ℕ) → NotNine (offset_block s at kind error top flag n)
  unfolding offset_block
  offset-block at flag n =
      spared-bind (finite_offset s at kind flag) _ (finite-spared at flag)
      (λ o e.
      let held = offset-held s at kind flag e in
      spared-cond (eqb (flag % 4) 3) (level_block o.next kind o.value n) (stepped_block s o.next kind error top o.value n)
      (λ _. level-spared o.value held o.next n) (λ _. stepped-spared o.value held o.next n))

  formed-spared : (at flag n : ℕ) → NotNine (formed s at kind error top flag n)
  unfolding formed
  formed-spared at flag n =
      let zeros : Res Block = ok (record { words = replicate n 0; next = at }) in
      let offset = offset_block s at kind error top flag n in
      spared-cond (eqb (flag % 4) 0) (raw_words s at kind n) (cond (eqb (flag % 4) 2) zeros offset)
      (λ _. raw-spared s kind at n)
      (λ _. spared-cond (eqb (flag % 4) 2) zeros offset (λ _. spared-ok _) (λ _. offset-block at flag n))

  pub block-spared : (at x n : ℕ) → NotNine (block_says s at kind error top x n)
  unfolding block_says flag_at
  block-spared at x n =
      spared-bind (flag_at s at x) _
      (spared-bind (word_at 1 s at) _ (word-spared s 1 at) (λ flag _. spared-if (eqb (flag / 4 % 16) (x / 8 % 16)) 8 _ refl (λ _. spared-ok flag)))
      (λ flag _. formed-spared (at + 1) flag n)
