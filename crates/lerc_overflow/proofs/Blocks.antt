-- A block over both sums: its end, and its words.
-- Assumes nothing.
use mathlib.Core.Path.{◌≡◌, refl, sym, ap, ◌∙◌}
use mathlib.Core.Logic.{◌≢◌}
use mathlib.Core.Bool.{Bool, true, false, cond}
use mathlib.Core.List.{List}
use Prim.Native.Nat.{ℕ, ◌+◌, ◌/◌, ◌%◌, ◌≤◌, ◌<◌}
use native.Mathlib.Decide.{dec_lt}
use native.Mathlib.Omega.{arith}
use borrow.Author.Tests.{eq-eqb, ne_eqb, lt-ltb, eqb-true, eqb-false, ltb-true}
use lib.Dec.{ltb, eqb}
use lib.ListN.{length, get_or, replicate, get_or-eq_default}
use Rattle.lerc_words.specs.Res.{Res, ok, fail, ◌>>=◌, refuse, require, word_at, each}
use Rattle.lerc_words.proofs.Binding.{bind_is, require-is, ok-is, each-length}
use Rattle.lerc_words.proofs.Each.{each_at, each-alike, each-not}
use Rattle.lerc_numeric.specs.Numeric.{negative, finite, infinite, sum, counted_sum, scaled, less, lesser}
use Rattle.lerc_numeric.proofs.Infinity.{finite-not}
use Rattle.lerc_samples.specs.Samples.{stored}
use Rattle.lerc_samples.proofs.Words.{stored_last}
use Rattle.lerc_bits.specs.Bits.{Counts, counts}
use Rattle.lerc_block.specs.Block.{Block, Offset, raw_words, level_block, finite_offset, flag_at, block_says, next_block}
use Rattle.lerc_overflow.specs.By.{Adding, step_by, stepped_by, offset_by, formed_by, block_by}
use Rattle.lerc_overflow.specs.Changes.{Operands, operands_at, Calm, Overflows, BlockChanges}
use Rattle.lerc_overflow.proofs.OverSum.{step_sum, block-sum}
use Rattle.lerc_overflow.proofs.Steps.{is_finite, step_same, step-near, step-changed}
use Rattle.lerc_overflow.proofs.Offsets.{offset_read}

-- ---- only a block with counts has a sum: what relates two of these relates the blocks

module _ (f g : Adding) (P : Res Block → Res Block → Type 0) (same : (x : Res Block) → P x x) (s : List ℕ) (at kind error top x n : ℕ) where
  abbrev StepsRelated : Type 0
  StepsRelated =
      (flag : ℕ) (o : Offset) → word_at 1 s at ≡ ok flag → flag % 4 ≡ 1 → finite_offset s (at + 1) kind flag ≡ ok o
      → P (stepped_by f s o.next kind error top o.value n) (stepped_by g s o.next kind error top o.value n)

  block-related : StepsRelated → P (block_by f s at kind error top x n) (block_by g s at kind error top x n)
  unfolding block_by formed_by offset_by flag_at
  block-related steps = flagged (word_at 1 s at) refl
    where
      level : (flag : ℕ) → word_at 1 s at ≡ ok flag → (flag % 4 ≡ 0 → ⊥) → (flag % 4 ≡ 2 → ⊥) → (o : Offset) → finite_offset s (at + 1) kind flag ≡ ok o → (t : Bool) → eqb (flag % 4) 3 ≡ t
          → P (cond t (level_block o.next kind o.value n) (stepped_by f s o.next kind error top o.value n))
          (cond t (level_block o.next kind o.value n) (stepped_by g s o.next kind error top o.value n))
      level flag e a b o d true c = same (level_block o.next kind o.value n)
      level flag e a b o d false c = steps flag o e (one (flag % 4) (omega arith) a b (eqb-false (flag % 4) 3 c)) d
        where
          one : (k : ℕ) → k < 4 → (k ≡ 0 → ⊥) → (k ≡ 2 → ⊥) → (k ≡ 3 → ⊥) → k ≡ 1
          one k l a b c = omega arith

      offset : (flag : ℕ) → word_at 1 s at ≡ ok flag → (flag % 4 ≡ 0 → ⊥) → (flag % 4 ≡ 2 → ⊥) → (m : Res Offset) → finite_offset s (at + 1) kind flag ≡ m
          → P (m >>= λ o. cond (eqb (flag % 4) 3) (level_block o.next kind o.value n) (stepped_by f s o.next kind error top o.value n))
          (m >>= λ o. cond (eqb (flag % 4) 3) (level_block o.next kind o.value n) (stepped_by g s o.next kind error top o.value n))
      offset flag e a b (fail r) d = same (fail r)
      offset flag e a b (ok o) d = level flag e a b o d (eqb (flag % 4) 3) refl

      form : (flag : ℕ) → word_at 1 s at ≡ ok flag → (t : Bool) → eqb (flag % 4) 0 ≡ t → (u : Bool) → eqb (flag % 4) 2 ≡ u
          → P (cond t (raw_words s (at + 1) kind n) (cond u (ok (record { words = replicate n 0; next = at + 1 })) (offset_by f s (at + 1) kind error top flag n)))
          (cond t (raw_words s (at + 1) kind n) (cond u (ok (record { words = replicate n 0; next = at + 1 })) (offset_by g s (at + 1) kind error top flag n)))
      form flag e true a u b = same (raw_words s (at + 1) kind n)
      form flag e false a true b = same (ok (record { words = replicate n 0; next = at + 1 }))
      form flag e false a false b = offset flag e (eqb-false (flag % 4) 0 a) (eqb-false (flag % 4) 2 b) (finite_offset s (at + 1) kind flag) refl

      checked : (flag : ℕ) → word_at 1 s at ≡ ok flag → (t : Bool)
          → P ((require t 8 >>= λ _. ok flag) >>= λ flag. formed_by f s (at + 1) kind error top flag n) ((require t 8 >>= λ _. ok flag) >>= λ flag. formed_by g s (at + 1) kind error top flag n)
      checked flag e true = form flag e (eqb (flag % 4) 0) refl (eqb (flag % 4) 2) refl
      checked flag e false = same (fail (refuse 8))

      flagged : (m : Res ℕ) → word_at 1 s at ≡ m
          → P ((m >>= λ flag. require (eqb (flag / 4 % 16) (x / 8 % 16)) 8 >>= λ _. ok flag) >>= λ flag. formed_by f s (at + 1) kind error top flag n)
          ((m >>= λ flag. require (eqb (flag / 4 % 16) (x / 8 % 16)) 8 >>= λ _. ok flag) >>= λ flag. formed_by g s (at + 1) kind error top flag n)
      flagged (fail r) e = same (fail r)
      flagged (ok flag) e = checked flag e (eqb (flag / 4 % 16) (x / 8 % 16))

-- ---- counts: the words are the steps

module _ (s : List ℕ) (at kind error top offset n : ℕ) where
  abbrev to : Adding → ℕ → Res ℕ
  to add q = stored kind (step_by add error top offset q)

  abbrev closed : Counts → List ℕ → Res Block
  closed c words = ok (record { words = words; next = c.next })

  stepped-related : (f g : Adding) (P : Res Block → Res Block → Type 0) → ((x : Res Block) → P x x)
      → ((c : Counts) → counts s at ≡ ok c → P (each (to f) c.values >>= closed c) (each (to g) c.values >>= closed c))
      → P (stepped_by f s at kind error top offset n) (stepped_by g s at kind error top offset n)
  unfolding stepped_by
  stepped-related f g P same h = go (counts s at) refl
    where
      many : (c : Counts) → counts s at ≡ ok c → (t : Bool)
          → P (require t 8 >>= λ _. each (to f) c.values >>= closed c) (require t 8 >>= λ _. each (to g) c.values >>= closed c)
      many c e true = h c e
      many c e false = same (fail (refuse 8))

      go : (m : Res Counts) → counts s at ≡ m
          → P (m >>= λ c. require (eqb (length c.values) n) 8 >>= λ _. each (to f) c.values >>= closed c)
          (m >>= λ c. require (eqb (length c.values) n) 8 >>= λ _. each (to g) c.values >>= closed c)
      go (fail r) e = same (fail r)
      go (ok c) e = many c e (eqb (length c.values) n)

  -- the same steps, the same block
  stepped_same : (f g : Adding) → ((c : Counts) → counts s at ≡ ok c → (i : ℕ) → i < length c.values → step_by f error top offset (get_or c.values i 0) ≡ step_by g error top offset (get_or c.values i 0))
      → stepped_by f s at kind error top offset n ≡ stepped_by g s at kind error top offset n
  stepped_same f g h = stepped-related f g (λ x y. x ≡ y) (λ x. refl) (λ c e. rw (each-alike (to f) (to g) c.values 0 (λ i l. ap (stored kind) (h c e i l))))

  -- kind 7 stores every value
  all-stored : 7 ≤ kind → (add : Adding) (q : ℕ) → to add q ≡ ok (step_by add error top offset q)
  all-stored h add q = sym (stored_last kind (step_by add error top offset q) (omega arith) (λ e. absurd (omega arith)))

  stepped-next : 7 ≤ kind → (f g : Adding) → next_block (stepped_by f s at kind error top offset n) ≡ next_block (stepped_by g s at kind error top offset n)
  stepped-next h f g = stepped-related f g (λ x y. next_block x ≡ next_block y) (λ x. refl) (λ c e. ends f c ∙ sym (ends g c))
    where
      ends : (add : Adding) (c : Counts) → next_block (each (to add) c.values >>= closed c) ≡ ok c.next
      ends add c = go (each (to add) c.values) refl
        where
          go : (m : Res (List ℕ)) → each (to add) c.values ≡ m → next_block (m >>= closed c) ≡ ok c.next
          go (ok words) e = refl
          go (fail r) e =
              let (i, l, d) = each-not (to add) c.values 0 e in
              absurd (let x = all-stored h add (get_or c.values i 0) in let z : ◌≡◌ {A = ℕ} 0 1 = cc in omega arith)

  -- words that differ come of steps that do
  pub record StepsDiffer (f g : Adding) (i : ℕ) : Type 0 where
    pub read : Counts
    pub are : counts s at ≡ ok read
    pub within : i < length read.values
    pub differ : step_by f error top offset (get_or read.values i 0) ≢ step_by g error top offset (get_or read.values i 0)

  stepped-word : (f g : Adding) (a b : Block) → stepped_by f s at kind error top offset n ≡ ok a → stepped_by g s at kind error top offset n ≡ ok b
      → (i : ℕ) → get_or a.words i 0 ≢ get_or b.words i 0 → StepsDiffer f g i
  stepped-word f g =
      stepped-related f g (λ x y. (a b : Block) → x ≡ ok a → y ≡ ok b → (i : ℕ) → get_or a.words i 0 ≢ get_or b.words i 0 → StepsDiffer f g i)
      (λ x a b e k i d. absurd (d (ap (λ (w : Block). get_or w.words i 0) (ok-is (sym e ∙ k)))))
      (λ c q a b e k i d.
      let (u, eu, e) = bind_is (each (to f) c.values) _ e in
      let (v, ev, k) = bind_is (each (to g) c.values) _ k in
      let wa : u ≡ a.words = ap (λ (w : Block). w.words) (ok-is e) in
      let wb : v ≡ b.words = ap (λ (w : Block). w.words) (ok-is k) in
      let d' : get_or u i 0 ≢ get_or v i 0 = λ z. d (rw (← wa, ← wb) z) in
      record { read = c; are = q; within = inside c u v i eu ev d' (dec_lt i (length c.values)); differ = λ z. d' (steps c u v i eu ev (inside c u v i eu ev d' (dec_lt i (length c.values))) z) })
    where
      steps : (c : Counts) (u v : List ℕ) (i : ℕ) → each (to f) c.values ≡ ok u → each (to g) c.values ≡ ok v → i < length c.values
          → step_by f error top offset (get_or c.values i 0) ≡ step_by g error top offset (get_or c.values i 0) → get_or u i 0 ≡ get_or v i 0
      steps c u v i eu ev l z = ok-is (sym (each_at (to f) c.values i 0 0 eu l) ∙ ap (stored kind) z ∙ each_at (to g) c.values i 0 0 ev l)

      inside : (c : Counts) (u v : List ℕ) (i : ℕ) → each (to f) c.values ≡ ok u → each (to g) c.values ≡ ok v → get_or u i 0 ≢ get_or v i 0 → Dec (i < length c.values) → i < length c.values
      inside c u v i eu ev d (yes l) = l
      inside c u v i eu ev d (no l) =
          let nu : get_or u i 0 ≡ 0 = get_or-eq_default u 0 (omega (arith, each-length (to f) c.values eu)) in
          let nv : get_or v i 0 ≡ 0 = get_or-eq_default v 0 (omega (arith, each-length (to g) c.values ev)) in
          absurd (d (nu ∙ sym nv))

  stepped-is : 7 ≤ kind → (add : Adding) (b : Block) → stepped_by add s at kind error top offset n ≡ ok b → (c : Counts) → counts s at ≡ ok c → (i : ℕ) → i < length c.values
      → get_or b.words i 0 ≡ step_by add error top offset (get_or c.values i 0)
  unfolding stepped_by
  stepped-is h add b e c q i l =
      let m : (require (eqb (length c.values) n) 8 >>= λ _. each (to add) c.values >>= closed c) ≡ ok b = rw (q) at e in
      let (_, _, m) = bind_is (require (eqb (length c.values) n) 8) _ m in
      let (u, eu, m) = bind_is (each (to add) c.values) _ m in
      let w : u ≡ b.words = ap (λ (w : Block). w.words) (ok-is m) in
      rw (← w) (ok-is (sym (each_at (to add) c.values i 0 0 eu l) ∙ all-stored h add (get_or c.values i 0)))

-- ---- the block

module _ (s : List ℕ) (at kind error : ℕ) where
  operands-are : (flag : ℕ) (o : Offset) → word_at 1 s at ≡ ok flag → flag % 4 ≡ 1 → finite_offset s (at + 1) kind flag ≡ ok o → (c : Counts) → counts s o.next ≡ ok c → (i : ℕ) → i < length c.values
      → operands_at s at kind error i ≡ ok (record { offset = o.value; product = scaled error (get_or c.values i 0) })
  unfolding operands_at
  operands-are flag o e f d c q i l = rw (e, eq-eqb (flag % 4) 1 f, d, q, lt-ltb i (length c.values) l)

  -- and back: the flag, the offset and the counts behind the operands
  pub record Stands (i : ℕ) (p : Operands) : Type 0 where
    pub flag : ℕ
    pub offset : Offset
    pub read : Counts
    pub is-flag : word_at 1 s at ≡ ok flag
    pub stepped : flag % 4 ≡ 1
    pub offset-is : finite_offset s (at + 1) kind flag ≡ ok offset
    pub counts-are : counts s offset.next ≡ ok read
    pub within : i < length read.values
    pub are : p ≡ record { offset = offset.value; product = scaled error (get_or read.values i 0) }

  pub operands-stand : (i : ℕ) (p : Operands) → operands_at s at kind error i ≡ ok p → Stands i p
  unfolding operands_at
  operands-stand i p k =
      let (flag, ef, k) = bind_is (word_at 1 s at) _ k in
      let (_, e1, k) = bind_is (require (eqb (flag % 4) 1) 8) _ k in
      let (o, eo, k) = bind_is (finite_offset s (at + 1) kind flag) _ k in
      let (c, ec, k) = bind_is (counts s o.next) _ k in
      let (_, el, k) = bind_is (require (ltb i (length c.values)) 8) _ k in
      record {
        flag = flag;
        offset = o;
        read = c;
        is-flag = ef;
        stepped = eqb-true (flag % 4) 1 (require-is _ 8 e1);
        offset-is = eo;
        counts-are = ec;
        within = ltb-true i (length c.values) (require-is _ 8 el);
        are = sym (ok-is k);
      }

  module _ (top x n : ℕ) where
    pub block-kind : kind < 7 → block_by counted_sum s at kind error top x n ≡ block_says s at kind error top x n
    block-kind l =
        block-related counted_sum sum (λ x y. x ≡ y) (λ x. refl) s at kind error top x n
        (λ flag o e f d.
        let r = offset_read s (at + 1) kind flag o d in
        stepped_same s o.next kind error top o.value n counted_sum sum
        (λ c q i l2. sym (step-near error top o.value (get_or c.values i 0) r.offset-finite (r.near l)) ∙ sym (step_sum error top o.value (get_or c.values i 0))))
        ∙ block-sum s at kind error top x n

    pub block-calm : Calm s at kind error → block_by counted_sum s at kind error top x n ≡ block_says s at kind error top x n
    block-calm calm =
        block-related counted_sum sum (λ x y. x ≡ y) (λ x. refl) s at kind error top x n
        (λ flag o e f d.
        let r = offset_read s (at + 1) kind flag o d in
        stepped_same s o.next kind error top o.value n counted_sum sum
        (λ c q i l.
        let k = calm i _ (operands-are flag o e f d c q i l) in
        sym (step_same error top o.value (get_or c.values i 0) (finite-not o.value (is_finite o.value r.offset-finite)) k) ∙ sym (step_sum error top o.value (get_or c.values i 0))))
        ∙ block-sum s at kind error top x n

    pub block-next : next_block (block_by counted_sum s at kind error top x n) ≡ next_block (block_says s at kind error top x n)
    block-next = go (dec_lt kind 7)
      where
        go : Dec (kind < 7) → next_block (block_by counted_sum s at kind error top x n) ≡ next_block (block_says s at kind error top x n)
        go (yes l) = ap next_block (block-kind l)
        go (no l) =
            block-related counted_sum sum (λ x y. next_block x ≡ next_block y) (λ x. refl) s at kind error top x n
            (λ flag o e f d. stepped-next s o.next kind error top o.value n (omega arith) counted_sum sum)
            ∙ ap next_block (block-sum s at kind error top x n)

    pub block-word : (a b : Block) → block_by counted_sum s at kind error top x n ≡ ok a → block_says s at kind error top x n ≡ ok b → (i : ℕ) → get_or a.words i 0 ≢ get_or b.words i 0 → Overflows s at kind error i
    block-word a b e k =
        block-related counted_sum sum (λ x y. (a b : Block) → x ≡ ok a → y ≡ ok b → (i : ℕ) → get_or a.words i 0 ≢ get_or b.words i 0 → Overflows s at kind error i)
        (λ x a b e k i d. absurd (d (ap (λ (w : Block). get_or w.words i 0) (ok-is (sym e ∙ k)))))
        s at kind error top x n
        (λ flag o e f d a b ea eb i w.
        let p = stepped-word s o.next kind error top o.value n counted_sum sum a b ea eb i w in
        let r = offset_read s (at + 1) kind flag o d in
        record {
          operands = record { offset = o.value; product = scaled error (get_or p.read.values i 0) };
          are = operands-are flag o e f d p.read p.are i p.within;
          infinite-product = overflowed o.value (get_or p.read.values i 0) r.offset-finite p.differ;
        })
        a b e (block-sum s at kind error top x n ∙ k)
      where
        overflowed : (offset q : ℕ) → finite offset ≡ true → step_by counted_sum error top offset q ≢ step_by sum error top offset q → infinite (scaled error q) ≡ true
        overflowed offset q f d = go (infinite (scaled error q)) refl
          where
            go : (t : Bool) → infinite (scaled error q) ≡ t → t ≡ true
            go true i = refl
            go false i = absurd (d (sym (step_same error top offset q (finite-not offset (is_finite offset f)) i) ∙ sym (step_sum error top offset q)))

    pub word-is : (add : Adding) (b : Block) → 7 ≤ kind → block_by add s at kind error top x n ≡ ok b → (i : ℕ) (p : Operands) → operands_at s at kind error i ≡ ok p → get_or b.words i 0 ≡ lesser (add p.offset p.product) top
    unfolding block_by flag_at formed_by offset_by step_by
    word-is add b h e i p k =
        let st = operands-stand i p k in
        let flag = st.flag in
        let o = st.offset in
        let one = st.stepped in
        let (flag', e2, e) = bind_is (flag_at s at x) _ e in
        let (flag'', e3, e2) = bind_is (word_at 1 s at) _ e2 in
        let (_, _, e2) = bind_is (require (eqb (flag'' / 4 % 16) (x / 8 % 16)) 8) _ e2 in
        let same : flag' ≡ flag = sym (ok-is e2) ∙ ok-is (sym e3 ∙ st.is-flag) in
        let formed : formed_by add s (at + 1) kind error top flag n ≡ ok b = rw (same) at e in
        let stepped : stepped_by add s o.next kind error top o.value n ≡ ok b = rw (
          ne_eqb (flag % 4) 0 (λ y. absurd (omega (arith, one))),
          ne_eqb (flag % 4) 2 (λ y. absurd (omega (arith, one))),
          st.offset-is,
          ne_eqb (flag % 4) 3 (λ y. absurd (omega (arith, one))),
        ) at formed in
        stepped-is s o.next kind error top o.value n h add b stepped st.read st.counts-are i st.within
        ∙ ap (λ (w : Operands). lesser (add w.offset w.product) top) (sym st.are)

-- ---- a word changes wherever its step does

-- the operands of a step: a finite offset, and the error times a count
pub record FromCount (error : ℕ) (p : Operands) : Type 0 where
  pub count : ℕ
  pub product_is : p.product ≡ scaled error count
  pub offset-finite : finite p.offset ≡ true

pub operands-from : (s : List ℕ) (at kind error i : ℕ) (p : Operands) → operands_at s at kind error i ≡ ok p → FromCount error p
operands-from s at kind error i p k =
    let st = operands-stand s at kind error i p k in
    record {
      count = get_or st.read.values i 0;
      product_is = ap (λ (x : Operands). x.product) st.are;
      offset-finite = ap (λ (x : Operands). finite x.offset) st.are ∙ (offset_read s (at + 1) kind st.flag st.offset st.offset-is).offset-finite;
    }

pub block-changed : (s : List ℕ) (at kind error top x n : ℕ) (a b : Block) → block_by counted_sum s at kind error top x n ≡ ok a → block_says s at kind error top x n ≡ ok b
    → 7 ≤ kind → negative error ≡ false → finite top ≡ true → (i : ℕ) (p : Operands) → operands_at s at kind error i ≡ ok p → infinite p.product ≡ true
    → less (counted_sum p.offset p.product) top ≡ true → get_or a.words i 0 ≢ get_or b.words i 0
unfolding step_by
block-changed s at kind error top x n a b ea eb h r t i p k f l z =
    let from = operands-from s at kind error i p k in
    let o = p.offset in
    let q = from.count in
    let same : (add : Adding) → lesser (add o p.product) top ≡ step_by add error top o q = λ add. ap (λ (y : ℕ). lesser (add o y) top) from.product_is in
    let old = word-is s at kind error top x n counted_sum a h ea i p k ∙ same counted_sum in
    let new = word-is s at kind error top x n sum b h (block-sum s at kind error top x n ∙ eb) i p k ∙ same sum ∙ step_sum error top o q in
    step-changed error top o q (record { offset-finite = from.offset-finite; error-right = r; top-finite = t }) (rw from.product_is at f) (rw from.product_is at l) (sym new ∙ sym z ∙ old)

pub block-changes : BlockChanges
block-changes = record { block-next = block-next; block-kind = block-kind; block-calm = block-calm; block-word = block-word; block-changed = block-changed; word-is = λ add s at kind error top x n. word-is s at kind error top x n add }
