-- Laws of chains of blocks: by one block more at the end, where a chain stops, and what each of its blocks is.
-- Assumes nothing.
use mathlib.Core.Path.{◌≡◌, refl, sym, ap, ◌∙◌}
use mathlib.Core.List.{List, [], ◌∷◌, ◌++◌}
use Prim.Native.Nat.{ℕ, zero, suc, ◌+◌, ◌<◌}
use native.Mathlib.Omega.{arith}
use native.Mathlib.Nat.{add-zero, suc-add, zero-add, not-suc-le-zero, le_of_suc-le-suc}
use lib.ListN.{length, get_or}
use Rattle.lerc_words.specs.declared.Refusal.{Refusal}
use Rattle.lerc_words.specs.Res.{Res, ok, fail, ◌>>=◌}
use Rattle.lerc_words.proofs.Binding.{bind_is}
use Rattle.lerc_header.specs.declared.Header.{Header}
use Rattle.lerc_block.specs.Block.{Block}
use Rattle.lerc_image.specs.Blocks.{block_at, Chain, chain}

-- a chain with one block more behind it
abbrev pub longer : Chain → Block → Chain
longer c b = record { starts = c.starts ++ (c.end ∷ []); words = c.words ++ (b.words ∷ []); end = b.next }

-- a chain with one block more in front
abbrev pub fronted : ℕ → Block → Chain → Chain
fronted at b c = record { starts = at ∷ c.starts; words = b.words ∷ c.words; end = c.end }

module _ (s : List ℕ) (h : Header) (maxima m : List ℕ) where
  pub chain-none : (n at : ℕ) → chain s h maxima m zero n at ≡ ok (record { starts = []; words = []; end = at })
  unfolding chain
  chain-none n at = refl

  pub chain-front : (f n at : ℕ) → chain s h maxima m (suc f) n at ≡ (block_at s h maxima m n at >>= λ b. chain s h maxima m f (suc n) b.next >>= λ c. ok (fronted at b c))
  unfolding chain
  chain-front f n at = refl

  -- ---- one block more behind

  swap : (x : Res Chain) (k : ℕ → Res Block) (at : ℕ) (b : Block)
      → ((x >>= λ c. k c.end >>= λ e. ok (longer c e)) >>= λ c. ok (fronted at b c)) ≡ ((x >>= λ c. ok (fronted at b c)) >>= λ c. k c.end >>= λ e. ok (longer c e))
  swap (fail w) k at b = refl
  swap (ok c) k at b = go (k c.end)
    where
      go : (y : Res Block) → ((y >>= λ e. ok (longer c e)) >>= λ d. ok (fronted at b d)) ≡ (y >>= λ e. ok (longer (fronted at b c) e))
      go (ok e) = refl
      go (fail w) = refl

  first : (n at : ℕ) → chain s h maxima m (suc zero) n at ≡ (chain s h maxima m zero n at >>= λ c. block_at s h maxima m (n + zero) c.end >>= λ b. ok (longer c b))
  unfolding chain
  first n at = rw (add-zero) (go (block_at s h maxima m n at))
    where
      go : (y : Res Block) → (y >>= λ b. ok (fronted at b (record { starts = []; words = []; end = b.next }))) ≡ (y >>= λ b. ok (longer (record { starts = []; words = []; end = at }) b))
      go (ok b) = refl
      go (fail w) = refl

  abbrev pub behind : ℕ → Res Chain → Res Chain
  behind n x = x >>= λ c. block_at s h maxima m n c.end >>= λ b. ok (longer c b)

  pub chain-behind : (f n at : ℕ) → chain s h maxima m (suc f) n at ≡ behind (n + f) (chain s h maxima m f n at)
  chain-behind zero n at = first n at
  chain-behind (suc f) n at = rw (chain-front (suc f) n at, chain-front f n at) (go (block_at s h maxima m n at) (λ b. chain-behind f (suc n) b.next))
    where
      go : (y : Res Block)
          → ((b : Block) → chain s h maxima m (suc f) (suc n) b.next ≡ behind (suc n + f) (chain s h maxima m f (suc n) b.next))
          → (y >>= λ b. chain s h maxima m (suc f) (suc n) b.next >>= λ c. ok (fronted at b c))
          ≡ behind (n + suc f) (y >>= λ b. chain s h maxima m f (suc n) b.next >>= λ c. ok (fronted at b c))
      go (fail w) i = refl
      go (ok b) i =
          let e : suc n + f ≡ n + suc f = omega arith in
          rw (i b, e) (swap (chain s h maxima m f (suc n) b.next) (λ to. block_at s h maxima m (n + suc f) to) at b)

  -- ---- as a loop goes through them: all blocks up to k, then one more

  -- one block more
  pub chain-on : (k at : ℕ) (c : Chain) (b : Block) → chain s h maxima m k 0 at ≡ ok c → block_at s h maxima m k c.end ≡ ok b → chain s h maxima m (suc k) 0 at ≡ ok (longer c b)
  chain-on k at c b e d = rw (chain-behind k 0 at, e, zero-add k, d)

  -- the block that is refused
  pub chain-ends : (k at : ℕ) (c : Chain) (w : Refusal) → chain s h maxima m k 0 at ≡ ok c → block_at s h maxima m k c.end ≡ fail w → chain s h maxima m (suc k) 0 at ≡ fail w
  chain-ends k at c w e d = rw (chain-behind k 0 at, e, zero-add k, d)

  -- a chain that stops early stops all the same when it is longer
  pub chain-stops : (j k at : ℕ) (w : Refusal) → chain s h maxima m k 0 at ≡ fail w → chain s h maxima m (j + k) 0 at ≡ fail w
  chain-stops zero k at w e = rw (zero-add k) e
  chain-stops (suc j) k at w e = rw (suc-add j k, chain-behind (j + k) 0 at, chain-stops j k at w e)

  -- ---- what each block of a chain is

  -- the first block, and the chain of the others
  pub record Parts (f n at : ℕ) (c : Chain) : Type 0 where
    pub block : Block
    pub others : Chain
    pub first-is : block_at s h maxima m n at ≡ ok block
    pub others-are : chain s h maxima m f (suc n) block.next ≡ ok others
    pub whole : c ≡ fronted at block others

  pub chain-parts : (f n at : ℕ) (c : Chain) → chain s h maxima m (suc f) n at ≡ ok c → Parts f n at c
  chain-parts f n at c e =
      let x = bind_is (block_at s h maxima m n at) (λ b. chain s h maxima m f (suc n) b.next >>= λ d. ok (fronted at b d)) (sym (chain-front f n at) ∙ e) in
      let y = bind_is (chain s h maxima m f (suc n) x.0.next) (λ d. ok (fronted at x.0 d)) x.2 in
      let z : ok (fronted at x.0 y.0) ≡ ok c = y.2 in
      record { block = x.0; others = y.0; first-is = x.1; others-are = y.1; whole = (cc) }

  pub chain-lengths : (f n at : ℕ) (c : Chain) → chain s h maxima m f n at ≡ ok c → (length c.starts ≡ f) × (length c.words ≡ f)
  chain-lengths zero n at c e =
      let z : ok (record { starts = []; words = []; end = at }) ≡ ok c = sym (chain-none n at) ∙ e in
      let y : record { starts = []; words = []; end = at } ≡ c = cc in
      rw (← y) (refl, refl)
  chain-lengths (suc f) n at c e =
      let p = chain-parts f n at c e in
      let i = chain-lengths f (suc n) p.block.next p.others p.others-are in
      rw p.whole (ap suc i.0, ap suc i.1)

  -- where block i begins; past the last block, the end
  abbrev pub start_of : Chain → ℕ → ℕ
  start_of c i = get_or c.starts i c.end

  pub chain_first : (f n at : ℕ) (c : Chain) → chain s h maxima m f n at ≡ ok c → start_of c 0 ≡ at
  chain_first zero n at c e =
      let z : ok (record { starts = []; words = []; end = at }) ≡ ok c = sym (chain-none n at) ∙ e in
      let y : record { starts = []; words = []; end = at } ≡ c = cc in
      rw (← y)
  chain_first (suc f) n at c e = rw (chain-parts f n at c e).whole

  pub chain-block : (f n at : ℕ) (c : Chain) (i : ℕ) → chain s h maxima m f n at ≡ ok c → i < f
      → block_at s h maxima m (n + i) (start_of c i) ≡ ok (record { words = get_or c.words i []; next = start_of c (suc i) })
  chain-block zero n at c i e l = absurd (not-suc-le-zero l)
  chain-block (suc f) n at c zero e l =
      let p = chain-parts f n at c e in
      let z = chain_first f (suc n) p.block.next p.others p.others-are in
      rw (p.whole, add-zero, z) p.first-is
  chain-block (suc f) n at c (suc i) e l =
      let p = chain-parts f n at c e in
      let d : suc n + i ≡ n + suc i = omega arith in
      rw p.whole (rw (d) at (chain-block f (suc n) p.block.next p.others i p.others-are (le_of_suc-le-suc l)))
