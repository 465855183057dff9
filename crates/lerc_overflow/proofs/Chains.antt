-- Blocks one after the other over both sums: where they begin and end, and where a word differs.
-- Assumes nothing.
use mathlib.Core.Path.{◌≡◌, refl, sym, ap, ◌∙◌}
use mathlib.Core.Logic.{◌≢◌}
use mathlib.Core.List.{List, [], ◌∷◌}
use Prim.Native.Nat.{ℕ, zero, suc, ◌+◌, ◌<◌}
use native.Mathlib.Nat.{add-zero}
use native.Mathlib.Omega.{arith}
use lib.ListN.{get_or}
use Rattle.lerc_words.specs.Res.{Res, ok, fail, ◌>>=◌, marked}
use Rattle.lerc_words.proofs.Binding.{bind_is, bind-fail, ok-is}
use Rattle.lerc_words.proofs.Marking.{marked-tells}
use Rattle.lerc_numeric.specs.Numeric.{counted_sum}
use Rattle.lerc_header.specs.declared.Header.{Header}
use Rattle.lerc_header.specs.Header.{shape_of}
use Rattle.lerc_block.specs.Block.{Block, block_says, next_block}
use Rattle.lerc_image.specs.Geometry.{tile_of, valid_in_tile}
use Rattle.lerc_image.specs.Blocks.{block_at, Chain, chain}
use Rattle.lerc_image.proofs.Chain.{fronted, chain-none, chain-front, chain-parts, chain-lengths}
use Rattle.lerc_overflow.specs.By.{Adding, block_by, block_at_by, chain_by}
use Rattle.lerc_overflow.specs.Changes.{Calm, AllCalm}
use Rattle.lerc_overflow.proofs.Blocks.{block-next, block-kind, block-calm}

-- where the blocks begin, and where the last ends
pub record Ends : Type 0 where
  pub starts : List ℕ
  pub end : ℕ

abbrev pub ends : Chain → Res Ends
ends c = ok (record { starts = c.starts; end = c.end })

-- ---- the chain over `counted_sum`, block by block

module _ (s : List ℕ) (h : Header) (maxima m : List ℕ) where
  pub counted_none : (n at : ℕ) → chain_by counted_sum s h maxima m zero n at ≡ ok (record { starts = []; words = []; end = at })
  unfolding chain_by
  counted_none n at = refl

  pub counted-front : (f n at : ℕ) → chain_by counted_sum s h maxima m (suc f) n at ≡ (block_at_by counted_sum s h maxima m n at >>= λ b. chain_by counted_sum s h maxima m f (suc n) b.next >>= λ c. ok (fronted at b c))
  unfolding chain_by
  counted-front f n at = refl

  pub at_next : (n at : ℕ) → next_block (block_at_by counted_sum s h maxima m n at) ≡ next_block (block_at s h maxima m n at)
  unfolding block_at_by block_at
  at_next n at =
      let t = tile_of (shape_of h) n in
      let top = get_or maxima t.d 0 in
      let v = valid_in_tile (shape_of h) m t in
      sym (marked-tells at (block_by counted_sum s at h.kind h.error top t.x v) (λ b. b.next))
      ∙ ap (marked at) (block-next s at h.kind h.error top t.x v)
      ∙ marked-tells at (block_says s at h.kind h.error top t.x v) (λ b. b.next)

  pub at-kind : h.kind < 7 → (n at : ℕ) → block_at_by counted_sum s h maxima m n at ≡ block_at s h maxima m n at
  unfolding block_at_by block_at
  at-kind l n at = let t = tile_of (shape_of h) n in ap (marked at) (block-kind s at h.kind h.error (get_or maxima t.d 0) t.x (valid_in_tile (shape_of h) m t) l)

  pub at-calm : (n at : ℕ) → Calm s at h.kind h.error → block_at_by counted_sum s h maxima m n at ≡ block_at s h maxima m n at
  unfolding block_at_by block_at
  at-calm n at calm = let t = tile_of (shape_of h) n in ap (marked at) (block-calm s at h.kind h.error (get_or maxima t.d 0) t.x (valid_in_tile (shape_of h) m t) calm)

  -- ---- the same starts and end

  pub chain-ends : (f n at : ℕ) → (chain_by counted_sum s h maxima m f n at >>= ends) ≡ (chain s h maxima m f n at >>= ends)
  chain-ends zero n at = rw (counted_none n at, chain-none s h maxima m n at)
  chain-ends (suc f) n at =
      rw (counted-front f n at, chain-front s h maxima m f n at)
      (go (block_at_by counted_sum s h maxima m n at) (block_at s h maxima m n at) (at_next n at) (λ to. chain-ends f (suc n) to))
    where
      front : (a b : Block) (x y : Res Chain) → (x >>= ends) ≡ (y >>= ends) → ((x >>= λ c. ok (fronted at a c)) >>= ends) ≡ ((y >>= λ c. ok (fronted at b c)) >>= ends)
      front a b (ok c) (ok d) e =
          let z : ◌≡◌ {A = Ends} (record { starts = c.starts; end = c.end }) (record { starts = d.starts; end = d.end }) = ok-is e in
          ap (λ (k : Ends). ok (record { starts = at ∷ k.starts; end = k.end })) z
      front a b (fail r) (fail q) e = cc
      front a b (ok c) (fail q) e = absurd (let z : ◌≡◌ {A = ℕ} 0 1 = cc in omega arith)
      front a b (fail r) (ok d) e = absurd (let z : ◌≡◌ {A = ℕ} 0 1 = cc in omega arith)

      go : (x y : Res Block) → next_block x ≡ next_block y → ((to : ℕ) → (chain_by counted_sum s h maxima m f (suc n) to >>= ends) ≡ (chain s h maxima m f (suc n) to >>= ends))
          → ((x >>= λ b. chain_by counted_sum s h maxima m f (suc n) b.next >>= λ c. ok (fronted at b c)) >>= ends)
          ≡ ((y >>= λ b. chain s h maxima m f (suc n) b.next >>= λ c. ok (fronted at b c)) >>= ends)
      go (ok a) (ok b) e i =
          let z : a.next ≡ b.next = ok-is e in
          front a b (chain_by counted_sum s h maxima m f (suc n) a.next) (chain s h maxima m f (suc n) b.next) (rw (z) (i b.next))
      go (fail r) (fail q) e i = cc
      go (ok a) (fail q) e i = absurd (let z : ◌≡◌ {A = ℕ} 0 1 = cc in omega arith)
      go (fail r) (ok b) e i = absurd (let z : ◌≡◌ {A = ℕ} 0 1 = cc in omega arith)

  -- ---- where nothing changes

  pub chain-kind : h.kind < 7 → (f n at : ℕ) → chain_by counted_sum s h maxima m f n at ≡ chain s h maxima m f n at
  chain-kind l zero n at = counted_none n at ∙ sym (chain-none s h maxima m n at)
  chain-kind l (suc f) n at = rw (counted-front f n at, chain-front s h maxima m f n at, at-kind l n at) (go (block_at s h maxima m n at) (λ to. chain-kind l f (suc n) to))
    where
      go : (x : Res Block) → ((to : ℕ) → chain_by counted_sum s h maxima m f (suc n) to ≡ chain s h maxima m f (suc n) to)
          → (x >>= λ b. chain_by counted_sum s h maxima m f (suc n) b.next >>= λ c. ok (fronted at b c)) ≡ (x >>= λ b. chain s h maxima m f (suc n) b.next >>= λ c. ok (fronted at b c))
      go (ok b) i = rw (i b.next)
      go (fail r) i = refl

  pub chain-calm : (f n at : ℕ) (c : Chain) → chain s h maxima m f n at ≡ ok c → ((i : ℕ) → i < f → Calm s (get_or c.starts i 0) h.kind h.error) → chain_by counted_sum s h maxima m f n at ≡ ok c
  chain-calm zero n at c e calm = counted_none n at ∙ sym (chain-none s h maxima m n at) ∙ e
  chain-calm (suc f) n at c e calm =
      let p = chain-parts s h maxima m f n at c e in
      let first : block_at_by counted_sum s h maxima m n at ≡ ok p.block = at-calm n at (rw p.whole at (calm 0 (omega arith))) ∙ p.first-is in
      let others : chain_by counted_sum s h maxima m f (suc n) p.block.next ≡ ok p.others =
      chain-calm f (suc n) p.block.next p.others p.others-are (λ i l. rw p.whole at (calm (suc i) (omega arith))) in
      counted-front f n at ∙ rw (first, others) (ap ok (sym p.whole))

  -- where the blocks of an accepted chain are calm; of a refused one nothing is asked
  pub chain-still : (f n at : ℕ) → ((c : Chain) → chain s h maxima m f n at ≡ ok c → AllCalm s h c.starts) → chain_by counted_sum s h maxima m f n at ≡ chain s h maxima m f n at
  chain-still f n at calm = go (chain s h maxima m f n at) refl
    where
      go : (x : Res Chain) → chain s h maxima m f n at ≡ x → chain_by counted_sum s h maxima m f n at ≡ x
      go (ok c) e = chain-calm f n at c e (λ i l. calm c e i (rw (chain-lengths s h maxima m f n at c e).0 l))
      go (fail r) e = bind-fail (chain_by counted_sum s h maxima m f n at) _ (chain-ends f n at ∙ rw (e))

  -- ---- where a word differs

  -- block j of a chain that begins with block n, at its start
  pub record Differs (f n : ℕ) (d : Chain) (j i : ℕ) : Type 0 where
    pub below : j < f
    pub old : Block
    pub new : Block
    pub old-is : block_at_by counted_sum s h maxima m (n + j) (get_or d.starts j 0) ≡ ok old
    pub new_is : block_at s h maxima m (n + j) (get_or d.starts j 0) ≡ ok new
    pub differ : get_or old.words i 0 ≢ get_or new.words i 0
    pub here : get_or (get_or d.words j []) i 0 ≡ get_or new.words i 0

  pub chain-word : (f n at : ℕ) (c d : Chain) → chain_by counted_sum s h maxima m f n at ≡ ok c → chain s h maxima m f n at ≡ ok d
      → (j i : ℕ) → get_or (get_or c.words j []) i 0 ≢ get_or (get_or d.words j []) i 0 → Differs f n d j i
  chain-word zero n at c d e k j i w =
      let z : c ≡ d = ok-is (sym e ∙ counted_none n at ∙ sym (chain-none s h maxima m n at) ∙ k) in
      absurd (w (ap (λ (x : Chain). get_or (get_or x.words j []) i 0) z))
  chain-word (suc f) n at c d e k j i w =
      let x = bind_is (block_at_by counted_sum s h maxima m n at) (λ b. chain_by counted_sum s h maxima m f (suc n) b.next >>= λ c. ok (fronted at b c)) (sym (counted-front f n at) ∙ e) in
      let y = bind_is (chain_by counted_sum s h maxima m f (suc n) x.0.next) (λ c. ok (fronted at x.0 c)) x.2 in
      let p = chain-parts s h maxima m f n at d k in
      let whole : fronted at x.0 y.0 ≡ c = ok-is y.2 in
      let to : x.0.next ≡ p.block.next = ok-is (sym (ap next_block x.1) ∙ at_next n at ∙ ap next_block p.first-is) in
      go (λ b c' d' ec ed j v. chain-word f (suc n) b.next c' d' ec ed j i v) j x.0 p.block y.0 p.others x.1 p.first-is (rw (← to) y.1) p.others-are (rw (← whole, p.whole) at w) p.whole
    where
      go : ((b : Block) (c' d' : Chain) → chain_by counted_sum s h maxima m f (suc n) b.next ≡ ok c' → chain s h maxima m f (suc n) b.next ≡ ok d'
          → (j : ℕ) → get_or (get_or c'.words j []) i 0 ≢ get_or (get_or d'.words j []) i 0 → Differs f (suc n) d' j i)
          → (j : ℕ) (a b : Block) (c' d' : Chain) → block_at_by counted_sum s h maxima m n at ≡ ok a → block_at s h maxima m n at ≡ ok b
          → chain_by counted_sum s h maxima m f (suc n) b.next ≡ ok c' → chain s h maxima m f (suc n) b.next ≡ ok d'
          → get_or (get_or (a.words ∷ c'.words) j []) i 0 ≢ get_or (get_or (b.words ∷ d'.words) j []) i 0 → d ≡ fronted at b d' → Differs (suc f) n d j i
      go later zero a b c' d' ea eb ec ed v z = rw (z) (record { below = omega arith; old = a; new = b; old-is = rw (add-zero n) ea; new_is = rw (add-zero n) eb; differ = v; here = refl })
      go later (suc j) a b c' d' ea eb ec ed v z =
          let r = later b c' d' ec ed j v in
          let u : suc n + j ≡ n + suc j = omega arith in
          rw (z) (record { below = omega (arith, r.below); old = r.old; new = r.new; old-is = rw (← u) r.old-is; new_is = rw (← u) r.new_is; differ = r.differ; here = r.here })

  -- ---- what each block of a chain is, over any sum

  pub record ByBlock (add : Adding) (n : ℕ) (c : Chain) (j : ℕ) : Type 0 where
    pub block : Block
    pub is : block_at_by add s h maxima m (n + j) (get_or c.starts j 0) ≡ ok block
    pub words : get_or c.words j [] ≡ block.words

  pub by-block : (add : Adding) (f n at : ℕ) (c : Chain) → chain_by add s h maxima m f n at ≡ ok c → (j : ℕ) → j < f → ByBlock add n c j
  unfolding chain_by
  by-block add zero n at c e j l = absurd (omega arith)
  by-block add (suc f) n at c e j l =
      let (a, ea, e) = bind_is (block_at_by add s h maxima m n at) _ e in
      let (d, ed, e) = bind_is (chain_by add s h maxima m f (suc n) a.next) _ e in
      let z : fronted at a d ≡ c = ok-is e in
      rw (← z) (go j l a d ea (λ k b. by-block add f (suc n) a.next d ed k b))
    where
      go : (j : ℕ) → j < suc f → (a : Block) (d : Chain) → block_at_by add s h maxima m n at ≡ ok a → ((k : ℕ) → k < f → ByBlock add (suc n) d k) → ByBlock add n (fronted at a d) j
      go zero l a d ea later = record { block = a; is = rw (add-zero n) ea; words = refl }
      go (suc j) l a d ea later =
          let r = later j (omega arith) in
          let u : suc n + j ≡ n + suc j = omega arith in
          record { block = r.block; is = rw (← u) r.is; words = r.words }
