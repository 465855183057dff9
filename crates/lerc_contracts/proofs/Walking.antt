-- Upstream's `finish`, place by place: the general step law, over any places and indices that its values go through.
-- Assumes nothing.
use mathlib.Core.Path.{◌≡◌, refl, sym, ap, ◌∙◌}
use mathlib.Core.Bool.{Bool, true, false}
use mathlib.Core.List.{List}
use mathlib.Core.Logic.{inl, inr}
use mathlib.Core.Option.{Option, none}
use Prim.Native.Nat.{ℕ, zero, suc, ◌+◌, ◌*◌, ◌≤◌, ◌<◌}
use native.Mathlib.Omega.{arith}
use native.Mathlib.Nat.{mul_comm}
use native.Mathlib.Decide.{dec_lt}
use borrow.Author.Tests.{eq-eqb, ne_eqb}
use lib.ListN.{length, get_or, set}
use Rattle.lerc_header.specs.declared.Header.{Header}
use Rattle.lerc_header.specs.Header.{shape_of}
use Rattle.lerc_header.specs.Shape.{Shaped, cells, block_count}
use Rattle.lerc_mask.specs.Mask.{pixel_valid}
use Rattle.lerc_image.specs.declared.Tile.{Tile}
use Rattle.lerc_image.specs.Geometry.{tile_of, tile_size, pixel_of, cell_of, rank}
use Rattle.lerc_image.specs.Paint.{painted, index_of, word_of, scattered}
use Rattle.lerc_image.proofs.Partition.{cell-lt, cell-block, cell-place}
use Rattle.lerc_image.proofs.Painting.{painted-none, painted_same, painted-set}
use Rattle.lerc_image.proofs.Upto.{upto, upto_zero, upto_all, upto-adds, upto-other, upto-skips}
use Rattle.lerc_image.proofs.Cursors.{rank-zero, rank_mono, rank-more, tile-small}
use Rattle.lerc_contracts.specs.Block.{pixel, target, Mode, ResultModel, finished, finish}
use Rattle.lerc_contracts.specs.Between as between
use Rattle.lerc_contracts.specs.BlockClauses.{RunAll, RunNone, FinishCases}

-- 4.8
pub pixel-is : (h : Header) (t : Tile) (k : ℕ) → pixel t h k ≡ pixel_of (shape_of h) t k
unfolding pixel_of
pixel-is h t k = omega arith

-- 4.9
pub target_is : (h : Header) (n k : ℕ) → target (tile_of (shape_of h) n) h k ≡ cell_of (shape_of h) n k
target_is h n k = rw (pixel-is h (tile_of (shape_of h) n) k)

-- ---- one step of `finish`

module _ (s : List ℕ) (h : Header) (t : Tile) (m : Mode) (q mask : List ℕ) (maximum : ℕ) where
  -- 4.46, 4.47
  pub finish-done : (k at index : ℕ) (out : List ℕ) (fuel : ℕ) → k ≡ t.w * t.h → finish s h t m q mask maximum k at index out fuel ≡ finished m q at index out
  unfolding finish
  finish-done k at index out zero e = rw (eq-eqb k (t.w * t.h) e)
  finish-done k at index out (suc fuel) e = rw (eq-eqb k (t.w * t.h) e)

  pub finish-cases : FinishCases s h t m q mask maximum
  unfolding finish
  finish-cases = record {
    finish-done = finish-done;
    finish-out = λ k at index out d. rw (ne_eqb k (t.w * t.h) d);
    finish-skip = λ k at index out d fuel v. rw (ne_eqb k (t.w * t.h) d, v);
    finish-stop = λ k at index out d fuel v e. rw (ne_eqb k (t.w * t.h) d, v, e);
    finish-step = λ k at index out d fuel step v e. rw (ne_eqb k (t.w * t.h) d, v, e);
  }

-- ---- all steps

module _ (h : Header) (mask : List ℕ) (n : ℕ) (start : List ℕ) (g : Shaped (shape_of h)) (below : n < block_count (shape_of h)) (room : cells (shape_of h) ≤ length start) where
  -- the image once the first k places are done
  abbrev up_to : List ℕ → ℕ → List ℕ
  up_to words k = painted start (upto (shape_of h) mask n k) (word_of (shape_of h) mask (λ i. words))

  paint-none : (words : List ℕ) → start ≡ up_to words 0
  paint-none words = painted-none start _ (upto (shape_of h) mask n 0) (λ c r. upto_zero (shape_of h) mask n c)

  paint-all : (words : List ℕ) → up_to words (tile_size (tile_of (shape_of h) n)) ≡ scattered (shape_of h) mask n words start
  paint-all words = painted_same start _ _ _ (λ c r. upto_all (shape_of h) g mask n below c)

  module _ (words : List ℕ) (k : ℕ) (l : k < tile_size (tile_of (shape_of h) n)) where
    index_is : index_of (shape_of h) mask (cell_of (shape_of h) n k) ≡ rank (shape_of h) mask (tile_of (shape_of h) n) k
    unfolding index_of
    index_is = rw (cell-block (shape_of h) g n k below l, cell-place (shape_of h) g n k below l)

    paint-valid : pixel_valid mask (pixel_of (shape_of h) (tile_of (shape_of h) n) k) ≡ true
        → set (up_to words k) (cell_of (shape_of h) n k) (get_or words (rank (shape_of h) mask (tile_of (shape_of h) n) k) 0) ≡ up_to words (k + 1)
    paint-valid v =
        rw (← index_is)
        (painted-set start (word_of (shape_of h) mask (λ i. words)) (upto (shape_of h) mask n k) (upto (shape_of h) mask n (k + 1)) (cell_of (shape_of h) n k) (omega (arith, cell-lt (shape_of h) g n k below l, room))
        (upto-adds (shape_of h) g mask n below k l v) (upto-other (shape_of h) g mask n below k l))

    paint-skip : pixel_valid mask (pixel_of (shape_of h) (tile_of (shape_of h) n) k) ≡ false → up_to words k ≡ up_to words (k + 1)
    paint-skip v = painted_same start _ _ _ (λ c q. sym (upto-skips (shape_of h) g mask n below k l v c))

  module _ (s : List ℕ) (m : Mode) (q : List ℕ) (maximum : ℕ) (pos idx : ℕ → ℕ) where
    -- how many valid pixels the first k places have
    abbrev before : ℕ → ℕ
    before k = rank (shape_of h) mask (tile_of (shape_of h) n) k

    abbrev size : ℕ
    size = tile_size (tile_of (shape_of h) n)

    area : (tile_of (shape_of h) n).w * (tile_of (shape_of h) n).h ≡ tile_size (tile_of (shape_of h) n)
    area = mul_comm (tile_of (shape_of h) n).w (tile_of (shape_of h) n).h

    -- a step to the i-th word, which goes on behind it
    abbrev Goes : ℕ → ℕ → Type 0
    Goes = between.Goes s h m q maximum pos idx

    abbrev run : ℕ → List ℕ → ℕ → Option ResultModel
    run k out fuel = finish s h (tile_of (shape_of h) n) m q mask maximum k (pos (before k)) (idx (before k)) out fuel

    valid-step : (k : ℕ) → k < size → pixel_valid mask (pixel_of (shape_of h) (tile_of (shape_of h) n) k) ≡ true → (before (k + 1) ≡ before k + 1) × (before k < before size)
    valid-step k l v =
        let e = rank-more (shape_of h) mask (tile_of (shape_of h) n) k true v in
        let o = rank_mono (shape_of h) mask (tile_of (shape_of h) n) (k + 1) size (omega arith) in
        (e, omega arith)

    skip_step : (k : ℕ) → pixel_valid mask (pixel_of (shape_of h) (tile_of (shape_of h) n) k) ≡ false → before (k + 1) ≡ before k
    skip_step k v = let e = rank-more (shape_of h) mask (tile_of (shape_of h) n) k false v in omega arith

    -- all steps go
    module _ (words : List ℕ) (go : (i : ℕ) → i < before size → Goes i (get_or words i 0)) where
      ends : (fuel k : ℕ) → k ≡ size → run k (up_to words k) fuel ≡ finished m q (pos (before size)) (idx (before size)) (up_to words size)
      ends fuel k e = finish-done s h (tile_of (shape_of h) n) m q mask maximum k _ _ _ fuel (e ∙ sym area) ∙ rw (e)

      pub finish-all : (fuel k : ℕ) → k ≤ size → size ≤ k + fuel → run k (up_to words k) fuel ≡ finished m q (pos (before size)) (idx (before size)) (up_to words size)
      finish-all zero k l f = ends zero k (omega arith)
      finish-all (suc fuel) k l f = more (dec_lt k size) (finish-all fuel (k + 1))
        where
          more : Dec (k < size) → (k + 1 ≤ size → size ≤ k + 1 + fuel → run (k + 1) (up_to words (k + 1)) fuel ≡ finished m q (pos (before size)) (idx (before size)) (up_to words size))
              → run k (up_to words k) (suc fuel) ≡ finished m q (pos (before size)) (idx (before size)) (up_to words size)
          more (no o) rest = ends (suc fuel) k (omega arith)
          more (yes o) rest = look (pixel_valid mask (pixel_of (shape_of h) (tile_of (shape_of h) n) k)) refl
            where
              d : k ≡ (tile_of (shape_of h) n).w * (tile_of (shape_of h) n).h → ⊥
              d e = omega (arith, area)

              look : (b : Bool) → pixel_valid mask (pixel_of (shape_of h) (tile_of (shape_of h) n) k) ≡ b → run k (up_to words k) (suc fuel) ≡ finished m q (pos (before size)) (idx (before size)) (up_to words size)
              look true v =
                  let (e, b) = valid-step k o v in
                  (finish-cases s h (tile_of (shape_of h) n) m q mask maximum).finish-step k _ _ _ d fuel _ (rw (pixel-is h (tile_of (shape_of h) n) k) v) (go (before k) b)
                  ∙ rw (target_is h n k, paint-valid words k o v, ← e) (rest (omega arith) (omega arith))
              look false v =
                  (finish-cases s h (tile_of (shape_of h) n) m q mask maximum).finish-skip k _ _ _ d fuel (rw (pixel-is h (tile_of (shape_of h) n) k) v)
                  ∙ rw (paint-skip words k o v, ← skip_step k v) (rest (omega arith) (omega arith))

    -- a step that goes on behind it, or none
    abbrev Stepping : ℕ → Type 0
    Stepping = between.Stepping s h m q maximum pos idx

    -- a step to come is none, or the end is
    abbrev Stuck : ℕ → Type 0
    Stuck = between.Stuck s h m q maximum pos idx (before size)

    module _ (each : (i : ℕ) → i < before size → Stepping i) where
      none-ends : (fuel k : ℕ) (out : List ℕ) → k ≡ size → Stuck (before k) → run k out fuel ≡ none
      none-ends fuel k out e (inl (j, a, b, c)) = absurd (let f : before k ≡ before size = ap before e in omega arith)
      none-ends fuel k out e (inr f) = finish-done s h (tile_of (shape_of h) n) m q mask maximum k _ _ out fuel (e ∙ sym area) ∙ rw (e) (f out)

      -- a step that goes leaves the rest stuck
      still : (k : ℕ) → (before (k + 1) ≡ before k + 1) → (w : ℕ) → Goes (before k) w → Stuck (before k) → Stuck (before (k + 1))
      still k e w v (inr f) = inr f
      still k e w v (inl (j, a, b, c)) = later (dec_lt (before k) j)
        where
          later : Dec (before k < j) → Stuck (before (k + 1))
          later (yes o) = inl (j, omega arith, b, c)
          later (no o) = absurd (let i : before k ≡ j = omega arith in let x = rw (← i) at c in let z : ◌≡◌ {A = ℕ} 0 1 = cc in omega arith)

      apart : (k : ℕ) → k < size → k ≡ (tile_of (shape_of h) n).w * (tile_of (shape_of h) n).h → ⊥
      apart k o e = omega (arith, area)

      pub finish-none : (fuel k : ℕ) (out : List ℕ) → k ≤ size → Stuck (before k) → run k out fuel ≡ none
      finish-none zero k out l u = last (dec_lt k size)
        where
          last : Dec (k < size) → run k out zero ≡ none
          last (yes o) = (finish-cases s h (tile_of (shape_of h) n) m q mask maximum).finish-out k _ _ out (apart k o)
          last (no o) = none-ends zero k out (omega arith) u
      finish-none (suc fuel) k out l u = more (dec_lt k size) (finish-none fuel (k + 1))
        where
          more : Dec (k < size) → ((out : List ℕ) → k + 1 ≤ size → Stuck (before (k + 1)) → run (k + 1) out fuel ≡ none) → run k out (suc fuel) ≡ none
          more (no o) rest = none-ends (suc fuel) k out (omega arith) u
          more (yes o) rest = look (pixel_valid mask (pixel_of (shape_of h) (tile_of (shape_of h) n) k)) refl
            where
              took : pixel_valid mask (pixel_of (shape_of h) (tile_of (shape_of h) n) k) ≡ true → Stepping (before k) → run k out (suc fuel) ≡ none
              took v (inl e) = (finish-cases s h (tile_of (shape_of h) n) m q mask maximum).finish-stop k _ _ out (apart k o) fuel (rw (pixel-is h (tile_of (shape_of h) n) k) v) e
              took v (inr (w, e)) =
                  let (f, b) = valid-step k o v in
                  (finish-cases s h (tile_of (shape_of h) n) m q mask maximum).finish-step k _ _ out (apart k o) fuel _ (rw (pixel-is h (tile_of (shape_of h) n) k) v) e
                  ∙ rw (← f) (rest _ (omega arith) (still k f w e u))

              look : (b : Bool) → pixel_valid mask (pixel_of (shape_of h) (tile_of (shape_of h) n) k) ≡ b → run k out (suc fuel) ≡ none
              look true v = took v (each (before k) (valid-step k o v).1)
              look false v =
                  (finish-cases s h (tile_of (shape_of h) n) m q mask maximum).finish-skip k _ _ out (apart k o) fuel (rw (pixel-is h (tile_of (shape_of h) n) k) v)
                  ∙ rw (← skip_step k v) (rest out (omega arith) (rw (skip_step k v) u))

    -- ---- from the first place on

    module _ (first : pos 0 ≡ m.at) (none-used : idx 0 ≡ 0) where
      begins : (out : List ℕ) → finish s h (tile_of (shape_of h) n) m q mask maximum 0 m.at 0 out 256 ≡ run 0 out 256
      begins out = rw (rank-zero (shape_of h) mask (tile_of (shape_of h) n), first, none-used)

      pub run-all : RunAll h mask n start s m q maximum pos idx
      run-all words go = begins start ∙ ap (λ (o : List ℕ). run 0 o 256) (paint-none words) ∙ finish-all words go 256 0 (omega arith) (omega (arith, tile-small (shape_of h) g n)) ∙ rw (paint-all words)

      pub run_none : RunNone h mask n start s m q maximum pos idx
      run_none each u = begins start ∙ finish-none each 256 0 start (omega arith) (rw (rank-zero (shape_of h) mask (tile_of (shape_of h) n)) u)
