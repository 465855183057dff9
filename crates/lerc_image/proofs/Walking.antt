-- What a pass that judges every block has done before block n: all blocks below it are accepted, and it begins at `next`.
-- Assumes nothing.
use mathlib.Core.Path.{◌≡◌, refl}
use mathlib.Core.List.{List, []}
use Prim.Native.Nat.{ℕ, suc, ◌+◌, ◌-◌, ◌≤◌, ◌<◌}
use native.Mathlib.Numerals.{add-one}
use native.Mathlib.Omega.{arith}
use Rattle.lerc_words.specs.declared.Refusal.{Refusal}
use Rattle.lerc_words.specs.Res.{Res, ok, fail}
use Rattle.lerc_header.specs.declared.Header.{Header}
use Rattle.lerc_header.specs.declared.Extent.{Extent}
use Rattle.lerc_block.specs.Block.{Block, next_block}
use Rattle.lerc_image.specs.declared.Position.{Position}
use Rattle.lerc_image.specs.Geometry.{next_of}
use Rattle.lerc_image.specs.Blocks.{block_at, Chain, chain, all_blocks}
use Rattle.lerc_image.specs.Walk.{Walk, walk_of}
use Rattle.lerc_image.specs.Parts.{BodyAsked}
use Rattle.lerc_image.proofs.Standing.{count-is, Standing, standing-none, standing-next}
use Rattle.lerc_image.proofs.Reading.{said-accepted}
use Rattle.lerc_image.proofs.Chain.{longer, chain-none, chain-on, chain-ends, chain-stops}

pub record Walking (s : List ℕ) (h : Header) (maxima m : List ℕ) (at : ℕ) (e : Extent) (p : Position) (n next : ℕ) : Type 0 where
  pub stands : Standing h e p n
  pub done : Chain
  pub is : chain s h maxima m n 0 at ≡ ok done
  pub end : done.end ≡ next

pub walking-none : (s : List ℕ) {h : Header} (maxima m : List ℕ) (at : ℕ) {e : Extent} → BodyAsked h e → Walking s h maxima m at e (record { x = 0; y = 0; d = 0 }) 0 at
walking-none s {h} maxima m at a =
    record { stands = standing-none a; done = record { starts = []; words = []; end = at }; is = chain-none s h maxima m 0 at; end = refl }

module _ {s : List ℕ} {h : Header} {maxima m : List ℕ} {at : ℕ} {e : Extent} {p : Position} {n next : ℕ} (w : Walking s h maxima m at e p n next) where
  pub walking-all : e.blocks ≤ n → ◌≡◌ {A = Res Walk} (ok (record { blocks = e.blocks; end = next })) (walk_of h (all_blocks s h maxima m at))
  walking-all l =
      let z : e.blocks ≡ n = omega (arith, w.stands.few) in
      let all : all_blocks s h maxima m at ≡ ok w.done = rw (← count-is w.stands.asked, z) w.is in
      rw (all, count-is w.stands.asked, w.end)

  module _ (l : n < e.blocks) where
    -- it is refused, and so are all
    pub walking-no : {why : Refusal} → block_at s h maxima m n next ≡ fail why → fail why ≡ walk_of h (all_blocks s h maxima m at)
    walking-no {why} q =
        let z : e.blocks - suc n + suc n ≡ e.blocks = omega arith in
        let no = chain-stops s h maxima m (e.blocks - suc n) (suc n) at why (chain-ends s h maxima m n at w.done why w.is (rw w.end q)) in
        let all : all_blocks s h maxima m at ≡ fail why = rw (← count-is w.stands.asked) (rw (z) at no) in
        rw (all)

    walking_on : (b : Block) → block_at s h maxima m n next ≡ ok b → {to : ℕ} → b.next ≡ to → Walking s h maxima m at e (next_of e.shape p) (n + 1) to
    walking_on b q z =
        record { stands = standing-next w.stands l; done = longer w.done b; is = rw (add-one) (chain-on s h maxima m n at w.done b w.is (rw w.end q)); end = z }

    -- it is accepted
    pub walking-next : {got : Res ℕ} {to : ℕ} → got ≡ next_block (block_at s h maxima m n next) → got ≡ ok to
        → Walking s h maxima m at e (next_of e.shape p) (n + 1) to
    walking-next r q = let (b, f, z) = said-accepted r q in walking_on b f z
