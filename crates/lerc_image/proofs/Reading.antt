-- A block that was read, put into the image.
-- Assumes nothing.
use mathlib.Core.Path.{◌≡◌, ◌∙◌, sym, ap}
use mathlib.Core.List.{List}
use Prim.Native.Nat.{ℕ, ◌≤◌, ◌<◌}
use lib.ListN.{length, drop}
use borrow.Author.Tests.{le-leb}
use Rattle.lerc_words.specs.declared.Refusal.{Refusal}
use Rattle.lerc_words.specs.Res.{Res, ok, fail}
use Rattle.lerc_words.specs.Lists.{over}
use Rattle.lerc_words.proofs.Binding.{bind_is, bind-fail}
use Rattle.lerc_header.specs.declared.Shape.{Shape}
use Rattle.lerc_header.specs.Shape.{Shaped, block_count}
use Rattle.lerc_block.specs.Block.{Block, tile_limit, block_says, read_block_says, next_block, BlockRead}
use Rattle.lerc_image.specs.Geometry.{tile_of, valid_in_tile}
use Rattle.lerc_image.specs.Paint.{scattered}
use Rattle.lerc_image.specs.Parts.{BlockPut, BlockFilled}
use Rattle.lerc_image.proofs.Front.{scattered-front}

-- with at most 256 pixels reading a block is the block
pub read-block : (s : List ℕ) (at kind error top x n : ℕ) → n ≤ tile_limit → read_block_says s at kind error top x n ≡ block_says s at kind error top x n
unfolding read_block_says
read-block s at kind error top x n l = rw (le-leb n tile_limit l)

module _ {b : Res Block} {got : Res ℕ} (e : got ≡ next_block b) where
  pub said-refused : {why : Refusal} → got ≡ fail why → b ≡ fail why
  said-refused q = bind-fail b (λ k. k.next) (sym e ∙ q)

  pub said-accepted : {next : ℕ} → got ≡ ok next → (k : Block) × (b ≡ ok k) × (k.next ≡ next)
  said-accepted q =
      let (k, p, t) = bind_is b _ (sym e ∙ q) in
      (k, p, cc)

module _ {b : Res Block} {got : Res ℕ} {old new : List ℕ} (e : BlockRead b got old new) where
  -- what was read, and the array that holds it
  pub read-accepted : {next : ℕ} → got ≡ ok next → (k : Block) × (b ≡ ok k) × (new ≡ over k.words old)
  read-accepted q =
      let (k, p, _) = said-accepted e.says q in
      (k, p, rw (p) at e.words)

  pub put_refused : (h : Shape) (m : List ℕ) (n : ℕ) {why : Refusal} {image : List ℕ} → got ≡ fail why → BlockPut h m n b got image image
  put_refused h m n {why} q = let r : b ≡ fail why = said-refused e.says q in record { says = e.says; image = rw (r) }

  pub put-accepted : (h : Shape) → Shaped h → (m : List ℕ) (n : ℕ) → n < block_count h → {next : ℕ} {image result : List ℕ}
      → got ≡ ok next → ((k : Block) → b ≡ ok k → length k.words ≡ valid_in_tile h m (tile_of h n)) → result ≡ scattered h m n new image
      → BlockPut h m n b (ok next) image result
  put-accepted h s m n l {image = image} q f w =
      let (k, p, is) = read-accepted q in
      record {
        says = sym q ∙ e.says;
        image = rw (p) (w ∙ ap (λ (x : List ℕ). scattered h m n x image) is ∙ scattered-front h s m n l k.words (drop (length k.words) old) image (f k p));
      }

-- a block that was put, told by how many words it has
module _ {h : Shape} {m : List ℕ} {n : ℕ} {b : Res Block} {got : Res ℕ} {old new : List ℕ} (e : BlockPut h m n b got old new) where
  pub filled-refused : {why : Refusal} → got ≡ fail why → BlockFilled h m n b (fail why) old new
  filled-refused {why} q = let r : b ≡ fail why = said-refused e.says q in record { says = rw (r); image = e.image }

  pub filled-accepted : {next r : ℕ} → got ≡ ok next → r ≡ valid_in_tile h m (tile_of h n) → BlockFilled h m n b (ok r) old new
  filled-accepted q v =
      let (k, p, _) = said-accepted {b = b} e.says q in
      record { says = rw (p) (ap ok v); image = e.image }
