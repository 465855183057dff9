-- The numbers in turn: what is done, and what is left.
-- Assumes nothing.
use mathlib.Core.Path.{◌≡◌, ◌∙◌, sym, ap, refl}
use mathlib.Core.Bool.{Bool, true, false, cond}
use mathlib.Core.List.{List, [], ◌∷◌}
use Prim.Native.Nat.{ℕ, suc, ◌+◌, ◌≤◌, ◌<◌}
use native.Mathlib.Numerals.{add-one}
use native.Mathlib.Nat.{zero-add}
use native.Mathlib.Omega.{arith}
use lib.ListN.{length, get_or, drop}
use lib.Seq.{drop-cons, drop-length}
use Rattle.lerc_words.specs.Res.{Res, ok, fail, ◌>>=◌, after, accepts}
use Rattle.lerc_header.specs.declared.Header.{Header}
use Rattle.lerc_header.specs.Header.{shape_of}
use Rattle.lerc_ranges.specs.declared.Ranges.{Ranges}
use Rattle.lerc_block.specs.Block.{Block}
use Rattle.lerc_image.specs.Paint.{scattered}
use Rattle.lerc_image.specs.Fill.{fill_says, fill_count, fill_image, Filled}
use Rattle.lerc_image.proofs.Painting.{length-painted}
use Rattle.lerc_fills.specs.Each.{one, filled_of, fill_each, EachFilled}

pub one-le : {v : ℕ} (x : Bool) → v ≡ cond x 1 0 → v ≤ 1
one-le true e = omega (arith, e)
one-le false e = omega (arith, e)

module _ (b : List ℕ) (h : Header) (r : Ranges) (m list : List ℕ) where
  -- the image keeps its length
  pub length-fill : (n : ℕ) (image : List ℕ) → length (fill_image b h r m list n image) ≡ length image
  unfolding fill_image
  length-fill n image = go (fill_says b h r m list n (length image))
    where
      go : (x : Res Block) → length (after x image (λ k. scattered (shape_of h) m n k.words image)) ≡ length image
      go (ok k) = length-painted image _ _
      go (fail w) = refl

  pub length-each : (ns image : List ℕ) → length (fill_each b h r m list ns image) ≡ length image
  unfolding fill_each
  length-each [] image = refl
  length-each (n ∷ ns) image = length-each ns (fill_image b h r m list n image) ∙ length-fill n image

  -- a filled block is counted
  pub one-is : (n : ℕ) (image : List ℕ) {a : Res ℕ} {new : List ℕ} → Filled b h r m list n a image new → one b h r m list (length image) n ≡ cond (accepts a) 1 0
  one-is n image {a} f = sym (ap (λ (x : Res ℕ). cond (accepts x) 1 0) f.says ∙ go (fill_says b h r m list n (length image)))
    where
      go : (x : Res Block) → ◌≡◌ {A = ℕ} (cond (accepts (x >>= fill_count h m n)) 1 0) (cond (accepts x) 1 0)
      go (ok k) = refl
      go (fail w) = refl

  filled_more : (room n : ℕ) (ns : List ℕ) → filled_of b h r m list room (n ∷ ns) ≡ one b h r m list room n + filled_of b h r m list room ns
  unfolding filled_of
  filled_more room n ns = refl

  pub each_more : (n : ℕ) (ns image : List ℕ) → fill_each b h r m list (n ∷ ns) image ≡ fill_each b h r m list ns (fill_image b h r m list n image)
  unfolding fill_each
  each_more n ns image = refl

  -- the first k numbers are done
  pub record Turn (ns old image : List ℕ) (k filled : ℕ) : Type 0 where
    pub few : k ≤ length ns
    pub least : filled ≤ k
    pub long : length image ≡ length old
    pub count : filled_of b h r m list (length old) ns ≡ filled + filled_of b h r m list (length old) (drop k ns)
    pub rest : fill_each b h r m list ns old ≡ fill_each b h r m list (drop k ns) image

  pub turn-none : (ns image : List ℕ) → Turn ns image image 0 0
  turn-none ns image = record { few = omega arith; least = omega arith; long = refl; count = rw (zero-add); rest = refl }

  module _ {ns old image : List ℕ} {k filled : ℕ} (t : Turn ns old image k filled) where
    pub turn-next : {a : Res ℕ} {new : List ℕ} {v : ℕ} → k < length ns → Filled b h r m list (get_or ns k 0) a image new → v ≡ cond (accepts a) 1 0
        → Turn ns old new (k + 1) (filled + v)
    turn-next {a} {new} {v} l f e =
        let cons = drop-cons ns k 0 l in
        let o : one b h r m list (length old) (get_or ns k 0) ≡ v = rw (← t.long) (one-is (get_or ns k 0) image f ∙ sym e) in
        let p = one-le (accepts a) e in
        let q : filled_of b h r m list (length old) (drop k ns) ≡ v + filled_of b h r m list (length old) (drop (suc k) ns) =
        rw (cons, filled_more, o) in
        record {
          few = omega arith;
          least = omega (arith, t.least, p);
          long = rw f.image (length-fill (get_or ns k 0) image ∙ t.long);
          count = rw (add-one) (omega (arith, t.count, q));
          rest = rw (add-one) (t.rest ∙ rw (cons, each_more, f.image));
        }

    pub turn-all : length ns ≤ k → EachFilled b h r m list ns filled old image
    unfolding filled_of fill_each
    turn-all l =
        let e : k ≡ length ns = omega (arith, t.few) in
        let d : drop k ns ≡ [] = rw (e) (drop-length ns) in
        let c = rw (d) at t.count in
        record { says = omega (arith, c); image = sym (rw (d) at t.rest) }
