-- The claims.
-- Assumes nothing.
use mathlib.Core.Path.{◌≡◌, ◌∙◌, sym, ap, refl}
use mathlib.Core.Bool.{Bool}
use mathlib.Core.List.{List}
use Prim.Native.Nat.{ℕ}
use lib.ListN.{length}
use Rattle.lerc_words.specs.Res.{Res, ok, fail, ◌>>=◌, marked, after}
use Rattle.lerc_words.specs.Lists.{over}
use Rattle.lerc_words.proofs.Marking.{Bare, marked-ok, marked-is, marked-accepts, marked-after}
use Rattle.lerc_header.specs.declared.Header.{Header}
use Rattle.lerc_header.specs.Header.{shape_of}
use Rattle.lerc_validity.specs.Validity as mask
use Rattle.lerc_validity.specs.Validity.{MaskInForce, which, spare_with, find_says, prepare_says, Prepared, MaskTold}
use Rattle.lerc_ranges.specs.declared.Ranges.{Ranges}
use Rattle.lerc_ranges.specs.Ranges.{ranges_in_says, read_ranges_says}
use Rattle.lerc_block.specs.Block.{Block}
use Rattle.lerc_image.specs.Blocks.{Chain}
use Rattle.lerc_image.specs.Paint.{scattered}
use Rattle.lerc_image.specs.Walk.{walk_count, walk_says, walk_list, Walk}
use Rattle.lerc_image.specs.Fill.{fill_count, fill_says, fill_image}
use Rattle.lerc.specs.Meaning.{Meaning}
use Rattle.lerc.specs.Read.{Lent, Masked, masked, read_says, refused_after, read_after, read_count, ReadTold}
use Rattle.lerc_theorems.specs.Calls.{HeaderCall, WalkCall, FillCall, ReadCall}
use Rattle.lerc_theorems.proofs.Calls.{promise, header-call, prepare-call, ranges-call, walk_call, fill-call, read-call}
use Rattle.lerc_places.specs.Without.{walk_plain, fill_plain, masked_plain, read_plain}
use Rattle.lerc_places.specs.Unplaced.{number_of, OnlyPlaces, FindCall, RangesInCall, HeaderAsPlain, MaskAsPlain, RangesAsPlain, WalkAsPlain, FillAsPlain, ReadAsPlain, Unplaced}
use Rattle.lerc_places.proofs.Bare.{header-bare}
use Rattle.lerc_places.proofs.Plain.{ranges-in-plain, read-ranges-plain, find-plain, prepare-plain, walk-plain, fill-plain, meaning-plain, masked_plain_lem, read_plain_lem}

-- ---- any answer

only-places : (A : Type 0) → OnlyPlaces A
only-places A = record {
  accepted = marked-accepts;
  value = λ p m a. (marked-is p m, marked-ok p);
  number = number;
  left = marked-after;
}
  where
    number : (p : ℕ) (m : Res A) → number_of (marked p m) ≡ number_of m
    number p (ok a) = refl
    number p (fail r) = refl

-- ---- what the promises of `find_mask` and `ranges_in` say

find-call : {s : List ℕ} {h : Header} {reuse : Bool} {kept : List ℕ} {r : Res MaskTold} {old new : List ℕ} → FindCall s h reuse kept r old new → Prepared (find_says s h reuse kept (length old)) r old new
find-call = promise (λ g r x. Prepared (find_says g.0 g.1 g.2 g.3 (length g.4)) r g.4 x) (λ k a r x p. p)

ranges-in-call : {s : List ℕ} {h : Header} {r : Res Ranges} → RangesInCall s h r → r ≡ (ranges_in_says s h)
ranges-in-call = promise (λ g r x. r ≡ (ranges_in_says g.0 g.1)) (λ k a r x p. p)

-- ---- an answer, its place taken off, and what is left

module _ {A : Type 0} (m : Res A) {n : Res A} (e : marked 0 m ≡ n) where
  told : {B : Type 0} {said : Res B} (f : A → Res B) → ((a : A) → Bare (f a)) → said ≡ (m >>= f) → marked 0 said ≡ (n >>= f)
  told f bare d = rw (d, ← e) (go m)
    where
      go : (m : Res A) → marked 0 (m >>= f) ≡ (marked 0 m >>= f)
      go (ok a) = bare a
      go (fail r) = refl

  left : (old : List ℕ) (new : A → List ℕ) → after m old new ≡ after n old new
  left old new = rw (← e) (sym (marked-after 0 m old new))

which-bare : (f : MaskInForce) → Bare (which f)
which-bare (mask.reused m) = refl
which-bare (mask.new m) = refl

mask-as-plain : (m : Res MaskInForce) {n : Res MaskInForce} → marked 0 m ≡ n → {r : Res MaskTold} {old spare : List ℕ} → Prepared m r old spare → MaskAsPlain n r old spare
mask-as-plain m e {old = old} p = (told m e which which-bare p.says, p.spare ∙ left m e old (λ f. spare_with f old))

ranges-as-plain : (m : Res Ranges) {n : Res Ranges} → marked 0 m ≡ n → {r : Res Ranges} → r ≡ m → RangesAsPlain n r
ranges-as-plain m e d = ap (marked 0) d ∙ e

-- every slice is left by what was accepted, and by no place
after-unplaced : (m : Res Meaning) (k : Res Masked) (l : Lent) → read_after m k l ≡ read_after (marked 0 m) (marked 0 k) l
unfolding refused_after
after-unplaced (ok m) k l = refl
after-unplaced (fail r) (ok k) l = refl
after-unplaced (fail r) (fail q) l = refl

-- ---- the operations

read-header : (b : List ℕ) (r : Res Header) → HeaderCall b r → HeaderAsPlain b r
read-header b r c = rw (header-call c) (header-bare b)

walk : (b : List ℕ) (h : Header) (g : Ranges) (m : List ℕ) (r : Res Walk) (old new : List ℕ) → WalkCall b h g m r old new → WalkAsPlain h (walk_plain b h g m (length old)) r old new
unfolding walk_list
walk b h g m r old new call =
    let e = walk-plain b h g m (length old) in
    let c = walk_says b h g m (length old) in
    (told c e (walk_count h) (λ _. refl) (walk_call call).says, (walk_call call).list ∙ left c e old (λ k. over k.starts old))

fill : (b : List ℕ) (h : Header) (g : Ranges) (m list : List ℕ) (n : ℕ) (r : Res ℕ) (old new : List ℕ) → FillCall b h g m list n r old new → FillAsPlain h m n (fill_plain b h g m list n (length old)) r old new
unfolding fill_image
fill b h g m list n r old new call =
    let e = fill-plain b h g m list n (length old) in
    let k = fill_says b h g m list n (length old) in
    (told k e (fill_count h m n) (λ _. refl) (fill-call call).says, (fill-call call).image ∙ left k e old (λ k. scattered (shape_of h) m n k.words old))

read : (b : List ℕ) (reuse : Bool) (r : Res ReadTold) (old new : Lent) → ReadCall b reuse r old new → ReadAsPlain (read_plain b reuse old) (masked_plain b reuse old) r old new
read b reuse r old new call =
    let e = read_plain_lem b reuse old in (
      told (read_says b reuse old) e read_count (λ _. refl) (read-call call).says,
      (read-call call).lent ∙ after-unplaced (read_says b reuse old) (masked b reuse old) old ∙ rw (e, masked_plain_lem b reuse old),
    )

pub unplaced : Unplaced
unplaced = record {
  any-answer = record { header = only-places Header; mask = only-places MaskInForce; ranges = only-places Ranges; chain = only-places Chain; block = only-places Block; meaning = only-places Meaning };
  read-header = read-header;
  prepare-mask = λ b h reuse kept r old new c. mask-as-plain (prepare_says b h reuse kept (length old)) (prepare-plain b h reuse kept (length old)) (prepare-call c);
  find-mask = λ s h reuse kept r old new c. mask-as-plain (find_says s h reuse kept (length old)) (find-plain s h reuse kept (length old)) (find-call c);
  read-ranges = λ b h r c. ranges-as-plain (read_ranges_says b h) (read-ranges-plain b h) (ranges-call c);
  ranges_in = λ s h r c. ranges-as-plain (ranges_in_says s h) (ranges-in-plain s h) (ranges-in-call c);
  walk = walk;
  fill = fill;
  read = read;
  meaning = meaning-plain;
}
