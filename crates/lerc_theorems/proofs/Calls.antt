-- What a call's promise says of it.
-- Assumes nothing.
use mathlib.Core.Path.{◌≡◌, ◌∙◌, sym, ap, refl, subst}
use mathlib.Core.Bool.{Bool}
use mathlib.Core.List.{List}
use Prim.Native.Nat.{ℕ}
use lib.ListN.{length, take}
use Rattle.lerc_words.specs.Res.{Res, ok}
use Rattle.lerc_header.specs.declared.Header.{Header}
use Rattle.lerc_header.specs.Header.{header_says, held, extent_of}
use Rattle.lerc_ranges.specs.declared.Ranges.{Ranges}
use Rattle.lerc_validity.specs.Validity.{prepare_says, Prepared, in_force, MaskTold}
use Rattle.lerc_ranges.specs.Ranges.{ranges_says, read_ranges_says}
use Rattle.lerc_image.specs.Walk.{BlocksWalked, Walk}
use Rattle.lerc_image.specs.Fill.{Filled}
use Rattle.lerc_image.specs.Tiles.{tiles_says, Tiled}
use Rattle.lerc_fills.specs.Each.{fill_each, EachFilled}
use Rattle.lerc.specs.Read.{Lent, WholeRead, ReadTold}
use Rattle.lerc_theorems.specs.Calls.{Call, HeaderCall, PrepareCall, HandedCall, RangesCall, ReadRanges, WalkCall, FillCall, FillCalls, none, more, EachCall, TilesCall, ReadCall}

-- what a promise says of what the inputs hold, of the answer as told and of what the outputs hold
pub promise : {K A R O S B T : Type 0} {Post : K → A → R → O → Type 0} {gave : A → S} {told : R → B} {left : O → T} {given : S} {said : B} {after : T} (P : S → B → T → Type 0)
    → ((k : K) (a : A) (r : R) (x : O) → Post k a r x → P (gave a) (told r) (left x)) → Call Post gave told left given said after → P given said after
promise {gave = gave} {told = told} {left = left} {given = given} {said = said} P h c =
    subst (P given said) c.outputs-are
    (subst (λ r. P given r (left c.outputs)) c.answer-is
    (subst (λ a. P a (told c.answer) (left c.outputs)) c.inputs_are (h c.lives c.inputs c.answer c.outputs c.promised)))

pub header-call : {b : List ℕ} {r : Res Header} → HeaderCall b r → r ≡ header_says b
header-call = promise (λ b r x. r ≡ header_says b) (λ k a r x p. p)

pub prepare-call : {b : List ℕ} {h : Header} {reuse : Bool} {kept : List ℕ} {r : Res MaskTold} {old new : List ℕ} → PrepareCall b h reuse kept r old new
    → Prepared (prepare_says b h reuse kept (length old)) r old new
prepare-call = promise (λ g r x. Prepared (prepare_says g.0 g.1 g.2 g.3 (length g.4)) r g.4 x) (λ k a r x p. p)

pub handed-call : {kept spare m : List ℕ} {said : Res MaskTold} → HandedCall kept spare said m → m ≡ in_force said kept spare
handed-call = promise (λ g r x. r ≡ in_force g.2 g.0 g.1) (λ k a r x p. p.0)

pub ranges-call : {b : List ℕ} {h : Header} {r : Res Ranges} → RangesCall b h r → r ≡ (read_ranges_says b h)
ranges-call = promise (λ g r x. r ≡ (read_ranges_says g.0 g.1)) (λ k a r x p. p)

pub walk_call : {b : List ℕ} {h : Header} {g : Ranges} {m : List ℕ} {r : Res Walk} {old new : List ℕ} → WalkCall b h g m r old new → BlocksWalked b h g m r old new
walk_call = promise (λ g r x. BlocksWalked g.0 g.1 g.2 g.3 r g.4 x) (λ k a r x p. p)

pub fill-call : {b : List ℕ} {h : Header} {g : Ranges} {m list : List ℕ} {n : ℕ} {r : Res ℕ} {old new : List ℕ} → FillCall b h g m list n r old new → Filled b h g m list n r old new
fill-call = promise (λ g r x. Filled g.0 g.1 g.2 g.3 g.4 g.5 r g.6 x) (λ k a r x p. p)

pub each-call : {b : List ℕ} {h : Header} {g : Ranges} {m list ns : List ℕ} {r : ℕ} {old new : List ℕ} → EachCall b h g m list ns r old new → EachFilled b h g m list ns r old new
each-call = promise (λ g r x. EachFilled g.0 g.1 g.2 g.3 g.4 g.5 r g.6 x) (λ k a r x p. p)

pub tiles-call : {b : List ℕ} {h : Header} {m maxima : List ℕ} {at : ℕ} {r : Res Walk} {list new-list image new-image : List ℕ} → TilesCall b h m maxima at r list new-list image new-image
    → Tiled (tiles_says b h m maxima at (length list) (length image)) h m r list new-list image new-image
tiles-call = promise (λ g r x. Tiled (tiles_says g.0 g.1 g.2 g.3 g.4 (length g.5) (length g.6)) g.1 g.2 r g.5 x.0 g.6 x.1) (λ k a r x p. p)

pub read-call : {b : List ℕ} {reuse : Bool} {r : Res ReadTold} {old new : Lent} → ReadCall b reuse r old new → WholeRead b reuse r old new
read-call = promise (λ g r x. WholeRead g.0 g.1 r g.2 x) (λ k a r x p. p)

-- ranges that were read are those that the blob has
pub ranges-from : {b : List ℕ} {h : Header} {r : Ranges} → ReadRanges b h r → read_ranges_says b h ≡ ok r
ranges-from c = sym (ranges-call c)

-- calls of fill leave what one fill after the other does
pub fill-calls : {b : List ℕ} {h : Header} {r : Ranges} {m list : List ℕ} (ns : List ℕ) (said : List (Res ℕ)) (old new : List ℕ) → FillCalls b h r m list ns said old new
    → new ≡ fill_each b h r m list ns old
unfolding fill_each
fill-calls ns said old new (none image) = refl
fill-calls {b} {h} {r} {m} {list} ns said old new (more n rest one others old' mid new' f c) = fill-calls rest others mid new c ∙ ap (fill_each b h r m list rest) (fill-call f).image

-- a held header's ranges are those of the slice
pub ranges-held : (b : List ℕ) (h : Header) → held h (length b) ≡ ok (extent_of h) → read_ranges_says b h ≡ ranges_says (take h.size b) h
unfolding read_ranges_says
ranges-held b h e = rw (e)
