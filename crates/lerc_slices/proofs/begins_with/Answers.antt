use mathlib.Core.Path.{◌∙◌, sym, ap}
use mathlib.Core.List.{List}
use Prim.Native.Nat.{ℕ}
use lib.ListN.{length, drop}
use Rattle.std.proofs.lemmas.Bool.Decides.{Decides-eqb}
use Rattle.std.proofs.lemmas.Slice.Eq.{starts_is}
use Rattle.lerc_slices.specs.Slices.{begins_with}
use Rattle.lerc_slices.proofs.Begins.{begins-over, over-begins, both_ways}
use Rattle.lerc_slices.proofs.begins_with.Goals as goal

pub returns : goal.returns
returns c =
    let s = c.args.s.now in
    let front = c.args.front.now in
    let is = starts_is Decides-eqb s front _ c.starts_with.ensures.value in
    both_ways _ _
    (λ t. ap (λ (l : List ℕ). begins_with front l) (is.0 t) ∙ begins-over front s)
    (λ t. is.1 (drop (length front) s) (sym (over-begins front s t)))
