use Rattle.lerc_words.specs.Res.{refusal_of}
use Rattle.lerc_words.proofs.Marking.{exits}
use Rattle.lerc_c.proofs.PackEnds.{open-short, open_no, open_done}
use mathlib.Core.Path.{refl, sym, ap}
use Rattle.lerc_c.proofs.packs.open_pack.Goals as goal

pub returns-then-said-lt1 : goal.returns-then-said-lt1
returns-then-said-lt1 c = let a = c.args in open-short a.pack.now a.said.now c.if-said-lt1.true

pub returns-in_err-tiles : goal.returns-in_err-tiles
returns-in_err-tiles c =
    let a = c.args in
    open_no a.pack.now a.said.now c.if-said-lt1.false (sym c.in_err-tiles.ensures) (ap refusal_of (exits _ c.from_residual.ensures.1))

pub returns : goal.returns
returns c =
    let a = c.args in
    open_done a.pack.now a.said.now c.if-said-lt1.false (sym c.in_ok-tiles.ensures) refl
