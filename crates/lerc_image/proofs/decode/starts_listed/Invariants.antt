pub mod Turn
use mathlib.Core.Path.{◌≡◌, ◌∙◌, sym, ap}
use native.Mathlib.Omega.{arith}
use borrow.Author.Rules.{rules}
use Rattle.lerc_words.specs.Res.{marked}
use Rattle.lerc_words.proofs.Marking.{marked-is, marked-fails}
use Rattle.lerc_image.specs.Tiles.{block_end}
use Rattle.lerc_image.specs.Parts.{BlockTile}
use Rattle.lerc_image.proofs.Standing.{here_in, here_end, Standing, standing-none, standing-tile, standing-within, standing-few, standing-next}
use Rattle.lerc_image.proofs.decode.starts_listed.Invariants.Turn.{Found, found_none, found_all, found-other, found-last, found-next}
use Rattle.lerc_image.proofs.decode.starts_listed.Given as goal

abbrev pub invariant-loop-k : goal.invariant-loop-k
invariant-loop-k l = Standing l.h l.fn.e l.p l.k × Found l.s l.h l.mask l.fn.e.blocks l.at l.list l.k l.start
