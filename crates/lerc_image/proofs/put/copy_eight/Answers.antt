use native.Mathlib.Nat.{add-zero}
use native.Mathlib.Omega.{arith}
use lib.ListN.{length-set}
use Rattle.lerc_words.specs.Lists.{count}
use Rattle.lerc_image.specs.Parts.{rowed}
use Rattle.lerc_image.proofs.put.copy_eight.Goals as goal

pub returns : goal.returns
unfolding rowed count
returns c = rw (add-zero, add-zero)

pub bounds-image-at-2 : goal.bounds-image-at-2
bounds-image-at-2 c = simp length-set (omega arith)

pub bounds-image-at-3 : goal.bounds-image-at-3
bounds-image-at-3 c = simp length-set (omega arith)

pub bounds-image-at-4 : goal.bounds-image-at-4
bounds-image-at-4 c = simp length-set (omega arith)

pub bounds-image-at-5 : goal.bounds-image-at-5
bounds-image-at-5 c = simp length-set (omega arith)

pub bounds-image-at-6 : goal.bounds-image-at-6
bounds-image-at-6 c = simp length-set (omega arith)

pub bounds-image-at-7 : goal.bounds-image-at-7
bounds-image-at-7 c = simp length-set (omega arith)

pub bounds-image-at-8 : goal.bounds-image-at-8
bounds-image-at-8 c = simp length-set (omega arith)

pub shape_of-image : goal.shape_of-image
shape_of-image c = simp length-set
