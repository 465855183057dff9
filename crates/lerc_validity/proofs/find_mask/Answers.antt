use borrow.Author.Tests.{leb-true}
use mathlib.Core.Path.{refl}
use native.Mathlib.Omega.{arith}
use lib.ListN.{length}
use Rattle.lerc_words.proofs.Binding.{and_is}
use Rattle.lerc_header.proofs.Sizes.{product-fits, pixels-fit}
use Rattle.lerc_mask.specs.Mask.{mask_field}
use Rattle.lerc_validity.proofs.Preparing.{refused, prepared-at, find-room, find-short, find-says}
use Rattle.lerc_validity.proofs.find_mask.Goals as goal

pub overflow_mul-pixels : goal.overflow_mul-pixels
overflow_mul-pixels c =
    let a = c.args in
    record { fits = product-fits a.h.rows a.h.columns (omega arith) (omega arith) }

pub overflow_add-n : goal.overflow_add-n
overflow_add-n c =
    let a = c.args in
    record { fits = pixels-fit a.h.rows a.h.columns (omega arith) (omega arith) }

pub returns-then-not-room : goal.returns-then-not-room
returns-then-not-room c =
    let a = c.args in
    refused (find-room a.s.now a.h a.reuse a.kept.now (length a.spare.now) c.if-not-room.true)

pub returns-then-s-h : goal.returns-then-s-h
returns-then-s-h c =
    let a = c.args in
    refused (find-short a.s.now a.h a.reuse a.kept.now (length a.spare.now) c.if-not-room.false c.if-s-h.true)

pub find-found-requires : goal.find-found-requires
find-found-requires c =
    let (k, l) = and_is _ _ c.if-not-room.false in
    (refl, refl, c.if-s-h.false, leb-true _ _ k, leb-true _ _ l)

pub returns : goal.returns
returns c =
    let a = c.args in
    rw (find-says a.s.now a.h a.reuse a.kept.now (length a.spare.now) c.if-not-room.false c.if-s-h.false) (prepared-at mask_field c.find-found.ensures c.marked.ensures)
