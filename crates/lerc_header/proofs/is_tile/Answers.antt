use mathlib.Core.Path.{◌∙◌, sym, refl}
use borrow.Author.Tests.{le-leb, lt-leb}
use Rattle.lerc_header.specs.Header.{header_says, is_tile}
use Rattle.lerc_header.proofs.Tile.{tile-judged}
use Rattle.lerc_header.proofs.is_tile.Goals as goal

pub returns-then-blob-lt-HEADER : goal.returns-then-blob-lt-HEADER
unfolding is_tile header_says
returns-then-blob-lt-HEADER c = rw (lt-leb _ _ c.if-blob-lt-HEADER.true)

pub returns-then-not-said : goal.returns-then-not-said
returns-then-not-said c =
    let a = c.args in
    sym (tile-judged a.blob.now a.kind a.depth _ c.fields-h.ensures (le-leb _ _ c.if-blob-lt-HEADER.false) c.if-not-said.true refl refl refl)

pub returns-then-not-key_right : goal.returns-then-not-key_right
returns-then-not-key_right c =
    let a = c.args in
    sym (tile-judged a.blob.now a.kind a.depth _ c.fields-h.ensures
    (le-leb _ _ c.if-blob-lt-HEADER.false)
    c.if-not-said.false
    (sym c.key_right.ensures ∙ c.if-not-key_right.true)
    refl refl)

pub returns-then-not-within_ceilings : goal.returns-then-not-within_ceilings
returns-then-not-within_ceilings c =
    let a = c.args in
    sym (tile-judged a.blob.now a.kind a.depth _ c.fields-h.ensures
    (le-leb _ _ c.if-blob-lt-HEADER.false)
    c.if-not-said.false
    (sym c.key_right.ensures ∙ c.if-not-key_right.false)
    (sym c.within_ceilings.ensures ∙ c.if-not-within_ceilings.true)
    refl)

pub returns-then-not-fields_right : goal.returns-then-not-fields_right
returns-then-not-fields_right c =
    let a = c.args in
    sym (tile-judged a.blob.now a.kind a.depth _ c.fields-h.ensures
    (le-leb _ _ c.if-blob-lt-HEADER.false)
    c.if-not-said.false
    (sym c.key_right.ensures ∙ c.if-not-key_right.false)
    (sym c.within_ceilings.ensures ∙ c.if-not-within_ceilings.false)
    (sym c.fields_right.ensures ∙ c.if-not-fields_right.true))

pub returns : goal.returns
returns c =
    let a = c.args in
    c.checksum_right.ensures ∙ sym (tile-judged a.blob.now a.kind a.depth _ c.fields-h.ensures
    (le-leb _ _ c.if-blob-lt-HEADER.false)
    c.if-not-said.false
    (sym c.key_right.ensures ∙ c.if-not-key_right.false)
    (sym c.within_ceilings.ensures ∙ c.if-not-within_ceilings.false)
    (sym c.fields_right.ensures ∙ c.if-not-fields_right.false))
