use Rattle.lerc_words.proofs.Marking.{exits}
use mathlib.Core.Path.{◌≡◌, ◌∙◌, sym, ap}
use mathlib.Core.Bool.{Bool, true, false}
use borrow.Author.Tests.{le-leb, lt-leb}
use native.Mathlib.Omega.{arith}
use Rattle.lerc_words.specs.Res.{ok, ◌>>=◌, require}
use Rattle.lerc_header.specs.declared.Extent.{Extent}
use Rattle.lerc_header.specs.Header.{header_says, open_says}
use Rattle.lerc_header.proofs.Kept.{held-is, held-size, open-summed}
use Rattle.lerc_header.proofs.open_blob.Goals as goal
use Rattle.lerc_header.proofs.open_blob.Goals.{After-checksum_right}

pub returns-then-blob-lt-HEADER : goal.returns-then-blob-lt-HEADER
unfolding header_says open_says
returns-then-blob-lt-HEADER c = rw (lt-leb _ _ c.if-blob-lt-HEADER.true)

pub returns-then-not-key_right : goal.returns-then-not-key_right
unfolding header_says open_says
returns-then-not-key_right c = rw (le-leb _ _ c.if-blob-lt-HEADER.false, sym c.key_right.ensures ∙ c.if-not-key_right.true)

pub returns-in_err-extent : goal.returns-in_err-extent
unfolding header_says open_says
returns-in_err-extent c =
    exits _ c.from_residual.ensures.1 ∙ rw (
      le-leb _ _ c.if-blob-lt-HEADER.false,
      sym c.key_right.ensures ∙ c.if-not-key_right.false,
      sym c.fields-header.ensures,
      sym c.in_err-extent.ensures,
    )

-- the sizes that the checksum is asked for
pub checksum_right-requires : goal.checksum_right-requires
checksum_right-requires c =
    let kept = sym c.in_ok-extent.ensures in
    let is = ap (λ (e : Extent). e.size) (held-is _ _ kept) in
    let sizes = held-size _ _ kept in
    (omega (arith, is, sizes.0), omega (arith, is, sizes.1))

-- what is told, by whether the checksum is right
opened : (c : After-checksum_right) (right : Bool) → c.checksum_right.result ≡ right → open_says c.args.blob.now ≡ (require right 13 >>= λ _. ok (record { header = c.fields-header.result; extent = c.in_ok-extent.extent }))
opened c right e =
    open-summed _ _ _ right
    c.if-blob-lt-HEADER.false
    (sym c.key_right.ensures ∙ c.if-not-key_right.false)
    c.fields-header.ensures
    (sym c.in_ok-extent.ensures)
    (sym c.checksum_right.ensures ∙ e)

pub returns-then-not-checksum_right : goal.returns-then-not-checksum_right
returns-then-not-checksum_right c = sym (opened (goal.at.returns-then-not-checksum_right c).After-checksum_right false c.if-not-checksum_right.true)

pub returns : goal.returns
returns c = sym (opened (goal.at.returns c).After-checksum_right true c.if-not-checksum_right.false)
