use Rattle.std.proofs.Common.{◌≡◌, ◌+◌, ◌-◌, ◌<◌, ◌≤◌, sym, ◌∙◌, arith}
use Rattle.lerc_byte_image.specs.Parts.{table_by, entry_of}
use Rattle.lerc_byte_image.proofs.Entries.{glance-entry}
use Rattle.lerc_byte_image.proofs.Coded.{behind-at, count_none, count-done, count-refused, count-inside, count-more}
use Rattle.lerc_byte_image.proofs.symbols.count_bits.Goals as goal
use Rattle.lerc_byte_image.proofs.symbols.count_bits.Goals.{After-glance-e, then-e-ge256, else-e-ge256+else-f-eq0}

pub stop_of-stop-requires : goal.stop_of-stop-requires
stop_of-stop-requires c = let h = c.requires.behind in (h.inside, h.short)

pub loop-init : goal.loop-init
loop-init c =
    let a = c.args in
    let z : a.n - 0 ≡ a.n = omega arith in
    rw (z) (count_none a.s.now (table_by a.range a.start a.lengths.now a.codes.now) a.n)

pub glance-e-requires : goal.glance-e-requires
glance-e-requires c =
    let h = c.requires.behind in
    (h.inside, h.short, c.stop_of-stop.ensures, c.requires.quick.wide)

-- a glance that tells a symbol tells the right one
seen : (c : After-glance-e) → 256 ≤ c.glance-e.result →
    let a = c.args in
    c.glance-e.result ≡ entry_of a.s.now (table_by a.range a.start a.lengths.now a.codes.now) c.loop.p
seen c big =
    let a = c.args in
    let h = c.requires in
    let g = c.glance-e.ensures in
    g ∙ glance-entry a.s.now (table_by a.range a.start a.lengths.now a.codes.now) c.loop.p h.behind.kept a.quick.now h.quick (rw (g) at big)

pub overflow_add-p : goal.overflow_add-p
overflow_add-p c =
    let h = c.requires.behind in
    let big : 256 ≤ c.glance-e.result = c.if-e-ge256.true in
    let i = count-inside h.kept c.loop.invariant c.glance-e.result (seen (goal.at.overflow_add-p c).After-glance-e big) (λ z. omega arith) in
    record { fits = omega (arith, i, h.short) }

pub seek_entry-f-requires : goal.seek_entry-f-requires
seek_entry-f-requires c =
    let h = c.requires in
    behind-at h.behind c.loop.invariant.inside

pub missing-requires : goal.missing-requires
missing-requires c =
    let h = c.requires in
    record { behind = behind-at h.behind c.loop.invariant.inside; p_value = sym c.seek_entry-f.ensures ∙ c.if-f-eq0.true }

pub returns-then-f-eq0 : goal.returns-then-f-eq0
returns-then-f-eq0 c =
    count-refused c.loop.invariant (omega (arith, c.loop-test.true)) c.missing.ensures

pub overflow_add-p-else-e-ge256 : goal.overflow_add-p-else-e-ge256
overflow_add-p-else-e-ge256 c =
    let h = c.requires.behind in
    let i = count-inside h.kept c.loop.invariant c.seek_entry-f.result c.seek_entry-f.ensures c.if-f-eq0.false in
    record { fits = omega (arith, i, h.short) }

pub loop-preserved : goal.loop-preserved
loop-preserved c =
    let g = (goal.at.loop-preserved c).After-glance-e in
    let h = c.requires.behind in
    let some : 0 < c.args.n - c.loop.counter = omega (arith, c.loop-test.true) in
    let less : c.args.n - (c.loop.counter + 1) ≡ c.args.n - c.loop.counter - 1 = omega arith in
    elim c.if-e-ge256.branch [
      | then-e-ge256 w ↦ let big : 256 ≤ c.glance-e.result = w.if-e-ge256.true in rw (w.p-is, less) (count-more h.kept c.loop.invariant c.glance-e.result (seen g big) (λ z. omega arith) some)
      | else-e-ge256+else-f-eq0 w ↦ rw (w.p-is, less) (count-more h.kept c.loop.invariant w.seek_entry-f.result w.seek_entry-f.ensures w.if-f-eq0.false some)
    ]

pub returns : goal.returns
returns c = count-done c.loop.invariant (omega (arith, c.loop-test.false))
