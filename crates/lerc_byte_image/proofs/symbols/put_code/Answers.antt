use Rattle.std.proofs.Common.{ℕ, ◌+◌, ◌-◌, ◌*◌, ◌%◌, ◌^◌, ◌<◌, ◌≤◌, ap, arith}
use Rattle.lerc_byte_image.proofs.FirstBits.{put-none, hint-at, put-hint, room, base-is, span-is, put-part}
use Rattle.lerc_byte_image.proofs.symbols.put_code.Goals as goal

pub returns-then-len-eq0 : goal.returns-then-len-eq0
returns-then-len-eq0 c = put-none _ _ _ _

pub offset_bounds-quick-code : goal.offset_bounds-quick-code
offset_bounds-quick-code c =
    record { fits = omega (arith, hint-at c.args.len c.args.code c.requires.1 c.if-len-gt12.true) }

pub bounds-quick-code : goal.bounds-quick-code
bounds-quick-code c =
    rw c.requires.4 (hint-at c.args.len c.args.code c.requires.1 c.if-len-gt12.true)

pub returns-then-len-gt12 : goal.returns-then-len-gt12
returns-then-len-gt12 c = put-hint _ _ _ _ _ _ (bounds-quick-code c) c.requires.3

pub overflow_add-end : goal.overflow_add-end
overflow_add-end c =
    let l = c.args.len in
    let d = c.args.code in
    let h = c.requires.1 in
    let few : l ≤ 12 = c.if-len-gt12.false in
    rw (base-is l d h few, span-is l d h few) (record { fits = omega (arith, room l d h few) })

pub offset_bounds-quick-base : goal.offset_bounds-quick-base
offset_bounds-quick-base c =
    let l = c.args.len in
    let d = c.args.code in
    let h = c.requires.1 in
    let few : l ≤ 12 = c.if-len-gt12.false in
    rw (base-is l d h few) (record { fits = omega (arith, room l d h few) })

pub slice_bounds-put_entry-end : goal.slice_bounds-put_entry-end
slice_bounds-put_entry-end c =
    let l = c.args.len in
    let d = c.args.code in
    let h = c.requires.1 in
    let few : l ≤ 12 = c.if-len-gt12.false in
    rw (base-is l d h few, span-is l d h few, c.requires.4) (room l d h few)

pub returns : goal.returns
returns c =
    let l = c.args.len in
    let d = c.args.code in
    let h = c.requires.1 in
    let few : l ≤ 12 = c.if-len-gt12.false in
    let some : 0 < l = omega (arith, c.if-len-eq0.false) in
    let base = (d * 2 ^ (12 - l)) % 2 ^ 64 in
    put-part l d h few some _ c.args.quick.now _ c.requires.4 base (base + (1 * 2 ^ (12 - l)) % 2 ^ 64) (base-is l d h few)
    (ap (λ (n : ℕ). base + n) (span-is l d h few)) c.put_entry.ensures
