-- lerc_numeric.rs: the float model is not in the six files, but upstream proves that the bodies there compute it. So what
-- the bodies fix of it stands here: `sign`, `mantissa`, `exponent` (from `parts`), `rounded` (`round`), `sticky` (`jam64`),
-- `top` (`highest`), `packed` (`pack`), `scaled`, `sum`, `value`, `narrowed` (the bodies that end in `_software`), `less`
-- (`minimum`), `type_size` (`size`), `integer` (`to_integer`). A mask is `%` here, a shift is `* 2 ^` or `/ 2 ^`, and a cast to
-- fewer bits is `% 2 ^` where it could lose any.
-- Upstream: JD-P/verified-tiff, commit 9a6464383f, MIT licence (NOTICE).
-- Assumes nothing.
use Rattle.std.specs.Prelude.{ℕ, ◌+◌, ◌-◌, ◌*◌, ◌/◌, ◌%◌, ◌^◌, Bool, false, not, cond, ◌&&◌, ◌||◌, leb, ltb, eqb}
use Rattle.std.specs.Bool.{beq}
use Rattle.std.proofs.Math.Option.{Option, none, some}
use Rattle.std.specs.Int.Bits.{bit_or}
use Rattle.std.specs.Int.Count.{count_leading_zeros}

-- the exponent's field, as every body has it
abbrev pub field_of : ℕ → ℕ
field_of v = v / 0x10000000000000 % 2048

-- `finite`, as the bodies of `read_mode` and `read_ranges` test it
abbrev pub finite_of : ℕ → Bool
finite_of v = not (eqb (field_of v) 2047)

-- `parts`
abbrev pub sign : ℕ → Bool
sign v = leb 0x8000000000000000 v

unfoldable pub mantissa : ℕ → ℕ
mantissa v = v % 0x10000000000000 + cond (eqb (field_of v) 0) 0 0x10000000000000

-- plus 1074, so that it is never below 0
unfoldable pub exponent : ℕ → ℕ
exponent v = cond (eqb (field_of v) 0) 0 (field_of v - 1)

-- `round`, where fewer than 64 digits are dropped; the formula is good for any number of them
unfoldable pub rounded : ℕ → ℕ → ℕ
rounded v n =
    let q = v / 2 ^ n in
    let half = 2 ^ (n - 1) in
    let rem = v % 2 ^ n in
    cond (eqb n 0) v (q + cond (ltb half rem || (eqb rem half && eqb (q % 2) 1)) 1 0)

-- `jam64`: the last digit is 1 where anything was cut off
unfoldable pub sticky : ℕ → ℕ → ℕ
sticky v n = cond (eqb n 0) v (let q = v / 2 ^ n in cond (eqb (v % 2 ^ n) 0) q (q + (1 - q % 2)))

-- `round`: all of it, on 128 bits; from 64 digits on, it takes the two halves of v. `round_significand` is the same
unfoldable pub round : ℕ → ℕ → ℕ
round v n =
    let high = v / 2 ^ 64 in
    let low = v % 2 ^ 64 in
    let shift = n - 64 in
    let q = high / 2 ^ shift in
    let half = 2 ^ (shift - 1) in
    let rem = high % 2 ^ shift in
    let up =
    cond (eqb shift 0) (ltb 0x8000000000000000 low || (eqb low 0x8000000000000000 && eqb (q % 2) 1))
    (ltb half rem || (eqb rem half && (not (eqb low 0) || eqb (q % 2) 1))) in
    cond (eqb n 0) v
    (cond (ltb 128 n) 0
    (cond (eqb n 128) (cond (ltb 0x80000000000000000000000000000000 v) 1 0)
    (cond (leb 64 n) (q + cond up 1 0) (rounded v n))))

-- `jam64` for a width of 64, `shift_sticky` for 128: from the width on only "is it 0" is left
unfoldable pub jammed : ℕ → ℕ → ℕ → ℕ
jammed width v n = cond (eqb n 0) v (cond (leb width n) (cond (eqb v 0) 0 1) (sticky v n))

-- `highest64`, `highest`
abbrev pub highest64 : ℕ → ℕ
highest64 v = 63 - count_leading_zeros 64 v

unfoldable pub highest : ℕ → ℕ
highest v =
    let high = v / 2 ^ 64 in
    cond (eqb v 0) 0 (cond (ltb 0 high) (64 + highest64 high) (highest64 (v % 2 ^ 64)))

-- ---- `pack`. A power e is e plus 4096 here, so that it is never below 0: 3022 is -1074, 3073 is -1023, 3074 is -1022, 5119 is 1023

abbrev pub sign_bit : Bool → ℕ
sign_bit negative = cond negative 0x8000000000000000 0

-- `pack_normal`
unfoldable pub pack_normal : Bool → ℕ → ℕ → ℕ → ℕ
pack_normal negative v e hi = bit_or (sign_bit negative) ((e + hi - 3074) * 2 ^ 52 + round v (hi - 52))

-- `pack`, behind the path for normal results
unfoldable pub pack_other : Bool → ℕ → ℕ → ℕ → ℕ
pack_other negative v e hi =
    let shift = cond (ltb 52 hi) (hi - 52) 0 in
    let small = cond (ltb shift (3022 - e)) (3022 - e) shift in
    let q = round v small in
    let power = e + small in
    let hi2 = highest q in
    let exp = power + hi2 in
    let bits = cond (ltb 52 hi2) (q / 2 ^ (hi2 - 52)) (q * 2 ^ (52 - hi2)) in
    cond (eqb q 0) (sign_bit negative)
    (cond (ltb 5119 exp) (bit_or (sign_bit negative) 0x7ff0000000000000)
    (cond (ltb exp 3074) (bit_or (sign_bit negative) (q * 2 ^ (power - 3022) % 2 ^ 64))
    (bit_or (bit_or (sign_bit negative) ((exp - 3073) * 2 ^ 52)) (bits % 0x10000000000000))))

unfoldable pub pack : Bool → ℕ → ℕ → ℕ
pack negative v e =
    let hi = highest v in
    cond (leb 52 hi && leb 3074 (e + hi) && leb (e + hi) 5119) (pack_normal negative v e hi) (pack_other negative v e hi)

-- a power that counts from 2^-1074, as `exponent` has it, for `pack`
abbrev pub power : ℕ → ℕ
power e = e + 3022

-- `scale_software`
unfoldable pub scale_software : ℕ → ℕ → ℕ
scale_software a q = pack (sign a) (mantissa a * q) (power (exponent a) + 1)

-- ---- `plus_software`

-- the operands of a sum: over one power e, moved up by k digits, on words of a width; then their sum or difference
abbrev pub lined : ℕ → ℕ → ℕ → ℕ → ℕ
lined width k e v = jammed width (mantissa v * 2 ^ k) (e - exponent v)

abbrev pub joined : Bool → ℕ → ℕ → ℕ
joined alike x y = cond alike (x + y) (cond (leb y x) (x - y) (y - x))

-- its first path, with eight digits more (e + 3014 is e - 8 for `pack`)
unfoldable pub plus_near : Bool → Bool → ℕ → ℕ → ℕ → ℕ → ℕ
plus_near sa sb x y e m = pack_normal (cond (beq sa sb || leb y x) sa sb) m (e + 3014) (highest64 m)

-- the second, with 64 (e + 2958 is e - 64)
unfoldable pub plus_other : Bool → Bool → ℕ → ℕ → ℕ → ℕ → ℕ
plus_other sa sb x y e m = pack (cond (eqb m 0 && not (beq sa sb)) false (cond (beq sa sb || leb y x) sa sb)) m (e + 2958)

unfoldable pub plus_software : ℕ → ℕ → ℕ
plus_software a b =
    let alike = beq (sign a) (sign b) in
    let e = cond (ltb (exponent b) (exponent a)) (exponent a) (exponent b) in
    let x = lined 64 8 e a in
    let y = lined 64 8 e b in
    let m = joined alike x y in
    let u = lined 128 64 e a in
    let w = lined 128 64 e b in
    cond (leb 0x40000000000000 m && leb 3074 (e + 3014 + highest64 m) && leb (e + 3014 + highest64 m) 5119) (plus_near (sign a) (sign b) x y e m)
    (plus_other (sign a) (sign b) u w e (joined alike u w))

-- ---- `narrow_software`. A power counts from 2^-1074: 925 is -149, 947 is -127, 948 is -126, 1201 is 127

-- a normal number whose power a binary32 has too: by the last 29 digits
unfoldable pub narrow_near : ℕ → ℕ → ℕ
narrow_near v sg =
    let m = bit_or (v % 0x10000000000000) 0x10000000000000 in
    let base = m / 2 ^ 29 in
    let rem = m % 0x20000000 in
    let q = base + cond (ltb 0x10000000 rem || (eqb rem 0x10000000 && eqb (base % 2) 1)) 1 0 in
    bit_or sg ((field_of v - 897) * 8388608 + q)

-- the rest that is finite
unfoldable pub narrow_other : ℕ → ℕ → ℕ
narrow_other v sg =
    let m = mantissa v in
    let e = exponent v in
    let hi = highest m in
    let shift = cond (ltb 23 hi) (hi - 23) 0 in
    let n = cond (ltb shift (925 - e)) (925 - e) shift in
    let q = round m n in
    let hi2 = highest q in
    let ex = e + n + hi2 in
    let bits = cond (ltb 23 hi2) (q / 2 ^ (hi2 - 23)) (q * 2 ^ (23 - hi2)) in
    cond (eqb q 0) sg
    (cond (ltb 1201 ex) (bit_or sg 0x7f800000)
    (cond (ltb ex 948) (bit_or sg (q * 2 ^ (e + n - 925) % 2 ^ 32))
    (bit_or (bit_or sg ((ex - 947) * 2 ^ 23)) (bits % 8388608))))

unfoldable pub narrow_software : ℕ → ℕ
narrow_software v =
    let sg : ℕ = cond (sign v) 0x80000000 0 in
    cond (leb 897 (field_of v) && leb (field_of v) 1150) (narrow_near v sg)
    (cond (eqb (field_of v) 2047) (bit_or (bit_or sg 0x7f800000) (v % 0x10000000000000 / 2 ^ 29)) (narrow_other v sg))

-- `minimum`: its comparison
unfoldable pub less_than : ℕ → ℕ → Bool
less_than a b =
    cond (eqb (a % 0x8000000000000000) 0 && eqb (b % 0x8000000000000000) 0) false
    (cond (not (beq (sign a) (sign b))) (sign a)
    (cond (sign a) (ltb b a) (ltb a b)))

-- `size`
abbrev pub size_of : ℕ → ℕ
size_of kind = cond (ltb kind 2) 1 (cond (ltb kind 4) 2 (cond (ltb kind 7) 4 8))

-- the modulus of `number_software` and of `to_integer`
abbrev pub modulus_of : ℕ → ℕ
modulus_of kind = cond (ltb kind 2) 256 (cond (ltb kind 4) 65536 4294967296)

-- `number_software`: a binary32 of kind 6 (3947 is -149, 3946 is -150), then whole numbers
unfoldable pub number_six : ℕ → ℕ
number_six v =
    let e = v / 8388608 % 256 in
    let m = v % 8388608 + cond (eqb e 0) 0 8388608 in
    let negative = leb 2147483648 v in
    cond (eqb e 255) (bit_or (bit_or (sign_bit negative) 0x7ff0000000000000) (v % 8388608 * 2 ^ 29)) (pack negative m (cond (eqb e 0) 3947 (e + 3946)))

unfoldable pub number_software : ℕ → ℕ → ℕ
number_software v kind =
    let modulus = modulus_of kind in
    let negative = eqb (kind % 2) 0 && leb (modulus / 2) v in
    cond (eqb kind 7) v (cond (eqb kind 6) (number_six v) (pack negative (cond negative (modulus - v) v) 4096))

-- `to_integer`

-- the magnitude cut toward zero, where the exponent is at most 32
abbrev pub cut_of : ℕ → ℕ
cut_of v = let e = exponent v in cond (leb 1074 e) (mantissa v * 2 ^ (e - 1074)) (cond (leb (e + 128) 1074) 0 (mantissa v / 2 ^ (1074 - e)))

unfoldable pub integer : ℕ → ℕ → Option ℕ
integer v kind =
    cond (eqb (field_of v) 2047 || ltb (1074 + 32) (exponent v)) none
    (let q = cut_of v in
    let modulus = modulus_of kind in
    let bound = cond (eqb (kind % 2) 0) (modulus / 2 + cond (sign v) 1 0) modulus in
    cond (leb bound q || (sign v && eqb (kind % 2) 1 && not (eqb q 0))) none
    (some (cond (sign v && not (eqb q 0)) (modulus - q) q)))
