-- Laws of numbers written in bytes.
-- Assumes nothing.
use mathlib.Core.Path.{◌≡◌, ◌∙◌, sym, ap, refl}
use mathlib.Core.List.{List, [], ◌∷◌, ◌++◌, append_assoc}
use Prim.Native.Nat.{ℕ, zero, suc, ◌+◌, ◌*◌, ◌/◌, ◌%◌, ◌^◌, ◌≤◌, ◌<◌}
use native.Mathlib.Omega.{arith}
use native.Mathlib.Nat.{pow-zero, pow-suc}
use lib.ListN.{length, take, drop, get_or}
use lib.Seq.{drop-cons, take-add}
use Rattle.lerc_words.specs.Res.{little}
use Rattle.lerc_words.proofs.Little.{Bytes, little-suc, little-behind}
use Rattle.lerc_pack.specs.Contents.{in_bytes}

pub length-in_bytes : (n v : ℕ) → length (in_bytes n v) ≡ n
unfolding in_bytes
length-in_bytes zero v = refl
length-in_bytes (suc n) v = ap suc (length-in_bytes n (v / 256))

-- what was written is read back
pub little-written : (n v : ℕ) (rest : List ℕ) → v < 256 ^ n → little n (in_bytes n v ++ rest) 0 ≡ v
unfolding in_bytes little
little-written zero v rest h = omega (arith, rw (pow-zero) at h)
little-written (suc n) v rest h =
    let k : v / 256 < 256 ^ n = omega (arith, pow-suc 256 n) in
    let t : little n (v % 256 ∷ (in_bytes n (v / 256) ++ rest)) 1 ≡ v / 256 = little-behind n (v % 256 ∷ []) (in_bytes n (v / 256) ++ rest) ∙ little-written n (v / 256) rest k in
    rw (t) (omega arith)

-- and so it is behind other bytes
pub little-placed : (n v : ℕ) (front rest : List ℕ) → v < 256 ^ n → little n (front ++ in_bytes n v ++ rest) (length front) ≡ v
little-placed n v front rest h = rw (append_assoc) (little-behind n front (in_bytes n v ++ rest) ∙ little-written n v rest h)

-- what was read is written as it stood
pub written-little : (n : ℕ) (s : List ℕ) (at : ℕ) → Bytes s → at + n ≤ length s → in_bytes n (little n s at) ≡ take n (drop at s)
unfolding in_bytes
written-little zero s at b h = refl
written-little (suc n) s at b h =
    let l : get_or s at 0 < 256 = b at in
    let y = little n s (suc at) in
    let low : (get_or s at 0 + 256 * y) % 256 ≡ get_or s at 0 = omega arith in
    let high : (get_or s at 0 + 256 * y) / 256 ≡ y = omega arith in
    let k : at < length s = omega arith in
    rw (little-suc, low, high, drop-cons s at 0 k, written-little n s (suc at) b (omega arith))

-- as much of s, and a number more of it
pub written_next : (n : ℕ) (s : List ℕ) (at : ℕ) (front : List ℕ) → Bytes s → at + n ≤ length s → front ≡ take at s → front ++ in_bytes n (little n s at) ≡ take (at + n) s
written_next n s at front b h e = rw (e, written-little n s at b h) (sym (take-add at n s))
