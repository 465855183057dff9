-- lerc_bits.rs: `Plan`, `ceil_bytes`, `index_width`, `plan`, `index`, `item`, `decoded`.
-- Upstream: JD-P/verified-tiff, commit 9a6464383f, MIT licence (NOTICE).
-- Assumes nothing.
use Rattle.std.specs.Prelude.{ℕ, ◌+◌, ◌-◌, ◌*◌, ◌/◌, ◌%◌, not, cond, ◌&&◌, ◌||◌, List, length, get_or, leb, ltb, eqb}
use Rattle.std.proofs.Math.Option.{Option, none, some}
use Rattle.lerc_words.specs.Lists.{tabulate, all_to}
use Rattle.lerc_contracts.specs.Outside.{on_some, length_max, word, bits_at}

-- `Plan`
pub record Plan : Type 0 where
  pub n : ℕ
  pub bits : ℕ
  pub entries : ℕ
  pub lut : ℕ
  pub at : ℕ
  pub next : ℕ
  pub width : ℕ

-- `ceil_bytes`
abbrev pub ceil_bytes : ℕ → ℕ → ℕ
ceil_bytes n b = (n * b + 7) / 8

-- `index_width`
unfoldable pub index_width : ℕ → ℕ
index_width n =
    cond (leb n 2) 1 (cond (leb n 4) 2 (cond (leb n 8) 3 (cond (leb n 16) 4 (cond (leb n 32) 5 (cond (leb n 64) 6 (cond (leb n 128) 7 8))))))

-- `plan`
unfoldable pub plan : List ℕ → ℕ → Option Plan
plan s start =
    cond (leb (length s) start || ltb length_max (length s)) none
    (let h = get_or s start 0 in
    let b = cond (eqb (h / 64) 0) 4 (3 - h / 64) in
    cond (eqb b 0 || ltb (length s) (start + 1 + b)) none
    (let n = word s (start + 1) b in
    let bits = h % 32 in
    let p = start + 1 + b in
    cond (ltb 256 n) none
    (cond (ltb (h % 64) 32)
    (let end = p + ceil_bytes n bits in
    cond (ltb (length s) end) none (some (record { n = n; bits = bits; entries = 0; lut = p; at = p; next = end; width = bits })))
    (cond (eqb bits 0 || leb (length s) p || ltb (get_or s p 0) 2) none
    (let entries = get_or s p 0 in
    let lut = p + 1 in
    let at = lut + ceil_bytes (entries - 1) bits in
    let width = index_width entries in
    let end = at + ceil_bytes n width in
    cond (ltb (length s) end) none (some (record { n = n; bits = bits; entries = entries; lut = lut; at = at; next = end; width = width })))))))

-- `index`
unfoldable pub index : List ℕ → Plan → ℕ → ℕ
index s p k = bits_at s (p.at * 8 + k * p.width) p.width

-- `item`
unfoldable pub item : List ℕ → Plan → ℕ → ℕ
item s p k =
    let q = index s p k in
    cond (eqb p.entries 0) q (cond (eqb q 0) 0 (bits_at s (p.lut * 8 + (q - 1) * p.bits) p.bits))

-- the pair that `decoded` gives: where the counts end, and the counts
pub record Items : Type 0 where
  pub end : ℕ
  pub values : List ℕ

-- `decoded`, of a plan and from the start
abbrev pub decoded_by : List ℕ → Plan → Option Items
decoded_by s p =
    cond (not (eqb p.entries 0) && not (all_to p.n (λ k. ltb (index s p k) p.entries))) none
    (some (record { end = p.next; values = tabulate p.n (λ k. item s p k) }))

unfoldable pub decoded : List ℕ → ℕ → Option Items
decoded s start = on_some (plan s start) (decoded_by s)
