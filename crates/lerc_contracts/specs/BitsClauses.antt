-- lerc_bits.rs: a law for each clause, by the rows of docs/CONTRACTS.md (section 2). A `theirs` is a plan under upstream's names.
-- Assumes nothing.
use Rattle.std.specs.Prelude.{◌≡◌, List, ◌∷◌, ℕ, ◌+◌, ◌-◌, ◌*◌, ◌≤◌, ◌<◌, length, get_or, take}
use Rattle.std.proofs.Math.Option.{some}
use Rattle.lerc_words.specs.Res.{Res, ok, marked, accepts}
use Rattle.lerc_words.proofs.Little.{Bytes}
use Rattle.lerc_bits.specs.declared.Plan as our
use Rattle.lerc_bits.specs.Bits as ours
use Rattle.lerc_bits.specs.Bits.{Span, CountsDecoded, run_bytes, run}
use Rattle.lerc_contracts.specs.Outside.{said, is_some, length_max}
use Rattle.lerc_contracts.specs.Bits.{ceil_bytes, index_width, plan, index, item, Items, decoded}
use Rattle.lerc_contracts.specs.Between.{items, theirs}

-- `inspect`, from the promise of `lerc_bits::inspect`
pub record InspectClauses (s : List ℕ) (start : ℕ) (r : Res our.Plan) : Type 0 where
  -- 2.16
  pub inspect-ok : length s ≤ length_max → accepts r ≡ is_some (plan s start)
  -- 2.17
  pub inspect-plan : (p : our.Plan) → r ≡ ok p → length s ≤ length_max → plan s start ≡ some (theirs p)
  -- 2.18
  pub inspect-small : (p : our.Plan) → r ≡ ok p → (p.n ≤ 256) × (p.bits ≤ 31) × (p.width ≤ 31) × (p.entries ≤ 255)
  -- 2.19
  pub inspect-order : (p : our.Plan) → r ≡ ok p → (p.at ≤ p.next) × (p.next ≤ length s) × (p.table ≤ p.at)
  -- 2.20
  pub inspect-run : (p : our.Plan) → r ≡ ok p → p.at * 8 + p.n * p.width ≤ p.next * 8
  -- 2.21
  pub inspect-table : (p : our.Plan) → r ≡ ok p → 0 < p.entries → p.table * 8 + (p.entries - 1) * p.bits ≤ p.at * 8

-- `index`, and the cases of `item`
pub record ItemCases (s : List ℕ) (p : our.Plan) : Type 0 where
  -- 2.23
  pub index_is : (k : ℕ) → k < p.n → index s (theirs p) k ≡ get_or (run s p.at p.n p.width) k 0
  -- 2.24
  pub item-plain : (k : ℕ) → k < p.n → p.entries ≡ 0 → item s (theirs p) k ≡ get_or (run s p.at p.n p.width) k 0
  -- 2.25, 2.26
  pub item-named : (k : ℕ) → k < p.n → 1 ≤ p.entries → get_or (run s p.at p.n p.width) k 0 < p.entries → item s (theirs p) k ≡ get_or (0 ∷ run s p.table (p.entries - 1) p.bits) (get_or (run s p.at p.n p.width) k 0) 0

-- `decode_into`, and `decode`, whose array is 256 zeros at first: from the promise of `lerc_bits::decode`
pub record DecodeClauses (s : List ℕ) (start : ℕ) (r : Res Span) (new : List ℕ) : Type 0 where
  -- 2.31, 2.35
  pub decode-ok : accepts r ≡ is_some (decoded s start)
  -- 2.32, 2.36
  pub decode-end : (n next : ℕ) (d : Items) → r ≡ ok (record { n = n; next = next }) → decoded s start ≡ some d → (next ≡ d.end) × (n ≤ 256)
  -- 2.33, 2.37
  pub decode-values : (n next : ℕ) (d : Items) → r ≡ ok (record { n = n; next = next }) → decoded s start ≡ some d → take n new ≡ d.values
  -- 2.34, 2.38
  pub decode-inside : (n next : ℕ) (d : Items) → r ≡ ok (record { n = n; next = next }) → decoded s start ≡ some d → (start < next) × (next ≤ length s)

pub record BitsClauses : Type 0 where
  -- 2.2
  pub ceil-bytes-is : (n b : ℕ) → ceil_bytes n b ≡ run_bytes n b
  -- 2.3
  pub width_is : (n : ℕ) → 2 ≤ n → n ≤ 255 → index_width n ≡ ours.index_width n
  -- 2.4, 2.6 to 2.15
  pub plan-is : (s : List ℕ) (start : ℕ) → Bytes s → length s ≤ length_max → plan s start ≡ said theirs (ours.plan s start)
  pub inspect-clauses : (s : List ℕ) (start : ℕ) → Bytes s → (r : Res our.Plan) → r ≡ marked start (ours.plan s start) → InspectClauses s start r
  pub item-cases : (s : List ℕ) (p : our.Plan) → Bytes s → p.table + run_bytes (p.entries - 1) p.bits ≤ length s → p.at + run_bytes p.n p.width ≤ length s → ItemCases s p
  -- 2.27 to 2.29
  pub decoded-is : (s : List ℕ) (start : ℕ) → Bytes s → length s ≤ length_max → decoded s start ≡ said items (ours.counts s start)
  pub decode-clauses : (s : List ℕ) (start : ℕ) → Bytes s → length s ≤ length_max → (r : Res Span) (old new : List ℕ) → CountsDecoded (marked start (ours.counts s start)) r old new → DecodeClauses s start r new
