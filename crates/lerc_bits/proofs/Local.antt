-- Packed counts depend on their own bytes only, wherever these stand.
-- Assumes nothing.
use mathlib.Core.Path.{◌≡◌, sym, ap, ◌∙◌}
use mathlib.Core.List.{List, ◌++◌}
use Prim.Native.Nat.{ℕ, ◌+◌, ◌-◌, ◌%◌, ◌≤◌}
use native.Mathlib.Omega.{arith}
use native.Mathlib.Nat.{add_assoc, add-zero, zero-add}
use lib.ListN.{length, length-append}
use lib.Seq.{get_or-append-add}
use Rattle.lerc_words.specs.Res.{ok, word_at}
use Rattle.lerc_words.proofs.Little.{Stays, word_at-stays, little-same}
use Rattle.lerc_bits.specs.declared.Plan.{Plan}
use Rattle.lerc_bits.specs.Bits.{run_bytes, index_width, count_bytes, plain_plan, table_plan, plan, digits, run, unpacked, Counts, counts}
use Rattle.lerc_bits.proofs.Returns.{Headed, counts-by, unpacked-plain, unpacked-table}
use Rattle.lerc_bits.proofs.Plans.{Laid, laid-plain, laid_table, planned, plan-is, laid-spread, plan-ends}
use Rattle.lerc_bits.proofs.Values.{Valued, valued_plain, valued-table, counts-is, counts-ends}

-- the same plan, for bytes that stand at `to` and not at `at`
abbrev pub moved : ℕ → ℕ → Plan → Plan
moved at to p = record {
  n = p.n;
  bits = p.bits;
  entries = p.entries;
  table = p.table - at + to;
  at = p.at - at + to;
  width = p.width;
  next = p.next - at + to;
}

moved_plain : (n bits at to j : ℕ) → moved at to (plain_plan n bits (at + j)) ≡ plain_plan n bits (to + j)
moved_plain n bits at to j =
    let e : at + j - at + to ≡ to + j = omega arith in
    let d : at + j + run_bytes n bits - at + to ≡ to + j + run_bytes n bits = omega arith in
    rw (d, e)

moved-table : (n bits entries at to j : ℕ) → moved at to (table_plan n bits entries (at + j)) ≡ table_plan n bits entries (to + j)
moved-table n bits entries at to j =
    let m = run_bytes (entries - 1) bits in
    let w = index_width entries in
    let e : at + j - at + to ≡ to + j = omega arith in
    let f : at + j + m - at + to ≡ to + j + m = omega arith in
    let d : at + j + m + run_bytes n w - at + to ≡ to + j + m + run_bytes n w = omega arith in
    rw (d, f, e)

module _ {s t : List ℕ} {at to k : ℕ} (l : Stays s at t to k) where
  laid-stays : (j h n : ℕ) {p : Plan} → Laid s (at + j) h n p → p.table ≤ at + k → Laid t (to + j) h n (moved at to p)
  laid-stays j h n (laid-plain c e) g = laid-plain c (ap (moved at to) e ∙ moved_plain n (h % 32) at to j)
  laid-stays j h n (laid_table v c b w m e) g =
      let i : at + j + 1 ≤ at + k = rw (e) at g in
      laid_table v c b (word_at-stays 1 j w (omega arith) l) m
      (ap (moved at to) e ∙ rw (add_assoc at j 1, add_assoc to j 1) (moved-table n (h % 32) v at to (j + 1)))

  headed-stays : (h n : ℕ) → Headed s at h n → 1 + count_bytes h ≤ k → Headed t to h n
  headed-stays h n g i =
      let y : word_at 1 s (at + 0) ≡ ok h = rw (add-zero) g.first in
      let f : word_at 1 t to ≡ ok h = rw (add-zero) at (word_at-stays 1 0 y (omega arith) l) in
      record { first = f; known = g.known; second = word_at-stays (count_bytes h) 1 g.second i l }

  -- THE LOCALITY LAW of plans
  pub plan-stays : {p : Plan} → plan s at ≡ ok p → p.next ≡ at + k → plan t to ≡ ok (moved at to p)
  plan-stays {p} e d =
      let g = plan-is s at e in
      let c = count_bytes g.h in
      let i = (laid-spread g.laid).starts in
      let b = plan-ends s at e in
      let x : Laid s (at + (1 + c)) g.h g.n p = rw (← add_assoc at 1 c) g.laid in
      let y : Laid t (to + 1 + c) g.h g.n (moved at to p) = rw (add_assoc to 1 c) (laid-stays (1 + c) g.h g.n x (omega arith)) in
      planned t to (record {
        h = g.h;
        n = g.n;
        headed = headed-stays g.h g.n g.headed (omega arith);
        few = g.few;
        laid = y;
        inside = omega (arith, l.room);
      })

  run-stays : (n bits q : ℕ) → at ≤ q → q + run_bytes n bits ≤ at + k → run s q n bits ≡ run t (q - at + to) n bits
  run-stays n bits q h g =
      ap (λ (x : ℕ). digits x n bits)
      (little-same (run_bytes n bits) s t q (q - at + to) (λ i j.
      let e : q + i ≡ at + (q - at + i) = omega arith in
      let f : q - at + to + i ≡ to + (q - at + i) = omega arith in
      rw (e, f) (l.same (q - at + i) (omega arith))))

  valued-stays : {p : Plan} {vs : List ℕ} → at ≤ p.table → p.table + run_bytes (p.entries - 1) p.bits ≤ p.at → p.at + run_bytes p.n p.width ≡ at + k → p.next ≡ at + k
      → Valued s p vs → unpacked t (moved at to p) ≡ ok (record { values = vs; next = to + k })
  valued-stays {p} a b c d (valued_plain z i) =
      let e : p.next - at + to ≡ to + k = omega arith in
      let f = run-stays p.n p.width p.at (omega arith) (omega arith) in
      unpacked-plain t (moved at to p) z ∙ rw (e, i, f)
  valued-stays {p} a b c d (valued-table h q i) =
      let e : p.next - at + to ≡ to + k = omega arith in
      let f = run-stays p.n p.width p.at (omega arith) (omega arith) in
      let g = run-stays (p.entries - 1) p.bits p.table a (omega arith) in
      unpacked-table t (moved at to p) h (rw (f) at q) ∙ rw (e, i, f, g)

  -- and of counts
  pub counts-stays : {c : Counts} → counts s at ≡ ok c → c.next ≡ at + k → counts t to ≡ ok (record { values = c.values; next = to + k })
  counts-stays e d =
      let g = counts-is s at e in
      let r = laid-spread (plan-is s at g.planned).laid in
      let b = plan-ends s at g.planned in
      let n : g.p.next ≡ at + k = g.ends ∙ d in
      counts-by t to (plan-stays g.planned n) ∙ valued-stays (omega arith) r.first (r.second ∙ n) n g.valued

-- bytes in front of them only move them
pub counts_behind : (front s : List ℕ) {c : Counts} → counts s 0 ≡ ok c → counts (front ++ s) (length front) ≡ ok (record { values = c.values; next = length front + c.next })
counts_behind front s {c} e =
    let b = counts-ends s 0 e in
    let l : length (front ++ s) ≡ length front + length s = length-append front s in
    let m : Stays s 0 (front ++ s) (length front) c.next = record { same = λ i h. rw (zero-add) (sym (get_or-append-add front s i 0)); room = omega arith } in
    counts-stays m e (sym (zero-add c.next))
