-- What can be stored: a sample that was read comes back, every stored word fits its kind, so does a block's offset, and so does
-- a step from it wherever the block's maximum does.
-- Assumes nothing.
use mathlib.Core.Path.{◌≡◌, refl, sym, ◌∙◌}
use mathlib.Core.Bool.{Bool, true, false, not, cond, ◌&&◌, ◌||◌}
use mathlib.Core.List.{[]}
use Prim.Native.Nat.{ℕ, ◌%◌, ◌^◌, ◌≤◌, ◌<◌}
use native.Mathlib.Nat.{mod-eq_of_lt}
use native.Mathlib.Decide.{dec_lt}
use native.Mathlib.Omega.{arith}
use borrow.Author.Tests.{lt-ltb, le-ltb, ltb-true, leb-true}
use lib.Dec.{ltb, leb, eqb}
use lib.ListN.{get_or}
use Rattle.lerc_words.specs.Res.{ok, require}
use Rattle.lerc_words.specs.Lists.{all_to}
use Rattle.lerc_words.proofs.Binding.{bind_is, require-is}
use Rattle.lerc_words.proofs.Tables.{all-each}
use Rattle.lerc_numeric.specs.Numeric.{negative, sum, scaled, less, lesser}
use Rattle.lerc_numeric.specs.Kinds.{modulus, integer, widened, value_of, narrowed, bound, cut}
use Rattle.lerc_numeric.proofs.Integers.{modulus-last, value-int, value-six, value-last}
use Rattle.lerc_numeric.proofs.Fits.{KindHolds, word_of, held_cut, cut-held, cut-lt, cut-integer, value-held, held-wider, held-between, held-clamped}
use Rattle.lerc_numeric.proofs.Binary32.{narrowed-lt}
use Rattle.lerc_numeric.proofs.RoundTrip.{narrow_wide}
use Rattle.lerc_samples.specs.Samples.{stored, offset_kinds, offset_kind}
use Rattle.lerc_samples.proofs.Offsets.{offset-code-past}
use Rattle.lerc_samples.proofs.Words.{stored-six, stored_last}

-- ---- by the kind
pub stored-int : (kind w : ℕ) → kind < 6 → stored kind w ≡ cut kind w
unfolding stored
stored-int kind w h = rw (lt-ltb kind 6 h)

stored-single : (w : ℕ) → stored 6 w ≡ ok (narrowed w)
stored-single w = sym (stored-six 6 w (narrowed w) refl refl)

stored-bits : (kind w : ℕ) → 6 < kind → stored kind w ≡ ok w
stored-bits kind w h = sym (stored_last kind w (omega arith) (λ e. absurd (omega arith)))

-- ---- a word that was read comes back
pub stored-value : (kind w : ℕ) → w < modulus kind → stored kind (value_of kind w) ≡ ok w
stored-value kind w h = go (dec_lt kind 6) (dec_lt 6 kind)
  where
    go : Dec (kind < 6) → Dec (6 < kind) → stored kind (value_of kind w) ≡ ok w
    go (yes k) d =
        rw (← value-int kind w (modulus kind) (integer kind (w % modulus kind)) refl k refl, mod-eq_of_lt h, stored-int kind (integer kind w) k) (cut-integer kind w k h)
    go (no k) (yes d) =
        let l : w < 2 ^ 64 = rw (modulus-last kind d) at h in
        rw (← value-last kind w (omega arith) (λ e. absurd (omega arith)) l, stored-bits kind w d)
    go (no k) (no d) =
        let e : kind ≡ 6 = omega arith in
        let l : w < 2 ^ 32 = rw (e) at h in
        rw (e, ← value-six 6 w (widened (w % 2 ^ 32)) refl refl, mod-eq_of_lt l, stored-single (widened w), narrow_wide w l)

-- ---- a stored word fits its kind
pub stored-lt : (kind w v : ℕ) → w < 2 ^ 64 → stored kind w ≡ ok v → v < modulus kind
stored-lt kind w v l e = go (dec_lt kind 6) (dec_lt 6 kind)
  where
    go : Dec (kind < 6) → Dec (6 < kind) → v < modulus kind
    go (yes k) d = cut-lt kind w v (sym (stored-int kind w k) ∙ e)
    go (no k) (yes d) =
        let z : v ≡ w = cc (stored-bits kind w d) in
        rw (modulus-last kind d, z) l
    go (no k) (no d) =
        let six : kind ≡ 6 = omega arith in
        let z : v ≡ narrowed w = cc (stored-single w) in
        rw (six, z) (narrowed-lt w l)

-- ---- a value between two that can be stored can be stored
abbrev pub Storable : ℕ → ℕ → Type 0
Storable kind w = (v : ℕ) × (stored kind w ≡ ok v)

pub held-storable : (kind w : ℕ) → KindHolds kind w → Storable kind w
held-storable kind w h = (word_of kind w, stored-int kind w h.integers ∙ held_cut kind w h)

pub storable-held : (kind w : ℕ) → kind < 6 → Storable kind w → KindHolds kind w
storable-held kind w h s = cut-held kind w s.0 (sym (stored-int kind w h) ∙ s.1)

pub storable-float : (kind w : ℕ) → 6 ≤ kind → Storable kind w
unfolding stored
storable-float kind w h = (cond (eqb kind 6) (narrowed w) w, rw (le-ltb kind 6 h))

pub storable-between : (kind low x high : ℕ) → Storable kind low → Storable kind high → less x low ≡ false → less high x ≡ false → Storable kind x
storable-between kind low x high sl sh l h = go (dec_lt kind 6)
  where
    go : Dec (kind < 6) → Storable kind x
    go (yes k) = held-storable kind x (held-between kind low x high (storable-held kind low k sl) (storable-held kind high k sh) l h)
    go (no k) = storable-float kind x (omega arith)

pub storable-clamped : (kind offset error q maximum : ℕ) → Storable kind offset → Storable kind maximum → negative error ≡ false
    → Storable kind (lesser (sum offset (scaled error q)) maximum)
storable-clamped kind offset error q maximum so sm e = go (dec_lt kind 6)
  where
    go : Dec (kind < 6) → Storable kind (lesser (sum offset (scaled error q)) maximum)
    go (yes k) =
        held-storable kind (lesser (sum offset (scaled error q)) maximum)
        (held-clamped kind offset error q maximum (storable-held kind offset k so) (storable-held kind maximum k sm) e)
    go (no k) = storable-float kind (lesser (sum offset (scaled error q)) maximum) (omega arith)

-- ---- an offset's kind lies within the kind of its block: one test of the table
narrower : ℕ → ℕ → Bool
narrower k kind = ltb k 6 && (leb (bound k true) (bound kind true) && leb (bound k false) (bound kind false))

fitting : ℕ → ℕ → Bool
unfolding narrower
fitting kind code = let k = get_or (get_or offset_kinds kind []) code 9 in not (ltb k 9) || narrower k kind

table : all_to 6 (λ kind. all_to 4 (λ code. fitting kind code)) ≡ true
unfolding all_to fitting narrower offset_kinds
table = refl

-- so any offset that the table allows can be stored
split : (a b : Bool) → (a && b) ≡ true → (a ≡ true) × (b ≡ true)
split true true e = (refl, refl)
split true false e = absurd (let z : ◌≡◌ {A = ℕ} 0 1 = cc in omega arith)
split false b e = absurd (let z : ◌≡◌ {A = ℕ} 0 1 = cc in omega arith)

record Narrower (k kind : ℕ) : Type 0 where
  integers : k < 6
  low : bound k true ≤ bound kind true
  high : bound k false ≤ bound kind false

narrower-is : (k kind : ℕ) → narrower k kind ≡ true → Narrower k kind
unfolding narrower
narrower-is k kind e =
    let a = split (ltb k 6) (leb (bound k true) (bound kind true) && leb (bound k false) (bound kind false)) e in
    let b = split (leb (bound k true) (bound kind true)) (leb (bound k false) (bound kind false)) a.1 in
    record { integers = ltb-true k 6 a.0; low = leb-true (bound k true) (bound kind true) b.0; high = leb-true (bound k false) (bound kind false) b.1 }

code_lt : (kind code k : ℕ) → kind < 6 → offset_kind kind code ≡ ok k → code < 4
code_lt kind code k h e = go (dec_lt code 4)
  where
    go : Dec (code < 4) → code < 4
    go (yes l) = l
    go (no l) =
        let f = offset-code-past kind code (omega arith) (omega arith) in
        absurd (let z : ◌≡◌ {A = ℕ} 0 1 = cc in omega arith)

offset-narrower : (kind code k : ℕ) → kind < 6 → offset_kind kind code ≡ ok k → Narrower k kind
unfolding offset_kind fitting
offset-narrower kind code k hk e =
    let hc = code_lt kind code k hk e in
    let x = get_or (get_or offset_kinds kind []) code 9 in
    let b = bind_is (require (ltb x 9) 8) (λ _. ok x) e in
    let l : ltb x 9 ≡ true = require-is (ltb x 9) 8 b.1 in
    let z : x ≡ k = cc b.2 in
    let t : fitting kind code ≡ true = all-each 4 code (λ c. fitting kind c) (all-each 6 kind (λ n. all_to 4 (λ c. fitting n c)) table hk) hc in
    let n : narrower x kind ≡ true = rw (l) at t in
    rw (← z) (narrower-is x kind n)

pub offset-storable : (kind code k w : ℕ) → offset_kind kind code ≡ ok k → Storable kind (value_of k w)
offset-storable kind code k w e = go (dec_lt kind 6)
  where
    go : Dec (kind < 6) → Storable kind (value_of k w)
    go (yes h) =
        let n = offset-narrower kind code k h e in
        held-storable kind (value_of k w) (held-wider k kind (value_of k w) h n.low n.high (value-held k w n.integers))
    go (no h) = storable-float kind (value_of k w) (omega arith)
