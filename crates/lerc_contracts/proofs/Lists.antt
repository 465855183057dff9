-- New entries in front of old ones, entry by entry.
-- Assumes nothing.
use mathlib.Core.Path.{◌≡◌, sym, ◌∙◌}
use mathlib.Core.Bool.{cond}
use mathlib.Core.List.{List}
use Prim.Native.Nat.{ℕ, ◌+◌, ◌-◌, ◌≤◌, ◌<◌}
use native.Mathlib.Omega.{arith}
use native.Mathlib.Decide.{dec_lt}
use borrow.Author.Tests.{lt-ltb, le-ltb}
use lib.Dec.{ltb}
use lib.ListN.{length, get_or, drop, replicate, length-append, length-drop, length-replicate, get_or-replicate, get_or-append}
use lib.Seq.{get_or-append-add, get_or-drop, ext_get_or}
use Rattle.lerc_words.specs.Lists.{tabulate, over}
use Rattle.lerc_words.proofs.Tables.{length-tabulate, get_d_tabulate}

module _ (front old : List ℕ) where
  pub over-in : (i : ℕ) → i < length front → get_or (over front old) i 0 ≡ get_or front i 0
  over-in i h = get_or-append front (drop (length front) old) 0 i h

  pub over-out : (i : ℕ) → length front ≤ i → get_or (over front old) i 0 ≡ get_or old i 0
  over-out i h =
      let n = length front in
      let e : n + (i - n) ≡ i = omega arith in
      rw (e) at (get_or-append-add front (drop n old) (i - n) 0 ∙ get_or-drop n old (i - n) 0)

  pub length_over : length front ≤ length old → length (over front old) ≡ length old
  length_over h = simp (length-append, length-drop) (omega arith)

-- some words, then zeros
pub padded : (n : ℕ) (ws : List ℕ) (f : ℕ → ℕ) → length ws ≤ n → ((i : ℕ) → i < length ws → f i ≡ get_or ws i 0)
    → tabulate n (λ i. cond (ltb i (length ws)) (f i) 0) ≡ over ws (replicate n 0)
padded n ws f h e = ext_get_or 0 (tabulate n g) (over ws (replicate n 0)) (length-tabulate n g ∙ sym wide) (λ i l. at i (rw (length-tabulate n g) at l) (dec_lt i (length ws)))
  where
    g : ℕ → ℕ
    g i = cond (ltb i (length ws)) (f i) 0

    wide : length (over ws (replicate n 0)) ≡ n
    wide = length_over ws (replicate n 0) (rw (length-replicate) h) ∙ length-replicate n 0

    at : (i : ℕ) → i < n → Dec (i < length ws) → get_or (tabulate n g) i 0 ≡ get_or (over ws (replicate n 0)) i 0
    at i l (yes k) = rw (get_d_tabulate n g i 0 l, over-in ws (replicate n 0) i k, lt-ltb i (length ws) k) (e i k)
    at i l (no k) = rw (get_d_tabulate n g i 0 l, over-out ws (replicate n 0) i (omega arith), le-ltb i (length ws) (omega arith)) (sym (get_or-replicate n i 0 0 l))
