-- lerc_byte_image.rs, second half: "THE IMAGE" says that upstream's cell by cell is our image, painted.
-- Assumes nothing.
use mathlib.Core.Path.{◌≡◌, refl, sym, ap, ◌∙◌}
use mathlib.Core.Bool.{Bool, true, false, cond, ◌&&◌}
use mathlib.Core.List.{List, ◌∷◌}
use mathlib.Core.Option.{none, some}
use Prim.Native.Nat.{ℕ, zero, suc, ◌+◌, ◌-◌, ◌*◌, ◌/◌, ◌%◌, ◌≤◌, ◌<◌}
use native.Mathlib.Omega.{arith}
use native.Mathlib.Nat.{suc-mul, add-zero, zero-mod, div-add-mod', mod-lt, add-mul}
use native.Mathlib.Numerals.{add-one}
use native.Mathlib.Decide.{dec_lt}
use borrow.Author.Tests.{lt-ltb, le-ltb, le-leb, lt-leb, eq-eqb, ne_eqb}
use lib.Arith.{digits_div, digits_mod, digits_lt}
use lib.Dec.{leb, eqb}
use lib.ListN.{length, get_or, set}
use Rattle.lerc_words.specs.declared.Refusal.{Refusal}
use Rattle.lerc_words.specs.Res.{Res, ok, fail, ◌>>=◌, require}
use Rattle.lerc_words.specs.Lists.{count}
use Rattle.lerc_words.proofs.Counts.{count-zero, count-more, count-mono}
use Rattle.lerc_header.specs.declared.Header.{Header}
use Rattle.lerc_header.specs.Header.{shape_of}
use Rattle.lerc_header.specs.Shape.{Shaped, pixels, cells}
use Rattle.lerc_header.proofs.Sizes.{pixels-some}
use Rattle.lerc_mask.specs.Mask.{pixel_valid, valid_below}
use Rattle.lerc_image.specs.Geometry.{is_valid_cell}
use Rattle.lerc_image.specs.Paint.{painted}
use Rattle.lerc_image.proofs.Painting.{painted-cell, painted-words}
use Rattle.lerc_byte_image.specs.Table.{Table, table_at}
use Rattle.lerc_byte_image.specs.Symbols.{Symbol, symbol_at, Run, symbols_from, end_of, coded_at}
use Rattle.lerc_byte_image.specs.Prediction.{byte_of, left_behind, delta_place, plain_place, byte_word}
use Rattle.lerc_byte_image.specs.Prediction as ours
use Rattle.lerc_byte_image.specs.Image.{or_none, spot, symbol_no}
use Rattle.lerc_byte_image.proofs.LeftBehind.{left, left-none, left-yes, left-no, guess-is, delta-is}
use Rattle.lerc_byte_image.proofs.Coded.{coded-symbol}
use Rattle.lerc_byte_image.proofs.Written.{byte-same}
use Rattle.lerc_contracts.specs.Outside.{said, on_some, Parsed, symbol}
use Rattle.lerc_contracts.specs.ByteImage.{pixel, target, prediction, value, bytes_end, finish, decoded}
use Rattle.lerc_contracts.specs.Between.{order_of, place_of, imaged}
use Rattle.lerc_contracts.specs.ByteClauses.{PredictionClauses, ByteFinishCases, DecodedCases}
use Rattle.lerc_contracts.proofs.CellOrder.{cells_are}
use Rattle.lerc_contracts.proofs.ByteOrder.{pixels-are, depth_low, place_is, places-are, up_to, is_done, paint-none, paint-all, paint-valid, paint-skip}

-- ---- one step of `finish`

-- a byte: upstream's is ours
value-is : (h : Header) (v predicted : ℕ) → value h v predicted ≡ byte_of h.kind v predicted
unfolding byte_of
value-is h v predicted = go (eqb h.kind 0)
  where
    go : (b : Bool) → (v + 256 - cond b 128 0 + predicted) % 256 ≡ (v + predicted + (256 - cond b 128 0)) % 256
    go true = omega arith
    go false = omega arith

module _ (s : List ℕ) (h : Header) (mask : List ℕ) (base : ℕ) (t : Table) (delta : Bool) (k p prev : ℕ) (out : List ℕ) where
  -- 6.4
  pub finish-done : (fuel : ℕ) → k ≡ cells (shape_of h) → finish s h mask base t delta k p prev out fuel ≡ bytes_end s base p out
  unfolding finish
  finish-done zero e = rw (eq-eqb k (h.columns * h.rows * h.depth) (e ∙ sym (cells_are h)))
  finish-done (suc fuel) e = rw (eq-eqb k (h.columns * h.rows * h.depth) (e ∙ sym (cells_are h)))

  module _ (d : k ≡ cells (shape_of h) → ⊥) where
    apart : k ≡ h.columns * h.rows * h.depth → ⊥
    apart e = d (e ∙ cells_are h)

    -- 6.5
    pub finish-out : finish s h mask base t delta k p prev out zero ≡ none
    unfolding finish
    finish-out = rw (ne_eqb k (h.columns * h.rows * h.depth) apart)

    module _ (fuel : ℕ) where
      -- 6.6
      pub finish-skip : pixel_valid mask (pixel h delta k) ≡ false
          → finish s h mask base t delta k p prev out (suc fuel) ≡ finish s h mask base t delta (k + 1) p (cond (delta && eqb (pixel h delta k) 0) 0 prev) out fuel
      unfolding finish
      finish-skip v = rw (ne_eqb k (h.columns * h.rows * h.depth) apart, v)

      -- 6.7
      pub finish-stop : pixel_valid mask (pixel h delta k) ≡ true → symbol s base p t ≡ none → finish s h mask base t delta k p prev out (suc fuel) ≡ none
      unfolding finish
      finish-stop v e = rw (ne_eqb k (h.columns * h.rows * h.depth) apart, v, e)

      -- 6.8
      pub finish-step : (x : Symbol) → pixel_valid mask (pixel h delta k) ≡ true → symbol s base p t ≡ some x
          → finish s h mask base t delta k p prev out (suc fuel)
          ≡ (let v = byte_of h.kind x.value (prediction h delta k mask out prev) in finish s h mask base t delta (k + 1) x.next v (set out (target h delta k) v) fuel)
      unfolding finish
      finish-step x v e = rw (ne_eqb k (h.columns * h.rows * h.depth) apart, v, e, value-is h x.value (prediction h delta k mask out prev))

  pub byte-finish-cases : ByteFinishCases s h mask base t delta k p prev out
  byte-finish-cases = record {
    finish-done = finish-done;
    finish-out = finish-out;
    finish-skip = finish-skip;
    finish-stop = finish-stop;
    finish-step = finish-step;
  }

module _ (s : List ℕ) (h : Header) (mask : List ℕ) (start : ℕ) (delta : Bool) (out : List ℕ) where
  pub decoded-cases : DecodedCases s h mask start delta out
  unfolding decoded
  decoded-cases = record {
    decoded-none = λ e. rw (e);
    decoded-table = λ t e. rw (e, cells_are h);
  }

-- ---- n symbols from bit p on, and the word after: where they end

module _ (s : List ℕ) (t : Table) where
  abbrev fitting : Run → Res ℕ
  fitting r = require (leb (end_of t.start r.bits) (length s)) 1 >>= λ _. ok (end_of t.start r.bits)

  abbrev behind : ℕ → ℕ → Res ℕ
  behind n p = symbols_from s t n p >>= fitting

  behind_more : (n p : ℕ) (x : Symbol) → symbol_at s t p ≡ ok x → behind (suc n) p ≡ behind n x.next
  unfolding symbols_from
  behind_more n p x e = rw (e) (go (symbols_from s t n x.next))
    where
      go : (r : Res Run) → ((r >>= λ y. ok (record { values = x.value ∷ y.values; bits = y.bits })) >>= fitting) ≡ (r >>= fitting)
      go (ok y) = refl
      go (fail q) = refl

  behind-none : (n p : ℕ) (q : Refusal) → symbol_at s t p ≡ fail q → behind (suc n) p ≡ fail q
  unfolding symbols_from
  behind-none n p q e = rw (e)

  behind-done : (p : ℕ) (out : List ℕ) → bytes_end s t.start p out ≡ said (λ e. record { at = e; image = out }) (behind 0 p)
  unfolding symbols_from
  behind-done p out = go (dec_lt (length s) (end_of t.start p))
    where
      go : Dec (length s < end_of t.start p) → bytes_end s t.start p out ≡ said (λ e. record { at = e; image = out }) (require (leb (end_of t.start p) (length s)) 1 >>= λ _. ok (end_of t.start p))
      go (yes l) = rw (lt-ltb (length s) (end_of t.start p) l, lt-leb (end_of t.start p) (length s) l)
      go (no l) = rw (le-ltb (length s) (end_of t.start p) (omega arith), le-leb (end_of t.start p) (length s) (omega arith))

-- ---- the prediction

module _ (h : Header) (g : Shaped (shape_of h)) (mask : List ℕ) (symbols : ℕ → ℕ) (k previous : ℕ) (out : List ℕ) where
  pub prediction-clauses : PredictionClauses h mask (left_behind h.kind h.columns mask symbols) k previous out
  unfolding prediction left
  prediction-clauses = record {
    prediction-none = refl;
    prediction-is = λ last above. guess-is h.kind h.columns mask symbols (pixel h true k) _ _ g.columns.0 last above;
  }

-- ---- the words

-- a row up
row_up : (p columns depth d : ℕ) → columns ≤ p → p * depth + d - columns * depth ≡ (p - columns) * depth + d
row_up p columns depth d l =
    let e : p - columns + columns ≡ p = omega arith in
    let z : p * depth ≡ (p - columns) * depth + columns * depth = rw (e) at (add-mul (p - columns) columns depth) in
    omega arith

module _ (s : List ℕ) (h : Header) (g : Shaped (shape_of h)) (mask : List ℕ) (t : Table) where
  -- our word of a cell
  abbrev word_of : Bool → ℕ → ℕ
  word_of delta = byte_word (shape_of h) h.kind delta mask (symbol_no s t 0)

  -- the last value before pixel p of depth d
  abbrev last_of : ℕ → ℕ → ℕ
  last_of d p = left h.kind h.columns mask (λ q. symbol_no s t 0 (delta_place (shape_of h) mask d q)) p

  delta-word : (p d : ℕ) → d < h.depth → word_of true (p * h.depth + d) ≡ last_of d (p + 1)
  unfolding byte_word
  delta-word p d l =
      rw (digits_div p l, digits_mod p l)
      (delta-is h.kind h.columns mask (λ q. symbol_no s t 0 (delta_place (shape_of h) mask d q)) p)

  -- what upstream carries from cell to cell: with prediction the last value, at the start of a depth anything
  abbrev Carried : Bool → ℕ → ℕ → Type 0
  Carried delta k prev = delta ≡ true → cond (eqb (k % pixels (shape_of h)) 0) 0 prev ≡ last_of (k / pixels (shape_of h)) (k % pixels (shape_of h))

  carried_first : (delta : Bool) → Carried delta 0 0
  carried_first delta e = rw (zero-mod (pixels (shape_of h))) (sym (left-none h.kind h.columns mask _))

  -- one pixel on
  carried_on : (k v : ℕ) → v ≡ last_of (k / pixels (shape_of h)) (k % pixels (shape_of h) + 1) → cond (eqb ((k + 1) % pixels (shape_of h)) 0) 0 v ≡ last_of ((k + 1) / pixels (shape_of h)) ((k + 1) % pixels (shape_of h))
  carried_on k v e = go (dec_lt (k % pixels (shape_of h) + 1) (pixels (shape_of h)))
    where
      n : ℕ
      n = pixels (shape_of h)

      go : Dec (k % n + 1 < n) → cond (eqb ((k + 1) % n) 0) 0 v ≡ last_of ((k + 1) / n) ((k + 1) % n)
      go (yes l) =
          let z : k + 1 ≡ k / n * n + (k % n + 1) = omega (arith, div-add-mod' k n) in
          rw (z, digits_div (k / n) l, digits_mod (k / n) l, ne_eqb (k % n + 1) 0 (λ o. omega arith)) e
      go (no l) =
          let some : 0 < n = pixels-some (shape_of h) g in
          let low : k % n < n = mod-lt k some in
          let z : k + 1 ≡ suc (k / n) * n + 0 = omega (arith, div-add-mod' k n, suc-mul (k / n) n) in
          rw (z, digits_mod (suc (k / n)) some) (sym (left-none h.kind h.columns mask _))

  module _ (image : List ℕ) (room : cells (shape_of h) ≤ length image) where
    -- the image once the first k cells are done
    abbrev so_far : Bool → ℕ → List ℕ
    so_far delta k = up_to h g mask delta image (word_of delta) k

    -- the word above
    above-is : (k : ℕ) → k < cells (shape_of h) → h.columns ≤ k % pixels (shape_of h) → pixel_valid mask (k % pixels (shape_of h) - h.columns) ≡ true
        → get_or (so_far true k) (k % pixels (shape_of h) * h.depth + k / pixels (shape_of h) - h.columns * h.depth) 0 ≡ last_of (k / pixels (shape_of h)) (k % pixels (shape_of h) - h.columns + 1)
    unfolding is_valid_cell order_of
    above-is k l c v =
        let n = pixels (shape_of h) in
        let p = k % n - h.columns in
        let d = k / n in
        let deep : d < h.depth = depth_low h g k l in
        let low : k % n < n = mod-lt k (pixels-some (shape_of h) g) in
        let there : k % n * h.depth + d - h.columns * h.depth ≡ p * h.depth + d = row_up (k % n) h.columns h.depth d c in
        let inside : p * h.depth + d < cells (shape_of h) = digits_lt (let x : p < n = omega arith in x) deep in
        let before : d * n + p < k = omega (arith, div-add-mod' k n) in
        rw (there)
        (painted-cell image (word_of true) (is_done h g mask true image (word_of true) k) (p * h.depth + d) (omega arith)
        ∙ rw (lt-ltb (p * h.depth + d) (cells (shape_of h)) inside, digits_div p deep, digits_mod p deep, v, lt-ltb (d * n + p) k before) (delta-word p d deep))

    predicted : (k prev : ℕ) → k < cells (shape_of h) → Carried true k prev
        → prediction h true k mask (so_far true k) prev ≡ ours.prediction h.columns mask (left_behind h.kind h.columns mask (λ q. symbol_no s t 0 (delta_place (shape_of h) mask (k / pixels (shape_of h)) q)) (k % pixels (shape_of h))) (k % pixels (shape_of h))
    unfolding pixel target left
    predicted k prev l e =
        rw (pixels-are h) at
        ((prediction-clauses h g mask (λ q. symbol_no s t 0 (delta_place (shape_of h) mask (k / pixels (shape_of h)) q)) k prev (so_far true k)).prediction-is (rw (pixels-are h) (e refl)) (rw (pixels-are h) (above-is k l)))

    none-predicted : (k prev : ℕ) → prediction h false k mask (so_far false k) prev ≡ 0
    unfolding prediction
    none-predicted k prev = refl

    plain_word : (k : ℕ) → word_of false k ≡ byte_of h.kind (symbol_no s t 0 (plain_place (shape_of h) mask (k % h.depth) (k / h.depth))) 0
    unfolding byte_word
    plain_word k = refl

    -- the word of the k-th cell, and what is carried on from it
    word-is : (delta : Bool) (k prev : ℕ) → k < cells (shape_of h) → pixel_valid mask (pixel h delta k) ≡ true → Carried delta k prev
        → byte_of h.kind (symbol_no s t 0 (count k (λ j. pixel_valid mask (pixel h delta j)))) (prediction h delta k mask (so_far delta k) prev) ≡ word_of delta (target h delta k)
    unfolding pixel target place_of
    word-is true k prev l v e =
        let n = pixels (shape_of h) in
        let d = k / n in
        let deep : d < h.depth = depth_low h g k l in
        let place : count k (λ j. pixel_valid mask (j % n)) ≡ delta_place (shape_of h) mask d (k % n) = rw (pixels-are h, digits_div (k % n) deep, digits_mod (k % n) deep) at (place_is h g mask true k l v) in
        let w : pixel_valid mask (k % n) ≡ true = rw (pixels-are h) at v in
        rw (predicted k prev l e, pixels-are h, place, delta-word (k % n) d deep)
        (sym (left-yes h.kind h.columns mask (λ q. symbol_no s t 0 (delta_place (shape_of h) mask d q)) (k % n) w))
    word-is false k prev l v e = rw (none-predicted k prev, place_is h g mask false k l v) (sym (plain_word k))

    carried-valid : (delta : Bool) (k : ℕ) → k < cells (shape_of h) → Carried delta (k + 1) (word_of delta (target h delta k))
    unfolding pixel target
    carried-valid true k l e = carried_on k _ (rw (pixels-are h) (delta-word (k % pixels (shape_of h)) (k / pixels (shape_of h)) (depth_low h g k l)))
    carried-valid false k l e = absurd (let z : ◌≡◌ {A = ℕ} 0 1 = ap (λ (b : Bool). cond b 1 0) e in omega arith)

    carried-skip : (delta : Bool) (k prev : ℕ) → k < cells (shape_of h) → pixel_valid mask (pixel h delta k) ≡ false → Carried delta k prev → Carried delta (k + 1) (cond (delta && eqb (pixel h delta k) 0) 0 prev)
    unfolding pixel
    carried-skip true k prev l v e o =
        let w : pixel_valid mask (k % pixels (shape_of h)) ≡ false = rw (pixels-are h) at v in
        carried_on k _ (rw (pixels-are h) (e refl ∙ sym (left-no h.kind h.columns mask _ (k % pixels (shape_of h)) w)))
    carried-skip false k prev l v e o = absurd (let z : ◌≡◌ {A = ℕ} 0 1 = ap (λ (b : Bool). cond b 1 0) o in omega arith)

    -- ---- all cells

    module _ (delta : Bool) where
      -- how many symbols are read before the k-th cell
      abbrev used : ℕ → ℕ
      used k = count k (λ j. pixel_valid mask (pixel h delta j))

      spotted : (i : ℕ) (x : Symbol) → symbol_at s t (spot s t 0 i) ≡ ok x → (symbol_no s t 0 i ≡ x.value) × (spot s t 0 (i + 1) ≡ x.next)
      unfolding symbol_no spot
      spotted i x e = (ap (λ (r : Res Symbol). (or_none (spot s t 0 i) r).value) e, rw (add-one) (ap (λ (r : Res Symbol). (or_none (spot s t 0 i) r).next) e))

      -- what is left of the image from the k-th cell on
      abbrev Rest : ℕ → ℕ → Type 0
      Rest fuel k = (prev : ℕ) → Carried delta k prev
          → finish s h mask t.start t delta k (spot s t 0 (used k)) prev (so_far delta k) fuel
          ≡ said (λ e. record { at = e; image = so_far delta (cells (shape_of h)) }) (behind s t (used (cells (shape_of h)) - used k) (spot s t 0 (used k)))

      walk_more : (fuel k : ℕ) → k < cells (shape_of h) → Rest fuel (k + 1) → Rest (suc fuel) k
      walk_more fuel k l rest prev c = look (pixel_valid mask (pixel h delta k)) refl
        where
          d : k ≡ cells (shape_of h) → ⊥
          d e = omega arith

          p : ℕ
          p = spot s t 0 (used k)

          Wanted : Type 0
          Wanted = finish s h mask t.start t delta k p prev (so_far delta k) (suc fuel)
              ≡ said (λ e. record { at = e; image = so_far delta (cells (shape_of h)) }) (behind s t (used (cells (shape_of h)) - used k) p)

          read : pixel_valid mask (pixel h delta k) ≡ true → used (k + 1) ≡ used k + 1 → used (cells (shape_of h)) - used k ≡ suc (used (cells (shape_of h)) - used (k + 1)) → (m : Res Symbol) → symbol_at s t p ≡ m → Wanted
          read v a n (fail q) e =
              finish-stop s h mask t.start t delta k p prev (so_far delta k) d fuel v (rw (e))
              ∙ rw (n, behind-none s t (used (cells (shape_of h)) - used (k + 1)) p q e)
          read v a n (ok x) e =
              let (w, o) = spotted (used k) x e in
              let i : byte_of h.kind x.value (prediction h delta k mask (so_far delta k) prev) ≡ word_of delta (target h delta k) = rw (← w) (word-is delta k prev l v c) in
              let o : x.next ≡ spot s t 0 (used (k + 1)) = rw (a) (sym o) in
              finish-step s h mask t.start t delta k p prev (so_far delta k) d fuel x v (rw (e))
              ∙ rw (i, paint-valid h g mask delta image (word_of delta) k l room v, n, behind_more s t (used (cells (shape_of h)) - used (k + 1)) p x e, o)
              (rest (word_of delta (target h delta k)) (carried-valid delta k l))

          look : (b : Bool) → pixel_valid mask (pixel h delta k) ≡ b → Wanted
          look true v =
              let a : used (k + 1) ≡ used k + 1 = count-more k _ ∙ rw (v) in
              let b : used (k + 1) ≤ used (cells (shape_of h)) = count-mono (k + 1) (cells (shape_of h)) (λ j. pixel_valid mask (pixel h delta j)) (omega arith) in
              let n : used (cells (shape_of h)) - used k ≡ suc (used (cells (shape_of h)) - used (k + 1)) = omega arith in
              read v a n (symbol_at s t p) refl
          look false v =
              let a : used (k + 1) ≡ used k = count-more k _ ∙ rw (v) (add-zero (used k)) in
              finish-skip s h mask t.start t delta k p prev (so_far delta k) d fuel v
              ∙ rw (paint-skip h g mask delta image (word_of delta) k l v, ← a) (rest _ (carried-skip delta k prev l v c))

      walk : (fuel k : ℕ) → k + fuel ≡ cells (shape_of h) → Rest fuel k
      walk zero k f prev c =
          let z : k ≡ cells (shape_of h) = omega arith in
          let n : used (cells (shape_of h)) - used (cells (shape_of h)) ≡ 0 = omega arith in
          finish-done s h mask t.start t delta k _ prev _ zero z ∙ rw (z, n) (behind-done s t (spot s t 0 (used (cells (shape_of h)))) (so_far delta (cells (shape_of h))))
      walk (suc fuel) k f prev c = walk_more fuel k (omega arith) (walk fuel (k + 1) (omega arith)) prev c

-- THE IMAGE
module _ (s : List ℕ) (h : Header) (g : Shaped (shape_of h)) (mask : List ℕ) (start : ℕ) (delta : Bool) (image : List ℕ) (room : cells (shape_of h) ≤ length image) where
  abbrev valids : ℕ
  valids = valid_below (pixels (shape_of h)) mask * h.depth

  -- behind an accepted table, by its symbols
  pub finish-is : (t : Table) → finish s h mask t.start t delta 0 0 0 image (cells (shape_of h))
      ≡ said (λ e. record { at = e; image = painted image (is_valid_cell (shape_of h) mask) (word_of s h g mask t delta) }) (behind s t valids 0)
  unfolding spot
  finish-is t =
      let z : count 0 (λ j. pixel_valid mask (pixel h delta j)) ≡ 0 = count-zero (λ j. pixel_valid mask (pixel h delta j)) in
      let n : valids - 0 ≡ valids = omega arith in
      rw (z, ← paint-none h g mask delta image (word_of s h g mask t delta), paint-all h g mask delta image (word_of s h g mask t delta), places-are h g mask delta, n) at
      (walk s h g mask t image room delta (cells (shape_of h)) 0 (omega arith) 0 (carried_first s h g mask t delta))

  pub bytes-is : decoded s h mask start delta image ≡ said (imaged h mask delta image) (coded_at s start valids)
  unfolding decoded coded_at
  bytes-is = tabled (table_at s start)
    where
      same : (t : Table) (r : Run) → symbols_from s t valids 0 ≡ ok r
          → painted image (is_valid_cell (shape_of h) mask) (word_of s h g mask t delta) ≡ painted image (is_valid_cell (shape_of h) mask) (byte_word (shape_of h) h.kind delta mask (λ i. get_or r.values i 0))
      same t r e =
          painted-words image _ _ (is_valid_cell (shape_of h) mask)
          (λ c v. byte-same (shape_of h) h.kind delta mask (symbol_no s t 0) (λ i. get_or r.values i 0) c g.depth.0 v (λ i l. sym (coded-symbol s t valids 0 e i l)))

      fits : (t : Table) (r : Run) → symbols_from s t valids 0 ≡ ok r → (b : Bool)
          → said (λ e. record { at = e; image = painted image (is_valid_cell (shape_of h) mask) (word_of s h g mask t delta) }) (require b 1 >>= λ _. ok (end_of t.start r.bits))
          ≡ said (imaged h mask delta image) (require b 1 >>= λ _. ok (record { symbols = r.values; end = end_of t.start r.bits }))
      fits t r e true = rw (same t r e)
      fits t r e false = refl

      coded : (t : Table) (m : Res Run) → symbols_from s t valids 0 ≡ m
          → said (λ e. record { at = e; image = painted image (is_valid_cell (shape_of h) mask) (word_of s h g mask t delta) }) (m >>= fitting s t)
          ≡ said (imaged h mask delta image) (m >>= λ r. require (leb (end_of t.start r.bits) (length s)) 1 >>= λ _. ok (record { symbols = r.values; end = end_of t.start r.bits }))
      coded t (ok r) e = fits t r e (leb (end_of t.start r.bits) (length s))
      coded t (fail q) e = refl

      tabled : (m : Res Table)
          → on_some {A = Parsed} (said (λ t. record { at = t.start; table = t }) m) (λ t. finish s h mask t.at t.table delta 0 0 0 image (h.columns * h.rows * h.depth))
          ≡ said (imaged h mask delta image) (m >>= λ t. symbols_from s t valids 0 >>= λ r. require (leb (end_of t.start r.bits) (length s)) 1 >>= λ _. ok (record { symbols = r.values; end = end_of t.start r.bits }))
      tabled (ok t) = rw (cells_are h, finish-is t) (coded t (symbols_from s t valids 0) refl)
      tabled (fail q) = refl
