-- The cells of one depth after the other.
-- Assumes nothing.
use Rattle.std.proofs.Common.{◌≡◌, ℕ, ◌+◌, ◌*◌, ◌/◌, ◌%◌, ◌<◌, ◌≤◌, Bool, true, false, cond, ◌||◌, ◌≢◌, List, length, get_or, set, sym, refl, ap, ◌∙◌, mod-lt, div-lt_iff_lt-mul, add-mul, div-add-mod', arith, ltb-true, lt-ltb, eq-eqb, eqb-true, leb-true}
use mathlib.Core.Path.{fun_ext}
use native.Mathlib.Decide.{dec_lt}
use lib.Arith.{digits_div, digits_mod, digits_lt}
use Rattle.lerc_words.proofs.Binding.{and_is}
use Rattle.lerc_header.specs.declared.Shape.{Shape}
use Rattle.lerc_header.specs.Shape.{pixels, cells}
use Rattle.lerc_mask.specs.Mask.{pixel_valid, valid_below}
use Rattle.lerc_image.specs.Geometry.{is_valid_cell}
use Rattle.lerc_image.specs.Paint.{painted}
use Rattle.lerc_image.specs.Cells.{within}
use Rattle.lerc_image.proofs.Painting.{painted-none, painted_same, painted-set, painted-twice, painted-words, painted-cell}
use Rattle.lerc_image.proofs.Pixels.{within_in}
use Rattle.lerc_byte_image.specs.Table.{Table}
use Rattle.lerc_byte_image.specs.Prediction.{byte_word, delta_byte, delta_place}
use Rattle.lerc_byte_image.specs.Image.{spot, symbol_no}
use Rattle.lerc_byte_image.specs.ImageParts.{strip, plane_upto, plane_word, planes}
use Rattle.lerc_byte_image.proofs.Spots.{spot_on, symbol-after}

-- tests that hold alike are the same
alike : (a b : Bool) → (a ≡ true → b ≡ true) → (b ≡ true → a ≡ true) → a ≡ b
alike true true f g = refl
alike true false f g = sym (f refl)
alike false true f g = g refl
alike false false f g = refl

never : (a : Bool) → (a ≡ true → ⊥) → a ≡ false
never true f = absurd (f refl)
never false f = refl

either_is : {P : Type 0} (a b : Bool) → (a || b) ≡ true → (a ≡ true → P) → (b ≡ true → P) → P
either_is true b e f g = f refl
either_is false b e f g = g e

either_left : (a b : Bool) → a ≡ true → (a || b) ≡ true
either_left a b e = rw (e)

either-right : (a b : Bool) → b ≡ true → (a || b) ≡ true
either-right true b e = refl
either-right false b e = e

-- a cell by its pixel and depth
cell-is : (c depth i d : ℕ) → c / depth ≡ i → c % depth ≡ d → c ≡ i * depth + d
cell-is c depth i d p q = sym (rw (p, q) at (div-add-mod' c depth))

-- ---- a strip

pub record InStrip (depth d first n c : ℕ) : Type 0 where
  pub same : c % depth ≡ d
  pub from : first ≤ c / depth
  pub to : c / depth < first + n

strip-is : (depth d first n c : ℕ) → strip depth d first n c ≡ true → InStrip depth d first n c
unfolding strip within
strip-is depth d first n c e =
    let (a, b) = and_is _ _ e in
    let (x, y) = and_is _ _ b in
    record { same = eqb-true _ _ a; from = leb-true _ _ x; to = ltb-true _ _ y }

strip-in : (depth d first n c : ℕ) → c % depth ≡ d → first ≤ c / depth → c / depth < first + n → strip depth d first n c ≡ true
unfolding strip
strip-in depth d first n c a b l = rw (eq-eqb (c % depth) d a, within_in first n (c / depth) b l)

pub strip-none : (im : List ℕ) (word : ℕ → ℕ) (depth d first : ℕ) → im ≡ painted im (strip depth d first 0) word
strip-none im word depth d first = painted-none im word _ (λ c l. never _ (λ e. let i = strip-is depth d first 0 c e in omega (arith, i.from, i.to)))

-- one pixel more
pub strip-more : (im : List ℕ) (word : ℕ → ℕ) (depth d first n : ℕ) → d < depth → (first + n) * depth + d < length im
    → set (painted im (strip depth d first n) word) ((first + n) * depth + d) (word ((first + n) * depth + d)) ≡ painted im (strip depth d first (n + 1)) word
strip-more im word depth d first n k l =
    let a = digits_div (first + n) k in
    let b = digits_mod (first + n) k in
    painted-set im word (strip depth d first n) (strip depth d first (n + 1)) ((first + n) * depth + d) l
    (strip-in depth d first (n + 1) _ b (rw (a) (omega arith)) (rw (a) (omega arith)))
    (λ c f. alike _ _
    (λ e. let i = strip-is depth d first (n + 1) c e in strip-in depth d first n c i.same i.from (go c f i.same i.to (dec_lt (c / depth) (first + n))))
    (λ e. let i = strip-is depth d first n c e in strip-in depth d first (n + 1) c i.same i.from (omega (arith, i.to))))
  where
    go : (c : ℕ) → c ≢ (first + n) * depth + d → c % depth ≡ d → c / depth < first + (n + 1) → Dec (c / depth < first + n) → c / depth < first + n
    go c f b l (yes y) = y
    go c f b l (no y) = let e : c / depth ≡ first + n = omega arith in absurd (f (cell-is c depth (first + n) d e b))

-- ---- one depth

pub record InPlane (h : Shape) (m : List ℕ) (d q c : ℕ) : Type 0 where
  pub cell : c < cells h
  pub valid : pixel_valid m (c / h.depth) ≡ true
  pub depth : c % h.depth ≡ d
  pub below : c / h.depth < q

module _ (h : Shape) (m : List ℕ) (d : ℕ) (inside : d < h.depth) where
  plane-is : (q c : ℕ) → plane_upto h m d q c ≡ true → InPlane h m d q c
  unfolding plane_upto is_valid_cell
  plane-is q c e =
      let (v, b) = and_is _ _ e in
      let (x, y) = and_is _ _ b in
      let (z, w) = and_is _ _ v in
      record { cell = ltb-true _ _ z; valid = w; depth = eqb-true _ _ x; below = ltb-true _ _ y }

  plane-in : (q c : ℕ) → c / h.depth < pixels h → pixel_valid m (c / h.depth) ≡ true → c % h.depth ≡ d → c / h.depth < q → plane_upto h m d q c ≡ true
  unfolding plane_upto is_valid_cell
  plane-in q c l v e b =
      let k : c < cells h = (div-lt_iff_lt-mul {k = h.depth} (omega arith)).0 l in
      rw (lt-ltb c (cells h) k, v, eq-eqb (c % h.depth) d e, lt-ltb (c / h.depth) q b)

  pixel-in : (q c : ℕ) → InPlane h m d q c → c / h.depth < pixels h
  pixel-in q c i = (div-lt_iff_lt-mul {k = h.depth} (omega arith)).1 i.cell

  pub plane-none : (im : List ℕ) (word : ℕ → ℕ) → im ≡ painted im (plane_upto h m d 0) word
  plane-none im word = painted-none im word _ (λ c l. never _ (λ e. let i = plane-is 0 c e in omega (arith, i.below)))

  -- a pixel that is not valid adds nothing
  pub plane-skips : (i : ℕ) (im : List ℕ) (word : ℕ → ℕ) → pixel_valid m i ≡ false → painted im (plane_upto h m d i) word ≡ painted im (plane_upto h m d (i + 1)) word
  plane-skips i im word v =
      painted_same im word _ _ (λ c l. alike _ _
      (λ e. let x = plane-is i c e in plane-in (i + 1) c (pixel-in i c x) x.valid x.depth (omega (arith, x.below)))
      (λ e. let x = plane-is (i + 1) c e in plane-in i c (pixel-in (i + 1) c x) x.valid x.depth (go c x.valid x.below (dec_lt (c / h.depth) i))))
    where
      go : (c : ℕ) → pixel_valid m (c / h.depth) ≡ true → c / h.depth < i + 1 → Dec (c / h.depth < i) → c / h.depth < i
      go c w l (yes y) = y
      go c w l (no y) =
          let e : c / h.depth ≡ i = omega arith in
          absurd (let z : false ≡ true = sym v ∙ rw (e) at w in let n : ◌≡◌ {A = ℕ} 0 1 = ap (λ (b : Bool). cond b 1 0) z in omega arith)

  -- a valid one adds its cell
  pub plane-adds : (i : ℕ) (im : List ℕ) (word : ℕ → ℕ) → i < pixels h → cells h ≤ length im → pixel_valid m i ≡ true
      → set (painted im (plane_upto h m d i) word) (i * h.depth + d) (word (i * h.depth + d)) ≡ painted im (plane_upto h m d (i + 1)) word
  plane-adds i im word l room v =
      let a = digits_div i inside in
      let b = digits_mod i inside in
      let k : i * h.depth + d < cells h = digits_lt l inside in
      painted-set im word (plane_upto h m d i) (plane_upto h m d (i + 1)) (i * h.depth + d) (omega arith)
      (plane-in (i + 1) (i * h.depth + d) (rw (a) l) (rw (a) v) b (rw (a) (omega arith)))
      (λ c f. alike _ _
      (λ e. let x = plane-is (i + 1) c e in plane-in i c (pixel-in (i + 1) c x) x.valid x.depth (go c f x.depth x.below (dec_lt (c / h.depth) i)))
      (λ e. let x = plane-is i c e in plane-in (i + 1) c (pixel-in i c x) x.valid x.depth (omega (arith, x.below))))
    where
      go : (c : ℕ) → c ≢ i * h.depth + d → c % h.depth ≡ d → c / h.depth < i + 1 → Dec (c / h.depth < i) → c / h.depth < i
      go c f b l (yes y) = y
      go c f b l (no y) = let e : c / h.depth ≡ i = omega arith in absurd (f (cell-is c h.depth i d e b))

  -- the word of a valid pixel that was written
  pub plane-cell : (i j : ℕ) (im : List ℕ) (word : ℕ → ℕ) → j < i → j < pixels h → cells h ≤ length im → pixel_valid m j ≡ true
      → get_or (painted im (plane_upto h m d i) word) (j * h.depth + d) 0 ≡ word (j * h.depth + d)
  plane-cell i j im word less l room v =
      let a = digits_div j inside in
      let b = digits_mod j inside in
      let k : j * h.depth + d < cells h = digits_lt l inside in
      painted-cell im word (plane_upto h m d i) (j * h.depth + d) (omega arith)
      ∙ rw (plane-in i (j * h.depth + d) (rw (a) l) (rw (a) v) b (rw (a) less))

  -- n valid pixels add a strip
  pub plane-row : (i n : ℕ) (im : List ℕ) (word other : ℕ → ℕ) → i + n ≤ pixels h → ((j : ℕ) → j < pixels h → pixel_valid m j ≡ true)
      → ((c : ℕ) → InStrip h.depth d i n c → other c ≡ word c)
      → painted (painted im (plane_upto h m d i) word) (strip h.depth d i n) other ≡ painted im (plane_upto h m d (i + n)) word
  plane-row i n im word other l every f =
      let now : List ℕ = painted im (plane_upto h m d i) word in
      let w : painted now (strip h.depth d i n) other ≡ painted now (strip h.depth d i n) word =
      painted-words now other word (strip h.depth d i n) (λ c e. f c (strip-is h.depth d i n c e)) in
      w ∙ painted-twice im word (plane_upto h m d i) (strip h.depth d i n) ∙ painted_same im word _ _ (λ c k. alike _ _ (into c) (back c))
    where
      into : (c : ℕ) → (strip h.depth d i n c || plane_upto h m d i c) ≡ true → plane_upto h m d (i + n) c ≡ true
      into c e = either_is (strip h.depth d i n c) (plane_upto h m d i c) e
          (λ x. let y = strip-is h.depth d i n c x in let p : c / h.depth < pixels h = omega (arith, y.to) in plane-in (i + n) c p (every (c / h.depth) p) y.same y.to)
          (λ x. let y = plane-is i c x in plane-in (i + n) c (pixel-in i c y) y.valid y.depth (omega (arith, y.below)))

      split : (c : ℕ) → InPlane h m d (i + n) c → Dec (c / h.depth < i) → (strip h.depth d i n c || plane_upto h m d i c) ≡ true
      split c y (yes b) = either-right (strip h.depth d i n c) _ (plane-in i c (pixel-in (i + n) c y) y.valid y.depth b)
      split c y (no b) = either_left _ (plane_upto h m d i c) (strip-in h.depth d i n c y.depth (omega arith) y.below)

      back : (c : ℕ) → plane_upto h m d (i + n) c ≡ true → (strip h.depth d i n c || plane_upto h m d i c) ≡ true
      back c e = split c (plane-is (i + n) c e) (dec_lt (c / h.depth) i)

-- ---- all depths

module _ (h : Shape) (m : List ℕ) where
  planes-is : (d c : ℕ) → planes h m d c ≡ true → (is_valid_cell h m c ≡ true) × (c % h.depth < d)
  unfolding planes
  planes-is d c e = let (a, b) = and_is _ _ e in (a, ltb-true _ _ b)

  planes-in : (d c : ℕ) → is_valid_cell h m c ≡ true → c % h.depth < d → planes h m d c ≡ true
  unfolding planes
  planes-in d c a b = rw (a, lt-ltb (c % h.depth) d b)

  pub planes-none : (im : List ℕ) (word : ℕ → ℕ) → im ≡ painted im (planes h m 0) word
  planes-none im word = painted-none im word _ (λ c l. never _ (λ e. let i = (planes-is 0 c e).1 in omega arith))

  pub planes-all : (im : List ℕ) (word : ℕ → ℕ) → 0 < h.depth → painted im (planes h m h.depth) word ≡ painted im (is_valid_cell h m) word
  planes-all im word l = painted_same im word _ _ (λ c k. alike _ _ (λ e. (planes-is h.depth c e).0) (λ e. planes-in h.depth c e (mod-lt c l)))

  whole_is : (d c : ℕ) → d < h.depth → plane_upto h m d (pixels h) c ≡ true → (is_valid_cell h m c ≡ true) × (c % h.depth ≡ d)
  unfolding plane_upto
  whole_is d c l e = let (a, b) = and_is _ _ e in (a, eqb-true _ _ (and_is _ _ b).0)

  whole_in : (d c : ℕ) → d < h.depth → is_valid_cell h m c ≡ true → c % h.depth ≡ d → plane_upto h m d (pixels h) c ≡ true
  unfolding is_valid_cell
  whole_in d c l v e =
      let (a, b) = and_is _ _ v in
      let k : c / h.depth < pixels h = (div-lt_iff_lt-mul {k = h.depth} (omega arith)).1 (ltb-true _ _ a) in
      plane-in h m d l (pixels h) c k b e k

  -- one depth more
  pub planes-more : (d : ℕ) (im : List ℕ) (word other : ℕ → ℕ) → d < h.depth → ((c : ℕ) → c % h.depth ≡ d → other c ≡ word c)
      → painted (painted im (planes h m d) word) (plane_upto h m d (pixels h)) other ≡ painted im (planes h m (d + 1)) word
  planes-more d im word other l f =
      let now : List ℕ = painted im (planes h m d) word in
      let w : painted now (plane_upto h m d (pixels h)) other ≡ painted now (plane_upto h m d (pixels h)) word =
      painted-words now other word (plane_upto h m d (pixels h)) (λ c e. f c (whole_is d c l e).1) in
      w ∙ painted-twice im word (planes h m d) (plane_upto h m d (pixels h)) ∙ painted_same im word _ _ (λ c k. alike _ _ (into c) (back c))
    where
      into : (c : ℕ) → (plane_upto h m d (pixels h) c || planes h m d c) ≡ true → planes h m (d + 1) c ≡ true
      into c e = either_is (plane_upto h m d (pixels h) c) (planes h m d c) e
          (λ x. let y = whole_is d c l x in let z = y.1 in planes-in (d + 1) c y.0 (omega arith))
          (λ x. let y = planes-is d c x in let z = y.1 in planes-in (d + 1) c y.0 (omega arith))

      split : (c : ℕ) → is_valid_cell h m c ≡ true → c % h.depth < d + 1 → Dec (c % h.depth < d) → (plane_upto h m d (pixels h) c || planes h m d c) ≡ true
      split c v k (yes b) = either-right (plane_upto h m d (pixels h) c) _ (planes-in d c v b)
      split c v k (no b) = let e : c % h.depth ≡ d = omega arith in either_left _ (planes h m d c) (whole_in d c l v e)

      back : (c : ℕ) → planes h m (d + 1) c ≡ true → (plane_upto h m d (pixels h) c || planes h m d c) ≡ true
      back c e = let y = planes-is (d + 1) c e in split c y.0 y.1 (dec_lt (c % h.depth) d)

  -- whose words are those of the image
  pub plane-word : (kind : ℕ) (s : List ℕ) (t : Table) (d c : ℕ) → c % h.depth ≡ d
      → plane_word h kind m s t (spot s t 0 (d * valid_below (pixels h) m)) c ≡ byte_word h kind true m (symbol_no s t 0) c
  unfolding plane_word byte_word
  plane-word kind s t d c e =
      let f : ◌≡◌ {A = ℕ → ℕ} (λ q. symbol_no s t (spot s t 0 (d * valid_below (pixels h) m)) (valid_below q m)) (λ q. symbol_no s t 0 (delta_place h m d q)) =
      fun_ext (λ q. symbol-after s t 0 (d * valid_below (pixels h) m) (valid_below q m)) in
      rw (e) (ap (λ (g : ℕ → ℕ). delta_byte kind h.columns m g (c / h.depth)) f)

  -- and where the next depth's symbols begin
  pub plane-next : (s : List ℕ) (t : Table) (d : ℕ)
      → spot s t (spot s t 0 (d * valid_below (pixels h) m)) (valid_below (pixels h) m) ≡ spot s t 0 ((d + 1) * valid_below (pixels h) m)
  plane-next s t d =
      let v : ℕ = valid_below (pixels h) m in
      let e : d * v + v ≡ (d + 1) * v = omega (arith, add-mul d 1 v) in
      spot_on s t 0 (d * v) v ∙ ap (spot s t 0) e
