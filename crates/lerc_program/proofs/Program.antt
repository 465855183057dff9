-- Laws of the program's text.
-- Assumes nothing.
use Prim.Native.Nat.{ℕ, zero, suc, ◌+◌, ◌/◌, ◌≤◌, ◌<◌}
use mathlib.Core.Path.{◌≡◌, ◌∙◌, sym, ap, refl}
use mathlib.Core.Bool.{Bool, true, false, ◌&&◌, and-false}
use mathlib.Core.List.{List, [], ◌∷◌, ◌++◌}
use native.Mathlib.Decide.{dec_le}
use native.Mathlib.Nat.{le_trans}
use native.Mathlib.Omega.{arith}
use borrow.Author.Tests.{le-leb, lt-leb, lt-ltb, leb-true}
use lib.ListN.{length, get_or, take, drop, replicate, length-append, length-take, length-replicate}
use lib.Dec.{leb}
use lib.Seq.{get_or-drop, take_all, length-take-le, take-append_seam}
use Rattle.lerc_words.specs.declared.Refusal.{Refusal}
use Rattle.lerc_words.specs.Res.{Res, ok, fail, ◌>>=◌, refuse, require}
use Rattle.lerc_words.specs.Lists.{over}
use Rattle.lerc_words.proofs.Binding.{bind_is, require-is, ok-is, bind-counts, bind-fail}
use Rattle.lerc_header.specs.declared.Header.{Header}
use Rattle.lerc_header.specs.Header.{shape_of, header_says}
use Rattle.lerc_header.specs.Shape.{cells, mask_length, block_count, Shaped}
use Rattle.lerc_header.proofs.Kept.{held-shaped, header-held}
use Rattle.lerc_header.proofs.Sizes.{pixels-le, blocks-le}
use Rattle.lerc_mask.specs.Mask.{pixel_valid}
use Rattle.lerc_validity.specs.Validity.{MaskInForce, bytes_of, kept, mask_in, mask_says}
use Rattle.lerc_image.specs.Geometry.{is_valid_cell}
use Rattle.lerc_image.proofs.Painting.{painted-cell}
use Rattle.lerc.specs.Meaning.{Meaning, meaning, meaning_from, body_says, starts_of, end_of, cell_word}
use Rattle.lerc.specs.Read.{Lent, Masked, ReadTold, room, masked, read_says, published, read_after, WholeRead}
use Rattle.lerc_text.specs.Ascii.{ascii}
use Rattle.lerc_text.specs.Text.{Put, line, shape_line, valid_in, word_in}
use Rattle.lerc_text.proofs.Putting.{cells_same, cells-long, line-long, refusal-long, shape-long, put_whole}
use Rattle.lerc_program.specs.Program.{bytes_most, cells_most, program_says, image_text, refusal_text, said_text, program_text, Answered}
use Rattle.lerc_program.specs.Parts.{Ready}

-- ---- what the program says

module _ (b : List ℕ) where
  pub long-says : bytes_most < length b → program_says b ≡ fail (refuse 4)
  unfolding program_says
  long-says l = rw (lt-leb (length b) bytes_most l)

-- one byte more than the most is enough of an input to tell its text
pub front-text : (k : ℕ) (b : List ℕ) → bytes_most < k → program_text (take k b) ≡ program_text b
front-text k b more = go (dec_le (length b) bytes_most)
  where
    go : Dec (length b ≤ bytes_most) → program_text (take k b) ≡ program_text b
    go (yes h) = rw (take_all k b (omega arith))
    go (no h) =
        let l : bytes_most < length b = omega arith in
        let c : bytes_most < length (take k b) = simp length-take (omega arith) in
        rw (long-says b l, long-says (take k b) c)

-- ---- a whole read into the program's slices

-- no mask is reused: what was kept does not matter
mask-unkept : (s : List ℕ) (h : Header) (old : List ℕ) → mask_says s h false old ≡ mask_says s h false []
unfolding mask_in kept
mask-unkept s h old = refl

-- the meaning of a blob has its header
meaning-header : (b : List ℕ) {h : Header} {m : Meaning} → header_says b ≡ ok h → meaning b false [] ≡ ok m → m.header ≡ h
unfolding meaning meaning_from
meaning-header b e p =
    let (g, s, p) = bind_is (header_says b) _ p in
    let (f, _, p) = bind_is (mask_says (take g.size b) g false []) _ p in
    let (y, _, p) = bind_is (body_says (take g.size b) g (bytes_of f)) _ p in
    ap (λ (x : Meaning). x.header) (sym (ok-is p)) ∙ ok-is (sym s ∙ e)

-- zeros behind a list are as good as nothing
zeros : (n i : ℕ) → ◌≡◌ {A = ℕ} (get_or (replicate n 0) i 0) 0
zeros zero i = refl
zeros (suc n) zero = refl
zeros (suc n) (suc i) = zeros n i

zeros-behind : (m : List ℕ) (k n i : ℕ) → get_or (m ++ drop k (replicate n 0)) i 0 ≡ get_or m i 0
zeros-behind [] k n i = get_or-drop k (replicate n 0) i 0 ∙ zeros n (k + i)
zeros-behind (x ∷ m) k n zero = refl
zeros-behind (x ∷ m) k n (suc i) = zeros-behind m k n i

valid-behind : (m : List ℕ) (n p : ℕ) → pixel_valid m p ≡ pixel_valid (over m (replicate n 0)) p
unfolding pixel_valid
valid-behind m n p = rw (zeros-behind m (length m) n (p / 8))

-- the text by the meaning is the text by what the slices hold
module _ (m : Meaning) (l : Lent) (n : ℕ) (z : l.kept ≡ replicate n 0) (few : cells (shape_of m.header) ≤ length l.image) where
  abbrev head : Header
  head = m.header

  abbrev mask : List ℕ
  mask = bytes_of m.mask

  word-left : (c : ℕ) → c < cells (shape_of head) → pixel_valid mask (c / head.depth) ≡ true → cell_word head mask m.body c ≡ get_or (published m l).image c 0
  unfolding published is_valid_cell
  word-left c h v =
      let k : c < length l.image = omega arith in
      sym (painted-cell l.image (cell_word head mask m.body) (is_valid_cell (shape_of head) mask) c k ∙ rw (lt-ltb c (cells (shape_of head)) h, v))

  valid-left : (c : ℕ) → valid_in head.depth mask c ≡ valid_in head.depth (published m l).kept c
  unfolding published
  valid-left c = rw (z) (valid-behind mask n (c / head.depth))

  text-left : (blocks end : ℕ) → image_text head blocks end (valid_in head.depth mask) (cell_word head mask m.body)
      ≡ image_text head blocks end (valid_in head.depth (published m l).kept) (word_in (published m l).image)
  unfolding image_text
  text-left blocks end =
      let e = cells_same (cells (shape_of head)) (valid_in head.depth mask) (valid_in head.depth (published m l).kept) (cell_word head mask m.body) (word_in (published m l).image) (λ c h. valid-left c) (λ c h v. word-left c h (valid-left c ∙ v)) in
      ap (λ (t : List ℕ). shape_line head.columns head.rows head.depth head.kind head.valid ++ line (ascii "blocks ") blocks ++ t ++ line (ascii "end ") end) e

-- a blob that the program accepts has few cells
few-cells : (b : List ℕ) (m : Meaning) → program_says b ≡ ok m → cells (shape_of m.header) ≤ cells_most
unfolding program_says
few-cells b m p =
    let (_, _, p) = bind_is (require (leb (length b) bytes_most) 4) _ p in
    let (h, e, p) = bind_is (header_says b) _ p in
    let (_, t, p) = bind_is (require (leb (cells (shape_of h)) cells_most) 5) _ p in
    let k : m.header ≡ h = meaning-header b e p in
    rw (k) (leb-true (cells (shape_of h)) cells_most (require-is _ _ t))

module _ (b : List ℕ) (l : Lent) (y : Ready b l) where
  -- masks and list have room
  abbrev others_fit : Header → Bool
  others_fit h = leb (mask_length (shape_of h)) (length l.kept) && leb (mask_length (shape_of h)) (length l.spare) && leb (block_count (shape_of h)) (length l.list)

  -- the slices have room for the most cells, and not for more
  room-is : (h : Header) → header_says b ≡ ok h → room h l ≡ leb (cells (shape_of h)) cells_most
  unfolding room
  room-is h e = go (dec_le (cells (shape_of h)) cells_most)
    where
      shaped : Shaped (shape_of h)
      shaped = held-shaped h (length b) (header-held b h e).1

      go : Dec (cells (shape_of h) ≤ cells_most) → (others_fit h && leb (cells (shape_of h)) (length l.image)) ≡ leb (cells (shape_of h)) cells_most
      go (yes few) =
          let p : mask_length (shape_of h) ≤ 512 = omega (arith, pixels-le (shape_of h) shaped, few) in
          let q : block_count (shape_of h) ≤ cells_most = le_trans (blocks-le (shape_of h) shaped) few in
          rw (y.kept, y.spare, y.list, y.image, length-replicate, le-leb (mask_length (shape_of h)) 512 p, le-leb (block_count (shape_of h)) cells_most q, le-leb (cells (shape_of h)) cells_most few)
      go (no many) =
          let p : cells_most < cells (shape_of h) = omega arith in
          rw (y.image, lt-leb (cells (shape_of h)) cells_most p) (and-false (others_fit h))

  abbrev behind_header : Res Header → Res Meaning
  behind_header x = x >>= λ h. mask_says (take h.size b) h false [] >>= λ m. meaning_from b h m

  read-says : read_says b false l ≡ program_says b
  unfolding read_says masked program_says meaning
  read-says = rw (le-leb (length b) bytes_most y.short) (go (header_says b) refl)
    where
      after-mask : (h : Header) (x : Res MaskInForce) → ((x >>= λ m. ok (record { header = h; mask = m })) >>= λ (k : Masked). meaning_from b k.header k.mask) ≡ (x >>= λ m. meaning_from b h m)
      after-mask h (ok m) = refl
      after-mask h (fail r) = refl

      after-room : (h : Header) (t : Bool) → ((require t 5 >>= λ _. mask_says (take h.size b) h false l.kept >>= λ m. ok (record { header = h; mask = m })) >>= λ (k : Masked). meaning_from b k.header k.mask) ≡ (require t 5 >>= λ _. behind_header (ok h))
      after-room h true = rw (mask-unkept (take h.size b) h l.kept) (after-mask h (mask_says (take h.size b) h false []))
      after-room h false = refl

      go : (x : Res Header) → header_says b ≡ x
          → ((x >>= λ h. require (room h l) 5 >>= λ _. mask_says (take h.size b) h false l.kept >>= λ m. ok (record { header = h; mask = m })) >>= λ (k : Masked). meaning_from b k.header k.mask)
          ≡ (x >>= λ h. require (leb (cells (shape_of h)) cells_most) 5 >>= λ _. behind_header (header_says b))
      go (ok h) e = rw (room-is h e, e) (after-room h (leb (cells (shape_of h)) cells_most))
      go (fail r) e = refl

  pub refused-text : {why : Refusal} {new : Lent} → WholeRead b false (fail why) l new → program_text b ≡ refusal_text why
  refused-text w = rw (← read-says, bind-fail (read_says b false l) _ (sym w.says))

  -- the text by what an accepted read left
  text-by : (m : Meaning) {new : Lent} → program_says b ≡ ok m → new ≡ published m l
      → program_text b ≡ image_text m.header (length (starts_of m.body)) (end_of m.body) (valid_in m.header.depth new.kept) (word_in new.image)
  text-by m r e =
      let f : cells (shape_of m.header) ≤ length l.image = rw y.image (few-cells b m r) in
      rw (r, e) (text-left m l 512 y.kept f (length (starts_of m.body)) (end_of m.body))

  -- an accepted read has few cells
  module _ {told : ReadTold} {new : Lent} (w : WholeRead b false (ok told) l new) where
    pub whole-few : cells (shape_of told.header) ≤ cells_most
    whole-few =
        let (m, r, c) = bind-counts (read_says b false l) _ (sym w.says) in
        rw (ap (λ (v : ReadTold). v.header) c) (few-cells b m (sym read-says ∙ r))

    pub whole-text : program_text b ≡ image_text told.header told.blocks told.end (valid_in told.header.depth new.kept) (word_in new.image)
    whole-text =
        let (m, r, c) = bind-counts (read_says b false l) _ (sym w.says) in
        let t = text-by m (sym read-says ∙ r) (w.lent ∙ ap (λ (x : Res Meaning). read_after x (masked b false l) l) r) in
        t ∙ ap (λ (v : ReadTold). image_text v.header v.blocks v.end (valid_in v.header.depth new.kept) (word_in new.image)) (sym c)

-- ---- how long the text is

pub text-long : (b : List ℕ) → length (program_text b) ≤ 131072
unfolding image_text
text-long b = go (program_says b) refl
  where
    go : (x : Res Meaning) → program_says b ≡ x → length (said_text x) ≤ 131072
    go (ok m) e =
        let n = cells (shape_of m.header) in
        let f : n ≤ cells_most = few-cells b m e in
        let h = m.header in
        simp (length-append)
        (omega (
          arith,
          shape-long h.columns h.rows h.depth h.kind h.valid,
          line-long (ascii "blocks ") (length (starts_of m.body)),
          line-long (ascii "end ") (end_of m.body),
          cells-long n (valid_in h.depth (bytes_of m.mask)) (cell_word h (bytes_of m.mask) m.body) (omega arith),
        ))
    go (fail r) e = omega (arith, refusal-long r.number r.at)

-- a buffer that holds the longest text holds the text whole
pub put-answered : {input old : List ℕ} {r : ℕ} {new : List ℕ} → Put old 0 (program_text input) r new → 131072 ≤ length old → Answered input old r new
put-answered {input} {old} p room =
    let h : length (program_text input) ≤ length old = le_trans (text-long input) room in
    let (count, holds) = put_whole p h in
    record { count = count; holds = holds }

-- what was answered is the text, and lies within the buffer
module _ {input old : List ℕ} {r : ℕ} {new : List ℕ} (a : Answered input old r new) where
  pub answered-within : r ≤ length new
  answered-within = rw (a.count, a.holds, length-append) (omega arith)

  pub answered-count : r ≡ length (take r new)
  answered-count = sym (length-take-le r new answered-within)

  pub answered-text : take r new ≡ program_text input
  answered-text = rw (a.count, a.holds) (take-append_seam (program_text input) (drop (length (program_text input)) old))
