-- A body that was checked, and reading as far as the mask: one law for each way they end.
-- Assumes nothing.
use mathlib.Core.Path.{◌≡◌, ◌∙◌, sym, ap}
use mathlib.Core.Bool.{Bool, true, false}
use mathlib.Core.List.{List, []}
use Prim.Native.Nat.{ℕ, ◌*◌}
use lib.ListN.{length, take}
use borrow.Author.Tests.{eq-eqb}
use Rattle.lerc_words.specs.declared.Refusal.{Refusal}
use Rattle.lerc_words.specs.Res.{Res, ok, fail, ◌>>=◌, refuse, marked}
use Rattle.lerc_words.proofs.Binding.{ok-is, bind_is, bind-counts}
use Rattle.lerc_header.specs.declared.Header.{Header}
use Rattle.lerc_header.specs.Header.{header_says}
use Rattle.lerc_ranges.specs.declared.Ranges.{Ranges}
use Rattle.lerc_ranges.specs.Ranges.{constant_words}
use Rattle.lerc_block.specs.Block.{raw_words}
use Rattle.lerc_byte_image.specs.Image.{image_at}
use Rattle.lerc_validity.specs.declared.Mask.{Mask}
use Rattle.lerc.specs.declared.body.BodyChecked.{BodyChecked}
use Rattle.lerc.specs.Meaning.{Body, empty, missing_word_at, raw_body, huffman_body, constant_body, body_says, starts_of, meaning_from}
use Rattle.lerc_validity.specs.Validity.{MaskInForce, bytes_of, mask_says}
use Rattle.lerc.specs.Read.{Lent, room, Masked, masked, read_says}
use Rattle.lerc.specs.Stage.{staged_body}
use Rattle.lerc.specs.Parts.{Ready, body_in, answer_of, image_after, Checked, ToWrite, BodyRead}

-- ---- a body that was checked, and written

pub checked-no : {y : Res Body} {s : List ℕ} {h : Header} {m : List ℕ} {why : Refusal} → Checked y s h m (fail why) → y ≡ fail why
checked-no t = t.means

module _ {y : Res Body} {s : List ℕ} {h : Header} {m : List ℕ} {c : BodyChecked} (t : Checked y s h m (ok c)) (said : Res Mask) where
  -- the body that is answered for
  pub checked-ok : (b : Body) × (y ≡ ok b) × (answer_of h said c.found ≡ staged_body h said b)
  checked-ok = bind-counts y _ (sym (t.says said))

  -- it can be listed and written
  pub to_write : Ready s h m → ToWrite s h m c.words c.found
  to_write p = record { ready = p; body = checked-ok.0; is = sym t.means ∙ checked-ok.1 }

  -- and then is
  pub body-written : {image image' : List ℕ} → image' ≡ image_after (body_in s h m c.words c.found) h m image → BodyRead y h said m (ok (answer_of h said c.found)) image image'
  body-written {image} w = record { says = t.says said; image = w ∙ ap (λ (x : Res Body). image_after x h m image) (sym t.means) }

-- ---- no starts

pub constant-starts : (h : Header) (k : Ranges) (b : Body) → constant_body h k ≡ ok b → starts_of b ≡ []
unfolding constant_body
constant-starts h k b e = let (ws, p, q) = bind_is (constant_words h.depth h.kind k.min) _ e in rw (← ok-is q)

pub raw-starts : (s : List ℕ) (h : Header) (at : ℕ) (b : Body) → raw_body s h at ≡ ok b → starts_of b ≡ []
unfolding raw_body
raw-starts s h at b e = let (w, p, q) = bind_is (marked (missing_word_at (length s) at h.kind) (raw_words s at h.kind (h.valid * h.depth))) _ e in rw (← ok-is q)

pub huffman-starts : (s : List ℕ) (h : Header) (delta : Bool) (mode : ℕ) (b : Body) → huffman_body s h delta mode ≡ ok b → starts_of b ≡ []
unfolding huffman_body
huffman-starts s h delta mode b e = let (c, p, q) = bind_is (image_at s h mode) _ e in rw (← ok-is q)

-- ---- no valid pixel: nothing is read, whatever the mask

pub body-none : (s : List ℕ) (h : Header) (m : List ℕ) → h.valid ≡ 0 → body_says s h m ≡ ok empty
unfolding body_says
body-none s h m v = rw (eq-eqb h.valid 0 v)

-- ---- as far as the mask

module _ (b : List ℕ) (reuse : Bool) (l : Lent) where
  pub header-no : {why : Refusal} → header_says b ≡ fail why → masked b reuse l ≡ fail why
  unfolding masked
  header-no e = rw (e)

  pub room-no : {h : Header} → header_says b ≡ ok h → room h l ≡ false → masked b reuse l ≡ fail (refuse 5)
  unfolding masked
  room-no e d = rw (e, d)

  pub mask-no : {h : Header} {why : Refusal} → header_says b ≡ ok h → room h l ≡ true → mask_says (take h.size b) h reuse l.kept ≡ fail why → masked b reuse l ≡ fail why
  unfolding masked
  mask-no e d f = rw (e, d, f)

  pub mask-yes : {h : Header} {f : MaskInForce} → header_says b ≡ ok h → room h l ≡ true → mask_says (take h.size b) h reuse l.kept ≡ ok f → masked b reuse l ≡ ok (record { header = h; mask = f })
  unfolding masked
  mask-yes e d f = rw (e, d, f)

-- ---- behind it

module _ (b : List ℕ) (reuse : Bool) (l : Lent) where
  pub read_no : {why : Refusal} → masked b reuse l ≡ fail why → read_says b reuse l ≡ fail why
  unfolding read_says
  read_no e = rw (e)

  -- the body decides
  pub read_behind : {k : Masked} → masked b reuse l ≡ ok k
      → read_says b reuse l ≡ (body_says (take k.header.size b) k.header (bytes_of k.mask) >>= λ y. ok (record { header = k.header; mask = k.mask; body = y }))
  unfolding read_says meaning_from
  read_behind e = rw (e)
