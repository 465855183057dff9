-- What a refusal leaves: "It leaves every lent slice unchanged, except: where the mask section was accepted and no mask was reused,
-- the spare's first (pixels+7)/8 bytes hold the new mask."
-- Assumes nothing.
use Rattle.std.specs.Prelude.{◌≡◌, Bool, true, List, [], ◌∷◌, ◌++◌, ℕ, length, take, ◌≢◌}
use Rattle.lerc_words.specs.declared.Refusal.{Refusal}
use Rattle.lerc_words.specs.Res.{ok, fail}
use Rattle.lerc_words.specs.Lists.{over}
use Rattle.lerc_bits.proofs.decode_plan.Reads as decode-plan
use Rattle.lerc_bits.proofs.decode.Reads as decode-counts
use Rattle.lerc_header.specs.declared.Header.{Header}
use Rattle.lerc_header.specs.Header.{shape_of, header_says}
use Rattle.lerc_header.specs.Shape.{mask_length}
use Rattle.lerc_mask.proofs.decode.Reads as decode-mask
use Rattle.lerc_ranges.specs.declared.Ranges.{Ranges}
use Rattle.lerc_validity.specs.Validity.{new, mask_says}
use Rattle.lerc_ranges.specs.Ranges.{}
use Rattle.lerc_validity.proofs.prepare_mask.Reads as prepare-mask
use Rattle.lerc_validity.proofs.find_mask.Reads as find-mask
use Rattle.lerc_validity.proofs.mask_in_force.Reads as mask-in-force
use Rattle.lerc_ranges.proofs.read_ranges.Reads as read-ranges
use Rattle.lerc_ranges.proofs.ranges_in.Reads as ranges_in
use Rattle.lerc_ranges.proofs.convert.Reads as convert
use Rattle.lerc_block.proofs.read_block.Reads as read-block
use Rattle.lerc_image.proofs.walk.Reads as walk
use Rattle.lerc_image.proofs.fill.Reads as fill
use Rattle.lerc_image.proofs.decode_tiles.Reads as decode-tiles
use Rattle.lerc_fills.proofs.fill_each.Reads as each
use Rattle.lerc.specs.Read.{Lent, room}
use Rattle.lerc.proofs.stage.Reads as stage
use Rattle.lerc.proofs.publish.Reads as publish
use Rattle.lerc_theorems.specs.Calls.{FillCall, EachCall}

-- a promise by which a refusal leaves what was lent: `before` of the inputs is `left` of the outputs
abbrev pub RefusalKeeps : {K A R O S : Type 0} → (K → A → R → O → Type 0) → (Refusal → R) → (A → S) → (O → S) → Type 0
RefusalKeeps {K} {A} {R} {O} Post Refused before left = (k : K) (a : A) (x : O) (why : Refusal) → Post k a (Refused why) x → left x ≡ before a

-- every public function that is lent a slice to write and can refuse, whole read and the spare of staging apart
pub record RefusalsKeep : Type 0 where
  pub decode-plan : RefusalKeeps decode-plan.Post fail (λ a. a.1.1.0.now) (λ o. o.1.1.0.now)
  pub decode-counts : RefusalKeeps decode-counts.Post fail (λ a. a.1.1.0.now) (λ o. o.1.1.0.now)
  pub decode-mask : RefusalKeeps decode-mask.Post fail (λ a. a.1.1.1.0.now) (λ o. o.1.1.1.0.now)
  pub prepare-mask : RefusalKeeps prepare-mask.Post fail (λ a. a.1.1.1.1.0.now) (λ o. o.1.1.1.1.0.now)
  pub find-mask : RefusalKeeps find-mask.Post fail (λ a. a.1.1.1.1.0.now) (λ o. o.1.1.1.1.0.now)
  pub read-block : RefusalKeeps read-block.Post fail (λ a. a.1.1.1.1.1.1.1.0.now) (λ o. o.1.1.1.1.1.1.1.0.now)
  pub walk : RefusalKeeps walk.Post fail (λ a. a.1.1.1.1.0.now) (λ o. o.1.1.1.1.0.now)
  pub fill : RefusalKeeps fill.Post fail (λ a. a.1.1.1.1.1.1.0.now) (λ o. o.1.1.1.1.1.1.0.now)
  -- of a list of fills a refused number, wherever it stands in the list, is as good as left out
  pub fill-each : (b : List ℕ) (h : Header) (r : Ranges) (m list ms : List ℕ) (n : ℕ) (ns : List ℕ) (why : Refusal) (image any : List ℕ) → FillCall b h r m list n (fail why) image any
      → (said told : ℕ) (new other : List ℕ) → EachCall b h r m list (ms ++ n ∷ ns) said image new → EachCall b h r m list (ms ++ ns) told image other → (said ≡ told) × (new ≡ other)
  -- and where none was filled, the image is as it was
  pub none_filled : (k : _) (a : _) (x : _) → each.Post k a 0 x → x.1.1.1.1.1.1.0.now ≡ a.1.1.1.1.1.1.0.now
  -- the list, and the image
  pub tiles-list : RefusalKeeps decode-tiles.Post fail (λ a. a.1.1.1.1.1.0.now) (λ o. o.1.1.1.1.1.0.now)
  pub tiles-image : RefusalKeeps decode-tiles.Post fail (λ a. a.1.1.1.1.1.1.0.now) (λ o. o.1.1.1.1.1.1.0.now)
  pub stage-list : RefusalKeeps stage.Post fail (λ a. a.1.1.1.1.0.now) (λ o. o.1.1.1.1.0.now)
  -- "its refusal changes no lent slice"
  pub publish-kept : RefusalKeeps publish.Post fail (λ a. a.1.1.1.0.now) (λ o. o.1.1.1.0.now)
  pub publish-image : RefusalKeeps publish.Post fail (λ a. a.1.1.1.1.1.1.0.now) (λ o. o.1.1.1.1.1.1.0.now)

-- "A refusal carries its number, and 0 for each count and offset; a part to be handed back is then empty."
-- An answer holds nothing but number and place where it is a refusal: of those that had ranges or words beside it this is said once more.
pub record RefusalsEmpty : Type 0 where
  pub ranges-found : (k : _) (a : _) (r : _) (x : _) (why : Refusal) → ranges_in.Post k a r x → r ≡ fail why → (g : Ranges) → r ≢ ok g
  pub ranges : (k : _) (a : _) (r : _) (x : _) (why : Refusal) → read-ranges.Post k a r x → r ≡ fail why → (g : Ranges) → r ≢ ok g
  pub constants : (k : _) (a : _) (r : _) (x : _) (why : Refusal) → convert.Post k a r x → r ≡ fail why → (words : List ℕ) → r ≢ ok words
  -- the mask that is handed back, where preparing it was refused
  pub mask : (k : _) (a : _) (r : _) (x : _) (why : Refusal) → mask-in-force.Post k a r x → a.1.1.0 ≡ fail why → r.now ≡ []

-- ---- whole read

-- a new mask was accepted: the header, the room and the mask section are right, and no mask is reused
pub record NewMask (b : List ℕ) (reuse : Bool) (l : Lent) (h : Header) (m : List ℕ) : Type 0 where
  pub header : header_says b ≡ ok h
  pub room : room h l ≡ true
  pub mask : mask_says (take h.size b) h reuse l.kept ≡ ok (new m)

pub record WholeKeeps (b : List ℕ) (reuse : Bool) (old after : Lent) : Type 0 where
  pub kept : after.kept ≡ old.kept
  pub list : after.list ≡ old.list
  pub image : after.image ≡ old.image
  -- "the spare's first (pixels+7)/8 bytes hold the new mask", and its other bytes what they held
  pub spare : (h : Header) (m : List ℕ) → NewMask b reuse old h m → (after.spare ≡ over m old.spare) × (length m ≡ mask_length (shape_of h))
  -- where there is no new mask, the spare is as it was
  pub other : ((h : Header) (m : List ℕ) → NewMask b reuse old h m → ⊥) → after.spare ≡ old.spare
