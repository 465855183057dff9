-- Calls of the operations: what is lent, what is answered and what is left, in any outcome that the promise allows.
-- `Post` is what the checker makes of the text of a function's `ensures`; the inputs are a tuple in the order of its parameters, the outputs the same at exit.
-- Assumes nothing.
use Rattle.std.specs.Prelude.{◌≡◌, Bool, List, [], ◌∷◌, ℕ}
use Rattle.lerc_header.specs.declared.Header.{Header}
use Rattle.lerc_header.proofs.read_header.Reads as read-header
use Rattle.lerc_ranges.specs.declared.Ranges.{Ranges}
use Rattle.lerc_validity.proofs.prepare_mask.Reads as prepare-mask
use Rattle.lerc_validity.proofs.mask_in_force.Reads as mask-in-force
use Rattle.lerc_ranges.proofs.read_ranges.Reads as read-ranges
use Rattle.lerc_image.proofs.walk.Reads as walk
use Rattle.lerc_image.proofs.fill.Reads as fill
use Rattle.lerc_image.proofs.decode_tiles.Reads as decode-tiles
use Rattle.lerc_fills.proofs.fill_each.Reads as fill-each
use Rattle.lerc.specs.Read.{Lent, ReadTold}
use Rattle.lerc.proofs.read.Reads as read
use Rattle.lerc_theorems.specs.Promises.{lent}
use Rattle.lerc_words.specs.Res.{Res, ok}
use Rattle.lerc_image.specs.Walk.{Walk}
use Rattle.lerc_validity.specs.Validity.{MaskTold}

-- A call with these inputs, this answer and these slices afterwards. `gave` is what inputs hold, `told` the answer as a caller sees it, `left` what the outputs hold.
pub record Call {K A R O S B T : Type 0} (Post : K → A → R → O → Type 0) (gave : A → S) (told : R → B) (left : O → T) (given : S) (said : B) (after : T) : Type 0 where
  pub lives : K
  pub inputs : A
  pub answer : R
  pub outputs : O
  pub promised : Post lives inputs answer outputs
  pub inputs_are : gave inputs ≡ given
  pub answer-is : told answer ≡ said
  pub outputs-are : left outputs ≡ after

abbrev pub HeaderCall : List ℕ → Res Header → Type 0
HeaderCall b said = Call {T = Unit {0}} read-header.Post (λ a. a.0.now) (λ r. r) (λ o. tt) b said tt

-- blob, header, reuse, kept mask; the answer; the spare before and after
abbrev pub PrepareCall : List ℕ → Header → Bool → List ℕ → Res MaskTold → List ℕ → List ℕ → Type 0
PrepareCall b h reuse kept said old new =
    Call {S = List ℕ × Header × Bool × List ℕ × List ℕ} prepare-mask.Post (λ a. (a.0.now, a.1.0, a.1.1.0, a.1.1.1.0.now, a.1.1.1.1.0.now)) (λ r. r) (λ o. o.1.1.1.1.0.now)
    (b, h, reuse, kept, old) said new

-- kept mask, spare, what preparing answered; what the part holds that is handed back
abbrev pub HandedCall : List ℕ → List ℕ → Res MaskTold → List ℕ → Type 0
HandedCall kept spare said m =
    Call {S = List ℕ × List ℕ × Res MaskTold} {T = Unit {0}} mask-in-force.Post (λ a. (a.0.now, a.1.0.now, a.1.1.0)) (λ r. r.now) (λ o. tt) (kept, spare, said) m tt

abbrev pub RangesCall : List ℕ → Header → Res Ranges → Type 0
RangesCall b h said = Call {S = List ℕ × Header} {T = Unit {0}} read-ranges.Post (λ a. (a.0.now, a.1.0)) (λ r. r) (λ o. tt) (b, h) said tt

-- ranges that were read
abbrev pub ReadRanges : List ℕ → Header → Ranges → Type 0
ReadRanges b h r = RangesCall b h ((ok r))

-- blob, header, ranges, mask; the answer; the list before and after
abbrev pub WalkCall : List ℕ → Header → Ranges → List ℕ → Res Walk → List ℕ → List ℕ → Type 0
WalkCall b h r m said old new =
    Call {S = List ℕ × Header × Ranges × List ℕ × List ℕ} walk.Post (λ a. (a.0.now, a.1.0, a.1.1.0, a.1.1.1.0.now, a.1.1.1.1.0.now)) (λ r. r) (λ o. o.1.1.1.1.0.now)
    (b, h, r, m, old) said new

-- blob, header, ranges, mask, list, number; the answer; the image before and after
abbrev pub FillCall : List ℕ → Header → Ranges → List ℕ → List ℕ → ℕ → Res ℕ → List ℕ → List ℕ → Type 0
FillCall b h r m list n said old new =
    Call {S = List ℕ × Header × Ranges × List ℕ × List ℕ × ℕ × List ℕ} fill.Post
    (λ a. (a.0.now, a.1.0, a.1.1.0, a.1.1.1.0.now, a.1.1.1.1.0.now, a.1.1.1.1.1.0, a.1.1.1.1.1.1.0.now)) (λ r. r) (λ o. o.1.1.1.1.1.1.0.now)
    (b, h, r, m, list, n, old) said new

-- the same for a list of numbers; the answer is how many were filled
abbrev pub EachCall : List ℕ → Header → Ranges → List ℕ → List ℕ → List ℕ → ℕ → List ℕ → List ℕ → Type 0
EachCall b h r m list ns said old new =
    Call {S = List ℕ × Header × Ranges × List ℕ × List ℕ × List ℕ × List ℕ} fill-each.Post
    (λ a. (a.0.now, a.1.0, a.1.1.0, a.1.1.1.0.now, a.1.1.1.1.0.now, a.1.1.1.1.1.0.now, a.1.1.1.1.1.1.0.now)) (λ r. r) (λ o. o.1.1.1.1.1.1.0.now)
    (b, h, r, m, list, ns, old) said new

-- all blocks at once: blob, header, mask, maxima, where the first block begins; the answer; the list and the image before and after
abbrev pub TilesCall : List ℕ → Header → List ℕ → List ℕ → ℕ → Res Walk → List ℕ → List ℕ → List ℕ → List ℕ → Type 0
TilesCall b h m maxima at said old-list new-list old-image new-image =
    Call {S = List ℕ × Header × List ℕ × List ℕ × ℕ × List ℕ × List ℕ} {T = List ℕ × List ℕ} decode-tiles.Post
    (λ a. (a.0.now, a.1.0, a.1.1.0.now, a.1.1.1.0.now, a.1.1.1.1.0, a.1.1.1.1.1.0.now, a.1.1.1.1.1.1.0.now)) (λ r. r)
    (λ o. (o.1.1.1.1.1.0.now, o.1.1.1.1.1.1.0.now)) (b, h, m, maxima, at, old-list, old-image) said (new-list, new-image)

-- blob, reuse; the answer; the lent slices before and after
abbrev pub ReadCall : List ℕ → Bool → Res ReadTold → Lent → Lent → Type 0
ReadCall b reuse said old new = Call {S = List ℕ × Bool × Lent} read.Post (λ a. (a.0.now, a.1.0, lent a)) (λ r. r) lent (b, reuse, old) said new

-- calls of fill, one for each number, each on the image that the one before it left; and what each answered
pub data FillCalls (b : List ℕ) (h : Header) (r : Ranges) (m list : List ℕ) : List ℕ → List (Res ℕ) → List ℕ → List ℕ → Type 0 where
  none : (image : List ℕ) → FillCalls b h r m list [] [] image image
  more : (n : ℕ) (ns : List ℕ) (said : Res ℕ) (answers : List (Res ℕ)) (old mid new : List ℕ) → FillCall b h r m list n said old mid → FillCalls b h r m list ns answers mid new
      → FillCalls b h r m list (n ∷ ns) (said ∷ answers) old new
