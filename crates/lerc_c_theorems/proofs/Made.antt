-- Behind each call of an entry for C there is a call of the reader's function, on what the records hold, that leaves the same.
-- Assumes nothing.
use mathlib.Core.Path.{◌≡◌, sym, refl, subst}
use mathlib.Core.Bool.{Bool}
use mathlib.Core.List.{List}
use Prim.Native.Nat.{ℕ, ◌≤◌}
use lib.ListN.{length}
use Rattle.lerc_words.specs.Res.{Res, ok, fail, ◌>>=◌}
use Rattle.lerc_header.specs.declared.Header.{Header}
use Rattle.lerc_header.specs.Header.{header_says}
use Rattle.lerc_validity.specs.Validity.{MaskInForce, reused, new as made, which, prepare_says, MaskTold}
use Rattle.lerc_ranges.specs.declared.Ranges.{Ranges}
use Rattle.lerc_image.specs.Walk.{Walk, walk_says, walk_count}
use Rattle.lerc_image.specs.Fill.{fill_says, fill_count}
use Rattle.lerc.specs.Read.{Lent, ReadTold, read_says, read_count}
use Rattle.lerc_c.specs.Records.{header_room, header_numbers, ranges_room, ranges_numbers}
use Rattle.lerc_c.specs.Entries.{read_room}
use Rattle.lerc_theorems.specs.Calls.{HeaderCall, PrepareCall, RangesCall, WalkCall, FillCall, ReadCall}
use Rattle.lerc_theorems.proofs.Made.{header_made, prepare-made, ranges-made, walk-made, fill-made, read_made}
use Rattle.lerc_c_theorems.specs.Calls.{HoldsHeader, HoldsRanges, Told, HasPlace, HeaderInC, PrepareInC, RangesInC, WalkInC, FillInC, ReadInC}
use Rattle.lerc_c_theorems.specs.SameReader.{Tells, part_numbers, walked_numbers, whole_numbers, alone}
use Rattle.lerc_c_theorems.proofs.SameReader.{same-reader}
use Rattle.lerc_validity.specs.declared.Mask.TheVariants as mask

-- ---- an answer that says a given thing

header-saying : (m : Res Header) → (r : Res Header) × (r ≡ m)
header-saying (ok h) = (ok h, refl)
header-saying (fail why) = (fail why, refl)

part-saying : (m : Res MaskInForce) → (r : Res MaskTold) × (r ≡ (m >>= which))
part-saying (ok (reused l)) = (ok (mask.Kept (length l)), refl)
part-saying (ok (made l)) = (ok (mask.Spare (length l)), refl)
part-saying (fail why) = (fail why, refl)

walk-saying : (m : Res Walk) → (r : Res Walk) × (r ≡ m)
walk-saying (ok w) = (ok (record { blocks = w.blocks; end = w.end }), refl)
walk-saying (fail why) = (fail why, refl)

fill-saying : (m : Res ℕ) → (r : Res ℕ) × (r ≡ m)
fill-saying (ok n) = (ok n, refl)
fill-saying (fail why) = (fail why, refl)

read-saying : (m : Res ReadTold) → (r : Res ReadTold) × (r ≡ m)
read-saying (ok w) = (ok (record { header = w.header; blocks = w.blocks; end = w.end }), refl)
read-saying (fail why) = (fail why, refl)

-- ---- every function has a call

header-call : (b : List ℕ) → (r : Res Header) × HeaderCall b r
header-call b = let (r, e) = header-saying (header_says b) in (r, header_made b r e)

prepare-call : (b : List ℕ) (h : Header) (reuse : Bool) (kept spare : List ℕ) → (r : Res MaskTold) × (left : List ℕ) × PrepareCall b h reuse kept r spare left
prepare-call b h reuse kept spare = let (r, e) = part-saying (prepare_says b h reuse kept (length spare)) in (r, _, prepare-made b h reuse kept r spare _ (record { says = e; spare = refl }))

ranges-call : (b : List ℕ) (h : Header) → (r : Res Ranges) × RangesCall b h r
ranges-call b h = (_, ranges-made b h _ refl)

walk_call : (b : List ℕ) (h : Header) (g : Ranges) (mask list : List ℕ) → (r : Res Walk) × (left : List ℕ) × WalkCall b h g mask r list left
walk_call b h g mask list =
    let (r, e) = walk-saying (walk_says b h g mask (length list) >>= walk_count h) in
    (r, _, walk-made b h g mask r list _ (record { says = e; list = refl }))

fill-call : (b : List ℕ) (h : Header) (g : Ranges) (mask list : List ℕ) (block : ℕ) (image : List ℕ) → (r : Res ℕ) × (left : List ℕ) × FillCall b h g mask list block r image left
fill-call b h g mask list block image =
    let (r, e) = fill-saying (fill_says b h g mask list block (length image) >>= fill_count h mask block) in
    (r, _, fill-made b h g mask list block r image _ (record { says = e; image = refl }))

read-call : (b : List ℕ) (reuse : Bool) (l : Lent) → (r : Res ReadTold) × (left : Lent) × ReadCall b reuse r l left
read-call b reuse l = let (r, e) = read-saying (read_says b reuse l >>= read_count) in (r, _, read_made b reuse r l _ (record { says = e; lent = refl }))

-- ---- behind a call of C

pub header-as : {b : List ℕ} {t : Told} {header₀ header₁ : List ℕ} → HeaderInC b t header₀ header₁ → HasPlace t → header_room ≤ length header₀
    → (r : Res Header) × HeaderCall b r × Tells r header_numbers t header₀ header₁
header-as {b} c i l = let (r, d) = header-call b in (r, d, same-reader.read-header _ _ _ _ c i l r d)

pub prepare-as : {b header : List ℕ} {reuse : Bool} {kept : List ℕ} {t : Told} {spare₀ spare₁ said₀ said₁ : List ℕ} → PrepareInC b header reuse kept t spare₀ spare₁ said₀ said₁
    → {h : Header} → HoldsHeader header h → HasPlace t → 2 ≤ length said₀ → (r : Res MaskTold) × PrepareCall b h reuse kept r spare₀ spare₁ × Tells r part_numbers t said₀ said₁
prepare-as {b} {header} {reuse} {kept} {t} {spare₀} c {h} p i l =
    let (r, left, d) = prepare-call b h reuse kept spare₀ in
    let (t, e) = same-reader.prepare-mask _ _ _ _ _ _ _ _ _ c h p i l r left d in
    (r, subst (λ (x : List ℕ). PrepareCall b h reuse kept r spare₀ x) (sym e) d, t)

pub ranges-as : {b header : List ℕ} {t : Told} {ranges₀ ranges₁ : List ℕ} → RangesInC b header t ranges₀ ranges₁ → {h : Header} → HoldsHeader header h → HasPlace t → ranges_room ≤ length ranges₀
    → (r : Res Ranges) × RangesCall b h r × Tells r ranges_numbers t ranges₀ ranges₁
ranges-as {b} c {h} p i l = let (r, d) = ranges-call b h in (r, d, same-reader.read-ranges _ _ _ _ _ c h p i l r d)

pub walk-as : {b header ranges mask : List ℕ} {t : Told} {list₀ list₁ said₀ said₁ : List ℕ} → WalkInC b header ranges mask t list₀ list₁ said₀ said₁
    → {h : Header} {g : Ranges} → HoldsHeader header h → HoldsRanges ranges g → HasPlace t → 2 ≤ length said₀
    → (r : Res Walk) × WalkCall b h g mask r list₀ list₁ × Tells r walked_numbers t said₀ said₁
walk-as {b} {header} {ranges} {mask} {t} {list₀} c {h} {g} p q i l =
    let (r, left, d) = walk_call b h g mask list₀ in
    let (t, e) = same-reader.walk _ _ _ _ _ _ _ _ _ c h g p q i l r left d in
    (r, subst (λ (x : List ℕ). WalkCall b h g mask r list₀ x) (sym e) d, t)

pub fill-as : {b header ranges mask list : List ℕ} {block : ℕ} {t : Told} {image₀ image₁ said₀ said₁ : List ℕ} → FillInC b header ranges mask list block t image₀ image₁ said₀ said₁
    → {h : Header} {g : Ranges} → HoldsHeader header h → HoldsRanges ranges g → HasPlace t → 1 ≤ length said₀
    → (r : Res ℕ) × FillCall b h g mask list block r image₀ image₁ × Tells r alone t said₀ said₁
fill-as {b} {header} {ranges} {mask} {list} {block} {t} {image₀} c {h} {g} p q i l =
    let (r, left, d) = fill-call b h g mask list block image₀ in
    let (t, e) = same-reader.fill _ _ _ _ _ _ _ _ _ _ _ c h g p q i l r left d in
    (r, subst (λ (x : List ℕ). FillCall b h g mask list block r image₀ x) (sym e) d, t)

pub read_as : {b : List ℕ} {reuse : Bool} {t : Told} {old new : Lent} {said₀ said₁ : List ℕ} → ReadInC b reuse t old new said₀ said₁ → HasPlace t → read_room ≤ length said₀
    → (r : Res ReadTold) × ReadCall b reuse r old new × Tells r whole_numbers t said₀ said₁
read_as {b} {reuse} {t} {old} c i l =
    let (r, left, d) = read-call b reuse old in
    let (t, e) = same-reader.read _ _ _ _ _ _ _ c i l r left d in
    (r, subst (λ (x : Lent). ReadCall b reuse r old x) (sym e) d, t)
