-- A pack that was read is written as it stood.
-- Assumes nothing.
use mathlib.Core.Path.{◌≡◌, ◌∙◌, sym, ap, refl}
use mathlib.Core.List.{List, [], ◌++◌}
use Prim.Native.Nat.{ℕ, ◌+◌, ◌-◌, ◌*◌, ◌≤◌, ◌<◌}
use native.Mathlib.Omega.{arith}
use native.Mathlib.Decide.{dec_lt}
use lib.ListN.{length, take, drop, get_or, length-take, length-drop, take-append-drop, get_or-eq_default}
use lib.Seq.{take_all, take-add, get_or-take, get_or-drop}
use Rattle.lerc_words.specs.Res.{little}
use Rattle.lerc_words.proofs.Little.{Bytes}
use Rattle.lerc_pack.specs.Contents.{entry_place, body_place, in_bytes, entry_bytes, head_bytes, joined, bytes_of}
use Rattle.lerc_pack.specs.Pack.{count_of, entry_part, entry_at, body_of, tile_of}
use Rattle.lerc_pack.proofs.Joined.{joined_same, parts-joined}
use Rattle.lerc_pack_theorems.proofs.Digits.{written_next}
use Rattle.lerc_pack_theorems.proofs.Entries.{entry_read}
use Rattle.lerc_pack.proofs.Rules.{place-next}
use Rattle.lerc_pack_theorems.proofs.Opened.{Opened, opened-kept}

-- a part of bytes is bytes
bytes-part : (n at : ℕ) (s : List ℕ) → Bytes s → Bytes (take n (drop at s))
bytes-part n at s b i = go (dec_lt i n)
  where
    go : Dec (i < n) → get_or (take n (drop at s)) i 0 < 256
    go (yes l) = rw (get_or-take n (drop at s) i 0 l, get_or-drop) (b (at + i))
    go (no l) =
        let past : length (take n (drop at s)) ≤ i = simp length-take (omega arith) in
        rw (get_or-eq_default (take n (drop at s)) 0 past) (omega arith)

module _ (b : List ℕ) (o : Opened b) where
  length_part : (i : ℕ) → i < count_of b → length (entry_part b i) ≡ 16
  length_part i l = simp (length-take, length-drop) (omega (arith, o.whole))

  -- the bodies are all that stands behind the contents
  pub bodies-read : joined (count_of b) (λ i. body_of b (entry_at b i)) ≡ drop (entry_place (count_of b)) b
  bodies-read =
      let n = count_of b in
      let s = body_place n (tile_of b) in
      let placed = joined_same n (λ i. body_of b (entry_at b i)) (λ i. take (entry_at b i).length (drop (s i) b)) (λ i l. ap (λ (x : ℕ). take (entry_at b i).length (drop x b)) (o.each i l).start) in
      let all = parts-joined s (λ i. (entry_at b i).length) n b (place-next n (tile_of b) (opened-kept b o)) in
      let long : length (drop (entry_place n) b) ≤ s n - entry_place n = simp length-drop (omega (arith, o.all)) in
      placed ∙ all ∙ take_all (s n - entry_place n) (drop (entry_place n) b) long

  module _ (y : Bytes b) where
    head_read : head_bytes (count_of b) ≡ take 8 b
    unfolding head_bytes
    head_read =
        let version : in_bytes 1 1 ≡ in_bytes 1 (little 1 b 0) = ap (in_bytes 1) (sym o.version) in
        let zeros : in_bytes 3 0 ≡ in_bytes 3 (little 3 b 1) = ap (in_bytes 3) (sym o.zeros) in
        let first = written_next 1 b 0 [] y (omega (arith, o.head)) refl in
        rw (version, zeros) (written_next 4 b 4 _ y o.head (written_next 3 b 1 _ y (omega (arith, o.head)) first))

    entries-read : joined (count_of b) (λ i. entry_bytes (entry_at b i)) ≡ take (16 * count_of b) (drop 8 b)
    entries-read =
        let n = count_of b in
        let each = joined_same n (λ i. entry_bytes (entry_at b i)) (entry_part b) (λ i l. entry_read (entry_part b i) (bytes-part 16 (entry_place i) b y) (length_part i l) (o.gaps i l)) in
        let all = parts-joined entry_place (λ _. 16) n b (λ i l. omega arith) in
        let long : entry_place n - 8 ≡ 16 * n = omega arith in
        each ∙ all ∙ ap (λ (x : ℕ). take x (drop 8 b)) long

    pub bytes_read : bytes_of (count_of b) (tile_of b) ≡ b
    unfolding bytes_of
    bytes_read =
        let front : head_bytes (count_of b) ++ joined (count_of b) (λ i. entry_bytes (entry_at b i)) ≡ take (entry_place (count_of b)) b = rw (head_read, entries-read) (sym (take-add 8 (16 * count_of b) b)) in
        rw (front, bodies-read) (take-append-drop (entry_place (count_of b)) b)
