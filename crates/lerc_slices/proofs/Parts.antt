-- A part of a slice that was copied to or filled, put back where it was lent from.
-- Assumes nothing.
use mathlib.Core.Path.{◌≡◌, ◌∙◌, sym, ap}
use mathlib.Core.List.{List, [], ◌++◌, append_assoc, append-nil}
use Prim.Native.Nat.{ℕ, ◌+◌, ◌-◌, ◌≤◌}
use native.Mathlib.Omega.{arith}
use lib.ListN.{length, take, drop, replicate, length-replicate, length-take}
use lib.Seq.{paste, take_all, drop-length}
use borrow.Rule.Slice.PartMut.{mid_of, put_mid, mid_len, Post-is}
use Rattle.lerc_slices.specs.Slices.{copied}

-- as many entries as there is room for, and no more
pub copied-whole : (from to : List ℕ) → length from ≡ length to → copied from to ≡ from
copied-whole from to e =
    let t : take (length to) from ≡ from = take_all (length to) from (omega arith) in
    rw (t, e, drop-length, append-nil)

-- n entries of any list in the place of those from a on
pub part-put : (old new : List ℕ) (a n : ℕ) → length new ≡ n → put_mid a (a + n - a) old new ≡ paste old a new n
part-put old new a n e =
    rw (Post-is a (a + n) old (omega arith))
    (sym (append_assoc (take a old) new (drop (a + n) old)) ∙ ap (λ (l : List ℕ). take a old ++ l ++ drop (a + n) old) (sym (take_all n new (omega arith))))

pub part-copied : (old from : List ℕ) (a n : ℕ) → a + n ≤ length old → length from ≡ n
    → put_mid a (a + n - a) old (copied from (mid_of a (a + n - a) old)) ≡ paste old a from n
part-copied old from a n h e =
    let l : length (mid_of a (a + n - a) old) ≡ n = mid_len a (a + n) old h ∙ (omega arith) in
    rw (copied-whole from (mid_of a (a + n - a) old) (e ∙ sym l)) (part-put old from a n e)

pub part_filled : (old : List ℕ) (v a n : ℕ) → a + n ≤ length old
    → put_mid a (a + n - a) old (replicate (length (mid_of a (a + n - a) old)) v) ≡ paste old a (replicate n v) n
part_filled old v a n h =
    let l : length (mid_of a (a + n - a) old) ≡ n = mid_len a (a + n) old h ∙ (omega arith) in
    rw (l) (part-put old (replicate n v) a n (length-replicate n v))

-- ---- a part at the front

pub front-filled : (v n : ℕ) (old : List ℕ) {new : List ℕ} → n ≤ length old → new ≡ replicate (length (take n old)) v → new ++ drop n old ≡ replicate n v ++ drop n old
front-filled v n old h e =
    let l : length (take n old) ≡ n = simp length-take (omega arith) in
    rw (e, l)

pub front-copied : (from : List ℕ) (n : ℕ) (old : List ℕ) {new : List ℕ} → n ≤ length from → n ≤ length old → new ≡ copied from (take n old) → new ++ drop n old ≡ take n from ++ drop n old
front-copied from n old g h e =
    let l : length (take n old) ≡ n = simp length-take (omega arith) in
    let k : length (take n from) ≡ length (take n old) = simp length-take (omega arith) in
    let d : drop (length (take n from)) (take n old) ≡ [] = rw (k) (drop-length (take n old)) in
    rw (e, l, d, append-nil)
