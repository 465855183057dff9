-- Laws of a sample at a place: where it is read, what was read, and that the same bytes elsewhere give the same sample.
-- Assumes nothing.
use mathlib.Core.Path.{◌≡◌, ap, ◌∙◌}
use mathlib.Core.List.{List}
use Prim.Native.Nat.{ℕ, ◌+◌, ◌≤◌, ◌<◌}
use lib.ListN.{length}
use Rattle.lerc_words.specs.Res.{ok, fail, refuse, little, word_at}
use Rattle.lerc_words.proofs.Binding.{bind_is}
use Rattle.lerc_words.proofs.Little.{Bytes, Stays, word_at-ok, word_at-no, word_at-is, word_at-stays, little-lt, byte_pow}
use Rattle.lerc_numeric.specs.Kinds.{type_size, modulus, value_of}
use Rattle.lerc_samples.specs.Samples.{sample_at, stored}
use Rattle.lerc_samples.proofs.Storable.{stored-value}

pub sample_in : (kind : ℕ) (s : List ℕ) (at : ℕ) → at + type_size kind ≤ length s → sample_at kind s at ≡ ok (value_of kind (little (type_size kind) s at))
unfolding sample_at
sample_in kind s at h = rw (word_at-ok (type_size kind) s at h)

pub sample-past : (kind : ℕ) (s : List ℕ) (at : ℕ) → length s < at + type_size kind → sample_at kind s at ≡ fail (refuse 1)
unfolding sample_at
sample-past kind s at h = rw (word_at-no (type_size kind) s at h)

-- what was read, lies within, and is the value of the word there
pub record Sampled (kind : ℕ) (s : List ℕ) (at v : ℕ) : Type 0 where
  pub inside : at + type_size kind ≤ length s
  pub value : v ≡ value_of kind (little (type_size kind) s at)

pub sample-is : (kind : ℕ) (s : List ℕ) (at v : ℕ) → sample_at kind s at ≡ ok v → Sampled kind s at v
unfolding sample_at
sample-is kind s at v e =
    let b = bind_is (word_at (type_size kind) s at) (λ w. ok (value_of kind w)) e in
    let w = word_at-is (type_size kind) s at b.0 b.1 in
    let z : v ≡ value_of kind b.0 = cc b.2 in
    record { inside = w.inside; value = z ∙ ap (value_of kind) w.value }

-- stored in its kind it is the word that was read
pub sample-stored : (kind : ℕ) (s : List ℕ) (at v : ℕ) → Bytes s → sample_at kind s at ≡ ok v → stored kind v ≡ ok (little (type_size kind) s at)
sample-stored kind s at v b e =
    let l : little (type_size kind) s at < modulus kind = rw (byte_pow (type_size kind)) at (little-lt (type_size kind) s at b) in
    rw (sample-is kind s at v e).value (stored-value kind (little (type_size kind) s at) l)

-- the sample stands k bytes from `at` on, and these stand in t from `to` on
pub sample-stays : (kind j : ℕ) (s t : List ℕ) (at to k v : ℕ) → sample_at kind s (at + j) ≡ ok v → j + type_size kind ≤ k → Stays s at t to k → sample_at kind t (to + j) ≡ ok v
unfolding sample_at
sample-stays kind j s t at to k v e h l =
    let b = bind_is (word_at (type_size kind) s (at + j)) (λ w. ok (value_of kind w)) e in
    rw (word_at-stays (type_size kind) j b.1 h l) b.2
